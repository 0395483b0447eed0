-- Codes of one meaning have the same numbers and codewords. Assumes nothing.
use Rattle.std.proofs.Common.{◌≡◌, ℕ, zero, suc, ◌+◌, ◌-◌, ◌*◌, ◌<◌, ◌≤◌, min, T, ltb, List, [], ◌∷◌, take, drop, replicate, None, refl, ap, ◌∙◌, ap₂, arith, ltb→lt}
use Rattle.field.specs.Meaning as fields
use Rattle.field.specs.Words.{symbols, added, scaled}
use Rattle.field.proofs.Tests.{both_left, both_right}
use Rattle.field.proofs.Vectors.{scaled_closed}
use Rattle.chain.specs.Meaning.{IsChain, Word, radius}
use Rattle.code.specs.Meaning.{Meaning, entry_at}
use Rattle.code.specs.Numbers.{sum_to, least_to, falling, joined_to, part, block_to, codeword, k_of, d_of}
use Rattle.code.specs.One.{OneField, OneMeaning, Agree, Respected}
use Rattle.code.proofs.Joined.{joined_same}
use Rattle.code.proofs.Levels.{part_word, part_is, part_encoded, block_word}
use Rattle.code.proofs.Sound.{Sound, sound, entry_small}

sum_same : (f g : ℕ → ℕ) (n : ℕ) → ((i : ℕ) → 1 ≤ i → i ≤ n → f i ≡ g i) → sum_to f n ≡ sum_to g n
sum_same f g zero h = refl
sum_same f g (suc n) h = ap₂ ◌+◌ (sum_same f g n (λ i l m. h i l (omega arith))) (h (suc n) (omega arith) (omega arith))

least_same : (f g : ℕ → ℕ) (n : ℕ) → f 1 ≡ g 1 → ((i : ℕ) → 1 ≤ i → i ≤ n → f i ≡ g i) → least_to f n ≡ least_to g n
least_same f g zero e h = e
least_same f g (suc n) e h = ap₂ min (least_same f g n e (λ i l m. h i l (omega arith))) (h (suc n) (omega arith) (omega arith))

module _ {F G : fields.Meaning} (one : OneField F G) where
  added_same : (xs ys : List ℕ) → T (symbols F.q xs) → T (symbols F.q ys) → added F xs ys ≡ added G xs ys
  added_same [] ys s t = refl
  added_same (x ∷ xs) [] s t = refl
  added_same (x ∷ xs) (y ∷ ys) s t =
      ap₂ ◌∷◌ (one.sum x y (ltb→lt x F.q (both_left (ltb x F.q) (symbols F.q xs) s)) (ltb→lt y F.q (both_left (ltb y F.q) (symbols F.q ys) t)))
      (added_same xs ys (both_right (ltb x F.q) (symbols F.q xs) s) (both_right (ltb y F.q) (symbols F.q ys) t))

  scaled_same : (a : ℕ) → a < F.q → (xs : List ℕ) → T (symbols F.q xs) → scaled F a xs ≡ scaled G a xs
  scaled_same a h [] t = refl
  scaled_same a h (x ∷ xs) t =
      ap₂ ◌∷◌ (one.product a x h (ltb→lt x F.q (both_left (ltb x F.q) (symbols F.q xs) t))) (scaled_same a h xs (both_right (ltb x F.q) (symbols F.q xs) t))

module _ (M N : Meaning) (s : Sound M) (chain : IsChain M.chain) (one : OneMeaning M N) where
  sizes_same : (n : ℕ) → n ≤ M.chain.s → sum_to M.chain.size n ≡ sum_to N.chain.size n
  sizes_same n h = sum_same M.chain.size N.chain.size n (λ i l m. one.size i (record { from = l; to = omega arith }))

  d_same : d_of M ≡ d_of N
  d_same =
      least_same (λ i. (M.l - i + 1) * M.chain.distance i) (λ i. (N.l - i + 1) * N.chain.distance i) M.chain.s (each 1 (omega arith) chain.s_least) each
      ∙ ap (least_to (λ i. (N.l - i + 1) * N.chain.distance i)) one.s
    where
      each : (i : ℕ) → 1 ≤ i → i ≤ M.chain.s → (M.l - i + 1) * M.chain.distance i ≡ (N.l - i + 1) * N.chain.distance i
      each i l h = ap₂ (λ a b. (a - i + 1) * b) one.l (one.distance i (record { from = l; to = h }))

  module _ (xs : List ℕ) (word : Word M.chain.field (k_of M) xs) where
    part_same : (i : ℕ) → i < M.chain.s → part M xs (suc i) ≡ part N xs (suc i)
    part_same i h =
        let back : i ≡ suc i - 1 = omega arith in
        part_is M s chain xs word i ∙ one.encoding (suc i) (record { from = omega arith; to = h }) _ (part_word M s chain xs word i h)
        ∙ ap₂ (λ a b. N.chain.encoding (suc i) (take a (drop b xs))) (one.size (suc i) (record { from = omega arith; to = h })) (sizes_same i (omega arith) ∙ ap (sum_to N.chain.size) back)

    block_same : (n : ℕ) → n ≤ M.chain.s → (j : ℕ) → block_to M xs n j ≡ block_to N xs n j
    block_same zero h j = ap (λ m. replicate m 0) one.m
    block_same (suc n) h j =
        let a = entry_at M.matrix (suc n) j in
        let small = entry_small chain.over_field M.matrix s.words (suc n) j in
        let p = (part_encoded M s chain xs word n h).all in
        added_same one.field (block_to M xs n j) (scaled M.chain.field a (part M xs (suc n))) (block_word M s chain xs word n (omega arith) j).all (scaled_closed chain.over_field a small (part M xs (suc n)) p)
        ∙ ap₂ (added N.chain.field) (block_same n (omega arith) j)
        (scaled_same one.field a small (part M xs (suc n)) p ∙ ap₂ (λ r w. scaled N.chain.field (entry_at r (suc n) j) w) one.matrix (part_same n h))

    codeword_same : codeword M xs ≡ codeword N xs
    codeword_same =
        joined_same (block_to M xs M.chain.s) (block_to N xs M.chain.s) M.l (λ j a b. block_same M.chain.s (omega arith) j)
        ∙ ap₂ (λ n l. joined_to (block_to N xs n) l) one.s one.l

  agree : Agree M N
  agree = record {
    k = sizes_same M.chain.s (omega arith) ∙ ap (sum_to N.chain.size) one.s;
    n = ap₂ ◌*◌ one.m one.l;
    d = d_same;
    t = ap radius d_same;
    choices = ap₂ falling one.l one.s;
    codewords = codeword_same;
  }

pub respected : (M : Meaning) → (M.chain.flaw ≡ None → IsChain M.chain) → Respected M
respected M lawful e N one = let s = sound M e in agree M N s (lawful s.none) one
