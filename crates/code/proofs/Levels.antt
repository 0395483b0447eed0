-- The codeword, level by level. Assumes nothing.
use Rattle.std.proofs.Common.{refl, drop-drop, ◌≡◌, ℕ, zero, suc, ◌+◌, ◌-◌, ◌<◌, ◌≤◌, ◌⊎◌, List, length, take, drop, replicate, sym, ap, ◌∙◌, subst, ap₂, inl, inr, mul_comm, arith, length-drop, length-take}
use lib.ListN.{length-replicate}
use Rattle.std.proofs.lemmas.Bool.{cases_eq}
use Rattle.field.specs.Words.{plus_scaled}
use Rattle.field.proofs.Unique.{zero_small}
use Rattle.field.proofs.Vectors.{length_added, added_closed, scaled_closed, symbols_replicate, symbols_take}
use Rattle.field.proofs.WordLaws.{symbols_drop}
use Rattle.chain.specs.Answers.{told}
use Rattle.chain.specs.Meaning.{IsChain, Level, Message, Word}
use Rattle.code.specs.Meaning.{Meaning, entry_at}
use Rattle.code.specs.Numbers.{sum_to, joined_to, piece, part, block_to, k_of, n_of}
use Rattle.code.proofs.Joined.{joined_length, joined_same, joined_symbols, joined_zeros, piece_joined}
use Rattle.code.proofs.Sound.{Sound, entry_small}
use Rattle.code.proofs.Sums.{sum_more}

pub sum_rises : (f : ℕ → ℕ) (i n : ℕ) → i ≤ n → sum_to f i ≤ sum_to f n
sum_rises f i zero h = let e : i ≡ 0 = omega arith in subst (λ k. sum_to f k ≤ 0) (sym e) (omega arith)
sum_rises f i (suc n) h = go (cases_eq i (suc n)) (sum_rises f i n)
  where
    go : (i ≡ suc n) ⊎ (i ≡ suc n → ⊥) → (i ≤ n → sum_to f i ≤ sum_to f n) → sum_to f i ≤ sum_to f n + f (suc n)
    go (inl e) rest = subst (λ k. sum_to f k ≤ sum_to f n + f (suc n)) (sym e) (omega arith)
    go (inr ne) rest = let a = rest (omega arith) in omega arith

module _ (M : Meaning) (s : Sound M) (chain : IsChain M.chain) (xs : List ℕ) (word : Word M.chain.field (k_of M) xs) where
  -- the part of the message for the level after i
  pub part_word : (i : ℕ) → i < M.chain.s → Message M.chain (suc i) (take (M.chain.size (suc i)) (drop (sum_to M.chain.size i) xs))
  part_word i h =
      let d = length-drop (sum_to M.chain.size i) xs in
      let r : sum_to M.chain.size i + M.chain.size (suc i) ≤ sum_to M.chain.size M.chain.s = sum_rises M.chain.size (suc i) M.chain.s h in
      record {
        long = length-take (M.chain.size (suc i)) (drop (sum_to M.chain.size i) xs) ∙ (let w = word.long in omega arith);
        all = symbols_take M.chain.field.q (M.chain.size (suc i)) _ (symbols_drop M.chain.field.q (sum_to M.chain.size i) xs word.all);
      }

  pub part_is : (i : ℕ) → part M xs (suc i) ≡ M.chain.encoding (suc i) (take (M.chain.size (suc i)) (drop (sum_to M.chain.size i) xs))
  part_is i = let e : suc i - 1 ≡ i = omega arith in ap (λ k. M.chain.encoding (suc i) (take (M.chain.size (suc i)) (drop (sum_to M.chain.size k) xs))) e

  pub part_encoded : (i : ℕ) → i < M.chain.s → Word M.chain.field M.chain.m (part M xs (suc i))
  part_encoded i h =
      subst (Word M.chain.field M.chain.m) (sym (part_is i)) (chain.encodes (suc i) (record { from = omega arith; to = h }) _ (part_word i h))

  pub block_word : (n : ℕ) → n ≤ M.chain.s → (j : ℕ) → Word M.chain.field M.chain.m (block_to M xs n j)
  block_word zero h j = record { long = length-replicate M.chain.m 0; all = symbols_replicate M.chain.field.q M.chain.m 0 (zero_small chain.over_field) }
  block_word (suc n) h j =
      let before = block_word n (omega arith) j in
      record {
        long = length_added M.chain.field (block_to M xs n j) _ ∙ before.long;
        all = added_closed chain.over_field (block_to M xs n j) _ before.all
            (scaled_closed chain.over_field _ (entry_small chain.over_field M.matrix s.words (suc n) j) (part M xs (suc n)) (part_encoded n h).all);
      }

  pub blocks_word : (n : ℕ) → n ≤ M.chain.s → Word M.chain.field (n_of M) (joined_to (block_to M xs n) M.l)
  blocks_word n h = record {
    long = joined_length M.chain.m (block_to M xs n) M.l (λ j a b. (block_word n h j).long) ∙ mul_comm M.l M.chain.m;
    all = joined_symbols M.chain.field.q (block_to M xs n) M.l (λ j a b. (block_word n h j).all);
  }

  pub blocks_none : (out : List ℕ) → out ≡ replicate (n_of M) 0 → out ≡ joined_to (block_to M xs 0) M.l
  blocks_none out e = e ∙ ap (λ n. replicate n 0) (mul_comm M.chain.m M.l) ∙ sym (joined_zeros M.chain.m M.l)

  -- the part of a level
  abbrev cut : ℕ → List ℕ
  cut i = take (M.chain.size i) (drop (sum_to M.chain.size (i - 1)) xs)

  cut_word : (i : ℕ) → Level M.chain i → Message M.chain i (cut i)
  cut_word zero at = absurd (omega (arith, at.from))
  cut_word (suc i) at =
      let back : i ≡ suc i - 1 = omega arith in subst (λ k. Message M.chain (suc i) (take (M.chain.size (suc i)) (drop (sum_to M.chain.size k) xs))) back (part_word i at.to)

  blocks_more : (i : ℕ) (out next : List ℕ) → Level M.chain i → out ≡ joined_to (block_to M xs (i - 1)) M.l
      → next ≡ joined_to (λ j. plus_scaled M.chain.field (entry_at M.matrix i j) (piece M.chain.m out j) (M.chain.encoding i (cut i))) M.l → next ≡ joined_to (block_to M xs i) M.l
  blocks_more zero out next at eo en = absurd (omega (arith, at.from))
  blocks_more (suc i) out next at eo en =
      let back : suc i - 1 ≡ i = omega arith in
      en
      ∙ joined_same _ (block_to M xs (suc i)) M.l (λ j a b.
      ap (λ p. plus_scaled M.chain.field (entry_at M.matrix (suc i) j) p (part M xs (suc i)))
      (ap (λ x. piece M.chain.m x j) (eo ∙ ap (λ n. joined_to (block_to M xs n) M.l) back) ∙ piece_joined M.chain.m (block_to M xs i) M.l (λ k c d. (block_word i (omega (arith, at.to)) k).long) j a b))

  -- the step of level i: out has the blocks of the levels before it, and rest the parts from it on
  pub record Step (i size : ℕ) (rest out : List ℕ) : Type 0 where
    pub fits : size ≤ length rest
    pub message : Message M.chain i (take size rest)
    pub before : Word M.chain.field (n_of M) out
    pub added : (k : ℕ) (next : List ℕ) → next ≡ joined_to (λ j. plus_scaled M.chain.field (entry_at M.matrix i j) (piece M.chain.m out j) (M.chain.encoding i (take size rest))) M.l → k ≡ i → next ≡ joined_to (block_to M xs k) M.l
    pub left : (k : ℕ) → k ≡ i → drop size rest ≡ drop (sum_to M.chain.size k) xs

  pub step : (i size n : ℕ) (rest out : List ℕ) → 1 ≤ i → i ≤ n → n ≡ told M.chain.flaw M.chain.s → size ≡ M.chain.size i
      → out ≡ joined_to (block_to M xs (i - 1)) M.l → rest ≡ drop (sum_to M.chain.size (i - 1)) xs → Step i size rest out
  step i size n rest out l h en es eo er =
      let some = en ∙ ap (λ f. told f M.chain.s) s.none in
      let at : Level M.chain i = record { from = l; to = omega arith } in
      let is : take size rest ≡ cut i = ap₂ take es er in
      record {
        fits = omega (arith, (cut_word i at).long, length-take (M.chain.size i) (drop (sum_to M.chain.size (i - 1)) xs), ap length er);
        message = subst (Message M.chain i) (sym is) (cut_word i at);
        before = subst (Word M.chain.field (n_of M)) (sym eo) (blocks_word (i - 1) (omega (arith, at.to)));
        added = λ k next e ek. blocks_more i out next at eo (e ∙ ap (λ p. joined_to (λ j. plus_scaled M.chain.field (entry_at M.matrix i j) (piece M.chain.m out j) (M.chain.encoding i p)) M.l) is)
            ∙ sym (ap (λ n. joined_to (block_to M xs n) M.l) ek);
        left = λ k ek. ap (drop size) er ∙ drop-drop size (sum_to M.chain.size (i - 1)) xs ∙ ap (λ n. drop n xs) (sum_more M.chain.size i _ size k l refl es ek);
      }
