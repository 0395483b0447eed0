-- When a block is near to a word of a kind. Assumes nothing.
use Rattle.std.proofs.Common.{◌⊎◌, inl, inr, Bool, true, false, cond, not, nat_eq, ◌+◌, ap, ◌≡◌, ℕ, suc, ◌<◌, ◌≤◌, T, eqb, List, [], ◌∷◌, ◌++◌, length, set, drop, get_or, take, sym, refl, ◌∙◌, subst, arith, eqb→eq}
use native.Mathlib.Decide.{ℕ_discrete}
use lib.Dec.{eqb_refl}
use Rattle.std.specs.List.{count_by}
use Rattle.std.proofs.lemmas.List.Recursion.{is_count_by}
use Rattle.field.specs.Meaning.{IsField}
use Rattle.field.specs.Meaning as fields
use Rattle.field.specs.Places.{distance, unless}
use Rattle.field.specs.Words.{symbols}
use Rattle.field.proofs.Metric.{bool_path, eqb_tells, distance_zero, distance_itself}
use Rattle.field.proofs.Tests.{is_false}
use Rattle.chain.specs.Meaning.{Word, radius}
use Rattle.plain.specs.Kinds.{kind_size, kind_distance}
use Rattle.plain.specs.Words.{fits, others, Near}
use Rattle.plain.specs.declared.kinds.Kind.{Kind}
use Rattle.plain.specs.declared.kinds.Kind.TheVariants.{Every, ZeroSum, Repeated}
use Rattle.plain.specs.KindLaws as kinds

-- the places that do not hold x, counted
pub others_counted : (x : ℕ) (b : List ℕ) → count_by (λ y. not (nat_eq y x)) b ≡ others x b
others_counted x b = sym (is_count_by (others x) (λ y. not (nat_eq y x)) refl (λ y ys. one_more y (others x ys)) b)
  where
    swapped : (y : ℕ) → eqb x y ≡ nat_eq y x
    swapped y = bool_path _ _ (λ t. subst (λ z. T (nat_eq z x)) (eqb→eq x y t) (eqb_refl x)) (λ t. subst (λ z. T (eqb z y)) (eqb→eq y x t) (eqb_refl y))

    at : (t : Bool) (n : ℕ) → unless t n ≡ cond (not t) (1 + n) n
    at true n = refl
    at false n = omega arith

    one_more : (y n : ℕ) → unless (eqb x y) n ≡ cond (not (nat_eq y x)) (1 + n) n
    one_more y n = ap (λ t. unless t n) (swapped y) ∙ at (nat_eq y x) n

-- the last place of a word is written behind the others
pub last_written : (xs out : List ℕ) (v : ℕ) → length out ≡ suc (length xs) → set (xs ++ drop (length xs) out) (length xs) v ≡ xs ++ v ∷ []
last_written [] [] v e = absurd (omega arith)
last_written [] (y ∷ []) v e = refl
last_written [] (y ∷ z ∷ out) v e = absurd (omega arith)
last_written (x ∷ xs) [] v e = absurd (omega arith)
last_written (x ∷ xs) (y ∷ out) v e = ap (λ l. x ∷ l) (last_written xs out v (omega (arith, e)))

-- a symbol that does not differ from every place stands somewhere
somewhere : (x : ℕ) (b : List ℕ) → others x b < length b → (i : ℕ) × (i < length b) × (get_or b i 0 ≡ x)
somewhere x [] h = absurd (omega arith)
somewhere x (y ∷ b) h = at_head (ℕ_discrete x y) (λ l. somewhere x b l)
  where
    at_head : Dec (x ≡ y) → (others x b < length b → (i : ℕ) × (i < length b) × (get_or b i 0 ≡ x)) → (i : ℕ) × (i < length (y ∷ b)) × (get_or (y ∷ b) i 0 ≡ x)
    at_head (yes e) rest = (0, omega arith, sym e)
    at_head (no n) rest =
        let less : suc (others x b) < suc (length b) = subst (λ t. unless t (others x b) < suc (length b)) (is_false _ (λ t. n (eqb→eq x y t))) h in
        let r = rest (omega arith) in
        (suc r.0, omega (arith, r.1), r.2)

-- the two kinds that correct nothing
pub other_kinds : (k : Kind) → (k ≡ Every) ⊎ (k ≡ ZeroSum) → k ≡ Repeated → ⊥
other_kinds Every h e = absurd (let z : ◌≡◌ {A = ℕ} 0 1 = cc in omega arith)
other_kinds ZeroSum h e = absurd (let z : ◌≡◌ {A = ℕ} 0 1 = cc in omega arith)
other_kinds Repeated (inl h) e = absurd (let z : ◌≡◌ {A = ℕ} 0 1 = cc in omega arith)
other_kinds Repeated (inr h) e = absurd (let z : ◌≡◌ {A = ℕ} 0 1 = cc in omega arith)

module _ {F : fields.Meaning} (lawful : IsField F) (b : List ℕ) (two : 2 ≤ length b) (all : T (symbols F.q b)) where
  pub none_repeated : ((i : ℕ) → i < length b → others (get_or b i 0) b ≤ radius (length b) → ⊥) → (w : List ℕ) → Near F Repeated b w → ⊥
  none_repeated h w near =
      let x = get_or near.message 0 0 in
      let close : others x b ≤ radius (length b) = subst (λ v. distance v b ≤ radius (length b)) near.word near.close in
      let r = somewhere x b (omega arith) in
      h r.0 r.1 (subst (λ y. others y b ≤ radius (length b)) (sym r.2) close)

  word : Word F (length b) b
  word = record { long = refl; all = all }

  pub fitting : (k : Kind) → T (fits F k b) → Near F k b b
  fitting k t = record {
    message = take (kind_size (length b) k) b;
    lawful = kinds.taken lawful (length b) two k b word;
    word = sym (kinds.fits_word lawful (length b) two k b word t);
    close = omega (arith, distance_itself eqb eqb_tells b);
  }

  nothing_corrected : (k : Kind) → (k ≡ Repeated → ⊥) → radius (kind_distance (length b) k) ≡ 0
  nothing_corrected Every h = refl
  nothing_corrected ZeroSum h = refl
  nothing_corrected Repeated h = absurd (h refl)

  pub unfitting : (k : Kind) → (k ≡ Repeated → ⊥) → (T (fits F k b) → ⊥) → (w : List ℕ) → Near F k b w → ⊥
  unfitting k other h w near =
      let same : w ≡ b = distance_zero eqb eqb_tells w b (omega (arith, near.close, nothing_corrected k other)) in
      h (subst (λ v. T (fits F k v)) (sym near.word ∙ same) (kinds.word_fits lawful (length b) two k near.message near.lawful))
