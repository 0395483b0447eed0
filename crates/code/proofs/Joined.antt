-- Blocks one after another: their lengths, the pieces, and one block more. Assumes nothing.
use Rattle.std.proofs.Common.{◌≡◌, ℕ, zero, suc, ◌+◌, ◌-◌, ◌*◌, ◌<◌, ◌≤◌, true, cond, T, List, ◌++◌, length, take, drop, replicate, sym, refl, ap, ◌∙◌, ap₂, append_assoc, append-nil, suc-mul, add-one, arith, lt→ltb, length-append, length-drop, length-take}
use native.Mathlib.Decide.{ℕ_discrete}
use borrow.Rule.Slice.PartMut.{put_mid}
use Rattle.std.proofs.lemmas.List.{take_at, drop_at, take_all, drop_all, drop-drop, take-append-le, drop-append-le, replicate-append-replicate}
use Rattle.field.specs.Meaning.{Meaning}
use Rattle.field.specs.Words.{symbols, plus_scaled, addable}
use Rattle.field.proofs.Accepted.{both_hold}
use Rattle.field.proofs.Tests.{true_is}
use Rattle.field.proofs.Vectors.{length_added, symbols_append, symbols_take}
use Rattle.field.proofs.WordLaws.{symbols_drop}
use Rattle.code.specs.Numbers.{joined_to, piece}
use Rattle.code.proofs.Rows.{row_fits}
use Rattle.code.proofs.Shape.{same_test}

pub joined_length : (m : ℕ) (g : ℕ → List ℕ) (n : ℕ) → ((j : ℕ) → 1 ≤ j → j ≤ n → length (g j) ≡ m) → length (joined_to g n) ≡ n * m
joined_length m g zero h = omega arith
joined_length m g (suc n) h =
    length-append (joined_to g n) (g (suc n))
    ∙ (let a = joined_length m g n (λ j l k. h j l (omega arith)) in let b = h (suc n) (omega arith) (omega arith) in let e = suc-mul n m in omega arith)

pub joined_same : (g h : ℕ → List ℕ) (n : ℕ) → ((j : ℕ) → 1 ≤ j → j ≤ n → g j ≡ h j) → joined_to g n ≡ joined_to h n
joined_same g h zero e = refl
joined_same g h (suc n) e = ap₂ ◌++◌ (joined_same g h n (λ j l k. e j l (omega arith))) (e (suc n) (omega arith) (omega arith))

pub joined_symbols : (q : ℕ) (g : ℕ → List ℕ) (n : ℕ) → ((j : ℕ) → 1 ≤ j → j ≤ n → T (symbols q (g j))) → T (symbols q (joined_to g n))
joined_symbols q g zero h = tt
joined_symbols q g (suc n) h = symbols_append q (joined_to g n) (g (suc n)) (joined_symbols q g n (λ j l k. h j l (omega arith))) (h (suc n) (omega arith) (omega arith))

pub joined_zeros : (m n : ℕ) → joined_to (λ j. replicate m 0) n ≡ replicate (n * m) 0
joined_zeros m zero = let e : 0 * m ≡ 0 = omega arith in sym (ap (λ k. replicate k 0) e)
joined_zeros m (suc n) =
    ap (λ x. x ++ replicate m 0) (joined_zeros m n) ∙ replicate-append-replicate (n * m) m 0 ∙ ap (λ k. replicate k 0) (sym (suc-mul n m))

-- a piece of the blocks is the block
pub piece_joined : (m : ℕ) (g : ℕ → List ℕ) (n : ℕ) → ((j : ℕ) → 1 ≤ j → j ≤ n → length (g j) ≡ m) → (j : ℕ) → 1 ≤ j → j ≤ n → piece m (joined_to g n) j ≡ g j
piece_joined m g zero h j l k = absurd (omega arith)
piece_joined m g (suc n) h j l k = go (ℕ_discrete j (suc n)) (λ low. piece_joined m g n (λ i a b. h i a (omega arith)) j l low)
  where
    long : length (joined_to g n) ≡ n * m
    long = joined_length m g n (λ i a b. h i a (omega arith))

    go : Dec (j ≡ suc n) → (j ≤ n → piece m (joined_to g n) j ≡ g j) → piece m (joined_to g (suc n)) j ≡ g j
    go (yes e) rest =
        let here : j - 1 ≡ n = omega arith in
        ap (λ i. take m (drop (i * m) (joined_to g n ++ g (suc n)))) here ∙ ap (take m) (drop_at (joined_to g n) (g (suc n)) (n * m) long)
        ∙ take_all m (g (suc n)) (let b = h (suc n) (omega arith) (omega arith) in omega arith) ∙ ap g (sym e)
    go (no ne) rest =
        let fits : (j - 1) * m + m ≤ n * m = row_fits (j - 1) n m (omega arith) in
        let d = length-drop ((j - 1) * m) (joined_to g n) in
        let e = long in
        ap (take m) (drop-append-le ((j - 1) * m) (joined_to g n) (g (suc n)) (omega arith))
        ∙ take-append-le m (drop ((j - 1) * m) (joined_to g n)) (g (suc n)) (omega arith)
        ∙ rest (omega arith)

-- A multiple of v is added to each block of a word: block j has the factor e j.
module _ (F : Meaning) (e : ℕ → ℕ) (v old : List ℕ) (l : ℕ) (small : (j : ℕ) → e j < F.q) (sv : T (symbols F.q v)) (so : T (symbols F.q old)) (long : length old ≡ l * length v) where
  abbrev pub added_block : ℕ → List ℕ
  added_block j = plus_scaled F (e j) (piece (length v) old j) v

  piece_length : (j : ℕ) → j < l → length (take (length v) (drop (j * length v) old)) ≡ length v
  piece_length j h =
      let f = row_fits j l (length v) h in
      length-take (length v) (drop (j * length v) old) ∙ (let d = length-drop (j * length v) old in omega arith)

  block_length : (j : ℕ) → 1 ≤ j → j ≤ l → length (added_block j) ≡ length v
  block_length j a b = length_added F (piece (length v) old j) _ ∙ piece_length (j - 1) (omega arith)

  pub block_more : (j a : ℕ) (out last : List ℕ) → j < l → out ≡ joined_to added_block j ++ drop (j * length v) old → a ≡ e (j + 1)
      → last ≡ cond (addable F a (take (j * length v + length v - j * length v) (drop (j * length v) out)) v) (plus_scaled F a (take (j * length v + length v - j * length v) (drop (j * length v) out)) v) (take (j * length v + length v - j * length v) (drop (j * length v) out))
      → put_mid (j * length v) (j * length v + length v - j * length v) out last ≡ joined_to added_block (j + 1) ++ drop ((j + 1) * length v) old
  block_more j a out last h is ea el =
      let m = length v in
      let n : j * m + m - j * m ≡ m = omega arith in
      let back : j ≡ j + 1 - 1 = omega arith in
      let next : j * m + m ≡ (j + 1) * m = sym (ap (λ k. k * m) (add-one j) ∙ suc-mul j m) in
      let done : length (joined_to added_block j) ≡ j * m = joined_length m added_block j (λ i p q. block_length i p (omega arith)) in
      let rest : drop (j * m) out ≡ drop (j * m) old = ap (drop (j * m)) is ∙ drop_at (joined_to added_block j) (drop (j * m) old) (j * m) done in
      let front : take (j * m) out ≡ joined_to added_block j = ap (take (j * m)) is ∙ take_at (joined_to added_block j) (drop (j * m) old) (j * m) done in
      let here : take (j * m + m - j * m) (drop (j * m) out) ≡ piece m old (j + 1) = ap₂ take n rest ∙ ap (λ k. take m (drop (k * m) old)) back in
      let whole : piece m old (j + 1) ≡ take m (drop (j * m) old) = sym (ap (λ k. take m (drop (k * m) old)) back) in
      let ok : addable F (e (j + 1)) (piece m old (j + 1)) v ≡ true
      = true_is _ (both_hold _ _ (both_hold _ _ (both_hold _ _ (lt→ltb _ F.q (small (j + 1))) (symbols_take F.q m _ (symbols_drop F.q ((j + 1 - 1) * m) old so))) sv) (same_test _ m (ap length whole ∙ piece_length j h))) in
      let last_is : last ≡ added_block (j + 1)
      = el ∙ ap₂ (λ x p. cond (addable F x p v) (plus_scaled F x p v) p) ea here ∙ ap (λ b. cond b (added_block (j + 1)) (piece m old (j + 1))) ok in
      ap₂ ◌++◌ front (ap₂ ◌++◌ last_is (ap₂ drop n rest ∙ drop-drop m (j * m) old ∙ ap (λ k. drop k old) next))
      ∙ sym (append_assoc (joined_to added_block j) (added_block (j + 1)) (drop ((j + 1) * m) old))
      ∙ ap (λ x. x ++ drop ((j + 1) * m) old) (ap (λ k. joined_to added_block j ++ added_block k) (add-one j) ∙ sym (ap (joined_to added_block) (add-one j)))

  pub block_all : (j : ℕ) (out : List ℕ) → j ≡ l → out ≡ joined_to added_block j ++ drop (j * length v) old → out ≡ joined_to added_block l
  block_all j out at_end is =
      is ∙ ap (λ k. joined_to added_block k ++ drop (k * length v) old) at_end
      ∙ ap (λ x. joined_to added_block l ++ x) (drop_all (l * length v) old (omega arith)) ∙ append-nil (joined_to added_block l)
