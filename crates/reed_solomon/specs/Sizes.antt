-- A chain without a flaw: what its numbers are. Assumes nothing.
use Rattle.std.specs.Prelude.{◌≡◌, ℕ, zero, suc, ◌+◌, ◌-◌, ◌<◌, ◌≤◌, Bool, true, false, ◌&&◌, T, List, [], ◌∷◌, length, drop, None, Ok, Option, Result, nat_le, slice_index}
use Rattle.std.proofs.Common.{sym, subst, ◌∙◌, arith, leb→le, le→leb}
use Rattle.std.specs.Option.{option_or}
use Rattle.std.proofs.lemmas.List.{at_drop_more}
use Rattle.refusal.specs.declared.Refusal.{Refusal}
use Rattle.field.specs.Answers.{provided}
use Rattle.field.specs.Meaning.{Meaning}
use Rattle.field.proofs.Accepted.{both_hold}
use Rattle.field.proofs.Tests.{both_left, both_right, and_true, and_false}
use Rattle.chain.specs.Answers.{unless}
use Rattle.reed_solomon.specs.Code.{falling, flaw, size_of}

-- one size more
pub falling_more : (most : ℕ) (ks : List ℕ) (i : ℕ) → i < length ks → 1 ≤ slice_index ks i → slice_index ks i ≤ most → falling most (drop i ks) ≡ falling (slice_index ks i) (drop (i + 1) ks)
falling_more most ks i h low high = at_drop_more (falling most) ks i 0 h ∙ and_true _ _ (both_hold _ _ (le→leb 1 _ low) (le→leb _ most high))

pub falling_stops : (most : ℕ) (ks : List ℕ) (i : ℕ) → i < length ks → (1 ≤ slice_index ks i → slice_index ks i ≤ most → ⊥) → falling most (drop i ks) ≡ false
falling_stops most ks i h none =
    at_drop_more (falling most) ks i 0 h
    ∙ and_false _ _ (λ t. none (leb→le 1 _ (both_left (nat_le 1 (slice_index ks i)) (nat_le (slice_index ks i) most) t)) (leb→le _ most (both_right (nat_le 1 (slice_index ks i)) (nat_le (slice_index ks i) most) t)))

module _ (m k : ℕ) (ks : List ℕ) (t : T (falling m (k ∷ ks))) where
  first_least : 1 ≤ k
  first_least = leb→le 1 k (both_left (nat_le 1 k) (nat_le k m) (both_left (nat_le 1 k && nat_le k m) (falling k ks) t))

  first_most : k ≤ m
  first_most = leb→le k m (both_right (nat_le 1 k) (nat_le k m) (both_left (nat_le 1 k && nat_le k m) (falling k ks) t))

  others : T (falling k ks)
  others = both_right (nat_le 1 k && nat_le k m) (falling k ks) t

pub size_least : (m : ℕ) (ks : List ℕ) → T (falling m ks) → (j : ℕ) → j < length ks → 1 ≤ slice_index ks j
size_least m [] t j h = absurd (omega arith)
size_least m (k ∷ ks) t zero h = first_least m k ks t
size_least m (k ∷ ks) t (suc j) h = size_least k ks (others m k ks t) j (omega arith)

pub size_most : (m : ℕ) (ks : List ℕ) → T (falling m ks) → (j : ℕ) → j < length ks → slice_index ks j ≤ m
size_most m [] t j h = absurd (omega arith)
size_most m (k ∷ ks) t zero h = first_most m k ks t
size_most m (k ∷ ks) t (suc j) h = let a = size_most k ks (others m k ks t) j (omega arith) in let b = first_most m k ks t in omega arith

pub size_falls : (m : ℕ) (ks : List ℕ) → T (falling m ks) → (j : ℕ) → suc j < length ks → slice_index ks (suc j) ≤ slice_index ks j
size_falls m [] t j h = absurd (omega arith)
size_falls m (k ∷ ks) t zero h = size_most k ks (others m k ks t) 0 (omega arith)
size_falls m (k ∷ ks) t (suc j) h = size_falls k ks (others m k ks t) j (omega arith)

pub provided_is : (b : Bool) (k v : ℕ) → ◌≡◌ {A = Result ℕ Refusal} (Ok k) (provided b v) → T b × (k ≡ v)
provided_is true k v e = (tt, cc)
provided_is false k v e = absurd (let z : ◌≡◌ {A = ℕ} 0 1 = cc in omega arith)

-- what holds of the numbers where there is no flaw
pub record Fit (F : Meaning) (m : ℕ) (ks : List ℕ) : Type 0 where
  pub m_least : 1 ≤ m
  pub m_most : m ≤ 32
  pub m_points : m ≤ F.q
  pub s_least : 1 ≤ length ks
  pub s_most : length ks ≤ 4
  pub falls : T (falling m ks)

passes : (b : Bool) (r : Refusal) (o : Option Refusal) → option_or (unless b r) o ≡ None → T b × (o ≡ None)
passes true r o e = (tt, e)
passes false r o e = absurd (let z : ◌≡◌ {A = ℕ} 0 1 = cc in omega arith)

passes_last : (b : Bool) (r : Refusal) → unless b r ≡ None → T b
passes_last true r e = tt
passes_last false r e = absurd (let z : ◌≡◌ {A = ℕ} 0 1 = cc in omega arith)

pub fit : (F : Meaning) (m : ℕ) (ks : List ℕ) → flaw F m ks ≡ None → Fit F m ks
fit F m ks e =
    let a = passes (nat_le 1 m && nat_le m 32 && nat_le m F.q) _ _ e in
    let b = passes (nat_le 1 (length ks) && nat_le (length ks) 4) _ _ a.1 in
    let ab = both_left (nat_le 1 m && nat_le m 32) (nat_le m F.q) a.0 in
    record {
      m_least = leb→le 1 m (both_left (nat_le 1 m) (nat_le m 32) ab);
      m_most = leb→le m 32 (both_right (nat_le 1 m) (nat_le m 32) ab);
      m_points = leb→le m F.q (both_right (nat_le 1 m && nat_le m 32) (nat_le m F.q) a.0);
      s_least = leb→le 1 _ (both_left (nat_le 1 (length ks)) (nat_le (length ks) 4) b.0);
      s_most = leb→le _ 4 (both_right (nat_le 1 (length ks)) (nat_le (length ks) 4) b.0);
      falls = passes_last (falling m ks) _ b.1;
    }

pub size_most_of : (F : Meaning) (m : ℕ) (ks : List ℕ) (i k : ℕ) → None ≡ flaw F m ks → ◌≡◌ {A = Result ℕ Refusal} (Ok k) (provided (nat_le 1 i && nat_le i (length ks)) (size_of ks i)) → k ≤ m
size_most_of F m ks i k none e =
    let given = provided_is (nat_le 1 i && nat_le i (length ks)) k _ e in
    let from = leb→le 1 i (both_left (nat_le 1 i) (nat_le i (length ks)) given.0) in
    let to = leb→le i (length ks) (both_right (nat_le 1 i) (nat_le i (length ks)) given.0) in
    subst (λ n. n ≤ m) (sym given.1) (size_most m ks (fit F m ks (sym none)).falls (i - 1) (omega arith))
