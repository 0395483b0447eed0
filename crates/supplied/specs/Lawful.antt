-- The chain of triples keeps the laws, by computed tests. Assumes nothing.
use Rattle.std.specs.Prelude.{◌≡◌, ℕ, ◌<◌, ◌≤◌, Bool, true, false, ◌||◌, T, List, [], ◌∷◌, length, ◌==◌, ◌≢◌, nat_eq, nat_le, slice_index, slice_index_or, slice_set, refl}
use Rattle.std.proofs.Common.{sym, ap, ap₂, subst, ◌∙◌, arith, eqb→eq, leb→le, lit≤, lt→ltb}
use Rattle.std.proofs.Math.Decide.{ℕ_discrete}
use Rattle.field.specs.Places.{distance}
use Rattle.field.specs.Words.{symbols, added, scaled}
use Rattle.field.proofs.Accepted.{both_hold}
use Rattle.field.proofs.Metric.{eqb_tells, distance_zero, distance_itself}
use Rattle.field.proofs.Tests.{each_at, each²_at}
use Rattle.field.proofs.WordLaws.{symbol_at}
use Rattle.chain.specs.Meaning.{IsChain, Level, Word}
use Rattle.supplied.specs.declared.triples.TheConstants.{WORDS}
use Rattle.supplied.specs.Quadratic.{four, product}
use Rattle.supplied.specs.Triples.{word, triples}
use Rattle.supplied.specs.Table.{is_field}

-- a message is one symbol
pub one_symbol : (xs : List ℕ) → Word four 1 xs → (slice_index xs 0 < 4) × (xs ≡ slice_index xs 0 ∷ [])
one_symbol [] h = absurd (let e = h.long in omega arith)
one_symbol (x ∷ []) h = (symbol_at 4 (x ∷ []) h.all 0 (omega arith), refl)
one_symbol (x ∷ y ∷ xs) h = absurd (let e = h.long in omega arith)

pub message : (x : ℕ) → x < 4 → Word four 1 (x ∷ [])
message x h = record { long = refl; all = both_hold _ _ (lt→ltb x 4 h) tt }

same : (v w : List ℕ) → T (distance v w == 0) → v ≡ w
same v w t = distance_zero nat_eq eqb_tells v w (eqb→eq _ 0 t)

pub word_symbols : (x : ℕ) → x < 4 → Word four 3 (word x)
unfolding word product
word_symbols x h = record { long = refl; all = each_at (λ x. symbols 4 (word x)) 4 tt x h }

word_sum : (x y : ℕ) → x < 4 → y < 4 → word (four.sum x y) ≡ added four (word x) (word y)
unfolding word product
word_sum x y hx hy = same _ _ (each²_at (λ x y. nat_eq (distance (word (four.sum x y)) (added four (word x) (word y))) 0) 4 tt x y hx hy)

word_multiple : (a x : ℕ) → a < 4 → x < 4 → word (four.product a x) ≡ scaled four a (word x)
unfolding word product
word_multiple a x ha hx = same _ _ (each²_at (λ a x. nat_eq (distance (word (four.product a x)) (scaled four a (word x))) 0) 4 tt a x ha hx)

either : (a b : Bool) → T (a || b) → (T a → ⊥) → T b
either true b t h = absurd (h tt)
either false b t h = t

pub words_apart : (x y : ℕ) → x < 4 → y < 4 → (x ≢ y) → 3 ≤ distance (word x) (word y)
unfolding word product
words_apart x y hx hy ne = leb→le 3 _ (either (x == y) _ (each²_at (λ x y. (x == y) || nat_le 3 (distance (word x) (word y))) 4 tt x y hx hy) (λ t. ne (eqb→eq x y t)))

front : (xs ys : List ℕ) → xs ≡ slice_index xs 0 ∷ [] → ys ≡ slice_index ys 0 ∷ [] → slice_index (added four xs ys) 0 ≡ four.sum (slice_index xs 0) (slice_index ys 0)
front xs ys ex ey = ap₂ (λ u v. slice_index (added four u v) 0) ex ey

pub is_chain : IsChain triples
is_chain = record {
  over_field = is_field;
  m_least = lit≤ tt;
  m_most = lit≤ tt;
  s_least = lit≤ tt;
  s_most = lit≤ tt;
  size_least = λ _ _. lit≤ tt;
  size_most = λ _ _. lit≤ tt;
  distance_least = λ _ _. lit≤ tt;
  distance_most = λ _ _. lit≤ tt;
  encodes = λ _ _ xs h. word_symbols _ (one_symbol xs h).0;
  of_sum = λ _ _ xs ys hx hy. ap word (front xs ys (one_symbol xs hx).1 (one_symbol ys hy).1) ∙ word_sum _ _ (one_symbol xs hx).0 (one_symbol ys hy).0;
  of_multiple = λ _ _ a xs ha hx. ap word (ap (λ u. slice_index (scaled four a u) 0) (one_symbol xs hx).1) ∙ word_multiple a _ ha (one_symbol xs hx).0;
  injective = λ _ _ xs ys hx hy e. (one_symbol xs hx).1 ∙ ap (λ x. x ∷ []) (injective (slice_index xs 0) (slice_index ys 0) (one_symbol xs hx).0 (one_symbol ys hy).0 e) ∙ sym (one_symbol ys hy).1;
  nested = λ i li lj w h. absurd (omega (arith, li.from, lj.to));
  apart = λ _ _ v w hv hw ne.
      subst (λ u. 3 ≤ distance u w) hv.2
      (subst (λ u. 3 ≤ distance (word (slice_index hv.0 0)) u) hw.2
      (words_apart _ _ (one_symbol hv.0 hv.1).0 (one_symbol hw.0 hw.1).0 (λ e. ne (sym hv.2 ∙ ap word e ∙ hw.2))));
}
  where
    injective : (x y : ℕ) → x < 4 → y < 4 → word x ≡ word y → x ≡ y
    injective x y hx hy e =
        elim (ℕ_discrete x y) [
          | yes p ↦ p
          | no n ↦ absurd (let far : 3 ≤ distance (word x) (word y) = words_apart x y hx hy n in let near : distance (word x) (word y) ≡ 0 = ap (λ w. distance w (word y)) e ∙ distance_itself nat_eq eqb_tells (word y) in omega arith)
        ]

-- the rule of the table of words
pub word_rule : (x : ℕ) → x < 4 → slice_index_or WORDS x [] ≡ word x
unfolding word product
word_rule x h = same _ _ (each_at (λ x. nat_eq (distance (slice_index_or WORDS x []) (word x)) 0) 4 tt x h)

pub first_level : (i : ℕ) → i ≡ 1 → Level triples i
first_level i e = record { from = omega arith; to = omega arith }

-- a list of one place, written
pub only_place : (out : List ℕ) (x : ℕ) → length out ≡ 1 → slice_set out 0 x ≡ x ∷ []
only_place [] x e = absurd (omega arith)
only_place (y ∷ []) x e = refl
only_place (y ∷ z ∷ out) x e = absurd (omega arith)
