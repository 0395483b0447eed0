-- From a field of numbers, whose laws hold below q, to a field on the symbols, and back. Assumes nothing.
use Rattle.std.proofs.Common.{◌≡◌, ℕ, zero, suc, ◌+◌, ◌<◌, ◌≤◌, Bool, true, false, cond, eqb, ◌≢◌, List, [], ◌∷◌, map, refl, ap, arith}
use mathlib.Core.HLevel.{Σ_prop_path, Σ_prop_discrete}
use native.Mathlib.Bridge.{le_prop}
use native.Mathlib.Decide.{dec_lt, ℕ_discrete}
use Rattle.std.specs.List.{AllByRecursion}
use Rattle.field.specs.Meaning.{Meaning, IsField, first, opposite_of, inverse_of}
use Rattle.field.proofs.Unique.{opposite_exact, inverse_exact}
use Rattle.algebra.specs.FieldOn.{Ops, FieldOn}
use Rattle.algebra.specs.Symbols.{Below, val}

-- what the search for the first number that passes a test answers is a number below the bound
pub first_below : (test : ℕ → Bool) (i n m : ℕ) → i + n ≤ m → 0 < m → first test i n < m
first_below test i zero m h p = p
first_below test i (suc n) m h p = go (test i) (first_below test (suc i) n m (omega arith) p)
  where
    go : (b : Bool) → first test (suc i) n < m → cond b i (first test (suc i) n) < m
    go true l = omega arith
    go false l = l

pub val_injective : {q : ℕ} {a b : Below q} → val a ≡ val b → a ≡ b
val_injective {q} {a} {b} e = Σ_prop_path (λ (n : ℕ). le_prop {n = suc n} {m = q}) {u = a} {v = b} e

abbrev pub to_by : {q : ℕ} (n : ℕ) → 0 < q → Dec (n < q) → Below q
to_by n pos (yes h) = (n, h)
to_by n pos (no h) = (0, pos)

pub to_by_inside : {q n : ℕ} (pos : 0 < q) (d : Dec (n < q)) → n < q → (to_by n pos d).0 ≡ n
to_by_inside pos (yes h) l = refl
to_by_inside pos (no h) l = absurd (h l)

module _ (F : Meaning) (laws : IsField F) where
  abbrev pub positive : 0 < F.q
  positive = let h = laws.q_least in omega arith

  -- any number as a symbol: those that are none go to 0
  abbrev pub to : ℕ → Below F.q
  to n = to_by n positive (dec_lt n F.q)

  pub val_to : (n : ℕ) → n < F.q → val (to n) ≡ n
  val_to n h = to_by_inside positive (dec_lt n F.q) h

  pub to_val : (a : Below F.q) → to (val a) ≡ a
  to_val a = val_injective (val_to (val a) a.1)

  pub opposite_below : (a : ℕ) → opposite_of F a < F.q
  opposite_below a = first_below (λ b. eqb (F.sum a b) 0) 0 F.q F.q (omega arith) positive

  pub inverse_below : (a : ℕ) → inverse_of F a < F.q
  inverse_below a = first_below (λ b. eqb (F.product a b) 1) 0 F.q F.q (omega arith) positive

  pub sum_opposite : (a : ℕ) → a < F.q → F.sum a (opposite_of F a) ≡ 0
  sum_opposite a h = (opposite_exact laws a h).holds

  pub product_inverse : (a : ℕ) → a < F.q → a ≢ 0 → F.product a (inverse_of F a) ≡ 1
  product_inverse a h n = (inverse_exact laws a h n).holds

  pub below_same? : (a b : Below F.q) → Dec (a ≡ b)
  below_same? = Σ_prop_discrete (λ (n : ℕ). le_prop {n = suc n} {m = F.q}) ℕ_discrete

  abbrev pub over_ops : Ops (Below F.q)
  over_ops = record {
    zero = (0, positive);
    one = (1, laws.q_least);
    add = λ a b. (F.sum (val a) (val b), laws.sum_closed (val a) (val b) a.1 b.1);
    mul = λ a b. (F.product (val a) (val b), laws.product_closed (val a) (val b) a.1 b.1);
    neg = λ a. (opposite_of F (val a), opposite_below (val a));
    inv = λ a. (inverse_of F (val a), inverse_below (val a));
  }

  -- the field on the symbols
  abbrev pub over : FieldOn (Below F.q)
  over = record {
    ops = over_ops;
    sum_comm = λ a b. val_injective (laws.sum_comm (val a) (val b) a.1 b.1);
    sum_assoc = λ a b c. val_injective (laws.sum_assoc (val a) (val b) (val c) a.1 b.1 c.1);
    sum_zero = λ a. val_injective (laws.sum_zero (val a) a.1);
    sum_neg = λ a. val_injective (sum_opposite (val a) a.1);
    product_comm = λ a b. val_injective (laws.product_comm (val a) (val b) a.1 b.1);
    product_assoc = λ a b c. val_injective (laws.product_assoc (val a) (val b) (val c) a.1 b.1 c.1);
    product_one = λ a. val_injective (laws.product_one (val a) a.1);
    product_inv = λ a n. val_injective (product_inverse (val a) a.1 (λ z. n (val_injective z)));
    distributive = λ a b c. val_injective (laws.distributive (val a) (val b) (val c) a.1 b.1 c.1);
    one_not_zero = λ e. let z : ◌≡◌ {A = ℕ} 1 0 = ap (λ (a : Below F.q). val a) e in omega arith;
    same? = below_same?;
  }

  pub vals_tos : (xs : List ℕ) → AllByRecursion (λ x. x < F.q) xs → map val (map to xs) ≡ xs
  vals_tos [] h = refl
  vals_tos (x ∷ xs) (h, hs) = λ i. val_to x h i ∷ vals_tos xs hs i

  pub tos_vals : (xs : List (Below F.q)) → map to (map val xs) ≡ xs
  tos_vals [] = refl
  tos_vals (x ∷ xs) = λ i. to_val x i ∷ tos_vals xs i

  pub vals_below : (xs : List (Below F.q)) → AllByRecursion (λ x. x < F.q) (map val xs)
  vals_below [] = tt
  vals_below (x ∷ xs) = (x.1, vals_below xs)

pub vals_injective : {q : ℕ} (xs ys : List (Below q)) → map val xs ≡ map val ys → xs ≡ ys
vals_injective [] [] e = refl
vals_injective [] (y ∷ ys) e = let z : ◌≡◌ {A = ℕ} 0 1 = cc in absurd (omega arith)
vals_injective (x ∷ xs) [] e = let z : ◌≡◌ {A = ℕ} 0 1 = cc in absurd (omega arith)
vals_injective (x ∷ xs) (y ∷ ys) e =
    let h : val x ≡ val y = cc in
    let t : map val xs ≡ map val ys = cc in
    λ i. val_injective {a = x} {b = y} h i ∷ vals_injective xs ys t i
