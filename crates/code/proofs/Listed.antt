-- Lists of f 1, …, f n, and sums over them. Assumes nothing.
use Rattle.std.proofs.Common.{◌≡◌, ℕ, zero, suc, ◌+◌, ◌-◌, ◌<◌, eqb, ◌≢◌, List, [], ◌∷◌, ◌++◌, map, length, get_or, sym, refl, ap, ◌∙◌, ap₂, inl, inr, arith}
use native.Mathlib.Decide.{ℕ_discrete}
use Rattle.std.specs.List.{AllByRecursion}
use Rattle.std.proofs.ByRecursion.{All-push}
use Rattle.std.proofs.lemmas.List.{length_push, get_or_push, get_or_append_left, map_push, ext_get_or}
use Rattle.field.specs.Places.{distance}
use Rattle.field.proofs.Metric.{distance_append}
use Rattle.algebra.specs.Matrices.{Among}
use Rattle.algebra.specs.Polynomials.{Different}
use Rattle.algebra.proofs.Blocks.{range, sum_of}
use Rattle.code.specs.Columns.{column}
use Rattle.code.specs.Meaning.{entry_at}
use Rattle.code.specs.Numbers.{sum_to, joined_to}
use Rattle.code.proofs.Joined.{joined_length}

module _ {X : Type 0} where
  abbrev pub listed : (ℕ → X) → ℕ → List X
  listed f zero = []
  listed f (suc n) = listed f n ++ f (suc n) ∷ []

  pub length_listed : (f : ℕ → X) (n : ℕ) → length (listed f n) ≡ n
  length_listed f zero = refl
  length_listed f (suc n) = length_push (listed f n) (f (suc n)) ∙ (let e = length_listed f n in omega arith)

  pub all_listed : (P : X → Type 0) (f : ℕ → X) (n : ℕ) → ((i : ℕ) → i < n → P (f (suc i))) → AllByRecursion P (listed f n)
  all_listed P f zero h = tt
  all_listed P f (suc n) h = All-push P (listed f n) (f (suc n)) (all_listed P f n (λ i l. h i (omega arith))) (h n (omega arith))

  getD_listed : (f : ℕ → X) (n i : ℕ) (d : X) → i < n → get_or (listed f n) i d ≡ f (suc i)
  getD_listed f zero i d h = absurd (omega arith)
  getD_listed f (suc n) i d h = go (ℕ_discrete i n) (getD_listed f n i d)
    where
      go : Dec (i ≡ n) → (i < n → get_or (listed f n) i d ≡ f (suc i)) → get_or (listed f (suc n)) i d ≡ f (suc i)
      go (yes e) rest = get_or_push (listed f n) (f (suc n)) d i (length_listed f n ∙ sym e) ∙ ap (λ k. f (suc k)) (sym e)
      go (no ne) rest = get_or_append_left (listed f n) (f (suc n) ∷ []) d i (let e = length_listed f n in omega arith) ∙ rest (omega arith)

pub map_listed : {X Y : Type 0} (h : X → Y) (f : ℕ → X) (n : ℕ) → map h (listed f n) ≡ listed (λ i. h (f i)) n
map_listed h f zero = refl
map_listed h f (suc n) = map_push h (listed f n) (f (suc n)) ∙ ap (λ l. l ++ h (f (suc n)) ∷ []) (map_listed h f n)

-- a column is the list of its entries
length_column : (rows : List (List ℕ)) (k : ℕ) → length (column rows k) ≡ length rows
length_column [] k = refl
length_column (r ∷ rows) k = ap suc (length_column rows k)

column_at : (rows : List (List ℕ)) (k i : ℕ) → get_or (column rows k) i 0 ≡ get_or (get_or rows i []) k 0
column_at [] k i = refl
column_at (r ∷ rows) k zero = refl
column_at (r ∷ rows) k (suc i) = column_at rows k i

pub column_listed : (rows : List (List ℕ)) (k : ℕ) → listed (λ i. entry_at rows i (suc k)) (length rows) ≡ column rows k
column_listed rows k =
    let long = length_listed (λ i. entry_at rows i (suc k)) (length rows) in
    ext_get_or 0 _ (column rows k) (long ∙ sym (length_column rows k)) (λ i h.
    let e : suc i - 1 ≡ i = omega arith in
    let d : suc k - 1 ≡ k = omega arith in
    getD_listed (λ i. entry_at rows i (suc k)) (length rows) i 0 (omega arith)
    ∙ ap₂ (λ a b. get_or (get_or rows a []) b 0) e d ∙ sym (column_at rows k i))

-- the indexes 0 to n − 1
above : (a b n : ℕ) → a < b → AllByRecursion (λ y. a ≢ y) (range b n)
above a b zero h = tt
above a b (suc n) h = ((λ e. omega arith), above a (suc b) n (omega arith))

pub range_different : (a n : ℕ) → Different (range a n)
range_different a zero = tt
range_different a (suc n) = (above a (suc a) n (omega arith), range_different (suc a) n)

among_all : (js ks : List ℕ) → ((j : ℕ) → Among ks j → Among js j) → AllByRecursion (Among js) ks
among_all js [] f = tt
among_all js (k ∷ ks) f = (f k (inl refl), among_all js ks (λ j m. f j (inr m)))

pub among_itself : (js : List ℕ) → AllByRecursion (Among js) js
among_itself js = among_all js js (λ j m. m)

pub length_range : (a n : ℕ) → length (range a n) ≡ n
length_range a zero = refl
length_range a (suc n) = ap suc (length_range (suc a) n)

sum_of_last : (f : ℕ → ℕ) (a n : ℕ) → sum_of f (range a (suc n)) ≡ sum_of f (range a n) + f (a + n)
sum_of_last f a zero = let z : a + 0 ≡ a = omega arith in let e = ap f z in omega arith
sum_of_last f a (suc n) = let ih = sum_of_last f (suc a) n in let z : suc a + n ≡ a + suc n = omega arith in let e = ap f z in omega arith

pub sum_range : (g f : ℕ → ℕ) (n : ℕ) → ((k : ℕ) → k < n → g (suc k) ≡ f k) → sum_to g n ≡ sum_of f (range 0 n)
sum_range g f zero h = refl
sum_range g f (suc n) h =
    let ih = sum_range g f n (λ k l. h k (omega arith)) in
    let last = sum_of_last f 0 n in
    let z : 0 + n ≡ n = omega arith in
    let e = ap f z in
    let here = h n (omega arith) in
    omega arith

-- the distance, block by block
pub distance_joined : (m : ℕ) (g h : ℕ → List ℕ) (n : ℕ) → ((j : ℕ) → length (g j) ≡ m) → ((j : ℕ) → length (h j) ≡ m) → distance (joined_to g n) (joined_to h n) ≡ sum_to (λ j. distance (g j) (h j)) n
distance_joined m g h zero lg lh = refl
distance_joined m g h (suc n) lg lh =
    distance_append eqb (joined_to g n) (g (suc n)) (joined_to h n) (h (suc n)) (joined_length m g n (λ j a b. lg j) ∙ sym (joined_length m h n (λ j a b. lh j)))
    ∙ ap (λ x. x + distance (g (suc n)) (h (suc n))) (distance_joined m g h n lg lh)
