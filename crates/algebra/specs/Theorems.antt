-- What is shown of every field of numbers, as the calls of this crate promise it. Assumes nothing.
use Rattle.std.specs.Prelude.{◌≡◌, ℕ, ◌+◌, ◌-◌, ◌/◌, ◌<◌, ◌≤◌, Bool, T, ◌≢◌, ◌↔◌, List, length, nat_eq}
use Rattle.std.specs.List.{AllByRecursion}
use Rattle.field.specs.Meaning.{Meaning}
use Rattle.algebra.specs.Symbols.{numbers, Symbols}
use Rattle.algebra.specs.Vectors.{dot, Zeros}
use Rattle.algebra.specs.Polynomials.{Different, value, values}
use Rattle.field.specs.Places.{distance}
use Rattle.algebra.specs.Distance.{passing}
use Rattle.algebra.specs.Correction.{Located, Agrees}
use Rattle.algebra.specs.Matrices.{NonsingularNumbers, Among, tested}

-- A polynomial with no more coefficients than it has different zeros is zero.
abbrev pub RootsBounded : Meaning → Type 0
RootsBounded F =
    (f points : List ℕ) → Symbols F f → Symbols F points → Different points → length f ≤ length points
    → AllByRecursion (λ x. value (numbers F) f x ≡ 0) points → Zeros (numbers F) f

-- The words of two different polynomials of k coefficients at m different points differ in at least m − k + 1 places.
abbrev pub ValuesApart : Meaning → Type 0
ValuesApart F =
    (f g points : List ℕ) → Symbols F f → Symbols F g → Symbols F points → Different points → length f ≡ length g → f ≢ g
    → length points + 1 ≤ distance (values (numbers F) f points) (values (numbers F) g points) + length f

-- Of a set of words whose different members have distance at least d, at most one lies within (d − 1)/2 of a word.
abbrev pub NearestOnly : Type 0
NearestOnly =
    (code : List ℕ → Bool) (d : ℕ) → 0 < d → ((u v : List ℕ) → T (code u) → T (code v) → u ≢ v → d ≤ distance u v)
    → (y u v : List ℕ) → T (code u) → T (code v) → distance u y ≤ (d - 1) / 2 → distance v y ≤ (d - 1) / 2 → u ≡ v

-- A word with at most t errors from the word of g has a locator: E monic of degree t and N with k + t coefficients, y·E(x) = N(x) at every point.
abbrev pub LocatorExists : Meaning → Type 0
LocatorExists F =
    (g points ys : List ℕ) (t : ℕ) → Symbols F g → Symbols F points → Symbols F ys → length points ≡ length ys
    → distance (values (numbers F) g points) ys ≤ t
    → (l N : List ℕ) × Symbols F l × Symbols F N × (length l ≡ t) × (length N ≡ length g + t) × Located (numbers F) points ys l N

abbrev pub LocatorAgreesAt : Meaning → (g points ys l N : List ℕ) → ℕ → Type 0
LocatorAgreesAt F g points ys l N t =
    Different points → length l ≡ t → length N ≡ length g + t → length g + (t + t) ≤ length points
    → distance (values (numbers F) g points) ys ≤ t → Located (numbers F) points ys l N
    → Agrees (numbers F) points ys l g

-- With k + 2t ≤ m: any locator E, N of such a word has g agree with it wherever E is not 0.
abbrev pub LocatorAgrees : Meaning → Type 0
LocatorAgrees F =
    (g points ys l N : List ℕ) (t : ℕ) → Symbols F g → Symbols F points → Symbols F ys → Symbols F l → Symbols F N
    → LocatorAgreesAt F g points ys l N t

abbrev pub AgreeingOnlyAt : Meaning → (f g points ys l : List ℕ) → Type 0
AgreeingOnlyAt F f g points ys l =
    Different points → length f ≡ length g → length g + length l ≤ length points
    → Agrees (numbers F) points ys l f → Agrees (numbers F) points ys l g → f ≡ g

-- At most one polynomial of k coefficients agrees with a word wherever E, of degree t, is not 0, if k + t ≤ m.
abbrev pub AgreeingOnly : Meaning → Type 0
AgreeingOnly F =
    (f g points ys l : List ℕ) → Symbols F f → Symbols F g → Symbols F points → Symbols F ys → Symbols F l
    → AgreeingOnlyAt F f g points ys l

-- The test by elimination passes exactly for the matrices that are non-singular by columns.
abbrev pub TestDecides : Meaning → Type 0
TestDecides F =
    (s : ℕ) (column : ℕ → List ℕ) (js : List ℕ) → ((j : ℕ) → Symbols F (column j))
    → T (tested (numbers F) (λ a. nat_eq a 0) nat_eq s column js) ↔ NonsingularNumbers F s column (Among js)

-- A combination of the first r rows of such a matrix, not all coefficients 0, is 0 in at most r − 1 columns.
abbrev pub FewZeroColumns : Meaning → Type 0
FewZeroColumns F =
    (s : ℕ) (column : ℕ → List ℕ) (js cs : List ℕ) → ((j : ℕ) → Symbols F (column j)) → Symbols F cs → NonsingularNumbers F s column (Among js)
    → Different js → length cs ≤ s → (Zeros (numbers F) cs → ⊥)
    → passing (λ j. nat_eq (dot (numbers F) cs (column j)) 0) js + 1 ≤ length cs
