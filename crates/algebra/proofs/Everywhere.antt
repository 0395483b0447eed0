-- What holds of each element of a list, and of each pair of elements of two lists. Assumes nothing.
use Rattle.std.proofs.Common.{List, [], ◌∷◌}
use Rattle.std.specs.List.{AllZip, AllByRecursion}

module _ {X : Type 0} where
  pub all_both : (P Q R : X → Type 0) → ((x : X) → P x → Q x → R x) → (xs : List X) → AllByRecursion P xs → AllByRecursion Q xs → AllByRecursion R xs
  all_both P Q R f [] p q = tt
  all_both P Q R f (x ∷ xs) (p, ps) (q, qs) = (f x p q, all_both P Q R f xs ps qs)

  pub all_each : (P Q : X → Type 0) → ((x : X) → P x → Q x) → (xs : List X) → AllByRecursion P xs → AllByRecursion Q xs
  all_each P Q f [] p = tt
  all_each P Q f (x ∷ xs) (p, ps) = (f x p, all_each P Q f xs ps)

pub each_map : {X : Type 0} (R S : X → X → Type 0) → ((x y : X) → R x y → S x y) → (xs ys : List X) → AllZip R xs ys → AllZip S xs ys
each_map R S f [] [] e = tt
each_map R S f [] (y ∷ ys) e = e
each_map R S f (x ∷ xs) [] e = e
each_map R S f (x ∷ xs) (y ∷ ys) (e, es) = (f x y e, each_map R S f xs ys es)

-- two facts of each pair put together
pub each_both : {X : Type 0} (P Q R : X → X → Type 0) → ((x y : X) → P x y → Q x y → R x y) → (xs ys : List X) → AllZip P xs ys → AllZip Q xs ys → AllZip R xs ys
each_both P Q R f [] [] p q = tt
each_both P Q R f [] (y ∷ ys) p q = p
each_both P Q R f (x ∷ xs) [] p q = p
each_both P Q R f (x ∷ xs) (y ∷ ys) (p, ps) (q, qs) = (f x y p q, each_both P Q R f xs ys ps qs)

pub each_of_first : {X : Type 0} (P : X → Type 0) (R : X → X → Type 0) → (xs ys : List X) → AllZip R xs ys → ((x y : X) → R x y → P x) → AllByRecursion P xs
each_of_first P R [] [] e f = tt
each_of_first P R [] (y ∷ ys) e f = tt
each_of_first P R (x ∷ xs) [] e f = absurd e
each_of_first P R (x ∷ xs) (y ∷ ys) (e, es) f = (f x y e, each_of_first P R xs ys es f)

-- a fact of all the first, given of each pair with itself
pub each_self : {X : Type 0} (P : X → X → Type 0) (xs : List X) → AllByRecursion (λ x. P x x) xs → AllZip P xs xs
each_self P [] h = tt
each_self P (x ∷ xs) (h, hs) = (h, each_self P xs hs)
