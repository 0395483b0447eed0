-- A matrix held in an array of rows, and the rows cut from its entries. Assumes nothing.
use Rattle.std.proofs.Common.{◌≡◌, ℕ, suc, refl, Bool, ◌&&◌, ◌+◌, ◌*◌, ◌<◌, ◌≤◌, List, [], ◌∷◌, ◌++◌, map, length, get_or, take, drop, set, ap, ◌∙◌, subst, mul-le-mul_right, suc-mul, arith, length-drop, length-take}
use native.Mathlib.Decide.{ℕ_discrete}
use lib.ListN.{length-map}
use Rattle.std.proofs.lemmas.List.{take_at, length-append, length-set, get_or-map, get_or-take, get_or-set_same, get_or-set_other, take_more_set, map_push}
use Rattle.std.specs.List.{list_all}
use Rattle.algebra.specs.Matrices.{every}

-- a row of w among s rows of w ends within them
pub row_fits : (i s w : ℕ) → i < s → i * w + w ≤ s * w
row_fits i s w h = let a = suc-mul i w in let b : suc i * w ≤ s * w = mul-le-mul_right w h in omega arith

module _ (rows : List (List ℕ)) (h w : ℕ) (tall : h ≤ length rows) where
  rows_length : length (take h rows) ≡ h
  rows_length = length-take h rows ∙ (omega arith)

  pub held_length : length (map (take w) (take h rows)) ≡ h
  held_length = length-map (take h rows) (take w) ∙ rows_length

  pub held_row : (i : ℕ) → i < h → get_or (map (take w) (take h rows)) i [] ≡ take w (get_or rows i [])
  held_row i l = get_or-map (take w) (take h rows) i [] [] (let e = rows_length in omega arith) ∙ ap (take w) (get_or-take h rows i [] l)

-- a test of all rows that are held
pub every_held : (test : List ℕ → Bool) (w : ℕ) (rows : List (List ℕ)) → every test (map (take w) rows) ≡ list_all (λ r. test (take w r)) rows
every_held test w [] = refl
every_held test w (r ∷ rows) = ap (λ b. test (take w r) && b) (every_held test w rows)

-- the rows where row i is made of the entries and what stood behind them
pub record Written (w i : ℕ) (rows after : List (List ℕ)) (entries : List ℕ) : Type 0 where
  pub more : map (take w) (take (i + 1) after) ≡ map (take w) (take i rows) ++ entries ∷ []
  pub tall : length after ≡ 4
  pub wide : (k : ℕ) → k < 4 → length (get_or after k []) ≡ 8

pub row_written : (w i : ℕ) (rows : List (List ℕ)) (entries old : List ℕ) → w ≤ 8 → i < 4 → length rows ≡ 4 → ((k : ℕ) → k < 4 → length (get_or rows k []) ≡ 8) → length entries ≡ w → length old ≡ 8
    → Written w i rows (set rows i (entries ++ drop w old)) entries
row_written w i rows entries old narrow low tall wide long eight =
    let row = entries ++ drop w old in
    let within : i < length rows = omega arith in
    let row_long : length row ≡ 8 = length-append entries (drop w old) ∙ (omega (arith, length-drop w old)) in
    record {
      more = ap (map (take w)) (take_more_set rows i row within) ∙ map_push (take w) (take i rows) row ∙ ap (λ r. map (take w) (take i rows) ++ r ∷ []) (take_at entries (drop w old) w long);
      tall = length-set rows i row ∙ tall;
      wide = λ k h. elim (ℕ_discrete k i) [
        | yes same ↦ subst (λ n. length (get_or (set rows n row) k []) ≡ 8) same (ap length (get_or-set_same rows k row [] (omega arith)) ∙ row_long)
        | no other ↦ ap length (get_or-set_other rows i k row [] other) ∙ wide k h
      ];
    }
