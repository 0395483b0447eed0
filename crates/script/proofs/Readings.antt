-- Each word reads as the text does that it points to. Assumes nothing.
use Rattle.std.proofs.Common.{◌≡◌, ℕ, List, [], ◌∷◌, Option, refl, ap, Bor}
use Rattle.std.specs.Option.{option_map, option_zip}
use Rattle.script.specs.Words.{texts}
use Rattle.script.specs.Numbers.{each}

pub each_text : {Y : Type 0} (f : List ℕ → Option Y) (ws : List (Bor (List ℕ))) → each (λ w. f w.now) ws ≡ each f (texts ws)
each_text f [] = refl
each_text f (w ∷ ws) = ap (λ ys. option_map (λ p. p.0 ∷ p.1) (option_zip (f w.now) ys)) (each_text f ws)
