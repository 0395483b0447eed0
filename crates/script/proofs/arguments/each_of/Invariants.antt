-- What the loop keeps.
use Rattle.std.proofs.Common.{◌≡◌, ◌++◌, drop, vec_items}
use Rattle.std.specs.Option.{option_map}
use Rattle.script.specs.Numbers.{each}
use Rattle.script.proofs.arguments.each_of.Given as goal

-- what is found, and what is left reads as, are what the items read as
abbrev pub invariant-loop-item : goal.invariant-loop-item
invariant-loop-item g l = option_map (λ ys. vec_items l.found ++ ys) (each g.reading (drop l.item-index l.items)) ≡ each g.reading l.items
