-- What the loops of `least_distance` keep.
use Rattle.std.proofs.Common.{◌≡◌, ◌+◌, ◌-◌, ◌*◌}
use Rattle.code.specs.Numbers.{least_to}
use Rattle.code.proofs.numbers.least_distance.Given as goal

abbrev pub invariant-loop-level : goal.invariant-loop-level
invariant-loop-level g l = l.least ≡ least_to (λ i. (l.l - i + 1) * (g.C.Chain.meaning l.chain).distance i) (l.level - 1)
