-- What the loops of `total_size` keep.
use Rattle.std.proofs.Common.{◌≡◌, ◌-◌}
use Rattle.code.specs.Numbers.{sum_to}
use Rattle.code.proofs.numbers.total_size.Given as goal

abbrev pub invariant-loop-level : goal.invariant-loop-level
invariant-loop-level g l = l.sum ≡ sum_to (g.C.Chain.meaning l.chain).size (l.level - 1)
