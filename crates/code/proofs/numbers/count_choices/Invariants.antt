-- What the loops of `count_choices` keep.
use Rattle.std.proofs.Common.{◌≡◌}
use Rattle.code.specs.Numbers.{falling}
use Rattle.code.proofs.numbers.count_choices.Given as goal

abbrev pub invariant-loop-i : goal.invariant-loop-i
invariant-loop-i g l = l.product ≡ falling l.l l.i
