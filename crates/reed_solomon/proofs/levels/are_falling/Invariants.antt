use Rattle.std.proofs.Common.{◌≡◌, drop}
use Rattle.reed_solomon.specs.Code.{falling}
use Rattle.reed_solomon.proofs.levels.are_falling.Given as goal

-- what is left decides
abbrev pub invariant-loop-size : goal.invariant-loop-size
invariant-loop-size l = falling l.most (drop l.size-index l.sizes) ≡ falling l.m l.sizes
