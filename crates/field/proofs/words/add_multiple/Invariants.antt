use Rattle.std.proofs.Common.{◌≡◌, ◌++◌, take, drop}
use Rattle.field.specs.Words.{plus_scaled_or_0}
use Rattle.field.proofs.words.add_multiple.Given as goal

-- what is written, and what the rest will be
abbrev pub invariant-loop-i : goal.invariant-loop-i
invariant-loop-i g l =
    let F = g.F.Field.meaning l.f in
    take l.i l.out ++ plus_scaled_or_0 F l.a (drop l.i l.out) (drop l.i l.v) ≡ plus_scaled_or_0 F l.a l.initial.out l.v
