use Rattle.std.proofs.Common.{length}
use Rattle.reed_solomon.proofs.Powers.{Written}
use Rattle.reed_solomon.proofs.equations.write_powers.Given as goal

abbrev pub invariant-loop-entry : goal.invariant-loop-entry
invariant-loop-entry g l = Written (g.met.F.Field.lawful l.f) l.out (length l.initial.out) l.a l.x l.entry-index l.p
