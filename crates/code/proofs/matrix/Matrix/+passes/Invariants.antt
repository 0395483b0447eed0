-- How `passes` ends, and what its loop keeps.
use Rattle.std.proofs.Common.{◌≡◌, drop}
use Rattle.algebra.specs.Matrices.{every}
use Rattle.code.specs.Elimination.{passes, free_from}
use Rattle.code.specs.Held.{held}
use Rattle.code.proofs.Passing.{pivot_test}
use Rattle.code.proofs.matrix.Matrix.+passes.Given as goal

abbrev pub decreases-passes : goal.decreases-passes
decreases-passes g l = l.self.now.height

-- the free columns that are left decide
abbrev pub invariant-loop-p : goal.invariant-loop-p
invariant-loop-p g l =
    every (pivot_test (g.F.Field.meaning l.f) (held l.self) l.fn.taken) (free_from l.p (drop l.p l.fn.taken))
    ≡ passes (g.F.Field.meaning l.f) (held l.self) l.fn.taken
