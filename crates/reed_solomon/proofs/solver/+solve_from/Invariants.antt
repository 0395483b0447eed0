use Rattle.std.proofs.Common.{length}
use Rattle.reed_solomon.proofs.solver.+solve_from.Given as goal

abbrev pub decreases-solve_from : goal.decreases-solve_from
decreases-solve_from g l = length l.xs.now
