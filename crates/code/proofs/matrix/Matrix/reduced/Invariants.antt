-- What the loops of `reduced` keep.
use Rattle.std.proofs.Common.{◌≡◌, ℕ, ◌<◌, [], map, length, get_or, take}
use Rattle.code.specs.Elimination.{reduced_rows}
use Rattle.code.specs.Held.{held}
use Rattle.code.proofs.matrix.Matrix.reduced.Given as goal

-- the rows so far are cleared
abbrev pub invariant-loop-i : goal.invariant-loop-i
invariant-loop-i g l = record {
  cleared : map (take l.self.width) (take l.i l.rows) ≡ take l.i (reduced_rows (g.F.Field.meaning l.f) l.p (held l.self));
  tall : length l.rows ≡ 4;
  wide : (k : ℕ) → k < 4 → length (get_or l.rows k []) ≡ 8;
}
