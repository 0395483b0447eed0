-- What the loops of `of` keep.
use Rattle.std.proofs.Common.{◌≡◌, ℕ, ◌<◌, [], map, length, get_or, take}
use Rattle.code.specs.Meaning.{rows_to}
use Rattle.code.proofs.matrix.Matrix.of.Given as goal

-- the rows so far are held
abbrev pub invariant-loop-i : goal.invariant-loop-i
invariant-loop-i l = record {
  cut : map (take l.width) (take l.i l.rows) ≡ rows_to l.width l.entries l.i;
  tall : length l.rows ≡ 4;
  wide : (k : ℕ) → k < 4 → length (get_or l.rows k []) ≡ 8;
}
