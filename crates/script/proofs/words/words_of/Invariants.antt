-- What the loop keeps.
use Rattle.std.proofs.Common.{◌≤◌, vec_items}
use Rattle.script.proofs.Cuts.{Sofar}
use Rattle.script.proofs.words.words_of.Given as goal

abbrev pub invariant-loop-i : goal.invariant-loop-i
invariant-loop-i l = (l.start ≤ l.i) × Sofar l.line (vec_items l.found) l.start l.i
