use Rattle.std.proofs.Common.{◌≡◌, ◌≤◌, eqb, not, take, zip, count_by}
use Rattle.field.proofs.words.differences.Given as goal

-- what was counted
abbrev pub invariant-loop-i : goal.invariant-loop-i
invariant-loop-i l = (l.count ≡ count_by (λ p. not (eqb p.0 p.1)) (take l.i (zip l.a l.b))) × (l.count ≤ l.i)
