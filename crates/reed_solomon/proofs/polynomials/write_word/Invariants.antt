use Rattle.std.proofs.Common.{◌≡◌, take}
use Rattle.reed_solomon.specs.Code.{rs_word}
use Rattle.reed_solomon.proofs.polynomials.write_word.Given as goal

-- the values so far are written
abbrev pub invariant-loop-i : goal.invariant-loop-i
invariant-loop-i g l = take l.i l.out ≡ rs_word (g.F.Field.meaning l.f) l.i l.message
