-- What the loops of `write_codeword` keep.
use Rattle.std.proofs.Common.{◌≡◌, ◌-◌, drop}
use Rattle.code.specs.Held.{meant}
use Rattle.code.specs.Numbers.{joined_to, block_to, sum_to}
use Rattle.code.proofs.Code.write_codeword.Given as goal

-- the levels so far are added, and their parts of the message are gone
abbrev pub invariant-loop-level : goal.invariant-loop-level
invariant-loop-level g l = record {
  added : l.out ≡ joined_to (block_to (meant g.C.Chain.meaning l.self) l.message (l.level - 1)) l.self.l;
  left : l.rest ≡ drop (sum_to (g.C.Chain.meaning l.self.chain).size (l.level - 1)) l.message;
}
