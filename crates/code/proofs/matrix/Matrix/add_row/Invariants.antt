-- What the loops of `add_row` keep.
use Rattle.std.proofs.Common.{◌≡◌, ◌*◌, ◌++◌, length, drop}
use Rattle.field.specs.Words.{plus_scaled}
use Rattle.code.specs.Held.{held}
use Rattle.code.specs.Meaning.{entry_at}
use Rattle.code.specs.Numbers.{joined_to, piece}
use Rattle.code.proofs.matrix.Matrix.add_row.Given as goal

-- the blocks so far are done, and the others as they were
abbrev pub invariant-loop-j : goal.invariant-loop-j
invariant-loop-j g l =
    l.out
    ≡ joined_to (λ j. plus_scaled (g.F.Field.meaning l.f) (entry_at (held l.self) l.row j) (piece (length l.word) l.initial.out j) l.word) l.j
    ++ drop (l.j * length l.word) l.initial.out
