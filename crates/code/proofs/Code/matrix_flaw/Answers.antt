-- What is left to show of `matrix_flaw`.
use Rattle.std.proofs.Common.{true, false, T, sym}
use Rattle.field.specs.Words.{symbols}
use Rattle.field.proofs.Tests.{T_is}
use Rattle.code.specs.Held.{held}
use Rattle.code.proofs.Sentence.{all_pass}
use Rattle.code.proofs.Shape.{held_columns, flaw_tested}
use Rattle.code.proofs.Code.matrix_flaw.Goals as goal

pub is_nonsingular-requires : goal.is_nonsingular-requires
is_nonsingular-requires g c =
    let a = c.args.self.now.matrix in
    let q = (g.C.Over.Field.meaning c.field-f.result.now).q in
    (all_pass (symbols q) (λ r. T (symbols q r)) (λ r t. t) (held a) (T_is _ (sym c.if-not-is_of.ensures)), held_columns a)

pub returns-then-not-is_nonsingular : goal.returns-then-not-is_nonsingular
returns-then-not-is_nonsingular g c =
    let self = c.args.self.now in
    let none = c.requires in
    sym (flaw_tested (g.C.Chain.meaning self.chain) self.l self.matrix (g.met.C.Chain.lawful self.chain none).s_least (sym c.if-not-has_shape.ensures)
    (g.C.Over.Field.meaning c.field-f.result.now) false none c.field-f.ensures (sym c.if-not-is_of.ensures) c.if-not-is_nonsingular.ensures)

pub returns-else-not-is_nonsingular : goal.returns-else-not-is_nonsingular
returns-else-not-is_nonsingular g c =
    let self = c.args.self.now in
    let none = c.requires in
    sym (flaw_tested (g.C.Chain.meaning self.chain) self.l self.matrix (g.met.C.Chain.lawful self.chain none).s_least (sym c.if-not-has_shape.ensures)
    (g.C.Over.Field.meaning c.field-f.result.now) true none c.field-f.ensures (sym c.if-not-is_of.ensures) c.if-not-is_nonsingular.ensures)
