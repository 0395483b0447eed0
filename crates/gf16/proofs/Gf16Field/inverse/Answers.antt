use Rattle.std.proofs.Common.{◌-◌, ◌%◌, get_or, ap, ◌∙◌, arith}
use Rattle.field.proofs.Accepted.{accepted_but_0}
use Rattle.gf16.specs.Tables.{powers, inverse_by_logs}
use Rattle.gf16.proofs.Gf16Field.inverse.Goals as goal

pub returns : goal.returns
returns c =
    let a = c.args.a in
    let by_log = ap (λ x. get_or powers ((15 - x) % 15) 0) c.log_of.ensures.value in
    accepted_but_0 a 16 _ _ (omega arith) (omega arith) (by_log ∙ inverse_by_logs a (omega arith) (omega arith))
