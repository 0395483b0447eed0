use Rattle.std.proofs.Common.{◌≡◌, ◌-◌, ◌<◌, get_or, sym, ◌∙◌, ap, subst, arith}
use Rattle.gf16.specs.Tables.{logs, log, logs_small}
use Rattle.gf16.proofs.log_of.Goals as goal

pub returns-clause-small : goal.returns-clause-small
returns-clause-small c =
    let is : c.from-2.result ≡ log c.args.a = c.from-2.ensures ∙ ap (λ x. get_or logs (x - 1) 0) c.from.ensures in
    subst (λ x. x < 15) (sym is) (logs_small (c.args.a - 1) (omega (arith, c.requires.some, c.requires.symbol)))
