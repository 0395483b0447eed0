use Rattle.std.proofs.Common.{◌<◌, T, ◌∙◌, subst, arith, lt→ltb}
use Rattle.field.proofs.Accepted.{passed, both_hold}
use Rattle.field.proofs.WordLaws.{value_or_0_is}
use Rattle.field.proofs.words.evaluate.Goals as goal

pub returns : goal.returns
returns g c =
    let F = g.F.Field.meaning c.args.f.now in
    let small : c.args.x < F.q = omega (arith, c.if-x-order.false, c.order.ensures) in
    let all = subst T c.if-not-are_symbols.ensures tt in
    passed _ _ _ (both_hold _ _ (lt→ltb _ _ small) all) (c.value.ensures ∙ value_or_0_is (g.met.F.Field.lawful c.args.f.now) c.args.x small c.args.coefficients.now all)
