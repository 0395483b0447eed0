use Rattle.std.proofs.Common.{sym, refl, ◌∙◌, arith}
use Rattle.field.specs.Words.{plus_scaled_or_0}
use Rattle.field.proofs.Folds.{rest_done}
use Rattle.field.proofs.WordLaws.{plus_scaled_or_0_nil}
use Rattle.field.proofs.words.add_multiple.Goals as goal

pub returns : goal.returns
returns g c =
    let F = g.F.Field.meaning c.args.f.now in
    let a = c.args.a in
    sym (rest_done (plus_scaled_or_0 F a) (λ x y. x) c.loop-i.out c.args.v.now c.loop-i.i (plus_scaled_or_0_nil F a) (λ _. refl) (omega (arith, c.loop-i-test.false, c.min-i-end.ensures, c.loop-i.auto.out)))
    ∙ c.loop-i.invariant
