use Rattle.std.proofs.Common.{eqb, ap, ◌∙◌}
use Rattle.std.specs.Result.{result_unwrap_or}
use Rattle.plain.proofs.Shapes.{ones_told}
use Rattle.plain.proofs.making.adds_to_zero.Goals as goal

pub returns : goal.returns
returns g c =
    ap (λ n. eqb n 0) (c.unwrap_or.ensures ∙ ap (λ r. result_unwrap_or r 1) (c.total.ensures ∙ ones_told (g.met.F.Field.lawful c.args.f.now) c.args.m c.requires))
