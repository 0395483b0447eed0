-- What is left to show of `is_nonsingular`.
use Rattle.std.proofs.Common.{◌-◌, ◌≤◌, length, ap, ◌∙◌, arith}
use Rattle.code.specs.Elimination.{passes}
use Rattle.code.specs.Held.{held}
use Rattle.code.proofs.Rows.{held_length}
use Rattle.code.proofs.Sentence.{passes_decides}
use Rattle.code.proofs.matrix.Matrix.is_nonsingular.Goals as goal

pub returns : goal.returns
returns g c =
    let a = c.args.self.now in
    let F = g.F.Field.meaning c.args.f.now in
    let tall : a.height ≤ length a.rows = omega (arith, a.tall, a.low) in
    c.passes.ensures ∙ ap (passes F (held a)) c.none_taken.ensures
    ∙ passes_decides (g.met.F.Field.lawful c.args.f.now) a.height a.width (held a) (8 - a.width) (held_length a.rows a.height a.width tall) c.requires.0
