-- What is left to show of `has_shape`.
use Rattle.std.proofs.Common.{◌≡◌, ap, ◌∙◌}
use Rattle.chain.specs.Answers.{told}
use Rattle.code.proofs.Shape.{shape_held}
use Rattle.code.proofs.Code.has_shape.Goals as goal

pub returns : goal.returns
returns g c =
    let self = c.args.self.now in
    let C = g.C.Chain.meaning self.chain in
    let s_is : c.levels.result ≡ C.s = c.levels.ensures ∙ ap (λ f. told f C.s) c.requires in
    rw (c.is_fitting.ensures, s_is, c.height.ensures, c.width.ensures) (shape_held self.matrix C.s self.l (g.met.C.Chain.lawful self.chain c.requires).s_least)
