use Rattle.std.proofs.Common.{◌≡◌, ◌<◌, length, get_or, sym, ap, ◌∙◌, subst, arith}
use Rattle.field.specs.Meaning.{opposite_of}
use Rattle.std.proofs.ByRecursion.{All-get_or}
use Rattle.reed_solomon.proofs.Solving.{unknown_is, dot_symbol, dot_is}
use Rattle.algebra.specs.Symbols.{numbers}
use Rattle.algebra.specs.Vectors.{dot}
use Rattle.reed_solomon.proofs.solver.pivot_unknown.Goals as goal

pub returns : goal.returns
returns g c =
    let F = g.F.Field.meaning c.args.f.now in
    let row = c.args.row.now in
    let xs = c.args.xs.now in
    let inverse = c.args.inverse in
    let laws = g.met.F.Field.lawful c.args.f.now in
    let is : c.dot.result ≡ dot (numbers F) row xs = c.dot.ensures ∙ dot_is laws row xs c.requires.row c.requires.unknowns in
    let small : c.dot.result < F.q = subst (λ n. n < F.q) (sym is) (dot_symbol laws row xs c.requires.row c.requires.unknowns) in
    let within : length xs < length row = omega (arith, c.requires.long) in
    unknown_is laws inverse (get_or row (length xs) 0) c.dot.result _ _ _ c.requires.inverse (All-get_or (λ x. x < F.q) row (length xs) 0 within c.requires.row) small c.negate.ensures.value c.add.ensures c.multiply.ensures
    ∙ ap (λ d. F.product inverse (F.sum (get_or row (length xs) 0) (opposite_of F d))) is
