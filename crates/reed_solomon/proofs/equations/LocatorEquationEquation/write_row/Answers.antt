use Rattle.std.proofs.Common.{◌≤◌, length, sym, ◌∙◌, subst, arith}
use Rattle.std.proofs.lemmas.List.{length-take-le}
use Rattle.algebra.specs.Symbols.{Symbols}
use Rattle.reed_solomon.proofs.Powers.{locator_row_is, locator_row_symbols, middle_long}
use Rattle.reed_solomon.proofs.equations.LocatorEquationEquation.write_row.Goals as goal

pub returns : goal.returns
returns g c =
    let F = g.F.Field.meaning c.args.f.now in
    let laws = g.met.F.Field.lawful c.args.f.now in
    let row = c.args.row.now in
    let t = c.args.self.now.t in
    let n = c.args.self.now.n in
    let a = c.write_powers-top.new.out in
    let fits : t ≤ length row = omega (arith, c.requires.long) in
    let written = locator_row_is laws row a c.write_powers.new.out t n c.args.x c.args.y _ _ _ c.write_powers-top.result c.negate-2.result c.requires.point c.requires.symbol c.requires.long (length-take-le t row fits) (middle_long row a t n c.requires.long (c.write_powers-top.auto.out ∙ length-take-le t row fits)) c.write_powers-top.ensures.written c.write_powers-top.ensures.next c.negate.ensures.value c.write_powers.ensures.written c.negate-2.ensures.value in
    record { written = written; symbols = subst (Symbols F) (sym written) (locator_row_symbols laws t n c.args.x c.args.y c.requires.point c.requires.symbol) }
