use Rattle.std.proofs.Common.{◌≡◌, ◌<◌, ◌≤◌, length, sym, ap, ◌∙◌, subst, arith}
use Rattle.std.proofs.lemmas.List.{length-take-le}
use Rattle.field.specs.Words.{value_at}
use Rattle.field.proofs.WordLaws.{value_closed, value_or_0_is}
use Rattle.algebra.specs.Correction.{message_row}
use Rattle.algebra.specs.Symbols.{numbers, Symbols}
use Rattle.reed_solomon.specs.Words.{symbols_all, value_is}
use Rattle.reed_solomon.proofs.Powers.{message_row_is, message_row_symbols}
use Rattle.reed_solomon.proofs.equations.MessageEquationEquation.write_row.Goals as goal

pub write_powers-requires-clause-first : goal.write_powers-requires-clause-first
write_powers-requires-clause-first g c =
    let F = g.F.Field.meaning c.args.f.now in
    let laws = g.met.F.Field.lawful c.args.f.now in
    let l = c.args.self.now.locator.now in
    let all = symbols_all F l c.requires.fits in
    subst (λ e. e < F.q) (sym (c.value-e.ensures ∙ value_or_0_is laws c.args.x c.requires.point l all)) (value_closed laws c.args.x c.requires.point l all)

pub returns : goal.returns
returns g c =
    let F = g.F.Field.meaning c.args.f.now in
    let laws = g.met.F.Field.lawful c.args.f.now in
    let row = c.args.row.now in
    let k = c.args.self.now.k in
    let l = c.args.self.now.locator.now in
    let all = symbols_all F l c.requires.fits in
    let is : c.value-e.result ≡ value_at F c.args.x l = c.value-e.ensures ∙ value_or_0_is laws c.args.x c.requires.point l all in
    let small : c.value-e.result < F.q = subst (λ e. e < F.q) (sym is) (value_closed laws c.args.x c.requires.point l all) in
    let fits : k ≤ length row = omega (arith, c.requires.long) in
    let written = message_row_is laws row c.write_powers.new.out k c.value-e.result c.args.x c.args.y _ c.multiply.result small c.requires.point c.requires.symbol c.requires.long (length-take-le k row fits) c.write_powers.ensures.written c.multiply.ensures in
    record {
      written = written ∙ ap (λ e. message_row (numbers F) k e c.args.x c.args.y) (is ∙ value_is F l c.args.x);
      symbols = subst (Symbols F) (sym written) (message_row_symbols laws k c.value-e.result c.args.x c.args.y small c.requires.point c.requires.symbol);
    }
