use Rattle.std.proofs.Common.{◌-◌, length, sym, ◌∙◌, subst, arith}
use Rattle.algebra.specs.Correction.{locator_rows}
use Rattle.algebra.specs.Symbols.{numbers}
use Rattle.reed_solomon.specs.Code.{points}
use Rattle.reed_solomon.specs.Rows.{Outcome}
use Rattle.reed_solomon.proofs.Decoding.{located_free, located_found}
use Rattle.reed_solomon.specs.Words.{all_symbols}
use Rattle.reed_solomon.proofs.received.Received.locate.Goals as goal

pub returns-then-t-eq0 : goal.returns-then-t-eq0
returns-then-t-eq0 g c =
    located_free (g.F.Field.meaning c.args.self.now.field.now) (g.met.F.Field.lawful c.args.self.now.field.now) c.args.self.now.symbols.now c.args.self.now.points (all_symbols (g.F.Field.meaning c.args.self.now.field.now) c.args.self.now.symbols.now c.args.self.now.all) c.args.k c.args.t c.args.xs.now c.if-t-eq0.true c.requires.unknowns

pub returns : goal.returns
returns g c =
    let F = g.F.Field.meaning c.args.self.now.field.now in
    let b = c.args.self.now.symbols.now in
    let n = length c.args.xs.now - c.args.t in
    located_found F (g.met.F.Field.lawful c.args.self.now.field.now) b c.args.self.now.points (all_symbols (g.F.Field.meaning c.args.self.now.field.now) c.args.self.now.symbols.now c.args.self.now.all) c.args.k c.args.t c.find_locator.new.xs c.find_locator.result n (c.find_locator.auto.xs ∙ c.requires.long) (omega (arith, c.requires.long)) (omega (arith, c.requires.long, c.requires.few))
    (subst (λ k. Outcome F (locator_rows (numbers F) c.args.t n (points (length b)) b) k c.find_locator.result c.find_locator.new.xs) (sym c.find_locator.auto.xs) c.find_locator.ensures)
