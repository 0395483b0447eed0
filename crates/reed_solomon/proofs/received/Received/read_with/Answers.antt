use Rattle.std.proofs.Common.{Some, None, sym, [], ◌∷◌, length, ◌∙◌, subst}
use Rattle.reed_solomon.specs.Code.{points}
use Rattle.reed_solomon.specs.Rows.{Outcome, rows_with}
use Rattle.reed_solomon.specs.Decoding.{Read}
use Rattle.reed_solomon.proofs.Decoding.{read_yes, read_no}
use Rattle.reed_solomon.specs.Words.{all_symbols}
use Rattle.reed_solomon.proofs.received.Received.read_with.Goals as goal

pub returns-in_err-find_message : goal.returns-in_err-find_message
returns-in_err-find_message g c =
    let F = g.F.Field.meaning c.args.self.now.field.now in
    let laws = g.met.F.Field.lawful c.args.self.now.field.now in
    let b = c.args.self.now.symbols.now in
    subst (λ r. Read F b c.args.out.now r c.args.out.now) (sym c.from_residual.ensures)
    (read_no F laws b c.args.self.now.points (all_symbols (g.F.Field.meaning c.args.self.now.field.now) c.args.self.now.symbols.now c.args.self.now.all) c.args.out.now c.find_message.new.xs
    (subst (λ k. Outcome F (rows_with F k (1 ∷ []) (points (length b)) b) k None c.find_message.new.xs) c.requires.long c.in_err-find_message.ensures))

pub returns : goal.returns
returns g c =
    let F = g.F.Field.meaning c.args.self.now.field.now in
    let laws = g.met.F.Field.lawful c.args.self.now.field.now in
    let b = c.args.self.now.symbols.now in
    read_yes F laws b c.args.self.now.points (all_symbols (g.F.Field.meaning c.args.self.now.field.now) c.args.self.now.symbols.now c.args.self.now.all) c.args.out.now c.find_message.new.xs c.copy_from_slice.new.self (c.find_message.auto.xs ∙ c.requires.long) c.copy_from_slice.ensures.after
    (subst (λ k. Outcome F (rows_with F k (1 ∷ []) (points (length b)) b) k (Some tt) c.find_message.new.xs) c.requires.long c.in_ok-find_message.ensures)
