use Rattle.std.proofs.Common.{◌≡◌, ◌+◌, ◌-◌, ◌/◌, ◌<◌, Some, None, length, take, sym, ap, ◌∙◌, subst, arith}
use Rattle.field.specs.Places.{distance}
use Rattle.std.proofs.ByRecursion.{All-take}
use Rattle.std.proofs.lemmas.List.{length-take-le}
use Rattle.reed_solomon.specs.Code.{points, rs_word}
use Rattle.reed_solomon.specs.Rows.{Outcome, rows_with}
use Rattle.reed_solomon.specs.Decoding.{Nearest}
use Rattle.reed_solomon.proofs.Decoding.{with_one, nearest_none, nearest_far, nearest_found}
use Rattle.reed_solomon.specs.Words.{all_symbols, symbols_all}
use Rattle.reed_solomon.proofs.received.Received.find_word.Goals as goal

pub returns-in_err-find_message : goal.returns-in_err-find_message
returns-in_err-find_message g c =
    let F = g.F.Field.meaning c.args.self.now.field.now in
    let laws = g.met.F.Field.lawful c.args.self.now.field.now in
    let b = c.args.self.now.symbols.now in
    let k = length c.args.message.now in
    let t = (length b - k) / 2 in
    let xs = c.locate.new.xs in
    let long : length xs ≡ t + (k + t) = c.locate.auto.xs ∙ c.requires.locator in
    let within : t < length xs = omega (arith, long, c.requires.some) in
    subst (λ r. Nearest F k t b r c.args.word.now) (sym c.from_residual-in_err-find_message.ensures)
    (nearest_none F laws b c.args.self.now.points (all_symbols (g.F.Field.meaning c.args.self.now.field.now) c.args.self.now.symbols.now c.args.self.now.all) k t (take t xs) (All-take (λ x. x < F.q) t xs c.in_ok-locate.ensures.0) (length-take-le t xs (omega (arith, within))) (omega (arith, c.requires.few)) c.in_ok-locate.ensures.1 c.find_message.new.xs c.args.word.now (subst (λ E. Outcome F (rows_with F k E (points (length b)) b) k None c.find_message.new.xs) (with_one F xs t within) c.in_err-find_message.ensures))

pub write_word-requires : goal.write_word-requires
write_word-requires g c = record { points = omega (arith, c.requires.word, c.args.self.now.points); symbols = symbols_all (g.F.Field.meaning c.args.self.now.field.now) _ c.in_ok-find_message.ensures.0 }

pub returns-then-distance-t : goal.returns-then-distance-t
returns-then-distance-t g c =
    let F = g.F.Field.meaning c.args.self.now.field.now in
    let laws = g.met.F.Field.lawful c.args.self.now.field.now in
    let b = c.args.self.now.symbols.now in
    let k = length c.args.message.now in
    let t = (length b - k) / 2 in
    let xs = c.locate.new.xs in
    let long : length xs ≡ t + (k + t) = c.locate.auto.xs ∙ c.requires.locator in
    let within : t < length xs = omega (arith, long, c.requires.some) in
    let f = c.find_message.new.xs in
    let word : c.write_word.new.out ≡ rs_word F (length b) f = c.write_word.ensures ∙ ap (λ m. rs_word F m f) c.requires.word in
    nearest_far F laws b c.args.self.now.points (all_symbols (g.F.Field.meaning c.args.self.now.field.now) c.args.self.now.symbols.now c.args.self.now.all) k t (take t xs) (All-take (λ x. x < F.q) t xs c.in_ok-locate.ensures.0) (length-take-le t xs (omega (arith, within))) (omega (arith, c.requires.few)) c.in_ok-locate.ensures.1 f c.write_word.new.out c.find_message.auto.xs (subst (λ E. Outcome F (rows_with F k E (points (length b)) b) k (Some tt) c.find_message.new.xs) (with_one F xs t within) c.in_ok-find_message.ensures) (λ near. omega (arith, near, c.if-distance-t.true, c.distance.ensures, ap (λ w. distance w b) word))

pub returns : goal.returns
returns g c =
    let F = g.F.Field.meaning c.args.self.now.field.now in
    let laws = g.met.F.Field.lawful c.args.self.now.field.now in
    let b = c.args.self.now.symbols.now in
    let k = length c.args.message.now in
    let t = (length b - k) / 2 in
    let xs = c.locate.new.xs in
    let long : length xs ≡ t + (k + t) = c.locate.auto.xs ∙ c.requires.locator in
    let within : t < length xs = omega (arith, long, c.requires.some) in
    let f = c.find_message.new.xs in
    let word : c.write_word.new.out ≡ rs_word F (length b) f = c.write_word.ensures ∙ ap (λ m. rs_word F m f) c.requires.word in
    nearest_found F laws b c.args.self.now.points (all_symbols (g.F.Field.meaning c.args.self.now.field.now) c.args.self.now.symbols.now c.args.self.now.all) k t (take t xs) (All-take (λ x. x < F.q) t xs c.in_ok-locate.ensures.0) (length-take-le t xs (omega (arith, within))) (omega (arith, c.requires.few)) c.in_ok-locate.ensures.1 f c.write_word.new.out c.find_message.auto.xs c.in_ok-find_message.ensures.0 (omega (arith, c.if-distance-t.false, c.distance.ensures, ap (λ w. distance w b) word)) word
