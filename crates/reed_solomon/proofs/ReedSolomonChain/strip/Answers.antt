use Rattle.std.proofs.Common.{T, sym, subst, arith}
use Rattle.chain.specs.Calls.{Strips}
use Rattle.chain.specs.Held.{held}
use Rattle.reed_solomon.specs.Code.{reed_solomon}
use Rattle.reed_solomon.proofs.Answering.{message_fits, word_fits, stripped}
use Rattle.reed_solomon.proofs.ReedSolomonChain.strip.Goals as goal

pub read_message-requires : goal.read_message-requires
read_message-requires g c =
    let self = c.args.self.now in
    let F = g.F.Field.meaning self.field in
    let laws = g.met.F.Field.lawful self.field in
    let all = subst T c.if-not-are_symbols.ensures tt in
    let few = message_fits F laws self.m (held self.sizes) (sym c.in_ok-checked.ensures.1) c.args.level c.in_ok-k.k c.in_ok-k.ensures c.args.block.now c.if-block-self.false all in
    let word = word_fits F laws self.m (held self.sizes) (sym c.in_ok-checked.ensures.1) c.args.level c.in_ok-k.k c.in_ok-k.ensures c.args.block.now c.if-block-self.false all in
    omega (arith, few.1, word.1, c.if-out-k.false)

pub returns : goal.returns
returns g c =
    let self = c.args.self.now in
    let F = g.F.Field.meaning self.field in
    let laws = g.met.F.Field.lawful self.field in
    let all = subst T c.if-not-are_symbols.ensures tt in
    subst (λ r. Strips (reed_solomon F self.m (held self.sizes)) c.args.level c.args.block.now c.args.out.now r c.read_message.new.out) (sym c.ok_or.ensures.value)
    (stripped F laws self.m (held self.sizes) (sym c.in_ok-checked.ensures.1) c.args.level c.in_ok-k.k c.in_ok-k.ensures c.args.block.now c.if-block-self.false all c.args.out.now c.if-out-k.false c.read_message.result c.read_message.new.out c.read_message.ensures)
