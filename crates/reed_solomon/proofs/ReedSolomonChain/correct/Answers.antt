use Rattle.std.proofs.Common.{T, Ok, sym, subst}
use Rattle.chain.specs.Calls.{Corrects}
use Rattle.chain.specs.Held.{held}
use Rattle.reed_solomon.specs.Code.{reed_solomon}
use Rattle.reed_solomon.proofs.Answering.{message_fits, corrected, uncorrected}
use Rattle.reed_solomon.proofs.ReedSolomonChain.correct.Goals as goal

pub nearest_word-requires-clause-some : goal.nearest_word-requires-clause-some
nearest_word-requires-clause-some g c =
    let self = c.args.self.now in
    (message_fits (g.F.Field.meaning self.field) (g.met.F.Field.lawful self.field) self.m (held self.sizes) (sym c.in_ok-checked.ensures.1) c.args.level c.in_ok-k.k c.in_ok-k.ensures c.args.block.now c.if-block-self.false (subst T c.if-not-are_symbols.ensures tt)).0

pub nearest_word-requires-clause-few : goal.nearest_word-requires-clause-few
nearest_word-requires-clause-few g c =
    let self = c.args.self.now in
    (message_fits (g.F.Field.meaning self.field) (g.met.F.Field.lawful self.field) self.m (held self.sizes) (sym c.in_ok-checked.ensures.1) c.args.level c.in_ok-k.k c.in_ok-k.ensures c.args.block.now c.if-block-self.false (subst T c.if-not-are_symbols.ensures tt)).1

pub returns : goal.returns
returns g c =
    let self = c.args.self.now in
    let scratch = c.args.scratch.now in
    subst (λ b'. Corrects (reed_solomon (g.F.Field.meaning self.field) self.m (held self.sizes)) c.args.level c.args.block.now scratch (Ok tt) b' c.nearest_word.new.scratch) (sym c.copy_from_slice.ensures.after)
    (corrected (g.F.Field.meaning self.field) (g.met.F.Field.lawful self.field) self.m (held self.sizes) (sym c.in_ok-checked.ensures.1) c.args.level c.in_ok-k.k c.in_ok-k.ensures c.args.block.now c.if-block-self.false (subst T c.if-not-are_symbols.ensures tt) scratch c.nearest_word.new.scratch c.nearest_word.new.word c.if-scratch-lt-SCRATCH_BYTES.false c.in-Some.ensures)

pub returns-in_default : goal.returns-in_default
returns-in_default g c =
    let self = c.args.self.now in
    uncorrected (g.F.Field.meaning self.field) (g.met.F.Field.lawful self.field) self.m (held self.sizes) (sym c.in_ok-checked.ensures.1) c.args.level c.in_ok-k.k c.in_ok-k.ensures c.args.block.now c.if-block-self.false (subst T c.if-not-are_symbols.ensures tt) c.args.scratch.now c.nearest_word.new.scratch c.nearest_word.new.word c.if-scratch-lt-SCRATCH_BYTES.false c.in_default.ensures
