use Rattle.std.proofs.Common.{T, subst}
use Rattle.chain.specs.Held.{held}
use Rattle.plain.proofs.Answering.{corrected}
use Rattle.plain.proofs.levels.PlainChain.correct.Goals as goal

pub returns : goal.returns
returns g c =
    let self = c.args.self.now in
    corrected (g.met.F.Field.lawful self.field) self.m (held self.kinds) c.in_ok-checked.ensures.1 c.args.level c.in_ok-kind.kind c.in_ok-kind.ensures c.args.block.now c.args.scratch.now
    (record { long = c.if-block-self.false; all = subst T c.if-not-are_symbols.ensures tt }) c.if-scratch-lt-SCRATCH_BYTES.false c.correct.result c.correct.new.block c.correct.ensures
