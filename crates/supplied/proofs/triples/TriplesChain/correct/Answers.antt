use Rattle.std.proofs.Common.{arith}
use Rattle.std.proofs.lemmas.Grind.{common_steps}
use Rattle.supplied.proofs.Found.{corrects_none, corrects_some}
use Rattle.supplied.proofs.triples.TriplesChain.correct.Goals as goal

pub returns-in_err-x : goal.returns-in_err-x
returns-in_err-x c =
    corrects_none c.args.level c.args.block.now c.if-level-ne1.false c.if-block-ne3.false c.if-not-are_symbols.ensures
    c.args.scratch.now c.if-scratch-lt-SCRATCH_BYTES.false c.nearest.ensures c.in_err-x.ensures.ok_part (grind (arith, common_steps))

pub returns : goal.returns
returns c =
    corrects_some c.args.level c.args.block.now c.if-level-ne1.false c.if-block-ne3.false c.if-not-are_symbols.ensures
    c.in_ok-x.x c.args.scratch.now c.if-scratch-lt-SCRATCH_BYTES.false c.nearest.ensures c.in_ok-x.ensures.ok_part c.write.ensures
