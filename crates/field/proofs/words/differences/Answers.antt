use Rattle.std.proofs.Common.{◌<◌, length, ◌∙◌, arith}
use Rattle.field.proofs.Folds.{counted_other, counted_same, counted_all}
use Rattle.field.proofs.words.differences.Goals as goal
use Rattle.field.proofs.words.differences.Goals.{then-a-i, else-a-i}

pub loop-i-preserved : goal.loop-i-preserved
loop-i-preserved c =
    let a = c.args.a.now in
    let b = c.args.b.now in
    let i = c.loop-i.i in
    let la : i < length a = omega (arith, c.loop-i-test.true, c.min-i-end.ensures) in
    let lb : i < length b = omega (arith, c.loop-i-test.true, c.min-i-end.ensures) in
    elim c.if-a-i.branch [
      | then-a-i w ↦ (omega (arith, w.count-is, counted_other a b i la lb w.if-a-i.true, c.loop-i.invariant.0), omega (arith, w.count-is, c.loop-i.invariant.1))
      | else-a-i w ↦ (omega (arith, w.count-is, counted_same a b i la lb w.if-a-i.false, c.loop-i.invariant.0), omega (arith, w.count-is, c.loop-i.invariant.1))
    ]

pub returns : goal.returns
returns c = c.loop-i.invariant.0 ∙ counted_all c.args.a.now c.args.b.now c.loop-i.i (omega (arith, c.loop-i-test.false, c.min-i-end.ensures))
