-- What is left to show of `add_row`.
use Rattle.code.specs.Held.{held}
use Rattle.code.specs.Meaning.{entry_at}
use Rattle.code.proofs.Joined.{block_more}
use Rattle.code.proofs.matrix.Matrix.add_row.Goals as goal

pub loop-j-preserved : goal.loop-j-preserved
loop-j-preserved g c =
    let a = c.args.self.now in
    block_more (g.F.Field.meaning c.args.f.now) (λ j. entry_at (held a) c.args.row j) c.args.word.now c.args.out.now a.width c.requires.entries c.requires.word c.requires.before c.requires.long
    c.loop-j.j c.entry-entry.result c.loop-j.out c.add_scaled.new.out c.loop-j-test.true c.loop-j.invariant c.entry-entry.ensures c.add_scaled.ensures.after
