use Rattle.std.proofs.Common.{◌<◌, length, arith}
use Rattle.reed_solomon.proofs.Powers.{written_more}
use Rattle.reed_solomon.proofs.equations.write_powers.Goals as goal

pub loop-entry-preserved : goal.loop-entry-preserved
loop-entry-preserved g c =
    let h : c.loop-entry.entry-index < length c.loop-entry.out = omega (arith, c.loop-entry.auto.out) in
    written_more (g.met.F.Field.lawful c.args.f.now) c.loop-entry.out _ c.args.a c.args.x c.loop-entry.entry-index c.loop-entry.p _ h c.loop-entry.auto.out c.requires.point c.multiply-p.ensures c.loop-entry.invariant
