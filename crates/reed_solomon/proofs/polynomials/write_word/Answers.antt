use Rattle.std.proofs.Common.{◌<◌, length, ◌∙◌, arith}
use Rattle.field.proofs.WordLaws.{value_or_0_is}
use Rattle.reed_solomon.specs.Points.{word_more}
use Rattle.reed_solomon.proofs.polynomials.write_word.Goals as goal

pub loop-i-preserved : goal.loop-i-preserved
loop-i-preserved g c =
    let F = g.F.Field.meaning c.args.f.now in
    let h : c.loop-i.i < length c.loop-i.out = omega (arith, c.loop-i.auto.out) in
    let point : c.loop-i.i < F.q = omega (arith, h, c.loop-i.auto.out, c.requires.points) in
    word_more F c.loop-i.out c.args.message.now c.loop-i.i _ h (c.value.ensures ∙ value_or_0_is (g.met.F.Field.lawful c.args.f.now) c.loop-i.i point c.args.message.now c.requires.symbols) c.loop-i.invariant
