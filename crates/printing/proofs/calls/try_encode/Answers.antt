use Rattle.std.proofs.Common.{length, refl, rules, ◌∙◌}
use Rattle.code.specs.Answers.{Encodes, encode_cause}
use Rattle.code.specs.Held.{meant}
use Rattle.code.specs.Numbers.{codeword}
use Rattle.printing.proofs.Telling.{told_so, told_by, codeword_is}
use Rattle.printing.proofs.calls.try_encode.Goals as goal

pub returns : goal.returns
returns g c =
    let M = meant g.C.Chain.meaning c.args.code.now in
    let xs = c.args.message.now in
    told_so _ _ _ c.written.result (λ t w.
    let kept : Encodes M xs w.0.now w.1 w.2.now = search rules in
    w.5 ∙ told_by (encode_cause M xs (length w.0.now)) (codeword M xs) w.0.now refl kept.result kept.after
    ∙ codeword_is M xs (length w.0.now) (w.3 ∙ c.word_length.ensures))
    c.written.ensures
