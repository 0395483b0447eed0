use Rattle.std.proofs.Common.{length, refl, rules, ◌∙◌}
use Rattle.chain.specs.Answers.{encode_cause}
use Rattle.chain.specs.Calls.{Encodes}
use Rattle.printing.proofs.Telling.{told_so, told_by, encoded_is}
use Rattle.printing.proofs.calls.try_encode_level.Goals as goal

pub returns : goal.returns
returns g c =
    let C = g.C.Chain.meaning c.args.chain.now in
    let i = c.args.level in
    let xs = c.args.message.now in
    told_so _ _ _ c.written.result (λ t w.
    let kept : Encodes C i xs w.0.now w.1 w.2.now = search rules in
    w.5 ∙ told_by (encode_cause C i xs (length w.0.now)) (C.encoding i xs) w.0.now refl kept.result kept.after
    ∙ encoded_is C i xs (length w.0.now) (w.3 ∙ c.length.ensures))
    c.written.ensures
