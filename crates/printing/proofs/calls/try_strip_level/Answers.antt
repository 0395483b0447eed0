use Rattle.std.proofs.Common.{length, unwrap_or, refl, rules, ap, ◌∙◌}
use Rattle.std.specs.Result as results
use Rattle.chain.specs.Answers.{strip_cause, message_of}
use Rattle.chain.specs.Calls.{Strips}
use Rattle.printing.proofs.Telling.{told_so, told_by, stripped_is}
use Rattle.printing.proofs.calls.try_strip_level.Goals as goal

pub returns : goal.returns
returns g c =
    let C = g.C.Chain.meaning c.args.chain.now in
    let i = c.args.level in
    let b = c.args.block.now in
    told_so _ _ _ c.written.result (λ t w.
    let kept : Strips C i b w.0.now w.1 w.2.now = search rules in
    w.5 ∙ told_by (strip_cause C i b (length w.0.now)) (unwrap_or (message_of C i b) w.0.now) w.0.now refl kept.result kept.after
    ∙ stripped_is C i b w.0.now (w.3 ∙ c.unwrap_or.ensures ∙ ap (λ r. results.result_unwrap_or r 0) c.size.ensures))
    c.written.ensures
