use Rattle.std.proofs.Common.{length, unwrap_or, sym, ap, ◌∙◌}
use Rattle.chain.specs.Answers.{correct_cause, word_near}
use Rattle.printing.specs.Texts.{corrected_text}
use Rattle.printing.proofs.Telling.{told_so, written_back, told_by, corrected_is}
use Rattle.printing.proofs.calls.try_correct_level.Goals as goal

pub returns : goal.returns
returns g c =
    let C = g.C.Chain.meaning c.args.chain.now in
    let i = c.args.level in
    let b = c.as_mut_slice.result.now in
    let n = length c.as_mut_slice-2.result.now in
    told_so _ _ _ c.told.result (λ t text. text ∙
    told_by (correct_cause C i b n) (unwrap_or (word_near C i b) b) b (c.as_slice.ensures.value ∙ written_back c.correct-result.new.block _ _ (sym (c.correct-result.auto.block ∙ c.as_mut_slice.ensures.len))) c.correct-result.ensures.result c.correct-result.ensures.after
    ∙ corrected_is C i b n c.args.scratch (c.as_mut_slice-2.ensures.len ∙ c.in_ok-spare.ensures.len ∙ c.min.ensures)
    ∙ ap (λ b. corrected_text C i b c.args.scratch) (c.as_mut_slice.ensures.value ∙ c.in_ok-kept.ensures.items_if_clones_equal (λ x y e. e)))
    c.told.ensures
