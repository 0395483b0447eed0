-- The text of each call of a level.
use Rattle.std.proofs.Common.{rules, sym, subst}
use Rattle.script.specs.Commands.{view}
use Rattle.printing.specs.Texts.{encoded_text, corrected_text, stripped_text}
use Rattle.console.specs.Answers.{Answers, IfAnswered}
use Rattle.console.specs.Standing.{standing}
use Rattle.console.proofs.session.Session.carry_out.Goals as goal

pub returns-in-EncodeLevel-clause-answers : goal.returns-in-EncodeLevel-clause-answers
returns-in-EncodeLevel-clause-answers c =
    let asked = c.in-EncodeLevel in
    subst (λ k. IfAnswered c.chain_text.result (Answers (standing c.args.self.now) (view k))) (sym asked.is)
    (c.chain_text.ensures (λ C. encoded_text C asked.level asked.message.items) (λ x r gave. search rules))

pub returns-in-CorrectLevel-clause-answers : goal.returns-in-CorrectLevel-clause-answers
returns-in-CorrectLevel-clause-answers c =
    let asked = c.in-CorrectLevel in
    subst (λ k. IfAnswered c.chain_text-in-CorrectLevel.result (Answers (standing c.args.self.now) (view k))) (sym asked.is)
    (c.chain_text-in-CorrectLevel.ensures (λ C. corrected_text C asked.level asked.block.items c.args.self.now.scratch) (λ x r gave. search rules))

pub returns-in-StripLevel-clause-answers : goal.returns-in-StripLevel-clause-answers
returns-in-StripLevel-clause-answers c =
    let asked = c.in-StripLevel in
    subst (λ k. IfAnswered c.chain_text-in-StripLevel.result (Answers (standing c.args.self.now) (view k))) (sym asked.is)
    (c.chain_text-in-StripLevel.ensures (λ C. stripped_text C asked.level asked.block.items) (λ x r gave. search rules))
