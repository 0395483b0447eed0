use Rattle.std.proofs.Common.{Ok, Some, ap, ◌∙◌, sym}
use Rattle.std.specs.Option.{option_map}
use Rattle.any_chain.specs.Kinds.{chain_meant}
use Rattle.code.specs.Meaning.{joining}
use Rattle.code.specs.Numbers.{code_flaw}
use Rattle.console.specs.declared.answer.Answer.TheVariants as Answer
use Rattle.console.specs.declared.answer.Failure.TheVariants.{NotYet}
use Rattle.console.specs.declared.answer.Missing.TheVariants as Missing
use Rattle.any_field.specs.Kinds.{meant}
use Rattle.code.specs.Held.{meant as meant_code}
use Rattle.console.specs.Answers.{on, made_of}
use Rattle.console.proofs.Stands.{stands}
use Rattle.console.proofs.session.Session.make_code.Goals as goal

pub returns-clause-answer : goal.returns-clause-answer
returns-clause-answer c =
    let S = c.args.self.now in
    let entries = c.args.entries.now in
    let C = chain_meant c.in_ok-standing_chain.field-0 in
    ap (λ f. Ok (Answer.Code f)) (c.flaw.ensures ∙ ap code_flaw c.new-code.ensures.meaning ∙ ap (λ l. code_flaw (joining C l entries)) c.from.ensures)
    ∙ ap (λ o. on Missing.Chain (option_map chain_meant o) (λ C. Ok (Answer.Code (code_flaw (joining C c.args.l entries))))) (sym (stands S.chain (NotYet Missing.Chain) c.standing_chain.ensures c.in_ok-standing_chain.was))

pub returns-clause-leaves : goal.returns-clause-leaves
returns-clause-leaves c =
    let S = c.args.self.now in
    let entries = c.args.entries.now in
    let C = chain_meant c.in_ok-standing_chain.field-0 in
    let old = option_map (meant_code chain_meant) S.code in
    ap (λ x. record { field = option_map meant S.field; chain = option_map chain_meant S.chain; code = x; scratch = S.scratch })
    (ap Some (c.new-code.ensures.meaning ∙ ap (λ l. joining C l entries) c.from.ensures)
    ∙ ap (λ o. made_of (option_map chain_meant o) (λ D. joining D c.args.l entries) old) (sym (stands S.chain (NotYet Missing.Chain) c.standing_chain.ensures c.in_ok-standing_chain.was)))
