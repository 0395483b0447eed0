use Rattle.std.proofs.Common.{◌≡◌, ◌++◌, string_bytes, decimal, codes, rules, ap, ◌∙◌, sym, append_assoc, append-nil}
use Rattle.std.specs.Option.{option_map}
use Rattle.any_field.specs.Kinds.{meant}
use Rattle.any_chain.specs.Kinds.{chain_meant}
use Rattle.code.specs.Held as codes_of
use Rattle.printing.specs.Sheets.{chain_lines, code_lines}
use Rattle.console.specs.declared.answer.Failure.TheVariants.{NotYet}
use Rattle.console.specs.declared.answer.Missing.TheVariants as Missing
use Rattle.console.specs.Answers.{text_of, text_on, sheet_text}
use Rattle.console.specs.Standing.{standing}
use Rattle.console.proofs.Stands.{stands, no_text}
use Rattle.console.proofs.session.Session.sheet.Goals.{in-Some+in_ok-lines+in_ok-push_str, in_default, in-Some-code+in_ok-lines-2+in_ok-push_str-2, in_default-code}
use Rattle.console.proofs.session.Session.sheet.Goals as goal

pub returns : goal.returns
returns c =
    let S = c.args.self.now in
    let chain_text = text_of chain_lines (option_map chain_meant S.chain) in
    let code_text = text_of code_lines (option_map (codes_of.meant chain_meant) S.code) in
    let with_chain : string_bytes c.match-self.text ≡ string_bytes c.in_ok-text.text ++ chain_text =
    elim c.match-self.branch [
      | in-Some+in_ok-lines+in_ok-push_str w ↦
          ap string_bytes w.text-is ∙ w.in_ok-push_str.ensures.bytes
          ∙ ap (λ bs. string_bytes c.in_ok-text.text ++ bs) (w.as_str.ensures.value ∙ w.in_ok-lines.ensures ∙ ap (λ o. text_of chain_lines (option_map chain_meant o)) (sym w.in-Some.is))
      | in_default w ↦
          ap string_bytes w.text-is ∙ sym (append-nil (string_bytes c.in_ok-text.text))
          ∙ ap (λ bs. string_bytes c.in_ok-text.text ++ bs) (sym (no_text S.chain chain_meant chain_lines w.in_default.not-Some))
    ] in
    let with_code : string_bytes c.match-self-2.text ≡ string_bytes c.match-self.text ++ code_text =
    elim c.match-self-2.branch [
      | in-Some-code+in_ok-lines-2+in_ok-push_str-2 w ↦
          ap string_bytes w.text-is ∙ w.in_ok-push_str-2.ensures.bytes
          ∙ ap (λ bs. string_bytes c.match-self.text ++ bs) (w.as_str-in-Some-code.ensures.value ∙ w.in_ok-lines-2.ensures ∙ ap (λ o. text_of code_lines (option_map (codes_of.meant chain_meant) o)) (sym w.in-Some-code.is))
      | in_default-code w ↦
          ap string_bytes w.text-is ∙ sym (append-nil (string_bytes c.match-self.text))
          ∙ ap (λ bs. string_bytes c.match-self.text ++ bs) (sym (no_text S.code (codes_of.meant chain_meant) code_lines w.in_default-code.not-Some))
    ] in
    let begun : string_bytes c.in_ok-text.text ≡ codes "field q " ++ decimal (meant c.in_ok-standing_field.field-0).q = search rules in
    with_code ∙ ap (λ bs. bs ++ code_text) (with_chain ∙ ap (λ bs. bs ++ chain_text) begun)
    ∙ append_assoc (codes "field q " ++ decimal (meant c.in_ok-standing_field.field-0).q) chain_text code_text
    ∙ append_assoc (codes "field q ") (decimal (meant c.in_ok-standing_field.field-0).q) (chain_text ++ code_text)
    ∙ ap (λ o. text_on Missing.Field (option_map meant o) (sheet_text (standing S))) (sym (stands S.field (NotYet Missing.Field) c.standing_field.ensures c.in_ok-standing_field.was))
