use Rattle.std.proofs.Common.{◌≡◌, string_bytes, rules}
use Rattle.refusal.specs.Numbers.{number_or_0}
use Rattle.chain.specs.Answers.{told}
use Rattle.printing.specs.Sheets.{level_line, chain_line}
use Rattle.printing.proofs.Writing.{parts_whole}
use Rattle.printing.proofs.sheet.chain_lines.Goals as goal

pub returns : goal.returns
returns g c =
    let C = g.C.Chain.meaning c.args.chain.now in
    let head : string_bytes c.in_ok-text.text ≡ chain_line (number_or_0 C.flaw) (told C.flaw C.m) (told C.flaw C.s) = search rules in
    parts_whole (level_line C) (c.in_ok-push_parts.ensures (level_line C) (λ i low high r text. search rules)) head c.levels-s.ensures
