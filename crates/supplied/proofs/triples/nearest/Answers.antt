-- A row of the table is the word of its number.
use Rattle.std.proofs.Common.{◌≤◌, [], slice_index_or, arith, rules, tests}
use Rattle.std.proofs.lemmas.Grind.{common_steps}
use Rattle.std.proofs.lemmas.Iterator.{first_from_Range}
use Rattle.field.specs.Places.{distance}
use Rattle.supplied.specs.declared.triples.TheConstants.{WORDS}
use Rattle.supplied.specs.Lawful.{word_rule}
use Rattle.supplied.proofs.triples.nearest.Goals as goal

pub returns : goal.returns
returns c =
    let block = c.args.block.now in
    let found = first_from_Range _ _ _ c.find.result (λ x. distance (slice_index_or WORDS x []) block ≤ c.args.most) (λ x. distance (slice_index_or WORDS x []) block ≤ c.args.most → ⊥) c.find.ensures.ran (λ x q k. search (rules, tests)) (λ x q k. search (rules, tests)) in
    grind (arith, common_steps, word_rule)
