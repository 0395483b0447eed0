-- The table of the code is that of the definition.
use Rattle.std.proofs.Common.{map, refl, ap, arith, rules, tests}
use Rattle.std.specs.Slice.Iter.{iter_rest}
use Rattle.std.specs.Str.{bytes_eq}
use Rattle.std.proofs.lemmas.Grind.{common_steps}
use Rattle.std.proofs.lemmas.Iterator.{YieldsList-from_slice}
use Rattle.std.proofs.lemmas.Iterator.Search.{find_from_yields_List}
use Rattle.script.proofs.Lookup.{entry, spelled_find}
use Rattle.script.proofs.commands.name_of.Goals as goal

pub returns : goal.returns
returns c =
    let word = c.args.word.now in
    let table = iter_rest c.iter.result in
    let found = spelled_find word table c.find.result (ap (map entry) c.iter.ensures.rest) (find_from_yields_List (λ e. bytes_eq e.0.now word) _ _ c.find.result c.find.ensures.ran (YieldsList-from_slice table refl) (λ x b q k. search (rules, tests))) in
    let named = c.map.ensures.cases in
    grind (arith, common_steps)
