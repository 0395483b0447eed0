-- What the call promises, by the lemmas over numbers.
use Rattle.algebra.proofs.Elimination.{test_decides, few_zero_columns_numbers}
use Rattle.algebra.proofs.columns_tested.Goals as goal

pub returns : goal.returns
returns g c =
    let F = g.F.Field.meaning c.args.f.now in
    let laws = g.met.F.Field.lawful c.args.f.now in
    record { decides = test_decides F laws; few = few_zero_columns_numbers F laws }
