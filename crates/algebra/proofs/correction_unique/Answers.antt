-- What the call promises, by the lemmas over numbers.
use Rattle.algebra.proofs.CorrectionNumbers.{locator_exists, locator_agrees, agreeing_only_numbers}
use Rattle.algebra.proofs.correction_unique.Goals as goal

pub returns : goal.returns
returns g c =
    let F = g.F.Field.meaning c.args.f.now in
    let laws = g.met.F.Field.lawful c.args.f.now in
    record { exists = locator_exists F laws; agrees = locator_agrees F laws; only = agreeing_only_numbers F laws }
