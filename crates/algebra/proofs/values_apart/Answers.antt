-- What the call promises, by the lemmas over numbers.
use Rattle.algebra.proofs.OverNumbers.{values_apart_numbers}
use Rattle.algebra.proofs.values_apart.Goals as goal

pub returns : goal.returns
returns g c = values_apart_numbers (g.F.Field.meaning c.args.f.now) (g.met.F.Field.lawful c.args.f.now)
