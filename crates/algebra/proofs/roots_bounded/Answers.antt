-- What the call promises, by the lemmas over numbers.
use Rattle.algebra.proofs.OverNumbers.{roots_bounded}
use Rattle.algebra.proofs.roots_bounded.Goals as goal

pub returns : goal.returns
returns g c = roots_bounded (g.F.Field.meaning c.args.f.now) (g.met.F.Field.lawful c.args.f.now)
