-- What the call promises, by the lemmas over numbers.
use Rattle.algebra.proofs.OverNumbers.{nearest_only}
use Rattle.algebra.proofs.nearest_only.Goals as goal

pub returns : goal.returns
returns c = nearest_only
