use Rattle.field.proofs.Accepted.{accepted}
use Rattle.gf16.specs.Tables.{own_opposite}
use Rattle.gf16.proofs.Gf16Field.opposite.Goals as goal

pub returns : goal.returns
returns c = accepted c.args.a 16 _ _ c.if-a-ge16.false (own_opposite c.args.a c.if-a-ge16.false)
