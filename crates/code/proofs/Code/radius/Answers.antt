-- What is left to show of `radius`.
use Rattle.code.specs.Held.{meant}
use Rattle.code.proofs.Apart.{separates}
use Rattle.code.proofs.Respect.{respected}
use Rattle.code.proofs.Code.radius.Goals as goal

pub returns-clause-separates : goal.returns-clause-separates
returns-clause-separates g c = separates (meant g.C.Chain.meaning c.args.self.now) (g.met.C.Chain.lawful c.args.self.now.chain)

pub returns-clause-respected : goal.returns-clause-respected
returns-clause-respected g c = respected (meant g.C.Chain.meaning c.args.self.now) (g.met.C.Chain.lawful c.args.self.now.chain)
