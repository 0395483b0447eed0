use Rattle.chain.proofs.Facts.{level_facts}
use Rattle.chain.proofs.levels.radius.Goals as goal

pub returns-in_err-distance-clause-follows : goal.returns-in_err-distance-clause-follows
returns-in_err-distance-clause-follows g c none i level = level_facts (g.met.C.Chain.lawful c.args.c.now none) i level

pub returns-clause-follows : goal.returns-clause-follows
returns-clause-follows g c none i level = level_facts (g.met.C.Chain.lawful c.args.c.now none) i level
