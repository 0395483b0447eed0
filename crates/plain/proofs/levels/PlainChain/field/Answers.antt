use Rattle.std.proofs.Common.{sym}
use Rattle.chain.specs.Held.{held}
use Rattle.plain.specs.Lawful.{field_is}
use Rattle.plain.proofs.levels.PlainChain.field.Goals as goal

pub returns : goal.returns
returns g c = sym (field_is _ c.args.self.now.m (held c.args.self.now.kinds) _)
