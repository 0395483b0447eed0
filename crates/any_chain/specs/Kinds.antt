-- The meaning of a chain of either kind. Assumes nothing.
use Rattle.chain.specs.Held.{held}
use Rattle.any_field.specs.Kinds.{meant}
use Rattle.chain.specs.Meaning.{Meaning}
use Rattle.plain.specs.Kinds.{plain}
use Rattle.reed_solomon.specs.Code.{reed_solomon}
use Rattle.any_chain.specs.declared.AnyChain.{AnyChain}
use Rattle.any_chain.specs.declared.AnyChain.TheVariants.{Plain, ReedSolomon}

abbrev pub chain_meant : AnyChain → Meaning
chain_meant (Plain c) = plain (meant c.field) c.m (held c.kinds)
chain_meant (ReedSolomon c) = reed_solomon (meant c.field) c.m (held c.sizes)
