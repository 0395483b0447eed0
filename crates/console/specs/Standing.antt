-- What stands in a session: what the commands so far have made, by its meaning. Assumes nothing.
use Rattle.std.specs.Prelude.{ℕ, None, Option}
use Rattle.std.specs.Option.{option_map}
use Rattle.field.specs.Meaning as fields
use Rattle.chain.specs.Meaning as chains
use Rattle.code.specs.Held as codes
use Rattle.code.specs.Meaning as codes_of
use Rattle.any_field.specs.Kinds.{meant}
use Rattle.any_chain.specs.Kinds.{chain_meant}
use Rattle.console.specs.declared.session.Session.{Session}

-- scratch is the length of the scratch that is handed to the calls
pub record Standing : Type 0 where
  pub field : Option fields.Meaning
  pub chain : Option chains.Meaning
  pub code : Option codes_of.Meaning
  pub scratch : ℕ

abbrev pub standing : Session → Standing
standing s = record { field = option_map meant s.field; chain = option_map chain_meant s.chain; code = option_map (codes.meant chain_meant) s.code; scratch = s.scratch }

-- at the start
abbrev pub nothing : Standing
nothing = record { field = None; chain = None; code = None; scratch = 4096 }
