-- The laws of a field of either kind are those of the field inside. Assumes nothing.
use Rattle.field.specs.Meaning.{IsField}
use Rattle.gf16.specs.Tables as sixteen
use Rattle.gfp.specs.Remainders as prime
use Rattle.any_field.specs.Kinds.{meant}
use Rattle.any_field.specs.declared.AnyField.{AnyField}
use Rattle.any_field.specs.declared.AnyField.TheVariants.{Sixteen, Prime}

pub meant_field : (f : AnyField) → IsField (meant f)
meant_field (Sixteen f) = sixteen.is_field
meant_field (Prime f) = prime.is_field f.p f.prime
