-- What a field of either kind means, and which one has q symbols. Assumes nothing.
use Rattle.std.specs.Prelude.{ℕ, cond, Ok, Result, ◌==◌}
use Rattle.std.specs.Result.{result_map_both}
use Rattle.refusal.specs.declared.Refusal.{Refusal}
use Rattle.field.specs.Meaning.{Meaning}
use Rattle.gf16.specs.Product.{sixteen}
use Rattle.gfp.specs.Modulo.{modulo, made}
use Rattle.any_field.specs.declared.AnyField.{AnyField}
use Rattle.any_field.specs.declared.AnyField.TheVariants.{Sixteen, Prime}

-- the meaning of the field inside
abbrev pub meant : AnyField → Meaning
meant (Sixteen f) = sixteen
meant (Prime f) = modulo f.p

-- GF(16) at 16, else GF(p) where p = q is supported, else its refusal
abbrev pub of_order : ℕ → Result Meaning Refusal
of_order q = cond (q == 16) (Ok sixteen) (result_map_both modulo (λ e. e) (made q))
