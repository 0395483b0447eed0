use Rattle.std.proofs.Common.{◌≡◌, ℕ, ◌*◌, ◌%◌, Some, None, Option, ◌==◌, eqb, ◌∙◌, sym, subst, arith, eqb→eq, Bool, T}
use lib.Dec.{eqb_refl}
use Rattle.std.specs.Option.{ok_or}
use Rattle.refusal.specs.declared.Refusal.TheVariants.{BadArgument}
use Rattle.field.specs.Answers.{inverted}
use Rattle.field.proofs.Accepted.{accepted_but_0}
use Rattle.field.proofs.Tests.{true_is, T_is}
use Rattle.field.proofs.Unique.{inverse_is}
use Rattle.gfp.specs.Modulo.{modulo}
use Rattle.gfp.specs.Remainders.{is_field}
use Rattle.gfp.proofs.Finding.{Finds, found_below}
use Rattle.gfp.proofs.GfPField.inverse.Goals as goal

pub returns : goal.returns
returns c = c.ok_or.ensures.value ∙ answered c.inverse_of.result (subst (Finds test 0 p) (sym c.inverse_of.ensures) (found_below test p))
  where
    p : ℕ
    p = c.args.self.now.p

    a : ℕ
    a = c.args.a

    test : ℕ → Bool
    test b = a * b % p == 1

    answered : (o : Option ℕ) → Finds test 0 p o → ok_or o BadArgument ≡ inverted (modulo p) a
    answered (Some b) h = accepted_but_0 a p _ _ c.if-a-self.false c.if-a-eq0.false (inverse_is (is_field p c.args.self.now.prime) a b c.if-a-self.false c.if-a-eq0.false h.1 (eqb→eq _ _ (T_is _ h.2)))
    answered None h =
        let inverse = (is_field p c.args.self.now.prime).has_inverse a c.if-a-self.false c.if-a-eq0.false in
        absurd (h inverse.0 (omega arith) inverse.1 (true_is _ (subst (λ n. T (eqb n 1)) (sym inverse.2) (eqb_refl 1))))
