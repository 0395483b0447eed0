use Rattle.std.proofs.Common.{◌≡◌, ◌<◌, true, cond, T, eqb, length, sym, ap, ◌∙◌, subst, arith, lt→ltb}
use lib.Dec.{eqb_refl}
use Rattle.field.specs.Words.{plus_scaled, addable, done_if}
use Rattle.field.proofs.Accepted.{both_hold}
use Rattle.field.proofs.Tests.{true_is}
use Rattle.field.proofs.WordLaws.{plus_scaled_or_0_is}
use Rattle.field.proofs.words.add_scaled.Goals as goal

pub returns : goal.returns
returns g c =
    let F = g.F.Field.meaning c.args.f.now in
    let a = c.args.a in
    let out = c.args.out.now in
    let v = c.args.v.now in
    let small : a < F.q = omega (arith, c.if-a-order.false, c.order.ensures) in
    let out_all = subst T c.if-not-are_symbols.ensures tt in
    let v_all = subst T c.if-not-are_symbols-2.ensures tt in
    let good : addable F a out v ≡ true = true_is _ (both_hold _ _ (both_hold _ _ (both_hold _ _ (lt→ltb _ _ small) out_all) v_all) (subst (λ n. T (eqb (length out) n)) c.if-out-v.false (eqb_refl (length out)))) in
    record {
      answer = sym (ap done_if good);
      after = c.add_multiple.ensures ∙ plus_scaled_or_0_is (g.met.F.Field.lawful c.args.f.now) a small out v out_all v_all ∙ sym (ap (λ b. cond b (plus_scaled F a out v) out) good);
    }
