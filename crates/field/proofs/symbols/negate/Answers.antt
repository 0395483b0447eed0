use Rattle.std.proofs.Common.{◌≡◌, sym, ap, ◌∙◌, subst}
use Rattle.std.specs.Result.{result_unwrap_or}
use Rattle.field.specs.Meaning.{Exactly}
use Rattle.field.specs.Words.{opposite_or_0}
use Rattle.field.proofs.Accepted.{opposite_or_0_is}
use Rattle.field.proofs.Unique.{opposite_exact}
use Rattle.field.proofs.symbols.negate.Goals as goal

pub returns : goal.returns
returns g c =
    let F = g.F.Field.meaning c.args.f.now in
    let value : c.unwrap_or.result ≡ opposite_or_0 F c.args.a = c.unwrap_or.ensures ∙ ap (λ r. result_unwrap_or r 0) c.opposite.ensures in
    record {
      value = value;
      only = λ small.
          subst (Exactly F.q (λ b. F.sum c.args.a b ≡ 0)) (sym (value ∙ opposite_or_0_is F c.args.a small))
          (opposite_exact (g.met.F.Field.lawful c.args.f.now) c.args.a small);
    }
