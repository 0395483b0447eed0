use Rattle.std.proofs.Common.{◌≡◌, sym, ap, ◌∙◌, subst}
use Rattle.std.specs.Result.{result_unwrap_or}
use Rattle.field.specs.Meaning.{Exactly}
use Rattle.field.specs.Words.{inverse_or_0}
use Rattle.field.proofs.Accepted.{inverse_or_0_is}
use Rattle.field.proofs.Unique.{inverse_exact}
use Rattle.field.proofs.symbols.invert.Goals as goal

pub returns : goal.returns
returns g c =
    let F = g.F.Field.meaning c.args.f.now in
    let value : c.unwrap_or.result ≡ inverse_or_0 F c.args.a = c.unwrap_or.ensures ∙ ap (λ r. result_unwrap_or r 0) c.inverse.ensures in
    record {
      value = value;
      only = λ small not0.
          subst (Exactly F.q (λ b. F.product c.args.a b ≡ 1)) (sym (value ∙ inverse_or_0_is F c.args.a small not0))
          (inverse_exact (g.met.F.Field.lawful c.args.f.now) c.args.a small not0);
    }
