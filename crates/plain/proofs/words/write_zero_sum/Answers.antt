use Rattle.std.proofs.Common.{◌≡◌, ◌<◌, ◌++◌, length, sym, ap, set, drop, ◌∙◌, subst, arith}
use Rattle.std.specs.Result.{result_unwrap_or}
use Rattle.field.specs.Meaning.{opposite_of}
use Rattle.field.specs.Words.{total}
use Rattle.field.proofs.Accepted.{value_is, opposite_or_0_is}
use Rattle.field.proofs.WordLaws.{total_closed}
use Rattle.plain.proofs.Blocks.{last_written}
use Rattle.plain.proofs.words.write_zero_sum.Goals as goal

pub returns : goal.returns
returns g c =
    let F = g.F.Field.meaning c.args.f.now in
    let lawful = g.met.F.Field.lawful c.args.f.now in
    let message = c.args.message.now in
    let sum : c.unwrap_or.result ≡ total F message = c.unwrap_or.ensures ∙ ap (λ r. result_unwrap_or r 0) c.total.ensures ∙ value_is _ _ c.requires.word.all in
    let small : c.unwrap_or.result < F.q = subst (λ x. x < F.q) (sym sum) (total_closed lawful message c.requires.word.all) in
    let last : c.negate.result ≡ opposite_of F (total F message) = c.negate.ensures.value ∙ opposite_or_0_is F _ small ∙ ap (opposite_of F) sum in
    ap (λ v. set (c.copy_from_slice.new.self ++ drop (length message) c.args.out.now) (length message) v) last
    ∙ ap (λ l. set (l ++ drop (length message) c.args.out.now) (length message) (opposite_of F (total F message))) c.copy_from_slice.ensures.after
    ∙ last_written message c.args.out.now _ (omega (arith, c.requires.word.long, c.requires.within))
