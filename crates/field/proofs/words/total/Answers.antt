use Rattle.std.proofs.Common.{rules, ◌≡◌, T, reverse, refl, ◌∙◌, subst}
use Rattle.std.specs.List.{fold}
use Rattle.std.proofs.iter.runs.Made.{chains}
use Rattle.field.specs.Words.{sum_or_0}
use Rattle.field.proofs.Accepted.{passed}
use Rattle.field.proofs.Folds.{fold_back}
use Rattle.field.proofs.WordLaws.{total_or_0, total_or_0_is}
use Rattle.field.proofs.words.total.Goals as goal

pub returns : goal.returns
returns g c =
    let F = g.F.Field.meaning c.args.f.now in
    let xs = c.args.xs.now in
    let all = subst T c.if-not-are_symbols.ensures tt in
    let folded : c.fold.result ≡ fold (λ s x. sum_or_0 F x s) 0 (reverse xs) = search (rules, chains) in
    passed _ _ _ all (folded ∙ fold_back (total_or_0 F) (sum_or_0 F) 0 refl (λ _ _. refl) xs ∙ total_or_0_is (g.met.F.Field.lawful c.args.f.now) xs all)
