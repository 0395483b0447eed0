use Rattle.std.proofs.Common.{rules, ◌≡◌, reverse, refl, ◌∙◌}
use Rattle.std.specs.List.{fold}
use Rattle.std.proofs.iter.runs.Made.{chains}
use Rattle.field.specs.Words.{sum_or_0, product_or_0, value_or_0}
use Rattle.field.proofs.Folds.{fold_back}
use Rattle.field.proofs.words.value.Goals as goal

pub returns : goal.returns
returns g c =
    let F = g.F.Field.meaning c.args.f.now in
    let x = c.args.x in
    let folded : c.fold.result ≡ fold (λ v a. sum_or_0 F a (product_or_0 F x v)) 0 (reverse c.args.coefficients.now) = search (rules, chains) in
    folded ∙ fold_back (value_or_0 F x) (λ a v. sum_or_0 F a (product_or_0 F x v)) 0 refl (λ _ _. refl) c.args.coefficients.now
