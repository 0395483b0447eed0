use Rattle.std.proofs.Common.{◌≡◌, None, sym, subst}
use Rattle.chain.specs.Held.{held}
use Rattle.reed_solomon.specs.Code.{flaw}
use Rattle.reed_solomon.specs.Sizes.{size_most_of}
use Rattle.reed_solomon.proofs.ReedSolomonChain.distance.Goals as goal

pub overflow_sub-result : goal.overflow_sub-result
overflow_sub-result g c =
    let chain = c.in-Ok.chain.now in
    let none = subst (λ s. flaw (g.F.Field.meaning s.field) s.m (held s.sizes) ≡ None) (sym c.in-Ok.ensures.0) c.in-Ok.ensures.1 in
    size_most_of (g.F.Field.meaning chain.field) chain.m (held chain.sizes) c.args.level _ (sym none) c.in_ok-size_at-in-Ok.ensures
