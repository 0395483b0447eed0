-- What is left to show of `count_choices`.
use Rattle.std.proofs.Common.{◌≡◌, ◌-◌, ◌*◌, ◌≤◌, sym, ap, ◌∙◌, subst, arith}
use Rattle.chain.specs.Answers.{told}
use Rattle.code.proofs.Sums.{falling_small}
use Rattle.code.proofs.numbers.count_choices.Goals as goal

pub overflow_mul-product : goal.overflow_mul-product
overflow_mul-product g c =
    let l = c.args.l in
    let i = c.loop-i.i in
    let C = g.C.Chain.meaning c.args.chain.now in
    let told_is : c.levels-i-end.result ≡ C.s = c.levels-i-end.ensures ∙ ap (λ f. told f C.s) c.requires.sound in
    let small : c.loop-i.product * (l - i) ≤ 16777216
    = subst (λ x. x * (l - i) ≤ 16777216) (sym c.loop-i.invariant) (falling_small l i c.requires.small (omega (arith, c.requires.wide, c.requires.small, c.loop-i-test.true, told_is))) in
    omega arith
