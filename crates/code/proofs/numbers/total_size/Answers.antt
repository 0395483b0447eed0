-- What is left to show of `total_size`.
use Rattle.std.proofs.Common.{◌≡◌, ◌+◌, ◌≤◌, refl, ap, ◌∙◌, arith}
use Rattle.chain.specs.Answers.{told}
use Rattle.code.specs.Numbers.{sum_to}
use Rattle.code.proofs.Sums.{sizes_small, sum_more}
use Rattle.code.proofs.numbers.total_size.Goals as goal

pub overflow_add-sum : goal.overflow_add-sum
overflow_add-sum g c =
    let C = g.C.Chain.meaning c.args.chain.now in
    let i = c.loop-level.level in
    let s_is : c.levels-level-end.result ≡ C.s = c.levels-level-end.ensures ∙ ap (λ f. told f C.s) c.requires in
    let more : c.loop-level.sum + c.size_of-sum.result ≡ sum_to C.size i = sum_more C.size i _ _ i c.loop-level.auto.level c.loop-level.invariant c.size_of-sum.ensures refl in
    let small : sum_to C.size i ≤ 128 = sizes_small C (g.met.C.Chain.lawful c.args.chain.now c.requires) i (omega arith) in
    omega arith

pub loop-level-preserved : goal.loop-level-preserved
loop-level-preserved g c = sum_more (g.C.Chain.meaning c.args.chain.now).size c.loop-level.level _ _ _ c.loop-level.auto.level c.loop-level.invariant c.size_of-sum.ensures (omega arith)

pub returns-2 : goal.returns-2
returns-2 g c =
    let C = g.C.Chain.meaning c.args.chain.now in
    let s_is : c.levels-level-end.result ≡ C.s = c.levels-level-end.ensures ∙ ap (λ f. told f C.s) c.requires in
    sum_more C.size c.loop-level.level _ _ _ c.loop-level.auto.level c.loop-level.invariant c.size_of-sum.ensures (omega arith)
