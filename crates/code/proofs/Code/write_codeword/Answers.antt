-- What is left to show of `write_codeword`.
use Rattle.std.proofs.Common.{◌≡◌, ◌+◌, ◌-◌, replicate, sym, refl, ap, ◌∙◌, subst, arith}
use Rattle.chain.specs.Answers.{told}
use Rattle.chain.specs.Meaning.{Message}
use Rattle.code.specs.Held.{meant}
use Rattle.code.proofs.Levels.{blocks_none, step}
use Rattle.code.proofs.Sound.{sound}
use Rattle.code.proofs.Code.write_codeword.Goals as goal

pub loop-level-init : goal.loop-level-init
loop-level-init g c =
    let self = c.args.self.now in
    let M = meant g.C.Chain.meaning self in
    let s = sound M c.requires.sound in
    let zeros = c.fill.ensures.after (λ y e. e) ∙ ap (λ n. replicate n 0) c.requires.long in
    record { added = blocks_none M s (g.met.C.Chain.lawful self.chain s.none) c.args.message.now c.requires.word c.fill.new.self zeros; left = refl }

pub split_at-requires : goal.split_at-requires
split_at-requires g c =
    let self = c.args.self.now in
    let M = meant g.C.Chain.meaning self in
    let s = sound M c.requires.sound in
    let at = step M s (g.met.C.Chain.lawful self.chain s.none) c.args.message.now c.requires.word _ _ _ _ _ c.loop-level.auto.level c.loop-level-test.true c.levels-level-end.ensures c.size_of.ensures c.loop-level.invariant.added c.loop-level.invariant.left in
    at.fits

pub add_level-requires-clause-part : goal.add_level-requires-clause-part
add_level-requires-clause-part g c =
    let self = c.args.self.now in
    let M = meant g.C.Chain.meaning self in
    let s = sound M c.requires.sound in
    let at = step M s (g.met.C.Chain.lawful self.chain s.none) c.args.message.now c.requires.word _ _ _ _ _ c.loop-level.auto.level c.loop-level-test.true c.levels-level-end.ensures c.size_of.ensures c.loop-level.invariant.added c.loop-level.invariant.left in
    subst (Message M.chain c.loop-level.level) (sym c.split_at.ensures.front) at.message

pub add_level-requires-clause-before : goal.add_level-requires-clause-before
add_level-requires-clause-before g c =
    let self = c.args.self.now in
    let M = meant g.C.Chain.meaning self in
    let s = sound M c.requires.sound in
    let at = step M s (g.met.C.Chain.lawful self.chain s.none) c.args.message.now c.requires.word _ _ _ _ _ c.loop-level.auto.level c.loop-level-test.true c.levels-level-end.ensures c.size_of.ensures c.loop-level.invariant.added c.loop-level.invariant.left in
    at.before

pub loop-level-preserved : goal.loop-level-preserved
loop-level-preserved g c =
    let self = c.args.self.now in
    let M = meant g.C.Chain.meaning self in
    let s = sound M c.requires.sound in
    let at = step M s (g.met.C.Chain.lawful self.chain s.none) c.args.message.now c.requires.word _ _ _ _ _ c.loop-level.auto.level c.loop-level-test.true c.levels-level-end.ensures c.size_of.ensures c.loop-level.invariant.added c.loop-level.invariant.left in
    let next : c.loop-level.level + 1 - 1 ≡ c.loop-level.level = omega arith in
    record { added = at.added _ _ (rw c.split_at.ensures.front at c.add_level.ensures) next; left = c.split_at.ensures.back ∙ at.left _ next }

pub returns-2 : goal.returns-2
returns-2 g c =
    let self = c.args.self.now in
    let M = meant g.C.Chain.meaning self in
    let s = sound M c.requires.sound in
    let at = step M s (g.met.C.Chain.lawful self.chain s.none) c.args.message.now c.requires.word _ _ _ _ _ c.loop-level.auto.level c.loop-level-test.true c.levels-level-end.ensures c.size_of.ensures c.loop-level.invariant.added c.loop-level.invariant.left in
    let s_is = c.levels-level-end.ensures ∙ ap (λ f. told f M.chain.s) s.none in
    let last : M.chain.s ≡ c.loop-level.level = omega arith in
    at.added _ _ (rw c.split_at.ensures.front at c.add_level.ensures) last
