-- What is left to show of `add_level`.
use Rattle.std.proofs.Common.{ℕ, ◌*◌, List, length, sym, ◌∙◌, ap₂, mul_comm}
use Rattle.field.specs.Meaning as fields
use Rattle.field.specs.Words.{plus_scaled}
use Rattle.code.specs.Held.{held, holding}
use Rattle.code.specs.Meaning.{entry_at}
use Rattle.code.specs.Numbers.{joined_to, piece}
use Rattle.code.proofs.Shape.{width_is}
use Rattle.code.proofs.Sound.{sound, entry_small}
use Rattle.code.proofs.Code.add_level.Goals as goal

pub add_row-requires : goal.add_row-requires
add_row-requires g c =
    let self = c.args.self.now in
    let C = g.C.Chain.meaning self.chain in
    let M = holding C self.l self.matrix in
    let s = sound M c.requires.sound in
    let chain = g.met.C.Chain.lawful self.chain s.none in
    let word = rw (← c.write_word.ensures) at (chain.encodes c.args.level c.requires.level c.args.part.now c.requires.part) in
    record {
      entries = rw c.field.ensures (λ j. entry_small chain.over_field (held self.matrix) s.words c.args.level j);
      word = rw c.field.ensures word.all;
      before = rw c.field.ensures c.requires.before.all;
      long = c.requires.before.long ∙ mul_comm C.m self.l ∙ ap₂ ◌*◌ (sym (width_is C self.l self.matrix chain.s_least s.shaped)) (sym word.long);
    }

pub returns : goal.returns
returns g c =
    let self = c.args.self.now in
    let C = g.C.Chain.meaning self.chain in
    let M = holding C self.l self.matrix in
    let s = sound M c.requires.sound in
    let chain = g.met.C.Chain.lawful self.chain s.none in
    let word = chain.encodes c.args.level c.requires.level c.args.part.now c.requires.part in
    let rows = held self.matrix in
    let out = c.args.out.now in
    let i = c.args.level in
    c.add_row.ensures
    ∙ ap₂ (λ (G : fields.Meaning) (v : List ℕ). joined_to (λ j. plus_scaled G (entry_at rows i j) (piece (length v) out j) v) self.matrix.width) c.field.ensures c.write_word.ensures
    ∙ ap₂ (λ n w. joined_to (λ j. plus_scaled C.field (entry_at rows i j) (piece n out j) (C.encoding i c.args.part.now)) w) word.long (width_is C self.l self.matrix chain.s_least s.shaped)
