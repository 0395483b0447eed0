-- What is left to show of `new`.
use Rattle.std.proofs.Common.{◌≡◌, ◌&&◌, eqb, leb, length, refl, ap, ◌∙◌}
use Rattle.algebra.specs.Matrices.{every}
use Rattle.chain.specs.Answers.{told}
use Rattle.code.specs.Held.{held}
use Rattle.code.specs.Meaning.{matrix_of}
use Rattle.code.proofs.Shape.{shape_cut}
use Rattle.code.proofs.Code.new.Goals as goal

pub returns : goal.returns
returns g c =
    let C = g.C.Chain.meaning c.args.chain in
    let l = c.args.l in
    let xs = c.args.entries.now in
    let is : held c.of-matrix.result ≡ matrix_of (told C.flaw C.s) l xs = c.of-matrix.ensures ∙ ap (λ s. matrix_of s l xs) c.levels.ensures in
    record {
      meaning = ap (λ rows. record { chain = C; l = l; matrix = rows }) is;
      kept = refl;
      shape = λ none.
          let chain = g.met.C.Chain.lawful c.args.chain none in
          ap (λ rows. leb C.s l && leb l 8 && eqb (length rows) C.s && every (λ r. eqb (length r) l) rows) (is ∙ ap (λ f. matrix_of (told f C.s) l xs) none)
          ∙ shape_cut C.s l xs chain.s_least chain.s_most;
    }
