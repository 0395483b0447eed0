-- What is left to show of `reduced`.
use Rattle.std.proofs.Common.{◌≡◌, ◌+◌, ◌<◌, ◌≤◌, [], ◌∷◌, ◌++◌, length, get_or, take, sym, ap, ap₂, ◌∙◌, arith}
use Rattle.std.proofs.lemmas.List.{length-take-le, take_more}
use Rattle.field.proofs.Vectors.{length_added}
use Rattle.code.specs.Elimination.{cleared_row, reduced_rows}
use Rattle.code.specs.Held.{held}
use Rattle.code.proofs.Clearing.{length_reduced, reduced_at}
use Rattle.code.proofs.Rows.{held_row, row_written}
use Rattle.code.proofs.Shape.{held_rows}
use Rattle.code.proofs.matrix.Matrix.reduced.Goals as goal

pub loop-i-preserved : goal.loop-i-preserved
loop-i-preserved g c =
    let a = c.args.self.now in
    let w = a.width in
    let F = g.F.Field.meaning c.args.f.now in
    let p = c.args.p in
    let i = c.loop-i.i in
    let row = get_or a.rows (i + 1) [] in
    let out = c.clear_row.new.row in
    let before = c.loop-i.invariant in
    let tall : a.height ≤ length a.rows = omega (arith, a.tall, a.low) in
    let next : i + 1 < a.height = omega (arith, c.loop-i-test.true) in
    let eight : length row ≡ 8 = a.wide (i + 1) (omega (arith, a.low)) in
    let long : length out ≡ w = ap length c.clear_row.ensures ∙ length_added F (take w row) _ ∙ length-take-le w row (omega (arith, a.narrow)) in
    let is : out ≡ get_or (reduced_rows F p (held a)) i []
    = c.clear_row.ensures ∙ ap₂ (cleared_row F p) c.row.ensures (sym (held_row a.rows a.height w tall (i + 1) next)) ∙ sym (reduced_at F p (held a) i (omega (arith, held_rows a))) in
    let after = row_written w i c.loop-i.rows out row a.narrow (omega (arith, a.low)) before.tall before.wide long eight in
    record {
      cleared = after.more ∙ ap₂ (λ rs r. rs ++ r ∷ []) before.cleared is ∙ sym (take_more (reduced_rows F p (held a)) i [] (omega (arith, length_reduced F p (held a), held_rows a)));
      tall = after.tall;
      wide = after.wide;
    }
