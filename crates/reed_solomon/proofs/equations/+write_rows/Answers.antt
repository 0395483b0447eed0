use Rattle.std.proofs.Common.{◌≡◌, ◌-◌, ◌<◌, length, take, drop, sym, ◌∙◌, subst, arith}
use Rattle.std.proofs.ByRecursion.{All-drop}
use Rattle.std.proofs.lemmas.List.{length-take-le, take_rest}
use Rattle.algebra.specs.Symbols.{Symbols}
use Rattle.reed_solomon.proofs.Rowwise.{not_empty, first_fits, written_fits, length_rest, filled_rest}
use Rattle.reed_solomon.proofs.equations.+write_rows.Goals as goal

pub slice_bounds-write_row-end : goal.slice_bounds-write_row-end
slice_bounds-write_row-end g t c = first_fits _ _ _ (not_empty _ c.if-is_empty.ensures) c.requires.long

pub slice_bounds-write_row-end-2 : goal.slice_bounds-write_row-end-2
slice_bounds-write_row-end-2 g t c = sym (length-take-le _ c.args.rows.now (first_fits _ _ _ (not_empty _ c.if-is_empty.ensures) c.requires.long))

pub write_row-requires-clause-long : goal.write_row-requires-clause-long
write_row-requires-clause-long g t c = length-take-le _ c.args.rows.now (first_fits _ _ _ (not_empty _ c.if-is_empty.ensures) c.requires.long) ∙ c.requires.width

pub slice_bounds-write_rows-count : goal.slice_bounds-write_rows-count
slice_bounds-write_rows-count g t c = written_fits c.write_row.new.row _ _ (c.write_row.auto.row ∙ length-take-le _ c.args.rows.now (first_fits _ _ _ (not_empty _ c.if-is_empty.ensures) c.requires.long))

pub slice_bounds-write_rows-start : goal.slice_bounds-write_rows-start
slice_bounds-write_rows-start g t c = written_fits c.write_row.new.row _ _ (c.write_row.auto.row ∙ length-take-le _ c.args.rows.now (first_fits _ _ _ (not_empty _ c.if-is_empty.ensures) c.requires.long))

pub write_rows-requires : goal.write_rows-requires
write_rows-requires g t c κs within =
    let F = g.F.Field.meaning c.args.f.now in
    let ys = c.args.ys.now in
    let rows = c.args.rows.now in
    let some = not_empty _ c.if-is_empty.ensures in
    let l = length_rest ys in
    let pos : 0 < length ys = omega (arith, some) in
    let long : length c.write_row.new.row ≡ c.args.w = c.write_row.auto.row ∙ length-take-le _ rows (first_fits _ _ _ some c.requires.long) in (
      (let less : length (take (length ys - 1) (drop 1 ys)) < t = omega (arith, l, c.decreases, pos) in less),
      (
        within.0,
        (
          within.1,
          (
            c.requires.fits,
            (
              c.requires.width,
              (
                filled_rest F (g.E.Equation.row_at c.args.equation.now F) c.args.w _ c.args.x rows c.write_row.new.row rows ys some c.requires.long long (omega arith),
                (omega (arith, l, c.requires.points, pos), subst (Symbols F) (sym (take_rest ys 1)) (All-drop (λ y. y < F.q) 1 ys c.requires.symbols)),
              ),
            ),
          ),
        ),
      ),
    )
