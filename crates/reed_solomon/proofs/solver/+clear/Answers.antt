use Rattle.std.proofs.Common.{◌≡◌, length, drop, ◌∙◌, arith}
use Rattle.std.proofs.lemmas.List.{length-take-le}
use Rattle.algebra.specs.Symbols.{numbers, Symbols}
use Rattle.algebra.specs.Systems.{cleared}
use Rattle.reed_solomon.proofs.Rowwise.{first_fits, each_row, rest_length, rest_all, first_all}
use Rattle.reed_solomon.proofs.solver.+clear.Goals as goal

pub clear_row-requires : goal.clear_row-requires
clear_row-requires g t c = record {
  column = c.requires.column;
  long = length-take-le _ c.args.rows.now (first_fits _ _ _ c.if-count-eq0.false c.requires.long);
  inverse = c.requires.inverse;
  pivot = c.requires.pivot;
  row = first_all (Symbols (g.F.Field.meaning c.args.f.now)) c.args.c _ c.args.count c.args.rows.now c.if-count-eq0.false c.requires.rows;
}

pub clear-requires : goal.clear-requires
clear-requires g t c κs within =
    let F = g.F.Field.meaning c.args.f.now in
    let pivot = c.args.pivot.now in
    let rows = c.args.rows.now in
    let long : length c.clear_row.new.row ≡ length pivot = c.clear_row.auto.row ∙ length-take-le _ rows (first_fits _ _ _ c.if-count-eq0.false c.requires.long) in (
      omega (arith, c.decreases, c.if-count-eq0.false),
      (
        within,
        (
          c.requires.column,
          (
            rest_length (λ r. r) c.args.c (length pivot) c.args.count _ rows c.clear_row.new.row rows c.if-count-eq0.false c.requires.long long (omega arith),
            (
              c.requires.inverse,
              (
                c.requires.pivot,
                rest_all (λ r. r) c.args.c (length pivot) c.args.count _ rows c.clear_row.new.row rows c.if-count-eq0.false c.requires.long long (omega arith) (Symbols F) c.requires.rows,
              ),
            ),
          ),
        ),
      ),
    )

pub returns : goal.returns
returns g t c =
    let F = g.F.Field.meaning c.args.f.now in
    let pivot = c.args.pivot.now in
    let rows = c.args.rows.now in
    let long : length c.clear_row.new.row ≡ length pivot = c.clear_row.auto.row ∙ length-take-le _ rows (first_fits _ _ _ c.if-count-eq0.false c.requires.long) in
    each_row (cleared (numbers F) (drop c.args.c pivot)) c.args.c (length pivot) c.args.count _ rows c.clear_row.new.row c.clear.new.rows c.if-count-eq0.false c.requires.long long (omega arith) c.clear_row.ensures c.clear.ensures
