use Rattle.std.proofs.Common.{◌∷◌, ◌≡◌, ◌+◌, ◌-◌, ◌*◌, ◌<◌, length, get_or, take, drop, sym, refl, ap, ◌∙◌, subst, arith, T, eqb→eq}
use borrow.Rule.Slice.PartMut.{put_mid}
use Rattle.std.proofs.lemmas.List.{take_rest, length-drop}
use Rattle.field.proofs.Accepted.{inverse_or_0_is}
use Rattle.algebra.specs.Symbols.{Symbols}
use Rattle.algebra.proofs.Bridge.{inverse_below}
use Rattle.reed_solomon.specs.Rows.{rows_from, Outcome}
use Rattle.reed_solomon.proofs.Rowwise.{not_empty, rest_long, length_rest}
use Rattle.reed_solomon.proofs.Solving.{drop_symbol}
use Rattle.reed_solomon.proofs.Descent.{rest_symbols, row_symbols, first_symbols, others_symbols, next_symbols, no_unknowns, free_column, left_good, no_solution, rest_found, rest_free, solution}
use Rattle.reed_solomon.proofs.solver.+solve_from.Goals as goal
use Rattle.reed_solomon.proofs.solver.+solve_from.Goals.{then-count-gt0+in_ok-solve_from, else-count-gt0}

pub returns-then-is_empty : goal.returns-then-is_empty
returns-then-is_empty g t c =
    let F = g.F.Field.meaning c.args.f.now in
    let laws = g.met.F.Field.lawful c.args.f.now in
    let b = c.bring-found in
    subst (λ r. Outcome F (drop c.args.c c.args.first.now ∷ rows_from c.args.c (length c.args.first.now) c.args.count c.args.others.now) (length c.args.xs.now) r c.args.xs.now) (sym c.then_some.ensures)
    (no_unknowns F laws c.args.c _ _ c.args.count c.args.first.now c.args.others.now b.new.first b.new.others b.auto.first b.ensures.rows c.requires.row c.requires.rows c.args.xs.now b.result (eqb→eq _ _ (subst T c.if-is_empty.ensures tt)) c.requires.unknowns b.ensures.missing b.ensures.found)

pub solve_from-requires : goal.solve_from-requires
solve_from-requires g t c κs within =
    let F = g.F.Field.meaning c.args.f.now in
    let laws = g.met.F.Field.lawful c.args.f.now in
    let b = c.bring-found in
    let xs = c.args.xs.now in
    let l = length_rest xs in (
      (let less : length (take (length xs - 1) (drop 1 xs)) < t = omega (arith, l, c.decreases, not_empty _ c.if-is_empty.ensures) in less),
      (
        within,
        (
          omega (arith, l, b.auto.first, c.requires.width, (not_empty _ c.if-is_empty.ensures)),
          (
            b.auto.others ∙ c.requires.long ∙ ap (λ k. c.args.count * k) (sym b.auto.first),
            (
              row_symbols F laws c.args.c b.new.first (first_symbols F laws c.args.c _ _ c.args.count c.args.first.now c.args.others.now b.new.first b.new.others b.auto.first c.if-not-found.ensures.rows c.requires.row c.requires.rows),
              (
                next_symbols F laws c.args.c _ _ c.args.count c.args.first.now c.args.others.now b.new.first b.new.others b.auto.first c.if-not-found.ensures.rows c.requires.row c.requires.rows,
                rest_symbols F laws xs c.requires.unknowns,
              ),
            ),
          ),
        ),
      ),
    )

pub returns-then-not-found : goal.returns-then-not-found
returns-then-not-found g t c =
    let F = g.F.Field.meaning c.args.f.now in
    let laws = g.met.F.Field.lawful c.args.f.now in
    let b = c.bring-found in
    free_column F laws c.args.c _ _ c.args.count c.args.first.now c.args.others.now b.new.first b.new.others b.auto.first c.if-not-found.ensures.rows c.requires.row c.requires.rows c.args.xs.now c.solve_from.new.xs c.solve_from.result (not_empty _ c.if-is_empty.ensures) c.requires.unknowns (c.if-not-found.ensures.missing refl) c.solve_from.ensures

pub clear-requires : goal.clear-requires
clear-requires g t c =
    let F = g.F.Field.meaning c.args.f.now in
    let laws = g.met.F.Field.lawful c.args.f.now in
    let b = c.bring-found in
    let first' = b.new.first in
    let column : c.args.c < length first' = omega (arith, b.auto.first, c.requires.width) in
    let sf = first_symbols F laws c.args.c _ _ c.args.count c.args.first.now c.args.others.now first' b.new.others b.auto.first c.if-not-found.ensures.rows c.requires.row c.requires.rows in
    record {
      column = column;
      long = b.auto.others ∙ c.requires.long ∙ ap (λ k. c.args.count * k) (sym b.auto.first);
      inverse = c.invert-inverse.ensures.value ∙ inverse_or_0_is F (get_or first' c.args.c 0) (drop_symbol F first' c.args.c column sf) (c.if-not-found.ensures.found refl);
      pivot = sf;
      rows = others_symbols F laws c.args.c _ _ c.args.count c.args.first.now c.args.others.now first' b.new.others b.auto.first c.if-not-found.ensures.rows c.requires.row c.requires.rows;
    }

pub solve_from-requires-then-count-gt0 : goal.solve_from-requires-then-count-gt0
solve_from-requires-then-count-gt0 g t c κs within =
    let F = g.F.Field.meaning c.args.f.now in
    let laws = g.met.F.Field.lawful c.args.f.now in
    let b = c.bring-found in
    let first' = b.new.first in
    let xs = c.args.xs.now in
    let row = c.split_at_mut-row.result.0.now in
    let rest' = c.split_at_mut-row.result.1.now in
    let parts = c.split_at_mut-row.ensures in
    let l = length_rest xs in
    let some : c.args.count ≡ 0 → ⊥ = λ e. omega (arith, c.if-count-gt0.true) in
    let long : length c.clear.new.rows ≡ c.args.count * length first' = c.clear.auto.rows ∙ b.auto.others ∙ c.requires.long ∙ ap (λ k. c.args.count * k) (sym b.auto.first) in
    let good = left_good F laws c.args.c _ _ c.args.count c.args.first.now c.args.others.now first' b.new.others b.auto.first c.if-not-found.ensures.rows c.requires.row c.requires.rows c.clear.new.rows (c.if-not-found.ensures.found refl) c.clear.ensures row rest' (length row) some parts.value parts.front_len parts.front_len in (
      (let less : length (take (length xs - 1) (drop 1 xs)) < t = omega (arith, l, c.decreases, not_empty _ c.if-is_empty.ensures) in less),
      (
        within,
        (
          parts.front_len ∙ omega (arith, l, b.auto.first, c.requires.width, (not_empty _ c.if-is_empty.ensures)),
          (
            (let e : length rest' ≡ length c.clear.new.rows - length first' = omega (arith, parts.back_len) in e ∙ rest_long c.args.count (length first') (length c.clear.new.rows) some long ∙ ap (λ k. (c.args.count - 1) * k) (sym parts.front_len)),
            (good.0, (good.1, rest_symbols F laws xs c.requires.unknowns)),
          ),
        ),
      ),
    )

pub pivot_unknown-requires : goal.pivot_unknown-requires
pivot_unknown-requires g t c =
    let F = g.F.Field.meaning c.args.f.now in
    let laws = g.met.F.Field.lawful c.args.f.now in
    let b = c.bring-found in
    let first' = b.new.first in
    let xs = c.args.xs.now in
    let xs' = c.if-count-gt0.xs in
    let column : c.args.c < length first' = omega (arith, b.auto.first, c.requires.width) in
    let sf = first_symbols F laws c.args.c _ _ c.args.count c.args.first.now c.args.others.now first' b.new.others b.auto.first c.if-not-found.ensures.rows c.requires.row c.requires.rows in
    let inverse = c.invert-inverse.ensures.value ∙ inverse_or_0_is F (get_or first' c.args.c 0) (drop_symbol F first' c.args.c column sf) (c.if-not-found.ensures.found refl) in
    let row = length-drop (c.args.c + 1) first' in
    let l = length_rest xs' in
    record {
      inverse = subst (λ z. z < F.q) (sym inverse) (inverse_below F laws (get_or first' c.args.c 0));
      long = ap length (take_rest first' (c.args.c + 1)) ∙ row ∙ omega (arith, l, b.auto.first, c.requires.width, (not_empty _ c.if-is_empty.ensures), c.if-count-gt0.auto.xs);
      row = subst (Symbols F) (sym (take_rest first' (c.args.c + 1))) (row_symbols F laws c.args.c first' sf);
      unknowns = subst (Symbols F) (sym (take_rest xs' 1))
          (elim c.if-count-gt0.branch [
            | then-count-gt0+in_ok-solve_from w ↦ (rest_found F laws c.args.c _ _ c.args.count c.args.first.now c.args.others.now first' b.new.others b.auto.first c.if-not-found.ensures.rows c.requires.row c.requires.rows c.clear.new.rows (c.if-not-found.ensures.found refl) c.clear.ensures xs xs' w.solve_from-then-count-gt0.new.xs w.split_at_mut-row.result.0.now w.split_at_mut-row.result.1.now _ 0 (not_empty _ c.if-is_empty.ensures) (λ e. omega (arith, w.if-count-gt0.true)) w.split_at_mut-row.ensures.value w.split_at_mut-row.ensures.front_len w.split_at_mut-row.ensures.front_len w.xs-is w.in_ok-solve_from.ensures).0
            | else-count-gt0 w ↦ (rest_free F laws c.args.c _ _ c.args.count c.args.first.now c.args.others.now first' b.new.others b.auto.first c.if-not-found.ensures.rows c.requires.row c.requires.rows c.clear.new.rows (c.if-not-found.ensures.found refl) c.clear.ensures xs xs' (omega (arith, w.if-count-gt0.false)) c.requires.unknowns w.xs-is).0
          ]);
    }

pub returns : goal.returns
returns g t c =
    let F = g.F.Field.meaning c.args.f.now in
    let laws = g.met.F.Field.lawful c.args.f.now in
    let b = c.bring-found in
    let first' = b.new.first in
    let xs = c.args.xs.now in
    let xs' = c.if-count-gt0.xs in
    let column : c.args.c < length first' = omega (arith, b.auto.first, c.requires.width) in
    let sf = first_symbols F laws c.args.c _ _ c.args.count c.args.first.now c.args.others.now first' b.new.others b.auto.first c.if-not-found.ensures.rows c.requires.row c.requires.rows in
    let inverse = c.invert-inverse.ensures.value ∙ inverse_or_0_is F (get_or first' c.args.c 0) (drop_symbol F first' c.args.c column sf) (c.if-not-found.ensures.found refl) in
    solution F laws c.args.c _ _ c.args.count c.args.first.now c.args.others.now first' b.new.others b.auto.first c.if-not-found.ensures.rows c.requires.row c.requires.rows c.clear.new.rows (c.if-not-found.ensures.found refl) c.clear.ensures xs' (length xs) c.invert-inverse.result c.pivot_unknown.result (omega (arith, (not_empty _ c.if-is_empty.ensures), c.if-count-gt0.auto.xs))
    (elim c.if-count-gt0.branch [
      | then-count-gt0+in_ok-solve_from w ↦ rest_found F laws c.args.c _ _ c.args.count c.args.first.now c.args.others.now first' b.new.others b.auto.first c.if-not-found.ensures.rows c.requires.row c.requires.rows c.clear.new.rows (c.if-not-found.ensures.found refl) c.clear.ensures xs xs' w.solve_from-then-count-gt0.new.xs w.split_at_mut-row.result.0.now w.split_at_mut-row.result.1.now _ 0 (not_empty _ c.if-is_empty.ensures) (λ e. omega (arith, w.if-count-gt0.true)) w.split_at_mut-row.ensures.value w.split_at_mut-row.ensures.front_len w.split_at_mut-row.ensures.front_len w.xs-is w.in_ok-solve_from.ensures
      | else-count-gt0 w ↦ rest_free F laws c.args.c _ _ c.args.count c.args.first.now c.args.others.now first' b.new.others b.auto.first c.if-not-found.ensures.rows c.requires.row c.requires.rows c.clear.new.rows (c.if-not-found.ensures.found refl) c.clear.ensures xs xs' (omega (arith, w.if-count-gt0.false)) c.requires.unknowns w.xs-is
    ]) inverse c.pivot_unknown.ensures

pub returns-in_err-solve_from : goal.returns-in_err-solve_from
returns-in_err-solve_from g t c =
    let F = g.F.Field.meaning c.args.f.now in
    let laws = g.met.F.Field.lawful c.args.f.now in
    let b = c.bring-found in
    let first' = b.new.first in
    let xs = c.args.xs.now in
    let parts = c.split_at_mut-row.ensures in
    subst (λ r. Outcome F (drop c.args.c c.args.first.now ∷ rows_from c.args.c (length c.args.first.now) c.args.count c.args.others.now) (length xs) r (put_mid 1 (length xs - 1) xs c.solve_from-then-count-gt0.new.xs)) (sym c.from_residual.ensures)
    (no_solution F laws c.args.c _ _ c.args.count c.args.first.now c.args.others.now first' b.new.others b.auto.first c.if-not-found.ensures.rows c.requires.row c.requires.rows c.clear.new.rows (c.if-not-found.ensures.found refl) c.clear.ensures xs c.solve_from-then-count-gt0.new.xs c.split_at_mut-row.result.0.now c.split_at_mut-row.result.1.now _ (not_empty _ c.if-is_empty.ensures) (λ e. omega (arith, c.if-count-gt0.true)) parts.value parts.front_len parts.front_len c.in_err-solve_from.ensures)
