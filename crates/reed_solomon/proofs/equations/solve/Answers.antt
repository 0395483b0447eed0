use Rattle.std.proofs.Common.{◌+◌, length, sym, subst, arith}
use Rattle.reed_solomon.specs.Rows.{Outcome}
use Rattle.reed_solomon.proofs.Rowwise.{split_rows}
use Rattle.reed_solomon.proofs.equations.solve.Goals as goal

pub returns : goal.returns
returns g c =
    let F = g.F.Field.meaning c.args.f.now in
    let parts = c.split_at_mut-first.ensures in
    let first = c.split_at_mut-first.result.0.now in
    let others = c.split_at_mut-first.result.1.now in
    subst (λ z. Outcome F z (length c.args.xs.now) c.solve_from.result c.solve_from.new.xs) (sym (split_rows (length c.args.xs.now + 1) c.args.count c.args.rows.now first others (λ e. omega (arith, c.requires.some)) parts.value parts.front_len)) c.solve_from.ensures
