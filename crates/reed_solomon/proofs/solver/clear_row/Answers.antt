use Rattle.std.proofs.Common.{◌-◌, ◌<◌, T, length, get_or, take, drop, sym, ◌∙◌, subst, arith}
use Rattle.field.specs.Words.{symbols}
use Rattle.field.proofs.WordLaws.{plus_scaled_or_0_is}
use Rattle.std.proofs.lemmas.List.{take_rest}
use Rattle.reed_solomon.proofs.Solving.{factor_is, cleared_row, cleared_already, drop_symbol}
use Rattle.reed_solomon.specs.Words.{symbols_all}
use Rattle.reed_solomon.proofs.solver.clear_row.Goals as goal

pub returns : goal.returns
returns g c =
    let F = g.F.Field.meaning c.args.f.now in
    let at = c.args.c in
    let row = c.args.row.now in
    let pivot = c.args.pivot.now in
    let within : at < length row = omega (arith, c.requires.column, c.requires.long) in
    let laws = g.met.F.Field.lawful c.args.f.now in
    let factor = factor_is laws (get_or row at 0) c.args.inverse (get_or pivot at 0) _ _ (drop_symbol F row at within c.requires.row) c.requires.inverse c.multiply.ensures c.negate-factor.ensures.value in
    let rest : T (symbols F.q (take (length row - at) (drop at row))) = subst (λ z. T (symbols F.q z)) (sym (take_rest row at)) (symbols_all F _ c.requires.row) in
    let rest' : T (symbols F.q (take (length pivot - at) (drop at pivot))) = subst (λ z. T (symbols F.q z)) (sym (take_rest pivot at)) (symbols_all F _ c.requires.pivot) in
    cleared_row laws pivot row c.add_multiple.new.out at _ factor.0 c.requires.long (omega arith) (c.add_multiple.ensures ∙ plus_scaled_or_0_is laws c.negate-factor.result factor.1 _ _ rest rest')

pub returns-then-row-c-eq0 : goal.returns-then-row-c-eq0
returns-then-row-c-eq0 g c =
    cleared_already (g.met.F.Field.lawful c.args.f.now) c.args.pivot.now c.args.row.now c.args.c c.requires.long c.requires.pivot c.requires.row c.if-row-c-eq0.true
