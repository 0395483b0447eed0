-- What is left to show of `passes`.
use Rattle.std.proofs.Common.{◌≡◌, ℕ, ◌<◌, true, false, get_or, set, sym, ◌∙◌, subst, arith, length-set}
use Rattle.code.specs.Elimination.{Rows}
use Rattle.code.specs.Held.{held}
use Rattle.code.proofs.Passing.{passes_is, rows_reduced, free_kept}
use Rattle.code.proofs.Shape.{held_rows}
use Rattle.code.proofs.matrix.Matrix.+passes.Goals as goal

pub loop-p-init : goal.loop-p-init
loop-p-init g t c =
    let a = c.args.self.now in
    sym (passes_is (g.met.F.Field.lawful c.args.f.now) a.width (held a) c.args.taken (omega (arith, held_rows a, c.if-self-eq0.false)) c.requires.rows)

pub passes-requires : goal.passes-requires
passes-requires g t c κs within =
    let a = c.args.self.now in
    let F = g.F.Field.meaning c.args.f.now in
    let some : 0 < a.height = omega (arith, c.if-self-eq0.false) in
    let less : c.reduced.result.height < t = omega (arith, c.decreases, c.reduced.ensures.height, some) in
    let rows : Rows F a.width (held c.reduced.result) = subst (Rows F a.width) (sym c.reduced.ensures.rows) (rows_reduced (g.met.F.Field.lawful c.args.f.now) a.width c.loop-p.p (held a) c.requires.rows) in
    let free : (j : ℕ) → j < 8 → get_or (set c.args.taken c.loop-p.p true) j false ≡ false → j < c.reduced.result.width
    = λ j l e. subst (λ w. j < w) (sym c.reduced.ensures.width) (free_kept c.args.taken c.loop-p.p a.width c.requires.long c.requires.free j l e) in
    (less, (within, (subst (λ w. Rows F w (held c.reduced.result)) (sym c.reduced.ensures.width) rows, (free, length-set c.args.taken c.loop-p.p true ∙ c.requires.long))))
