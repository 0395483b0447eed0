use Rattle.std.proofs.Common.{◌+◌, ◌%◌, get_or, sym, ap, ap₂, ◌∙◌, ⊎_elim, arith}
use Rattle.field.proofs.Accepted.{accepted²}
use Rattle.gf16.specs.Product.{product}
use Rattle.gf16.specs.Tables.{powers, product_by_logs, times_zero, zero_times}
use Rattle.gf16.proofs.Gf16Field.product.Goals as goal

pub returns-then-a-eq0 : goal.returns-then-a-eq0
returns-then-a-eq0 c =
    let a = c.args.a in
    let b = c.args.b in
    let ha = c.if-a-ge16.false in
    let hb = c.if-b-ge16.false in
    accepted² a b 16 _ _ ha hb
    (⊎_elim (λ e. sym (ap (λ x. product x b) e ∙ zero_times b hb)) (λ e. sym (ap (product a) e.1 ∙ times_zero a ha)) c.then-a-eq0.either)

pub returns : goal.returns
returns c =
    let a = c.args.a in
    let b = c.args.b in
    let ha = c.if-a-ge16.false in
    let hb = c.if-b-ge16.false in
    let by_logs = ap₂ (λ x y. get_or powers ((x + y) % 15) 0) c.log_of.ensures.value c.log_of-2.ensures.value in
    accepted² a b 16 _ _ ha hb (by_logs ∙ product_by_logs a b (omega arith) ha (omega arith) hb)
