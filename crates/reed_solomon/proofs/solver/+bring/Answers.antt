use Rattle.std.proofs.Common.{◌≡◌, arith}
use Rattle.reed_solomon.proofs.Rowwise.{exchanged_here, found_here, exchanged_later, missing_later}
use Rattle.reed_solomon.proofs.solver.+bring.Goals as goal

pub returns-then-others-c-ne0 : goal.returns-then-others-c-ne0
returns-then-others-c-ne0 t c =
    let first = c.args.first.now in
    let others = c.args.others.now in
    let swap = c.swap_with_slice in
    record {
      rows = exchanged_here first others swap.new.self swap.new.other c.args.count c.args.c c.if-count-eq0.false swap.ensures.after swap.ensures.other_after;
      found = λ _. found_here first others swap.new.self swap.new.other c.args.count c.args.c c.if-count-eq0.false swap.ensures.after swap.ensures.other_after c.requires.column c.if-others-c-ne0.true;
      missing = λ e. absurd (let z : ◌≡◌ {A = Prim.Native.Nat.ℕ} 0 1 = cc in omega arith);
    }

pub returns : goal.returns
returns t c =
    let first = c.args.first.now in
    let others = c.args.others.now in
    record {
      rows = exchanged_later first others c.bring.new.first c.bring.new.others c.args.count _ c.if-count-eq0.false c.requires.long (omega arith) c.bring.ensures.rows;
      found = c.bring.ensures.found;
      missing = λ e. missing_later first others c.bring.new.first c.bring.new.others c.args.count _ c.if-count-eq0.false c.requires.long c.args.c (omega arith) c.requires.column c.if-others-c-ne0.false (c.bring.ensures.missing e);
    }
