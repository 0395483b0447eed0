use Rattle.std.proofs.Common.{arith}
use Rattle.field.proofs.Folds.{distance_counted, counted_most}
use Rattle.field.proofs.words.distance.Goals as goal

pub overflow_add-result : goal.overflow_add-result
overflow_add-result c = record { fits = omega (arith, c.differences.ensures, c.abs_diff.ensures, counted_most c.args.a.now c.args.b.now, c.differences.type_inv, c.abs_diff.type_inv) }

pub returns : goal.returns
returns c = omega (arith, c.differences.ensures, c.abs_diff.ensures, distance_counted c.args.a.now c.args.b.now)
