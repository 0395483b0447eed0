-- What is left to show of `is_of`.
use Rattle.code.proofs.Rows.{every_held}
use Rattle.code.proofs.matrix.Matrix.is_of.Goals as goal

pub returns : goal.returns
returns g c = rw every_held c.are_words.ensures
