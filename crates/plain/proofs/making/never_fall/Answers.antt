use Rattle.std.proofs.Common.{◌∙◌}
use Rattle.plain.proofs.Shapes.{rising_pairs}
use Rattle.plain.proofs.making.never_fall.Goals as goal

pub returns : goal.returns
returns c = c.pairs_rise.ensures ∙ rising_pairs c.args.kinds.now
