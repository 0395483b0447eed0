use Rattle.reed_solomon.specs.Words.{all_symbols}
use Rattle.reed_solomon.proofs.received.Received.solve_at_points.Goals as goal

pub write_rows-requires-clause-symbols : goal.write_rows-requires-clause-symbols
write_rows-requires-clause-symbols g c = all_symbols (g.F.Field.meaning c.args.self.now.field.now) c.args.self.now.symbols.now c.args.self.now.all
