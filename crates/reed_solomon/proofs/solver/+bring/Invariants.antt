use Rattle.reed_solomon.proofs.solver.+bring.Given as goal

abbrev pub decreases-bring : goal.decreases-bring
decreases-bring l = l.count
