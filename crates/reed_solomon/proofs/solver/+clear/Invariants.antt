use Rattle.reed_solomon.proofs.solver.+clear.Given as goal

abbrev pub decreases-clear : goal.decreases-clear
decreases-clear g l = l.count
