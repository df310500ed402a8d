use Rattle.partition.proofs.halves.+halve.Given as goal

abbrev pub decreases-halve : goal.decreases-halve
decreases-halve l = l.many
