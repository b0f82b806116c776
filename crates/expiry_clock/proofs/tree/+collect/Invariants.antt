use Rattle.expiry_clock.proofs.tree.+collect.Given as goal

abbrev pub decreases-collect : goal.decreases-collect
decreases-collect l = l.height
