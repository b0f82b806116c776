use Rattle.bank_positions.proofs.tests.sixteen_threads_add_at_once.Given as goal

abbrev pub ghosts-all_at_once : goal.ghosts-all_at_once
ghosts-all_at_once g a = record { layout = a.blank }
