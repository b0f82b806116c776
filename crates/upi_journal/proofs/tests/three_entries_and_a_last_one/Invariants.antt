use Rattle.upi_journal.proofs.tests.three_entries_and_a_last_one.Given as goal

abbrev pub ghosts-story : goal.ghosts-story
ghosts-story g a = record { charter = record { shape = a.blank; fits = λ xs e. Unit {0}; fact = λ xs e. Unit {0}; lasts = λ xs ys e p h. tt } }
