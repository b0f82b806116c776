use Rattle.journal_load.proofs.shared.load.Given as goal

abbrev pub ghosts-load_named : goal.ghosts-load_named
ghosts-load_named g a = record { charter = record { shape = a.blank; fits = λ xs e. Unit {0}; fact = λ xs e. Unit {0}; lasts = λ xs ys e p h. tt } }
