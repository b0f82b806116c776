use Rattle.bank_positions.proofs.tests.one_bank_and_two_shares.Given as goal

abbrev pub ghosts-debit_and_credit : goal.ghosts-debit_and_credit
ghosts-debit_and_credit g a = record { layout = a.blank }
