-- What holds of the list of the transactions that are due.
use Rattle.std.specs.Prelude.{ℕ, ◌≡◌, ◌≤◌, true, Some}
use Rattle.std.specs.List.{AllByRecursion, AllPairs, Contains}
use Rattle.upi_model.specs.Types.{Setup, History, Text}
use Rattle.upi_model.specs.Dues.{due}
use Rattle.upi_model.specs.DueList.{DueTxn, due_before, due_list}

-- the transaction is due at the moment that stands beside it, and that moment has come
abbrev pub IsDueBy : Setup → History → ℕ → DueTxn → Type 0
IsDueBy S h now d = (due S d.1 h ≡ Some d.0) × (d.0 ≤ now)

-- the list of the transactions that are due at a moment, in every history
pub record DueListLaws : Type 0 where
  -- each comes before all later ones: by its due moment, then by the bytes of its name
  pub ascends : (S : Setup) (h : History) (now : ℕ) → AllPairs (λ (a : DueTxn) (b : DueTxn). due_before a b ≡ true) (due_list S h now)
  -- each is due
  pub all_due : (S : Setup) (h : History) (now : ℕ) → AllByRecursion (IsDueBy S h now) (due_list S h now)
  -- and each that is due stands in it
  pub holds_all : (S : Setup) (h : History) (now : ℕ) (t : Text) (k : ℕ) → due S t h ≡ Some k → k ≤ now → Contains (due_list S h now) (k, t)
