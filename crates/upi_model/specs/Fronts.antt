-- Beginnings of histories, in both readings: with the latest entry last, and with it first.
use Rattle.std.specs.Prelude.{ℕ, ◌≡◌, List, [], ◌∷◌, ◌++◌, Some}
use Rattle.upi_model.specs.Types.{Entry, Sent, Setup, History}
use Rattle.upi_model.specs.History.{past, message_at}
use Rattle.upi_model.specs.Legal.{Legal}

-- P is the front of H: lists of entries whose latest stands last
abbrev pub IsFront : List Entry → List Entry → Type 0
IsFront P H = (more : List Entry) × (P ++ more ≡ H)

-- h is a beginning of k: histories, whose latest entry stands first
abbrev pub IsBeginning : History → History → Type 0
IsBeginning h k = (later : History) × (later ++ h ≡ k)

-- fronts, and what they keep
pub record FrontLaws : Type 0 where
  -- a front of H is a beginning of the history of H, and conversely
  pub front_begins : (P H : List Entry) → IsFront P H → IsBeginning (past P) (past H)
  pub beginning_fronts : (P H : List Entry) → IsBeginning (past P) (past H) → IsFront P H
  -- a front's front is a front, and each list is its own
  pub front_of_front : (P Q H : List Entry) → IsFront P Q → IsFront Q H → IsFront P H
  pub own_front : (H : List Entry) → IsFront H H
  -- a list goes on with one entry more
  pub one_more : (H : List Entry) (e : Entry) → past (H ++ e ∷ []) ≡ e ∷ past H
  -- a front of a legal history is legal
  pub front_legal : (S : Setup) (P H : List Entry) → IsFront P H → Legal S (past H) → Legal S (past P)
  -- a message that was sent keeps its number in every longer history, in either reading
  pub messages_stay : (later h : History) (n : ℕ) (s : Sent) → message_at h n ≡ Some s → message_at (later ++ h) n ≡ Some s
  pub messages_stay_front : (P H : List Entry) (n : ℕ) (s : Sent) → IsFront P H → message_at (past P) n ≡ Some s → message_at (past H) n ≡ Some s
