-- The entry that a caller's call makes is right.
use Rattle.std.proofs.Common.{◌≡◌, ℕ, true, refl, sym}
use Rattle.upi_model.specs.Types.{Entry, Call, Setup, History}
use Rattle.upi_model.specs.Legal.{may_come, IsLegalEntry, entry_of}
use Rattle.upi_model.specs.EntryLaws.{EntryLaws}

made_right : (S : Setup) (h : History) (caller : ℕ) (c : Call) (now : ℕ) → may_come S h c ≡ true → IsLegalEntry S h (entry_of S h caller c now)
made_right S h caller c now may = record { comes = may; replied = refl; sends = refl }

right_made : (S : Setup) (h : History) (e : Entry) → IsLegalEntry S h e → entry_of S h e.caller e.call e.at ≡ e
right_made S h e right = λ i. record { call = e.call; at = e.at; caller = e.caller; reply = sym right.replied i; sent = sym right.sends i }

pub entry_laws : EntryLaws
entry_laws = record { made_right = made_right; made_legal = λ S h caller c now may legal. (legal, made_right S h caller c now may); right_made = right_made }
