-- A call that isn't refused may come.
use Rattle.std.proofs.Common.{◌≡◌, ℕ, zero, suc, ◌+◌, ◌-◌, ◌<◌, Bool, true, false, List, [], ◌∷◌, length, Some, None, refl, ◌∙◌, ap, arith}
use Rattle.std.specs.Prelude.{◌==◌, nat_lt, not, if◌then◌else◌, slice_get, is_some}
use Rattle.std.proofs.lemmas.Bool.{and_from}
use Rattle.std.proofs.lemmas.Bool.Decides.{nat_tests}
use Rattle.std.proofs.lemmas.List.{length-append}
use Rattle.upi_words.specs.Prelude.{Call, Setup, History}
use Rattle.upi_model.specs.History.{sent, sent_count, message_at}
use Rattle.upi_model.specs.Legal.{has_room, may_come, names_known}
use Rattle.switch_core.specs.declared.fault.CoreFault.{CoreFault}
use Rattle.switch_core.specs.Calls.{IsKnown, missing, no_message, refused_by}

-- the count of messages
count_is : (h : History) → length (sent h) ≡ sent_count h
count_is [] = refl
count_is (e ∷ h) = length-append (sent h) e.sent ∙ ap (λ (n : ℕ). n + length e.sent) (count_is h)

got : {X : Type 0} → (xs : List X) (i : ℕ) → i < length xs → is_some (slice_get xs i) ≡ true
got [] i lt = absurd (omega (arith, lt))
got (x ∷ xs) zero lt = refl
got (x ∷ xs) (suc i) lt = got xs i (omega (arith, lt))

-- a message of a number from 1 to the count was sent
is_sent : (h : History) (n : ℕ) → missing h n ≡ None → is_some (message_at h n) ≡ true
is_sent h n here = go (n == 0) refl (nat_lt (sent_count h) n) refl
  where
    go : (a : Bool) → (n == 0) ≡ a → (b : Bool) → nat_lt (sent_count h) n ≡ b → is_some (message_at h n) ≡ true
    go true e b f = absurd (cc)
    go false e true f = absurd (cc)
    go false e false f =
        let here : n - 1 < length (sent h) = grind (arith, nat_tests, count_is h) in
        ap is_some (ap (λ (a : Bool). if a then None else slice_get (sent h) (n - 1)) e) ∙ got (sent h) (n - 1) here

room : (h : History) (c : Call) → refused_by h c ≡ None → has_room h c ≡ true
room h c none = go (has_room h c) refl none
  where
    go : (b : Bool) → has_room h c ≡ b → (if not b then Some (CoreFault.Full (length h)) else no_message h c) ≡ None → has_room h c ≡ true
    go true e n = e
    go false e n = absurd (cc)

named : (h : History) (c : Call) → refused_by h c ≡ None → no_message h c ≡ None
named h c none = go (has_room h c) none
  where
    go : (b : Bool) → (if not b then Some (CoreFault.Full (length h)) else no_message h c) ≡ None → no_message h c ≡ None
    go true n = n
    go false n = absurd (cc)

names : (S : Setup) (h : History) (c : Call) → IsKnown S c → no_message h c ≡ None → names_known S h c ≡ true
names S h (Call.Hear p what) known none = known
names S h (Call.Deliver n) known none = is_sent h n none
names S h (Call.Lose n) known none = is_sent h n none
names S h (Call.Late t) known none = refl
names S h Call.Close known none = refl

-- a call that isn't refused may come
pub free_comes : (S : Setup) (h : History) (c : Call) → IsKnown S c → refused_by h c ≡ None → may_come S h c ≡ true
free_comes S h c known none = and_from (names_known S h c) (has_room h c) (names S h c known (named h c none)) (room h c none)
