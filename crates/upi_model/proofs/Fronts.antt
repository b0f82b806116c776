-- Beginnings of histories, in both readings.
use Rattle.std.proofs.Common.{◌≡◌, ℕ, ◌-◌, zero, suc, Bool, true, false, cond, List, [], ◌∷◌, ◌++◌, reverse, Some, None, sym, ◌∙◌, ap, subst}
use Rattle.std.specs.Prelude.{◌==◌, slice_get}
use Rattle.std.proofs.lemmas.List.{append-nil, append_assoc, reverse-append, reverse-reverse}
use Rattle.upi_model.specs.Types.{Entry, Sent, Setup, History}
use Rattle.upi_model.specs.History.{past, sent, message_at}
use Rattle.upi_model.specs.Legal.{Legal}
use Rattle.upi_model.specs.Fronts.{IsFront, IsBeginning, FrontLaws}
use Rattle.upi_model.proofs.Beginnings.{legal_before}

front_begins : (P H : List Entry) → IsFront P H → IsBeginning (past P) (past H)
front_begins P H f = (reverse f.0, sym (reverse-append P f.0) ∙ ap reverse f.1)

beginning_fronts : (P H : List Entry) → IsBeginning (past P) (past H) → IsFront P H
beginning_fronts P H b =
    (reverse b.0, ap (λ (l : List Entry). l ++ reverse b.0) (sym (reverse-reverse P)) ∙ (sym (reverse-append b.0 (reverse P)) ∙ (ap reverse b.1 ∙ reverse-reverse H)))

front_of_front : (P Q H : List Entry) → IsFront P Q → IsFront Q H → IsFront P H
front_of_front P Q H f g = (f.0 ++ g.0, sym (append_assoc P f.0 g.0) ∙ (ap (λ (l : List Entry). l ++ g.0) f.1 ∙ g.1))

front_legal : (S : Setup) (P H : List Entry) → IsFront P H → Legal S (past H) → Legal S (past P)
front_legal S P H f legal = let b = front_begins P H f in legal_before S b.0 (past P) (subst (Legal S) (sym b.1) legal)

-- ---- messages

get_stays : (xs ys : List Sent) (k : ℕ) (s : Sent) → slice_get xs k ≡ Some s → slice_get (xs ++ ys) k ≡ Some s
get_stays [] ys k s e = absurd cc
get_stays (x ∷ xs) ys zero s e = e
get_stays (x ∷ xs) ys (suc k) s e = get_stays xs ys k s e

stays_one : (e : Entry) (h : History) (n : ℕ) (s : Sent) → message_at h n ≡ Some s → message_at (e ∷ h) n ≡ Some s
stays_one e h n s is = go (n == 0) is
  where
    go : (z : Bool) → cond z None (slice_get (sent h) (n - 1)) ≡ Some s → cond z None (slice_get (sent h ++ e.sent) (n - 1)) ≡ Some s
    go true is = absurd cc
    go false is = get_stays (sent h) e.sent (n - 1) s is

pub messages_stay : (later h : History) (n : ℕ) (s : Sent) → message_at h n ≡ Some s → message_at (later ++ h) n ≡ Some s
messages_stay [] h n s is = is
messages_stay (e ∷ later) h n s is = stays_one e (later ++ h) n s (messages_stay later h n s is)

messages_stay_front : (P H : List Entry) (n : ℕ) (s : Sent) → IsFront P H → message_at (past P) n ≡ Some s → message_at (past H) n ≡ Some s
messages_stay_front P H n s f is = let b = front_begins P H f in subst (λ (k : History). message_at k n ≡ Some s) b.1 (messages_stay b.0 (past P) n s is)

pub front_laws : FrontLaws
front_laws = record {
  front_begins = front_begins;
  beginning_fronts = beginning_fronts;
  front_of_front = front_of_front;
  own_front = λ H. ([], append-nil H);
  one_more = λ H e. reverse-append H (e ∷ []);
  front_legal = front_legal;
  messages_stay = messages_stay;
  messages_stay_front = messages_stay_front;
}
