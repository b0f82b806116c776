-- Confirmations, by the rules of the model.
use Rattle.std.proofs.Common.{◌≡◌, ℕ, Bool, true, false, Option, Some, None, refl, sym, ◌∙◌, ap, arith}
use Rattle.std.specs.Prelude.{is_some}
use Rattle.std.specs.Option.{option_or}
use Rattle.std.specs.List.{list_any, count_by}
use Rattle.std.specs.Str.{bytes_eq}
use Rattle.std.proofs.lemmas.Slice.Eq.{bytes_eq-Decides}
use Rattle.upi_words.specs.Prelude.{Code, Outcome, PayReq, Decision, LegEnd, Said, Event, Opening, Setup, Text}
use Rattle.upi_model.specs.Dues.{confirms, due_confirm, due_by, passed, acknowledges_on, acknowledges}
use Rattle.upi_model.specs.Sending.{outcome_messages, sent_due, sent_again, confirm}
use Rattle.upi_model.specs.Standing.{Standing, Sendings, outcome_on, cause_on, sending}
use Rattle.status_check.specs.declared.{Confirm.Confirm}
use Rattle.status_check.specs.Confirms.{IsOver, IsConfirmed, Begins, Lates, Answers, HasDue}
use Rattle.status_check.specs.calls.Dues.{due_at, told}

self_is : (t : Text) → bytes_eq t t ≡ true
self_is t = (bytes_eq-Decides t t).1 refl

one_more : (r : PayReq) (x : Outcome) → count_by (confirms r.txn) (outcome_messages r (Some x)) ≡ 1
one_more r x = rw (self_is r.txn) refl

pub begins : (now : ℕ) → Begins (record { last = now; count = 1; answered = false }) now
begins now = λ s m o x none zero. record {
  last = rw (self_is o.terms.txn) refl;
  count = rw (zero, one_more o.terms x) refl;
  answered = rw none refl;
}

-- ---- when it is due

due_over : (op : Option Opening) (out : Option Outcome) (a : Option Decision) (d : Option LegEnd) (why : Option Code) (returned confirmed : Option ℕ) (o : Opening) (x : Outcome)
    → op ≡ Some o → out ≡ Some x → due_by op out a d why returned confirmed ≡ confirmed
due_over op out a d why returned confirmed o x is has = rw (is, has) refl

due_told : (c : Confirm) (count : ℕ) (last acknowledged : Option ℕ) → last ≡ Some c.last → count ≡ c.count → is_some acknowledged ≡ c.answered → due_at c ≡ due_confirm count last acknowledged
due_told c count last acknowledged l n a = rw (l, n, a) refl

pub has_due : (c : Confirm) → HasDue c (due_at c)
has_due c = λ s m o x over is.
    due_told c m.confirmations m.confirmed s.acknowledged is.last is.count is.answered
    ∙ sym (due_over s.opening (outcome_on s) s.decision s.debit_end (cause_on s) m.returned (due_confirm m.confirmations m.confirmed s.acknowledged) o x over.opened over.has)

-- ---- a look whether it is due

again_sent : (r : PayReq) (x : Outcome) → list_any (confirms r.txn) (confirm r (Some x)) ≡ true
again_sent r x = rw (self_is r.txn) refl

again_count : (r : PayReq) (x : Outcome) → count_by (confirms r.txn) (confirm r (Some x)) ≡ 1
again_count r x = rw (self_is r.txn) refl

sent_is : (S : Setup) (b : Bool) (s : Standing) (o : Opening) (x : Outcome) → IsOver s o x → sent_due S b s s.opening ≡ sent_again S o.terms (Some x) (cause_on s) b
sent_is S b s o x over = ap (λ (op : Option Opening). sent_due S b s op) over.opened ∙ ap (λ (out : Option Outcome). sent_again S o.terms out (cause_on s) b) over.has

told_is : (S : Setup) (b : Bool) (c : Confirm) (now : ℕ) (s : Standing) (m : Sendings) (o : Opening) (x : Outcome) → IsConfirmed c s m
    → IsConfirmed (told b c now) s (sending o.terms.txn m now (sent_again S o.terms (Some x) (cause_on s) b))
told_is S true c now s m o x is = record {
  last = rw (again_sent o.terms x) refl;
  count = rw (is.count, again_count o.terms x) refl;
  answered = is.answered;
}
told_is S false c now s m o x is = record { last = is.last; count = rw is.count (omega arith); answered = is.answered }

pub lates : (c : Confirm) (now : ℕ) → Lates c (told (passed now (due_at c)) c now) (passed now (due_at c)) now
lates c now = λ S s m o x over is. record {
  due = ap (passed now) (has_due c s m o x over is);
  sent = rw (sent_is S (passed now (due_at c)) s o x over) (told_is S (passed now (due_at c)) c now s m o x is);
}

-- ---- the asked PSP says that it was told

ack_is : (ack : Option ℕ) (op : Option Opening) (out : Option Outcome) (e : Event) (now : ℕ) (o : Opening) (x : Outcome)
    → op ≡ Some o → out ≡ Some x → acknowledges_on o e ≡ true → is_some (option_or ack (acknowledges op out e now)) ≡ true
ack_is None op out e now o x is has on = rw (is, has, on) refl
ack_is (Some k) op out e now o x is has on = refl

pub answers : (c : Confirm) → Answers c (record c { answered = true })
answers c = λ S room closed s m o x psp txn now over its_txn its_psp is. record { last = is.last; count = is.count; answered = ack_is s.acknowledged s.opening (outcome_on s) (Event.Heard psp (Said.Confirmed txn)) now o x over.opened over.has (rw (its_txn, its_psp) refl) }
