-- What a verdict says, and one entry more.
use Rattle.std.proofs.Common.{◌≡◌, ℕ, ◌+◌, ◌<◌, true, false, [], ◌∷◌, ◌++◌, length, get_or, take, drop, refl, sym, ◌∙◌, ap, subst, arith}
use Rattle.std.proofs.lemmas.List.{append_assoc, reverse-append, drop_more, take-append-drop, length-take-le}
use Rattle.upi_words.specs.Prelude.{Entry, AuditWhy, Verdict, Setup, History, Legal}
use Rattle.upi_model.specs.Legal.{IsLegalEntry}
use Rattle.upi_model.proofs.Beginnings.{legal_at}
use Rattle.upi_model.specs.History.{past}
use Rattle.upi_model.specs.Verdicts.{IsFault, IsFirstWrong, VerdictIsExact}

-- an entry with a fault isn't right
faulty : (S : Setup) (before : History) (e : Entry) (w : AuditWhy) → IsFault S before e w → IsLegalEntry S before e → ⊥
faulty S before e AuditWhy.Call f right = let both : true ≡ false = sym right.comes ∙ f in absurd cc
faulty S before e AuditWhy.Reply f right = f.1 right.replied
faulty S before e AuditWhy.Sent f right = f.2 right.sends
faulty S before e AuditWhy.NoClose f right = f
faulty S before e AuditWhy.Report f right = f

past_split : (front later : History) (e : Entry) → past (front ++ e ∷ later) ≡ past later ++ e ∷ past front
past_split front later e =
    reverse-append front (e ∷ later) ∙ (ap (λ (l : History). l ++ past front) (reverse-append (e ∷ []) later) ∙ append_assoc (past later) (e ∷ []) (past front))

wrong_is_illegal : (S : Setup) (H : History) (place : ℕ) (w : AuditWhy) → IsFirstWrong S H place w → Legal S (past H) → ⊥
wrong_is_illegal S H place w f l =
    let whole : past H ≡ past f.later ++ f.entry ∷ past f.front = ap past (sym f.splits) ∙ past_split f.front f.later f.entry in
    faulty S (past f.front) f.entry w f.fault (legal_at S (past f.later) f.entry (past f.front) (subst (Legal S) whole l))

pub verdict_is_exact : VerdictIsExact
verdict_is_exact S H (Verdict.Yes count) j = (λ _. j.1, λ _. refl)
verdict_is_exact S H (Verdict.No place w) j = (λ h. absurd cc, λ l. absurd (wrong_is_illegal S H place w j l))

-- the entry at a place is the first that isn't right
pub first_wrong : (S : Setup) (H : History) (i : ℕ) (e : Entry) (w : AuditWhy) → i < length H → e ≡ get_or H i e → Legal S (past (take i H)) → IsFault S (past (take i H)) e w → IsFirstWrong S H (i + 1) w
first_wrong S H i e w lt is legal fault = record {
  front = take i H;
  entry = e;
  later = drop (i + 1) H;
  splits = ap (λ (x : Entry). take i H ++ x ∷ drop (i + 1) H) is ∙ (ap (λ (l : History). take i H ++ l) (sym (drop_more H i e lt)) ∙ take-append-drop i H);
  placed = ap (λ (n : ℕ). n + 1) (sym (length-take-le i H (omega (arith, lt))));
  legal = legal;
  fault = fault;
}
