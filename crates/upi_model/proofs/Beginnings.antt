-- The beginnings of legal histories.
use Rattle.std.proofs.Common.{◌≡◌, ◌≤◌, ◌<◌, ℕ, ◌+◌, Bool, true, false, List, [], ◌∷◌, ◌++◌, length, reverse, refl, sym, ◌∙◌, ap, subst, add-one, arith}
use Rattle.std.specs.Prelude.{◌↔◌, nat_lt, not, ◌&&◌, ◌||◌}
use Rattle.std.proofs.lemmas.Bool.{and_parts}
use Rattle.std.proofs.lemmas.Bool.Decides.{nat_tests}
use Rattle.std.proofs.lemmas.List.{append-nil, append_assoc, reverse-append, reverse-reverse}
use Rattle.upi_model.specs.Types.{Entry, Setup, History}
use Rattle.upi_base.specs.declared.limits.TheConstants.{MAX_ENTRIES}
use Rattle.upi_model.specs.History.{is_close, is_closed}
use Rattle.upi_model.specs.Legal.{names_known, has_room, IsLegalEntry, Legal, LegalForward}

pub legal_before : (S : Setup) (later h : History) → Legal S (later ++ h) → Legal S h
legal_before S [] h l = l
legal_before S (e ∷ later) h l = legal_before S later h l.0

pub legal_at : (S : Setup) (later : History) (e : Entry) (before : History) → Legal S (later ++ e ∷ before) → IsLegalEntry S before e
legal_at S later e before l = (legal_before S later (e ∷ before) l).1

pub legal_more : (S : Setup) (e : Entry) (h : History) → Legal S (e ∷ h) ↔ (Legal S h × IsLegalEntry S h e)
legal_more S e h = (λ l. (l.0, l.1), λ l. (l.0, l.1))

-- a history that is reversed has its prefixes as beginnings
turned : (h : History) (e : Entry) (later H : History) → h ++ e ∷ later ≡ H → reverse H ≡ reverse later ++ e ∷ reverse h
turned h e later H is = ap reverse (sym is) ∙ (reverse-append h (e ∷ later) ∙ (ap (λ (l : History). l ++ reverse h) (reverse-append (e ∷ []) later) ∙ append_assoc (reverse later) (e ∷ []) (reverse h)))

forward : (S : Setup) (H : History) → Legal S (reverse H) → LegalForward S H
forward S H l h e later is = legal_at S (reverse later) e (reverse h) (subst (Legal S) (turned h e later H is) l)

backward : (S : Setup) (K later H : History) → reverse K ++ later ≡ H → LegalForward S H → Legal S K
backward S [] later H is f = tt
backward S (e ∷ K) later H is f =
    let split : reverse K ++ e ∷ later ≡ H = sym (append_assoc (reverse K) (e ∷ []) later) ∙ (ap (λ (l : History). l ++ later) (sym (reverse-append (e ∷ []) K)) ∙ is) in
    (backward S K (e ∷ later) H split f, subst (λ (l : History). IsLegalEntry S l e) (reverse-reverse K) (f (reverse K) e later split))

pub legal_both_ways : (S : Setup) (H : List Entry) → Legal S (reverse H) ↔ LegalForward S H
legal_both_ways S H = (forward S H, backward S (reverse H) [] H (append-nil (reverse (reverse H)) ∙ reverse-reverse H))

pub legal_forward_more : (S : Setup) (H : List Entry) (e : Entry) → LegalForward S (H ++ e ∷ []) ↔ (LegalForward S H × IsLegalEntry S (reverse H) e)
legal_forward_more S H e =
    let is : reverse (H ++ e ∷ []) ≡ e ∷ reverse H = reverse-append H (e ∷ []) in
    let whole = legal_both_ways S (H ++ e ∷ []) in
    let part = legal_both_ways S H in
    (λ f. let l = subst (Legal S) is (whole.1 f) in (part.0 l.0, l.1), λ p. whole.0 (subst (Legal S) (sym is) (part.1 p.0, p.1)))

-- ---- how many entries

-- one entry more, by its room
room_for : (n most : ℕ) (close shut : Bool) → (nat_lt n most || (close && not shut)) ≡ true → (shut ≡ false → n ≤ most) → n ≤ most + 1 → (close || shut) ≡ false → n + 1 ≤ most
room_for n most true shut room few all run = absurd cc
room_for n most false true room few all run = absurd cc
room_for n most false false room few all run = go (nat_lt n most) refl room
  where
    go : (b : Bool) → nat_lt n most ≡ b → (b || false) ≡ true → n + 1 ≤ most
    go true is e = grind (arith, nat_tests)
    go false is e = absurd cc

room_in_all : (n most : ℕ) (close shut : Bool) → (nat_lt n most || (close && not shut)) ≡ true → (shut ≡ false → n ≤ most) → n + 1 ≤ most + 1
room_in_all n most close shut room few = go (nat_lt n most) refl close shut room few
  where
    go : (b : Bool) → nat_lt n most ≡ b → (c s : Bool) → (b || (c && not s)) ≡ true → (s ≡ false → n ≤ most) → n + 1 ≤ most + 1
    go true is c s e f = let k : n < most = grind (arith, nat_tests) in omega (arith, k)
    go false is true false e f = let k = f refl in omega (arith, k)
    go false is true true e f = absurd cc
    go false is false s e f = absurd cc

pub few_entries : (S : Setup) (h : History) → Legal S h → (is_closed h ≡ false → length h ≤ MAX_ENTRIES) × (length h ≤ MAX_ENTRIES + 1)
few_entries S [] l = (λ run. omega arith, omega arith)
few_entries S (e ∷ h) l =
    let rest = few_entries S h l.0 in
    let room = (and_parts (names_known S h e.call) (has_room h e.call) l.1.comes).1 in (
      λ run. rw (← add-one) (room_for (length h) MAX_ENTRIES (is_close e.call) (is_closed h) room rest.0 rest.1 run),
      rw (← add-one) (room_in_all (length h) MAX_ENTRIES (is_close e.call) (is_closed h) room rest.0),
    )
