-- What lies behind the lock, after a look and after an append.
use Rattle.std.proofs.Common.{◌≡◌, ℕ, ◌+◌, ◌*◌, ◌≤◌, ◌<◌, List, [], ◌∷◌, ◌++◌, length, refl, ap, sym, ◌∙◌, subst, arith, length-append}
use mathlib.Core.List.{IsPrefix}
use Rattle.atomic_table.specs.declared.shared.Seat.{Seat}
use Rattle.upi_journal.specs.declared.view.View.{View}
use Rattle.upi_journal.specs.Entries.{Marks, Begin, sent_count, running}
use Rattle.upi_journal.specs.Rule.{home_with}
use Rattle.upi_journal.specs.Charter.{Charter, IsHistory}
use Rattle.upi_journal.specs.Passes.{Front, front, Keeps}
use Rattle.upi_journal.specs.calls.Seats.{IsHomeSeat, IsHome, IsBlank}
use Rattle.upi_journal.proofs.Lists.{prefix_self}
use Rattle.upi_journal.proofs.Counts.{sent_count-push, running-push}

module _ {E : Type 0} where
  -- a pass that was shown what stands behind the lock
  pub kept : (old new : Front E) (seen : List E) → new ≡ front old.role old.mine seen → IsPrefix old.seen seen → Keeps old new
  kept old new seen is pre = subst (Keeps old) (sym is) (record { role = refl; mine = refl; longer = pre })

module _ {E : Type 0} (m : Marks E) (c : Charter E) where
  -- the home seat has seen the same
  pub home_kept : (entries : List E) (sums : List ℕ) (sent limit : ℕ) (old new : Seat E (View E)) → IsHome m c entries sums sent limit old → IsHomeSeat m c new → new.me.0.seen ≡ old.me.0.seen → IsHome m c entries sums sent limit new
  home_kept entries sums sent limit old new h seat same = record { seat_is = seat; seen = same ∙ h.seen; sums_are = h.sums_are; sent_is = h.sent_is; sent_most = h.sent_most; limit_is = h.limit_is; limit_most = h.limit_most }

  -- room in a word for what one entry more sends
  pub sent_fits : (entries : List E) (sums : List ℕ) (sent limit : ℕ) (seat : Seat E (View E)) (s : ℕ) → IsHome m c entries sums sent limit seat → length entries < limit → s < 2147483648 → sent + s < 18446744073709551616
  sent_fits entries sums sent limit seat s h below small =
      let a = h.sent_is in
      let b = h.sent_most in
      let d = h.limit_most in
      omega arith

  -- the home seat has seen one entry more, which is kept with its count
  pub home_more : (entries : List E) (sums : List ℕ) (sent limit : ℕ) (old new : Seat E (View E)) (e : E) (s : ℕ) (entries' : List E) (sums' : List ℕ) → IsHome m c entries sums sent limit old → IsHomeSeat m c new → new.me.0.seen ≡ old.me.0.seen ++ e ∷ []
      → s ≡ m.sent e → m.sent e < 2147483648 → entries' ≡ entries ++ e ∷ [] → sums' ≡ sums ++ (sent + s) ∷ [] → IsHome m c entries' sums' (sent + s) limit new
  home_more entries sums sent limit old new e s entries' sums' h seat more sends small is is' =
      let total : sent + s ≡ 0 + sent_count m entries + m.sent e = omega (arith, h.sent_is, sends) in
      let all : sums' ≡ running m 0 (entries ++ e ∷ []) = is' ∙ ap (λ (n : ℕ). sums ++ n ∷ []) total ∙ ap (λ l. l ++ (0 + sent_count m entries + m.sent e) ∷ []) h.sums_are ∙ sym (running-push m 0 entries e) in
      let count = sent_count-push m entries e in
      let len = length-append entries (e ∷ []) in
      let most : sent_count m (entries ++ e ∷ []) ≤ length (entries ++ e ∷ []) * 2147483648 = let b = h.sent_most in omega arith in
      subst (λ (l : List E). IsHome m c l sums' (sent + s) limit new) (sym is) (record {
        seat_is = seat;
        seen = more ∙ ap (λ l. l ++ e ∷ []) h.seen;
        sums_are = all;
        sent_is = omega arith;
        sent_most = most;
        limit_is = h.limit_is;
        limit_most = h.limit_most;
      })

  -- what a journal begins with is a history of it
  pub begins_history : (before : List E) → before ≡ c.shape.before → length before ≤ c.shape.limit → IsHistory m c c.shape.before
  begins_history before is room = record {
    begins = prefix_self c.shape.before;
    room = subst (λ (l : List E). length l ≤ c.shape.limit) is room;
    follows = λ h e pre past. absurd (omega (arith, sym (ap length pre.1) ∙ length-append (h ++ e ∷ []) pre.0, length-append h (e ∷ [])));
  }

  -- what lies behind the lock at the start
  pub home_opened : (start : Begin E) (sums : List ℕ) (sent limit : ℕ) (seat : Seat E (View E)) (owners callers : ℕ) → start.before ≡ c.shape.before → limit ≡ c.shape.limit → sums ≡ running m 0 start.before → sent ≡ sent_count m start.before
      → sent_count m start.before ≤ length start.before * 2147483648 → limit ≤ 2147483648 → seat.table_id ≡ c.shape.table → seat.me ≡ (home_with c.shape.before owners callers, []) → IsHistory m c c.shape.before → IsHome m c start.before sums sent limit seat
  home_opened start sums sent limit seat owners callers before limit_is sums_are sent_is sent_most limit_most table me history =
      let v : seat.me.0 ≡ home_with c.shape.before owners callers = ap (λ x. x.0) me in
      record {
        seat_is = record {
          table = table;
          slots = ap (λ x. x.1) me;
          role = ap (λ y. y.role) v;
          known = subst (λ (y : View E). length y.seen + length y.seen ≤ y.known) (sym v) (omega arith);
          history = subst (λ (y : View E). IsHistory m c y.seen) (sym v) history;
        };
        seen = ap (λ y. y.seen) v ∙ sym before;
        sums_are = sums_are;
        sent_is = sent_is;
        sent_most = sent_most;
        limit_is = limit_is;
        limit_most = limit_most;
      }
