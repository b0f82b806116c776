-- What a pass learns by its looks, and what an entry adds to a history and to its passes.
use Rattle.std.proofs.Common.{◌≡◌, ℕ, ◌+◌, ◌≤◌, ◌<◌, ◌==◌, List, [], ◌∷◌, ◌++◌, length, refl, ap, sym, ◌∙◌, subst, arith, max, length-append, eq-eqb}
use mathlib.Core.List.{IsPrefix}
use native.Mathlib.Decide.{dec_le}
use mathlib.Core.Logic.{dite}
use Rattle.atomic_table.specs.declared.shared.Seat.{Seat}
use Rattle.upi_journal.specs.declared.view.View.{View}
use Rattle.upi_journal.specs.declared.view.Role.{Role}
use Rattle.upi_journal.specs.declared.view.Role.TheVariants.{Home, Owner, Caller, Note}
use Rattle.upi_journal.specs.Entries.{Marks, entries_in}
use Rattle.upi_journal.specs.Rule.{own, told, brought, note_of, home_with, new_owner, new_caller}
use Rattle.upi_journal.specs.Charter.{Charter, Follows, IsHistory}
use Rattle.upi_journal.specs.Passes.{Front, front, front_of, HasPass, Appended, Knows}
use Rattle.upi_journal.specs.calls.Seats.{IsHomeSeat, IsPass}
use Rattle.upi_journal.proofs.Lists.{prefix_self, prefix_grow, prefix_whole, prefix_shorter, prefix_length, last_of_both, picked-prefix, picked-push_in}

module _ {E : Type 0} (m : Marks E) where
  own-prefix : (r : Role) (xs ys : List E) → IsPrefix xs ys → IsPrefix (own m r xs) (own m r ys)
  own-prefix Home xs ys p = prefix_self []
  own-prefix Note xs ys p = prefix_self []
  own-prefix (Owner o) xs ys p = picked-prefix (λ e. m.owner e == o) xs ys p
  own-prefix (Caller o) xs ys p = picked-prefix (λ e. m.caller e == o) xs ys p

  -- who has its own entries of a beginning, and has those of the whole at the beginning of that, has those of the whole
  mine_all : (r : Role) (old log : List E) (mine : List (ℕ × E)) → mine ≡ own m r old → IsPrefix old log → IsPrefix (own m r log) mine → mine ≡ own m r log
  mine_all r old log mine is pre has =
      let more = own-prefix r old log pre in
      let a = prefix_length (own m r old) (own m r log) more in
      let b = ap length is in
      sym (prefix_whole (own m r log) mine has (omega arith))

  -- what a pass learns by a look, after it was brought what the home seat has seen
  pub shown : (v hv x : View E) → x ≡ brought v (note_of (told hv (note_of v))) → length hv.seen + length hv.seen ≤ hv.known → v.mine ≡ own m v.role v.seen → IsPrefix v.seen hv.seen
      → (length x.seen + length x.seen ≤ x.known → IsPrefix (own m x.role x.seen) x.mine) → v.mine ≡ own m v.role hv.seen
  shown v hv x is known mine pre learn =
      let enough : length hv.seen + length hv.seen ≤ max v.known (max hv.known v.known) = omega arith in
      let learned : IsPrefix (own m v.role hv.seen) v.mine = subst (λ (z : View E). length z.seen + length z.seen ≤ z.known → IsPrefix (own m z.role z.seen) z.mine) is learn enough in
      mine_all v.role v.seen hv.seen v.mine mine pre learned

  pub owner_push : (now : List E) (e : E) → own m (Owner (m.owner e)) (now ++ e ∷ []) ≡ own m (Owner (m.owner e)) now ++ (length now + 1, e) ∷ []
  owner_push now e = picked-push_in (λ x. m.owner x == m.owner e) now e (eq-eqb (m.owner e) (m.owner e) refl)

  pub caller_push : (now : List E) (e : E) → own m (Caller (m.caller e)) (now ++ e ∷ []) ≡ own m (Caller (m.caller e)) now ++ (length now + 1, e) ∷ []
  caller_push now e = picked-push_in (λ x. m.caller x == m.caller e) now e (eq-eqb (m.caller e) (m.caller e) refl)

module _ {E : Type 0} where
  -- what the home seat learns by a look, after it was told what a seat has seen
  pub told_shows : (v hv z : View E) (n : ℕ) → z ≡ told hv (note_of v) → hv.role ≡ Home
      → (z.role ≡ Home → (n ≡ length z.seen) × IsPrefix z.old z.seen) → IsPrefix v.seen hv.seen
  told_shows v hv z n is role learn = (subst (λ (y : View E). y.role ≡ Home → (n ≡ length y.seen) × IsPrefix y.old y.seen) is learn role).1

module _ {E : Type 0} (m : Marks E) (c : Charter E) where
  -- a pass has an owner's or a caller's role
  pub no_home : (r : Role) → HasPass c.shape r → r ≡ Home → ⊥
  no_home r has is = subst (HasPass c.shape) is has

  -- the home seat was told something
  pub home_told : (old new : Seat E (View E)) (w : View E) → IsHomeSeat m c old → new.table_id ≡ old.table_id → new.me ≡ (told old.me.0 w, old.me.1) → IsHomeSeat m c new
  home_told old new w h table is =
      let v : new.me.0 ≡ told old.me.0 w = ap (λ x. x.0) is in
      let enough : length old.me.0.seen + length old.me.0.seen ≤ max old.me.0.known w.known = let k = h.known in omega arith in
      record {
        table = table ∙ h.table;
        slots = ap (λ x. x.1) is ∙ h.slots;
        role = ap (λ y. y.role) v ∙ h.role;
        known = subst (λ (y : View E). length y.seen + length y.seen ≤ y.known) (sym v) enough;
        history = subst (IsHistory m c) (sym (ap (λ y. y.seen) v)) h.history;
      }

  -- a pass was brought what the home seat has seen
  pub pass_brought : (who : Role) (old new : Seat E (View E)) (w : View E) → IsPass m c who old → new.table_id ≡ old.table_id → new.me ≡ (brought old.me.0 w, old.me.1) → IsHistory m c w.seen → old.me.0.mine ≡ own m old.me.0.role w.seen → IsPass m c who new
  pass_brought who old new w p table is history mine =
      let v : new.me.0 ≡ brought old.me.0 w = ap (λ x. x.0) is in
      record {
        table = table ∙ p.table;
        slots = ap (λ x. x.1) is ∙ p.slots;
        role_is = p.role_is ∙ sym (ap (λ y. y.role) v);
        knows = subst (λ (y : View E). Knows m c (front_of y)) (sym v) (record { role = p.knows.role; mine = mine; history = history });
      }

  -- an entry goes to the end of the history
  pub history_more : (log : List E) (e : E) → IsHistory m c log → Follows m c log e → length log + 1 ≤ c.shape.limit → IsHistory m c (log ++ e ∷ [])
  history_more log e is follows room = record {
    begins = prefix_grow c.shape.before log e is.begins;
    room = omega (arith, room, length-append log (e ∷ []));
    follows = more;
  }
    where
      more : (h : List E) (x : E) → IsPrefix (h ++ x ∷ []) (log ++ e ∷ []) → length c.shape.before ≤ length h → Follows m c h x
      more h x pre past =
          let a = length-append h (x ∷ []) in
          let b = length-append log (e ∷ []) in
          let le = prefix_length (h ++ x ∷ []) (log ++ e ∷ []) pre in
          dite (dec_le (length h + 1) (length log))
          (λ less. is.follows h x (prefix_shorter (h ++ x ∷ []) log (log ++ e ∷ []) pre (e ∷ [], refl) (omega arith)) past)
          (λ more.
          let same = last_of_both h log x e (prefix_whole (h ++ x ∷ []) (log ++ e ∷ []) pre (omega arith)) in
          subst (λ (y : List E × E). Follows m c y.0 y.1) (λ i. (sym same.0 i, sym same.1 i)) follows)

  -- an entry that its owner's and its caller's pass stand for follows the history
  pub follows : (log : List E) (e : E) (owner caller : Role) → HasPass c.shape owner → HasPass c.shape caller → owner ≡ Owner (m.owner e) → caller ≡ Caller (m.caller e)
      → c.fits (entries_in (own m (Owner (m.owner e)) log)) e → c.fact log e → Follows m c log e
  follows log e owner caller a b o k fits fact =
      let of_owner : m.owner e < c.shape.owners = subst (HasPass c.shape) o a in
      let of_caller : (c.shape.first ≤ m.caller e) × (m.caller e < c.shape.first + c.shape.callers) = subst (HasPass c.shape) k b in
      record { owner = of_owner; caller = of_caller; fits = fits; fact = fact }

  -- a pass whose seat took an entry
  pub pass_entered : (who : Role) (old new : Seat E (View E)) (now : List E) (e : E) (count : ℕ) (r : Role) → IsPass m c who old → new.table_id ≡ old.table_id → new.me.1 ≡ old.me.1 → old.me.0.role ≡ r → old.me.0.mine ≡ own m r now
      → front_of new.me.0 ≡ front old.me.0.role (old.me.0.mine ++ (count + 1, e) ∷ []) (now ++ e ∷ []) → length now ≡ count
      → own m r (now ++ e ∷ []) ≡ own m r now ++ (length now + 1, e) ∷ [] → IsHistory m c (now ++ e ∷ []) → IsPass m c who new
  pass_entered who old new now e count r p table slots role mine is len picks history =
      let all : old.me.0.mine ++ (count + 1, e) ∷ [] ≡ own m r (now ++ e ∷ []) = ap (λ l. l ++ (count + 1, e) ∷ []) mine ∙ ap (λ (n : ℕ). own m r now ++ (n + 1, e) ∷ []) (sym len) ∙ sym picks in
      record {
        table = table ∙ p.table;
        slots = slots ∙ p.slots;
        role_is = p.role_is ∙ sym (ap (λ f. f.role) is);
        knows = subst (Knows m c) (sym is) (record { role = p.knows.role; mine = all ∙ ap (λ q. own m q (now ++ e ∷ [])) (sym role); history = history });
      }

  -- a seat that the home seat makes for an owner, or for a caller
  pub owner_knows : (v : View E) (log : List E) (n first : ℕ) → v ≡ home_with log n first → n < c.shape.owners → IsHistory m c log → (front_of (new_owner m v) ≡ front (Owner n) (own m (Owner n) log) log) × Knows m c (front_of (new_owner m v))
  owner_knows v log n first is below history =
      let same : front_of (new_owner m v) ≡ front (Owner n) (own m (Owner n) log) log = ap (λ y. front_of (new_owner m y)) is in
      (same, subst (Knows m c) (sym same) (record { role = below; mine = refl; history = history }))

  pub caller_knows : (v : View E) (log : List E) (owners n : ℕ) → v ≡ home_with log owners n → (c.shape.first ≤ n) × (n < c.shape.first + c.shape.callers) → IsHistory m c log → (front_of (new_caller m v) ≡ front (Caller n) (own m (Caller n) log) log) × Knows m c (front_of (new_caller m v))
  caller_knows v log owners n is within history =
      let same : front_of (new_caller m v) ≡ front (Caller n) (own m (Caller n) log) log = ap (λ y. front_of (new_caller m y)) is in
      (same, subst (Knows m c) (sym same) (record { role = within; mine = refl; history = history }))

  -- the history goes on with an entry for which both passes stand, after they have seen it all
  pub goes_on : (log all : List E) (e : E) (owner caller : Front E) (r q : Role) → all ≡ log → IsHistory m c all → HasPass c.shape r → HasPass c.shape q → r ≡ Owner (m.owner e) → q ≡ Caller (m.caller e)
      → owner.role ≡ Owner (m.owner e) → owner.mine ≡ own m owner.role log → c.fits (entries_in owner.mine) e → IsPrefix caller.seen log → c.fact caller.seen e → length log + 1 ≤ c.shape.limit → IsHistory m c (all ++ e ∷ [])
  goes_on log all e owner caller r q same history a b o k role mine fits pre fact room =
      let is : owner.mine ≡ own m (Owner (m.owner e)) all = mine ∙ ap (λ x. own m x log) role ∙ ap (own m (Owner (m.owner e))) (sym same) in
      let fits' : c.fits (entries_in (own m (Owner (m.owner e)) all)) e = subst (λ xs. c.fits (entries_in xs) e) is fits in
      let fact' : c.fact all e = subst (λ l. c.fact l e) (sym same) (c.lasts caller.seen log e pre fact) in
      history_more all e history (follows all e r q a b o k fits' fact') (subst (λ l. length l + 1 ≤ c.shape.limit) (sym same) room)

  -- the home seat after an entry was announced and taken
  pub home_entered : (old new : Seat E (View E)) (e : E) (count : ℕ) → IsHomeSeat m c old → new.table_id ≡ old.table_id → new.me.1 ≡ old.me.1 → new.me.0.role ≡ Home → new.me.0.seen ≡ old.me.0.seen ++ e ∷ [] → count + count + 2 ≤ new.me.0.known → length old.me.0.seen ≡ count → IsHistory m c (old.me.0.seen ++ e ∷ []) → IsHomeSeat m c new
  home_entered old new e count h table slots role seen known len history =
      let more : length new.me.0.seen ≡ count + 1 = ap length seen ∙ length-append old.me.0.seen (e ∷ []) ∙ ap (λ (n : ℕ). n + 1) len in
      record {
        table = table ∙ h.table;
        slots = slots ∙ h.slots;
        role = role;
        known = omega (arith, more, known);
        history = subst (IsHistory m c) (sym seen) history;
      }

module _ {E : Type 0} where
  -- a pass that saw all, and whose seat took an entry then
  pub appended : (old new : Front E) (log all : List E) (e : E) (count : ℕ) (v : View E) → front_of v ≡ front old.role old.mine log → new ≡ front v.role (v.mine ++ (count + 1, e) ∷ []) (all ++ e ∷ []) → IsPrefix old.seen all → length all ≡ count → Appended (count + 1) e old new
  appended old new log all e count v was is pre len =
      let whole : new ≡ front old.role (old.mine ++ (count + 1, e) ∷ []) (all ++ e ∷ []) = is ∙ ap (λ f. front f.role (f.mine ++ (count + 1, e) ∷ []) (all ++ e ∷ [])) was in
      subst (Appended (count + 1) e old) (sym whole) (record {
        role = refl;
        mine = refl;
        longer = prefix_grow old.seen all e pre;
        above = omega (arith, prefix_length old.seen all pre, len);
        last = (all, refl, ap (λ (n : ℕ). n + 1) (sym len));
      })
