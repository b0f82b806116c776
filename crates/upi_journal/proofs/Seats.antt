-- Seats are split and joined, and the journal's rule is kept.
use Rattle.std.proofs.Common.{◌≡◌, ◌≢◌, ◌⊎◌, ℕ, zero, suc, ◌+◌, ◌≤◌, List, [], ◌∷◌, ◌++◌, length, set, refl, ap, sym, ◌∙◌, subst, ⊎_elim, inl, inr, arith, max}
use mathlib.Core.Option.{some, some-injective, some-ne-none}
use mathlib.Core.List.{IsPrefix}
use lib.ListN.{get_elem?}
use Rattle.atomic_table.specs.Table.{Splits, Joins, opening}
use Rattle.atomic_table.proofs.Lists.{at_set, at_snoc, set_again}
use Rattle.upi_journal.specs.declared.view.View.{View}
use Rattle.upi_journal.specs.declared.view.Role.{Role}
use Rattle.upi_journal.specs.declared.view.Role.TheVariants.{Home, Owner, Caller, Note}
use Rattle.upi_journal.specs.Entries.{Marks}
use Rattle.upi_journal.specs.Rule.{home_with, note_of, spent, told, brought, owner_more, new_owner, caller_more, new_caller, seat_of, IsMade, own, part, Fits, Alone, Made, Kept}
use Rattle.upi_journal.proofs.Lists.{prefix_self, prefix_length, prefix_whole}
use Rattle.upi_journal.proofs.Moves.{all_set, alone_set, made_set}

no_note : Note ≡ Home → ⊥
no_note p = cc p

not_above : {a b n : ℕ} → a ≤ n → b ≤ n → max a b ≤ n
not_above p q = omega (arith, p, q)

module _ {E : Type 0} where
  -- what holds of each seat, and of a new one at the end
  snoc : (F : View E → Type 0) (views : List (View E)) (w : View E) → ((j : ℕ) (u : View E) → get_elem? views j ≡ some u → F u) → F w → (j : ℕ) (u : View E) → get_elem? (views ++ w ∷ []) j ≡ some u → F u
  snoc F views w others mine j u e =
      ⊎_elim (λ was. others j u was) (λ (same : w ≡ u). subst F same mine) (at_snoc views w u j e)

  -- a new seat's place is the number of seats before
  at_end : (l : List (View E)) (a b : View E) (j : ℕ) → get_elem? (l ++ a ∷ []) j ≡ some b → (get_elem? l j ≡ some b) ⊎ ((a ≡ b) × (j ≡ length l))
  at_end [] a b zero e = inr (some-injective a b e, refl)
  at_end [] a b (suc j) e = absurd (some-ne-none b (sym e))
  at_end (x ∷ xs) a b zero e = inl e
  at_end (x ∷ xs) a b (suc j) e = ⊎_elim (λ h. inl h) (λ (h : (a ≡ b) × (j ≡ length xs)). inr (h.0, ap suc h.1)) (at_end xs a b j e)

  -- a new seat has a role of its own, or is a note
  alone_snoc : (views : List (View E)) (w : View E) → ((j : ℕ) (u : View E) → get_elem? views j ≡ some u → u.role ≡ w.role → u.role ≡ Note) → Alone views → Alone (views ++ w ∷ [])
  alone_snoc views w new alone i j a b ei ej roles real =
      ⊎_elim
      (λ (p : get_elem? views i ≡ some a). ⊎_elim
      (λ (q : get_elem? views j ≡ some b). alone i j a b p q roles real)
      (λ (q : (w ≡ b) × (j ≡ length views)). absurd (real (new i a p (roles ∙ sym (ap (λ y. y.role) q.0)))))
      (at_end views w b j ej))
      (λ (p : (w ≡ a) × (i ≡ length views)). ⊎_elim
      (λ (q : get_elem? views j ≡ some b). absurd (real (roles ∙ new j b q (sym roles ∙ sym (ap (λ y. y.role) p.0)))))
      (λ (q : (w ≡ b) × (j ≡ length views)). p.1 ∙ sym q.1)
      (at_end views w b j ej))
      (at_end views w a i ei)

  made_snoc : (views : List (View E)) (w : View E) → (w.role ≡ Home → ⊥) → ((i : ℕ) (v : View E) → get_elem? views i ≡ some v → v.role ≡ Home → IsMade v w.role) → Made views → Made (views ++ w ∷ [])
  made_snoc views w away new made i j a b ei ej home =
      ⊎_elim
      (λ (p : get_elem? views i ≡ some a). ⊎_elim
      (λ (q : get_elem? views j ≡ some b). made i j a b p q home)
      (λ (same : w ≡ b). subst (λ y. IsMade a y.role) same (new i a p home))
      (at_snoc views w b j ej))
      (λ (same : w ≡ a). absurd (away (ap (λ y. y.role) same ∙ home)))
      (at_snoc views w a i ei)

module _ {E : Type 0} (k : Marks E) where
  only : (x : View E) (i : ℕ) (v : View E) → get_elem? (x ∷ []) i ≡ some v → (i ≡ 0) × (x ≡ v)
  only x zero v e = (refl, some-injective x v e)
  only x (suc i) v e = absurd (some-ne-none v (sym e))

  -- the rule holds at the start, where all that stands before was taken
  pub begins : (before : List E) (first : ℕ) → Kept k before (opening (length before ∷ (length before + length before) ∷ []) [] (home_with before 0 first))
  begins before first =
      let home = home_with before 0 first in
      record {
        log = before;
        owners = before;
        callers = before;
        words = refl;
        begins = prefix_self before;
        fewer = prefix_self before;
        some_of = prefix_self before;
        near = omega arith;
        fits = λ i v e. subst (Fits k before before before) (only home i v e).1 (record { seen = prefix_self before; old = (before, refl); known = omega arith; all = λ _. refl; mine = refl });
        alone = λ i j v w a b _ _. (only home i v a).0 ∙ sym (only home j w b).0;
        made = λ i j v w a b _. subst (λ (y : View E). IsMade v y.role) (only home j w b).1 tt;
      }

module _ {E : Type 0} (k : Marks E) (before : List E) where
  pub notes : (id : ℕ) (v : View E) → Splits (Kept k before) id v v (note_of v)
  notes id v s r at =
      let f = r.fits id v at in
      let views : s.views ≡ set s.views id v = sym (set_again s.views id v at) in
      subst (λ l. Kept k before (record { words = s.words; homes = s.homes; views = l ++ note_of v ∷ [] })) views (record {
        log = r.log;
        owners = r.owners;
        callers = r.callers;
        words = r.words;
        begins = r.begins;
        fewer = r.fewer;
        some_of = r.some_of;
        near = r.near;
        fits = snoc (Fits k r.log r.owners r.callers) s.views (note_of v) r.fits (record { seen = f.seen; old = (r.log, refl); known = f.known; all = λ h. absurd (no_note h); mine = refl });
        alone = alone_snoc s.views (note_of v) (λ j u e same. same) r.alone;
        made = made_snoc s.views (note_of v) no_note (λ i u e home. tt) r.made;
      })

  -- a note goes into a seat, which keeps its role and its own entries
  pub joins : (id : ℕ) (v : View E) (other : ℕ) (w both : View E) → w.role ≡ Note → both.role ≡ v.role → both.mine ≡ v.mine → (v.role ≡ Home → (q : Role) → IsMade v q → IsMade both q)
      → ((log owners callers : List E) → Fits k log owners callers v → Fits k log owners callers w → IsPrefix both.seen log × IsPrefix both.old log × (both.known ≤ length owners + length callers) × (v.role ≡ Home → both.seen ≡ log))
      → Joins (Kept k before) id v other w both spent
  joins id v other w both note role mine keep gives s r at apart there =
      let f = r.fits id v at in
      let was : get_elem? s.views other ≡ some w = ⊎_elim (λ (t : (other ≡ id) × (both ≡ w)). absurd (apart t.0)) (λ (t : (other ≢ id) × (get_elem? s.views other ≡ some w)). t.1) (at_set s.views id other both w there) in
      let g = r.fits other w was in
      let b = gives r.log r.owners r.callers f g in
      let first = made_set s.views id v both at role keep r.made in
      let F = Fits k r.log r.owners r.callers in
      record {
        log = r.log;
        owners = r.owners;
        callers = r.callers;
        words = r.words;
        begins = r.begins;
        fewer = r.fewer;
        some_of = r.some_of;
        near = r.near;
        fits = all_set F (set s.views id both) other spent
            (record { seen = (r.log, refl); old = (r.log, refl); known = omega arith; all = λ h. absurd (no_note h); mine = refl })
            (λ j u _ e. all_set F s.views id both
            (record { seen = b.0; old = b.1; known = b.2; all = λ h. b.3 (sym role ∙ h); mine = mine ∙ f.mine ∙ ap (λ q. own k q (part k q r.owners r.callers)) (sym role) })
            (λ i x _ e'. r.fits i x e') j u e);
        alone = alone_set (set s.views id both) other w spent there (sym note) (alone_set s.views id v both at role r.alone);
        made = made_set (set s.views id both) other w spent there (sym note) (λ is. absurd (no_note (sym note ∙ is))) first;
      }

  pub tells : (id : ℕ) (v : View E) (other : ℕ) (w : View E) → w.role ≡ Note → Joins (Kept k before) id v other w (told v w) spent
  tells id v other w note = joins id v other w (told v w) note refl refl (λ is q h. made_told q h) (λ log owners callers f g. (f.seen, g.seen, not_above f.known g.known, f.all))
    where
      made_told : (q : Role) → IsMade v q → IsMade (told v w) q
      made_told Home h = h
      made_told Note h = h
      made_told (Owner o) h = h
      made_told (Caller c) h = h

  pub brings : (id : ℕ) (v : View E) (other : ℕ) (w : View E) → w.role ≡ Note → (v.role ≡ Home → ⊥) → Joins (Kept k before) id v other w (brought v w) spent
  brings id v other w note away = joins id v other w (brought v w) note refl refl (λ is. absurd (away is)) (λ log owners callers f g. (g.seen, f.seen, not_above f.known g.known, λ is. absurd (away is)))

  part_all : (log owners callers : List E) → owners ≡ log → callers ≡ log → (q : Role) → part k q owners callers ≡ log
  part_all log owners callers a b Home = b
  part_all log owners callers a b Note = b
  part_all log owners callers a b (Owner o) = a
  part_all log owners callers a b (Caller c) = b

  -- the home seat, which knows that all was taken, makes a seat of a role that has none yet, and counts it
  makes : (id : ℕ) (v left : View E) (q : Role) → v.role ≡ Home → length v.seen + length v.seen ≤ v.known → left.role ≡ v.role → ((log owners callers : List E) → Fits k log owners callers v → Fits k log owners callers left)
      → ((p : Role) → IsMade v p → IsMade left p) → IsMade left q → (q ≡ Home → ⊥) → ((p : Role) → p ≡ q → IsMade v p → ⊥) → Splits (Kept k before) id v left (seat_of k q v)
  makes id v left q home known role keeps more made off new s r at =
      let f = r.fits id v at in
      let log : v.seen ≡ r.log = f.all home in
      let len = ap length log in
      let phase = f.known in
      let le = prefix_length r.owners r.log r.some_of in
      let le' = prefix_length r.callers r.owners r.fewer in
      let owners : r.owners ≡ r.log = prefix_whole r.owners r.log r.some_of (omega arith) in
      let callers : r.callers ≡ r.log = prefix_whole r.callers r.owners r.fewer (omega arith) ∙ owners in
      let w = seat_of k q v in
      let F = Fits k r.log r.owners r.callers in
      let fresh : (j : ℕ) (u : View E) → get_elem? (set s.views id left) j ≡ some u → u.role ≡ q → ⊥
      = λ j u e same. ⊎_elim
      (λ (t : (j ≡ id) × (left ≡ u)). off (sym same ∙ sym (ap (λ y. y.role) t.1) ∙ role ∙ home))
      (λ (t : (j ≢ id) × (get_elem? s.views j ≡ some u)). new u.role same (r.made id j v u at t.1 home))
      (at_set s.views id j left u e)
      in
      record {
        log = r.log;
        owners = r.owners;
        callers = r.callers;
        words = r.words;
        begins = r.begins;
        fewer = r.fewer;
        some_of = r.some_of;
        near = r.near;
        fits = snoc F (set s.views id left) w
            (all_set F s.views id left (keeps r.log r.owners r.callers f) (λ j u _ e. r.fits j u e))
            (record { seen = f.seen; old = (r.log, refl); known = f.known; all = λ h. absurd (off h); mine = ap (own k q) (log ∙ sym (part_all r.log r.owners r.callers owners callers q)) });
        alone = alone_snoc (set s.views id left) w (λ j u e same. absurd (fresh j u e same)) (alone_set s.views id v left at role r.alone);
        made = made_snoc (set s.views id left) w off
            (λ i u e is. all_set (λ x. x.role ≡ Home → IsMade x q) s.views id left (λ _. made) (λ j x apart ex hx. absurd (apart (r.alone j id x v ex at (hx ∙ sym home) (λ z. no_note (sym z ∙ hx))))) i u e is)
            (made_set s.views id v left at role (λ is. more) r.made);
      }

  pub makes_owner : (id : ℕ) (v : View E) → v.role ≡ Home → length v.seen + length v.seen ≤ v.known → Splits (Kept k before) id v (owner_more v) (new_owner k v)
  makes_owner id v home known = makes id v (owner_more v) (Owner v.owners_made) home known refl
      (λ log owners callers f. record { seen = f.seen; old = f.old; known = f.known; all = f.all; mine = f.mine })
      more (omega arith) (λ p. cc p) lower
    where
      more : (p : Role) → IsMade v p → IsMade (owner_more v) p
      more Home h = h
      more Note h = h
      more (Owner o) h = omega arith
      more (Caller c) h = h

      same_owner : (a b : ℕ) → Owner a ≡ Owner b → a ≡ b
      same_owner a b p = cc p

      lower : (p : Role) → p ≡ Owner v.owners_made → IsMade v p → ⊥
      lower Home e h = cc e
      lower Note e h = cc e
      lower (Caller c) e h = cc e
      lower (Owner o) e h = omega (arith, same_owner o v.owners_made e)

  pub makes_caller : (id : ℕ) (v : View E) → v.role ≡ Home → length v.seen + length v.seen ≤ v.known → Splits (Kept k before) id v (caller_more v) (new_caller k v)
  makes_caller id v home known = makes id v (caller_more v) (Caller v.callers_made) home known refl
      (λ log owners callers f. record { seen = f.seen; old = f.old; known = f.known; all = f.all; mine = f.mine })
      more (omega arith) (λ p. cc p) lower
    where
      more : (p : Role) → IsMade v p → IsMade (caller_more v) p
      more Home h = h
      more Note h = h
      more (Caller c) h = omega arith
      more (Owner o) h = h

      same_caller : (a b : ℕ) → Caller a ≡ Caller b → a ≡ b
      same_caller a b p = cc p

      lower : (p : Role) → p ≡ Caller v.callers_made → IsMade v p → ⊥
      lower Home e h = cc e
      lower Note e h = cc e
      lower (Owner o) e h = cc e
      lower (Caller c) e h = omega (arith, same_caller c v.callers_made e)
