-- Each step on a word keeps the journal's rule.
use Rattle.std.proofs.Common.{◌≡◌, ◌≢◌, ◌⊎◌, ℕ, ◌+◌, ◌≤◌, ◌==◌, Bool, true, List, [], ◌∷◌, ◌++◌, length, set, refl, ap, sym, ◌∙◌, subst, ⊎_elim, arith, length-append, eq-eqb, ne_eqb}
use Rattle.std.specs.Prelude.{slice_index}
use mathlib.Core.Option.{some, none, some-injective}
use mathlib.Core.List.{IsPrefix}
use lib.ListN.{get_elem?}
use native.Mathlib.Decide.{dec_le}
use mathlib.Core.Logic.{dite}
use prog.Atomic.{either}
use Rattle.atomic_table.specs.Table.{step, keeps, Allows}
use Rattle.atomic_table.proofs.Lists.{at_set, set_again}
use Rattle.upi_journal.specs.declared.view.View.{View}
use Rattle.upi_journal.specs.declared.view.Role.{Role}
use Rattle.upi_journal.specs.declared.view.Role.TheVariants.{Home, Owner, Caller, Note}
use Rattle.upi_journal.specs.Entries.{Marks, picked}
use Rattle.upi_journal.specs.Rule.{grown, taken, IsMade, Made, Announces, Takes, Looks, own, part, Fits, Alone, Kept}
use Rattle.upi_journal.proofs.Lists.{prefix_self, prefix_grow, prefix_trans, prefix_shorter, prefix_whole, prefix_length, picked-push_in, picked-push_out, picked-prefix, picked-more}

module _ {A : Type 0} where
  -- what holds of each view holds after one of them was set
  pub all_set : (F : A → Type 0) (views : List A) (id : ℕ) (w : A) → F w → ((j : ℕ) (u : A) → j ≢ id → get_elem? views j ≡ some u → F u) → (j : ℕ) (u : A) → get_elem? (set views id w) j ≡ some u → F u
  all_set F views id w mine others j u e =
      ⊎_elim
      (λ (x : (j ≡ id) × (w ≡ u)). subst F x.1 mine)
      (λ (x : (j ≢ id) × (get_elem? views j ≡ some u)). others j u x.0 x.1)
      (at_set views id j w u e)

module _ {E : Type 0} where
  -- a seat that keeps its role keeps it alone
  pub alone_set : (views : List (View E)) (id : ℕ) (v w : View E) → get_elem? views id ≡ some v → w.role ≡ v.role → Alone views → Alone (set views id w)
  alone_set views id v w at same alone i j a b ei ej roles real =
      let was : (k : ℕ) (u : View E) → get_elem? (set views id w) k ≡ some u → (x : View E) × (get_elem? views k ≡ some x) × (x.role ≡ u.role)
      = λ k u e. ⊎_elim
      (λ (t : (k ≡ id) × (w ≡ u)). (v, subst (λ n. get_elem? views n ≡ some v) (sym t.0) at, sym same ∙ ap (λ y. y.role) t.1))
      (λ (t : (k ≢ id) × (get_elem? views k ≡ some u)). (u, t.1, refl))
      (at_set views id k w u e)
      in
      let p = was i a ei in
      let q = was j b ej in
      alone i j p.0 q.0 p.1 q.1 (p.2 ∙ roles ∙ sym q.2) (λ note. real (sym p.2 ∙ note))

  -- a seat that keeps its role, and as home seat forgets no seat that it made, leaves each role one that was made
  pub made_set : (views : List (View E)) (id : ℕ) (v w : View E) → get_elem? views id ≡ some v → w.role ≡ v.role → (v.role ≡ Home → (r : Role) → IsMade v r → IsMade w r) → Made views → Made (set views id w)
  made_set views id v w at same keep made i j a b ei ej home =
      let was : (k : ℕ) (u : View E) → get_elem? (set views id w) k ≡ some u → (x : View E) × (get_elem? views k ≡ some x) × (x.role ≡ u.role) × (x.role ≡ Home → (r : Role) → IsMade x r → IsMade u r)
      = λ k u e. ⊎_elim
      (λ (t : (k ≡ id) × (w ≡ u)). (v, subst (λ n. get_elem? views n ≡ some v) (sym t.0) at, sym same ∙ ap (λ y. y.role) t.1, λ is r h. subst (λ y. IsMade y r) t.1 (keep is r h)))
      (λ (t : (k ≢ id) × (get_elem? views k ≡ some u)). (u, t.1, refl, λ is r h. h))
      (at_set views id k w u e)
      in
      let p = was i a ei in
      let q = was j b ej in
      let h : p.0.role ≡ Home = p.2 ∙ home in
      p.3 h b.role (subst (IsMade p.0) q.2 (made i j p.0 q.0 p.1 q.1 h))

not_more : (m n : ℕ) → (m + 1 ≤ n → ⊥) → n ≤ m
not_more m n away = dite (dec_le n m) (λ le. le) (λ ne. absurd (away (omega arith)))

off_owner : (n : ℕ) → Home ≡ Owner n → ⊥
off_owner n q = cc q

off_caller : (n : ℕ) → Home ≡ Caller n → ⊥
off_caller n q = cc q

not_owner : (n : ℕ) → Owner n ≡ Note → ⊥
not_owner n q = cc q

not_caller : (n : ℕ) → Caller n ≡ Note → ⊥
not_caller n q = cc q

module _ {E : Type 0} (k : Marks E) (before : List E) where
  pub announces : (slots id : ℕ) (v : View E) (c : List (ℕ × E)) (e : E) (m : ℕ) → v.role ≡ Home → length v.seen ≡ m → m + m ≤ v.known
      → Allows (Kept k before) slots id (v, c) 0 (λ n. either (n == m) (m + 1) n) (Announces (step slots 0 m (m + 1) (some e)) (v, c))
  announces slots id v c e m home len known s r _ at bound =
      let f = r.fits id v at in
      let whole : v.seen ≡ r.log = f.all home in
      let size : length r.log ≡ m = sym (ap length whole) ∙ len in
      let phase = f.known in
      let at_most = prefix_length r.owners r.log r.some_of in
      let fewer = prefix_length r.callers r.owners r.fewer in
      let near : m ≤ length r.callers = omega arith in
      let w = grown v e in
      let log : List E = r.log ++ e ∷ [] in
      let more : length log ≡ m + 1 = omega (arith, length-append r.log (e ∷ [])) in
      let count : either (length r.log == m) (m + 1) (length r.log) ≡ length log = rw (eq-eqb (length r.log) m size) (sym more) in (
        w,
        keeps,
        tt,
        record {
          log = log;
          owners = r.owners;
          callers = r.callers;
          words = ap (λ ws. set ws 0 (either (slice_index ws 0 == m) (m + 1) (slice_index ws 0))) r.words ∙ ap (λ (n : ℕ). n ∷ (length r.owners + length r.callers) ∷ []) count;
          begins = r.begins;
          fewer = r.fewer;
          some_of = prefix_grow r.owners r.log e r.some_of;
          near = omega arith;
          fits = all_set (Fits k log r.owners r.callers) s.views id w
              (record { seen = subst (λ l. IsPrefix (v.seen ++ e ∷ []) (l ++ e ∷ [])) whole (prefix_self (v.seen ++ e ∷ [])); old = prefix_grow v.old r.log e f.old; known = f.known; all = λ _. ap (λ l. l ++ e ∷ []) whole; mine = f.mine })
              (λ j u apart eu. let g = r.fits j u eu in record { seen = prefix_grow u.seen r.log e g.seen; old = prefix_grow u.old r.log e g.old; known = g.known; all = λ h. absurd (apart (r.alone j id u v eu at (h ∙ sym home) (λ note. off (sym h ∙ note)))); mine = g.mine });
          alone = alone_set s.views id v w at refl r.alone;
          made = made_set s.views id v w at refl (λ is q h. kept_grown q h) r.made;
        },
        (ap (λ ws. slice_index ws 0) r.words ∙ size, λ x same. ap (λ y. (grown v y, c)) (some-injective e x same)),
      )
    where
      off : Home ≡ Note → ⊥
      off p = cc p

      kept_grown : (q : Role) → IsMade v q → IsMade (grown v e) q
      kept_grown Home h = h
      kept_grown Note h = h
      kept_grown (Owner o) h = h
      kept_grown (Caller o) h = h

  -- what other seats have taken, where owners take the last entry, and where callers do
  beside_owner : (o : ℕ) (h : List E) (e : E) (owners log callers : List E) → owners ≡ h → log ≡ h ++ e ∷ [] → k.owner e ≡ o → (r : Role) → (r ≡ Owner o → ⊥) → own k r (part k r owners callers) ≡ own k r (part k r log callers)
  beside_owner o h e owners log callers a b c Home not = refl
  beside_owner o h e owners log callers a b c Note not = refl
  beside_owner o h e owners log callers a b c (Caller n) not = refl
  beside_owner o h e owners log callers a b c (Owner n) not =
      let p : E → Bool = λ x. k.owner x == n in
      let other : k.owner e ≢ n = λ same. not (ap Owner (sym same ∙ c)) in
      ap (λ l. picked p 1 l) a ∙ sym (picked-push_out p h e (ne_eqb (k.owner e) n other)) ∙ ap (λ l. picked p 1 l) (sym b)

  beside_caller : (o : ℕ) (h : List E) (e : E) (owners log callers : List E) → callers ≡ h → log ≡ h ++ e ∷ [] → k.caller e ≡ o → (r : Role) → (r ≡ Caller o → ⊥) → own k r (part k r owners callers) ≡ own k r (part k r owners log)
  beside_caller o h e owners log callers a b c Home not = refl
  beside_caller o h e owners log callers a b c Note not = refl
  beside_caller o h e owners log callers a b c (Owner n) not = refl
  beside_caller o h e owners log callers a b c (Caller n) not =
      let p : E → Bool = λ x. k.caller x == n in
      let other : k.caller e ≢ n = λ same. not (ap Caller (sym same ∙ c)) in
      ap (λ l. picked p 1 l) a ∙ sym (picked-push_out p h e (ne_eqb (k.caller e) n other)) ∙ ap (λ l. picked p 1 l) (sym b)

  pub owner_takes : (slots id : ℕ) (v : View E) (c : List (ℕ × E)) (o : ℕ) (h : List E) (e : E) (m : ℕ) → v.role ≡ Owner o → v.seen ≡ h ++ e ∷ [] → k.owner e ≡ o → v.mine ≡ own k (Owner o) h → m ≡ length h + length h → m ≤ v.known
      → Allows (Kept k before) slots id (v, c) 1 (λ n. either (n == m) (m + 1) n) (Takes (step slots 1 m (m + 1) (some e)) (v, c))
  owner_takes slots id v c o h e m role seen by mine len known s r _ at bound =
      let f = r.fits id v at in
      let p : E → Bool = λ x. k.owner x == o in
      let hit : p e ≡ true = eq-eqb (k.owner e) o by in
      let has : v.mine ≡ picked p 1 r.owners = f.mine ∙ ap (λ q. own k q (part k q r.owners r.callers)) role in
      let longer : length (h ++ e ∷ []) ≡ length h + 1 = length-append h (e ∷ []) in
      let begins : IsPrefix (h ++ e ∷ []) r.log = subst (λ l. IsPrefix l r.log) seen f.seen in
      let few : length r.owners ≤ length h = not_more (length h) (length r.owners) (λ le. picked-more p h e r.owners hit (prefix_shorter (h ++ e ∷ []) r.owners r.log begins r.some_of (omega arith)) (sym has ∙ mine)) in
      let fewer = prefix_length r.callers r.owners r.fewer in
      let phase = f.known in
      let near = r.near in
      let size : length r.owners ≡ length h = omega arith in
      let size' : length r.callers ≡ length h = omega arith in
      let all : h ++ e ∷ [] ≡ r.log = prefix_whole (h ++ e ∷ []) r.log begins (omega arith) in
      let known_by : r.owners ≡ h = prefix_whole r.owners h (prefix_shorter r.owners h r.log r.some_of (e ∷ [], all) (omega arith)) (omega arith) in
      let w = taken v (length v.seen) e (m + 1) in
      let whole : length r.log ≡ length h + 1 = sym (ap length all) ∙ longer in
      let found : length r.owners + length r.callers ≡ m = omega arith in
      let count : either ((length r.owners + length r.callers) == m) (m + 1) (length r.owners + length r.callers) ≡ length r.log + length r.callers = rw (eq-eqb (length r.owners + length r.callers) m found) (omega arith) in (
        w,
        keeps,
        tt,
        record {
          log = r.log;
          owners = r.log;
          callers = r.callers;
          words = ap (λ ws. set ws 1 (either (slice_index ws 1 == m) (m + 1) (slice_index ws 1))) r.words ∙ ap (λ (n : ℕ). length r.log ∷ n ∷ []) count;
          begins = r.begins;
          fewer = prefix_trans r.callers r.owners r.log r.fewer r.some_of;
          some_of = prefix_self r.log;
          near = near;
          fits = all_set (Fits k r.log r.log r.callers) s.views id w
              (record { seen = f.seen; old = f.old; known = omega arith; all = λ home. absurd (off_owner o (sym home ∙ role)); mine = ap (λ l. l ++ (length v.seen, e) ∷ []) mine ∙ ap (λ (n : ℕ). picked p 1 h ++ (n, e) ∷ []) (ap length seen ∙ longer) ∙ sym (picked-push_in p h e hit) ∙ ap (λ l. picked p 1 l) all ∙ ap (λ q. own k q (part k q r.log r.callers)) (sym role) })
              (λ j u apart eu. let g = r.fits j u eu in record { seen = g.seen; old = g.old; known = omega (arith, g.known); all = g.all; mine = g.mine ∙ beside_owner o h e r.owners r.log r.callers known_by (sym all) by u.role (λ same. apart (r.alone j id u v eu at (same ∙ sym role) (λ note. not_owner o (sym same ∙ note)))) });
          alone = alone_set s.views id v w at refl r.alone;
          made = made_set s.views id v w at refl (λ is. absurd (off_owner o (sym is ∙ role))) r.made;
        },
        (ap (λ ws. slice_index ws 1) r.words ∙ found, λ x same. ap (λ y. (taken v (length v.seen) y (m + 1), c)) (some-injective e x same)),
      )

  pub caller_takes : (slots id : ℕ) (v : View E) (c : List (ℕ × E)) (o : ℕ) (h : List E) (e : E) (m : ℕ) → v.role ≡ Caller o → v.seen ≡ h ++ e ∷ [] → k.caller e ≡ o → v.mine ≡ own k (Caller o) h → m ≡ length h + length h + 1 → m ≤ v.known
      → Allows (Kept k before) slots id (v, c) 1 (λ n. either (n == m) (m + 1) n) (Takes (step slots 1 m (m + 1) (some e)) (v, c))
  caller_takes slots id v c o h e m role seen by mine len known s r _ at bound =
      let f = r.fits id v at in
      let p : E → Bool = λ x. k.caller x == o in
      let hit : p e ≡ true = eq-eqb (k.caller e) o by in
      let has : v.mine ≡ picked p 1 r.callers = f.mine ∙ ap (λ q. own k q (part k q r.owners r.callers)) role in
      let longer : length (h ++ e ∷ []) ≡ length h + 1 = length-append h (e ∷ []) in
      let begins : IsPrefix (h ++ e ∷ []) r.log = subst (λ l. IsPrefix l r.log) seen f.seen in
      let some_of' = prefix_trans r.callers r.owners r.log r.fewer r.some_of in
      let few : length r.callers ≤ length h = not_more (length h) (length r.callers) (λ le. picked-more p h e r.callers hit (prefix_shorter (h ++ e ∷ []) r.callers r.log begins some_of' (omega arith)) (sym has ∙ mine)) in
      let at_most = prefix_length r.owners r.log r.some_of in
      let phase = f.known in
      let near = r.near in
      let size : length r.callers ≡ length h = omega arith in
      let all : h ++ e ∷ [] ≡ r.log = prefix_whole (h ++ e ∷ []) r.log begins (omega arith) in
      let known_by : r.callers ≡ h = prefix_whole r.callers h (prefix_shorter r.callers h r.log some_of' (e ∷ [], all) (omega arith)) (omega arith) in
      let whole : length r.log ≡ length h + 1 = sym (ap length all) ∙ longer in
      let all_owned : r.owners ≡ r.log = prefix_whole r.owners r.log r.some_of (omega arith) in
      let owned : length r.owners ≡ length h + 1 = ap length all_owned ∙ whole in
      let w = taken v (length v.seen) e (m + 1) in
      let found : length r.owners + length r.callers ≡ m = omega arith in
      let count : either ((length r.owners + length r.callers) == m) (m + 1) (length r.owners + length r.callers) ≡ length r.owners + length r.log = rw (eq-eqb (length r.owners + length r.callers) m found) (omega arith) in (
        w,
        keeps,
        tt,
        record {
          log = r.log;
          owners = r.owners;
          callers = r.log;
          words = ap (λ ws. set ws 1 (either (slice_index ws 1 == m) (m + 1) (slice_index ws 1))) r.words ∙ ap (λ (n : ℕ). length r.log ∷ n ∷ []) count;
          begins = prefix_trans before r.callers r.log r.begins some_of';
          fewer = subst (λ l. IsPrefix r.log l) (sym all_owned) (prefix_self r.log);
          some_of = r.some_of;
          near = omega arith;
          fits = all_set (Fits k r.log r.owners r.log) s.views id w
              (record { seen = f.seen; old = f.old; known = omega arith; all = λ home. absurd (off_caller o (sym home ∙ role)); mine = ap (λ l. l ++ (length v.seen, e) ∷ []) mine ∙ ap (λ (n : ℕ). picked p 1 h ++ (n, e) ∷ []) (ap length seen ∙ longer) ∙ sym (picked-push_in p h e hit) ∙ ap (λ l. picked p 1 l) all ∙ ap (λ q. own k q (part k q r.owners r.log)) (sym role) })
              (λ j u apart eu. let g = r.fits j u eu in record { seen = g.seen; old = g.old; known = omega (arith, g.known); all = g.all; mine = g.mine ∙ beside_caller o h e r.owners r.log r.callers known_by (sym all) by u.role (λ same. apart (r.alone j id u v eu at (same ∙ sym role) (λ note. not_caller o (sym same ∙ note)))) });
          alone = alone_set s.views id v w at refl r.alone;
          made = made_set s.views id v w at refl (λ is. absurd (off_caller o (sym is ∙ role))) r.made;
        },
        (ap (λ ws. slice_index ws 1) r.words ∙ found, λ x same. ap (λ y. (taken v (length v.seen) y (m + 1), c)) (some-injective e x same)),
      )

  same_words : (ws : List ℕ) (a b : ℕ) → ws ≡ a ∷ b ∷ [] → set ws 0 (slice_index ws 0) ≡ a ∷ b ∷ []
  same_words ws a b is = ap (λ l. set l 0 (slice_index l 0)) is

  -- what callers have taken has each seat's own entries of it taken
  taken_of : (h owners callers log : List E) → IsPrefix h log → IsPrefix owners log → IsPrefix callers owners → length h ≤ length callers → (r : Role) → IsPrefix (own k r h) (own k r (part k r owners callers))
  taken_of h owners callers log a b c le Home = prefix_self []
  taken_of h owners callers log a b c le Note = prefix_self []
  taken_of h owners callers log a b c le (Caller n) = picked-prefix (λ e. k.caller e == n) h callers (prefix_shorter h callers log a (prefix_trans callers owners log c b) le)
  taken_of h owners callers log a b c le (Owner n) =
      let le' = prefix_length callers owners c in
      picked-prefix (λ e. k.owner e == n) h owners (prefix_shorter h owners log a b (omega arith))

  pub looks : (slots id : ℕ) (v : View E) (c : List (ℕ × E)) → Allows (Kept k before) slots id (v, c) 0 (λ n. n) (Looks k (step slots 0 0 0 none) (v, c))
  looks slots id v c s r _ at bound =
      let f = r.fits id v at in
      let views : set s.views id v ≡ s.views = set_again s.views id v at in
      let at_most = prefix_length r.owners r.log r.some_of in
      let phase = f.known in
      let near = r.near in (
        v,
        keeps,
        tt,
        record {
          log = r.log;
          owners = r.owners;
          callers = r.callers;
          words = same_words s.words (length r.log) (length r.owners + length r.callers) r.words;
          begins = r.begins;
          fewer = r.fewer;
          some_of = r.some_of;
          near = r.near;
          fits = λ i u e. r.fits i u (subst (λ l. get_elem? l i ≡ some u) views e);
          alone = subst Alone (sym views) r.alone;
          made = subst Made (sym views) r.made;
        },
        (
          refl,
          omega (arith, ap (λ ws. slice_index ws 0) r.words, prefix_length v.seen r.log f.seen),
          (λ home. (ap (λ ws. slice_index ws 0) r.words ∙ sym (ap length (f.all home)), subst (λ l. IsPrefix v.old l) (sym (f.all home)) f.old)),
          (λ known. subst (IsPrefix (own k v.role v.seen)) (sym f.mine) (taken_of v.seen r.owners r.callers r.log f.seen r.some_of r.fewer (omega arith) v.role)),
        ),
      )
