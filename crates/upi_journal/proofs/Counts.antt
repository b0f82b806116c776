-- Running counts of what entries send, and where a message is by them.
use Rattle.std.proofs.Common.{◌≡◌, ℕ, zero, suc, ◌+◌, ◌-◌, ◌≤◌, ◌<◌, List, [], ◌∷◌, ◌++◌, length, get_or, refl, ap, sym, ◌∙◌, subst, arith, append_assoc}
use mathlib.Core.List.{IsPrefix}
use Rattle.upi_journal.specs.Entries.{Marks, sent_count, running, IsSent}
use Rattle.upi_journal.proofs.Lists.{none_of}

module _ {E : Type 0} (m : Marks E) where
  pub running-length : (t : ℕ) (xs : List E) → length (running m t xs) ≡ length xs
  running-length t [] = refl
  running-length t (x ∷ xs) = ap suc (running-length (t + m.sent x) xs)

  -- what one entry more adds
  pub sent_count-push : (xs : List E) (e : E) → sent_count m (xs ++ e ∷ []) ≡ sent_count m xs + m.sent e
  sent_count-push [] e = omega arith
  sent_count-push (x ∷ xs) e = let more = sent_count-push xs e in omega arith

  pub running-push : (t : ℕ) (xs : List E) (e : E) → running m t (xs ++ e ∷ []) ≡ running m t xs ++ (t + sent_count m xs + m.sent e) ∷ []
  running-push t [] e = ap (λ (n : ℕ). n ∷ []) (omega arith)
  running-push t (x ∷ xs) e =
      let more = running-push (t + m.sent x) xs e in
      let sums : t + m.sent x + sent_count m xs + m.sent e ≡ t + (m.sent x + sent_count m xs) + m.sent e = omega arith in
      ap (λ l. (t + m.sent x) ∷ l) (more ∙ ap (λ (n : ℕ). running m (t + m.sent x) xs ++ n ∷ []) sums)

  -- each count is at least what was sent before
  at_least : (t : ℕ) (xs : List E) (j d : ℕ) → j < length (running m t xs) → t ≤ get_or (running m t xs) j d
  at_least t [] j d lt = absurd (omega arith)
  at_least t (x ∷ xs) zero d lt = omega arith
  at_least t (x ∷ xs) (suc j) d lt = let more = at_least (t + m.sent x) xs j d (omega arith) in omega arith

  pub rises : (t : ℕ) (xs : List E) (i j d : ℕ) → i ≤ j → j < length (running m t xs) → get_or (running m t xs) i d ≤ get_or (running m t xs) j d
  rises t [] i j d le lt = absurd (omega arith)
  rises t (x ∷ xs) zero zero d le lt = omega arith
  rises t (x ∷ xs) zero (suc j) d le lt = at_least (t + m.sent x) xs j d (omega arith)
  rises t (x ∷ xs) (suc i) zero d le lt = absurd (omega arith)
  rises t (x ∷ xs) (suc i) (suc j) d le lt = rises (t + m.sent x) xs i j d (omega arith) (omega arith)

  -- where no count reaches n, neither does the whole
  reaches : (t : ℕ) (xs : List E) (n : ℕ) → t < n → ((k : ℕ) → k < length xs → get_or (running m t xs) k 0 < n) → t + sent_count m xs < n
  reaches t [] n lt below = omega arith
  reaches t (x ∷ xs) n lt below =
      let here : t + m.sent x < n = below 0 (omega arith) in
      let more = reaches (t + m.sent x) xs n here (λ k le. below (suc k) (omega arith)) in
      omega arith

  -- the list cut at one entry, with its count and the one before
  record CutAt (xs : List E) (t i : ℕ) (e : E) : Type 0 where
    pub earlier : List E
    pub later : List E
    pub is : earlier ++ e ∷ later ≡ xs
    pub len : length earlier ≡ i
    pub count : get_or (running m t xs) i 0 ≡ t + sent_count m earlier + m.sent e
    pub previous : (k : ℕ) → k + 1 ≡ i → get_or (running m t xs) k 0 ≡ t + sent_count m earlier

  cut_at : (t : ℕ) (xs : List E) (i : ℕ) (d : E) → i < length xs → CutAt xs t i (get_or xs i d)
  cut_at t [] i d lt = absurd (omega arith)
  cut_at t (x ∷ xs) zero d lt = record { earlier = []; later = xs; is = refl; len = refl; count = omega arith; previous = λ k e. absurd (omega arith) }
  cut_at t (x ∷ xs) (suc zero) d lt =
      let r = cut_at (t + m.sent x) xs zero d (omega arith) in
      let none : r.earlier ≡ [] = none_of r.earlier (omega (arith, r.len)) in
      let sent : sent_count m r.earlier ≡ 0 = ap (sent_count m) none in
      record {
        earlier = x ∷ r.earlier;
        later = r.later;
        is = ap (λ l. x ∷ l) r.is;
        len = ap suc r.len;
        count = let c = r.count in omega arith;
        previous = λ k e. let first : k ≡ 0 = omega arith in subst (λ (n : ℕ). get_or ((t + m.sent x) ∷ running m (t + m.sent x) xs) n 0 ≡ t + (m.sent x + sent_count m r.earlier)) (sym first) (omega arith);
      }
  cut_at t (x ∷ xs) (suc (suc j)) d lt =
      let r = cut_at (t + m.sent x) xs (suc j) d (omega arith) in
      record {
        earlier = x ∷ r.earlier;
        later = r.later;
        is = ap (λ l. x ∷ l) r.is;
        len = ap suc r.len;
        count = let c = r.count in omega arith;
        previous = λ k e. let before : k ≡ suc j = omega arith in
            let p : get_or (running m (t + m.sent x) xs) j 0 ≡ t + m.sent x + sent_count m r.earlier = r.previous j (omega arith) in
            subst (λ (n : ℕ). get_or ((t + m.sent x) ∷ running m (t + m.sent x) xs) n 0 ≡ t + (m.sent x + sent_count m r.earlier)) (sym before) (omega arith);
      }

  -- what was sent before the entry doesn't reach n, where no earlier count does
  earlier_below : (xs : List E) (n i : ℕ) (e : E) → 0 < n → ((k : ℕ) → k < i → get_or (running m 0 xs) k 0 < n) → (c : CutAt xs 0 i e) → sent_count m c.earlier < n
  earlier_below xs n zero e some below c =
      let none : sent_count m c.earlier ≡ 0 = ap (sent_count m) (none_of c.earlier (omega (arith, c.len))) in
      omega arith
  earlier_below xs n (suc k) e some below c =
      let lt = below k (omega arith) in
      let p = c.previous k (omega arith) in
      omega arith

  -- some count reaches n
  pub some_reaches : (xs : List E) (sums : List ℕ) (n i : ℕ) → sums ≡ running m 0 xs → 0 < n → n ≤ sent_count m xs → i ≤ length sums → ((k : ℕ) → k < i → get_or sums k 0 < n) → i < length xs
  some_reaches xs sums n i is some enough bound below =
      let len : length sums ≡ length xs = ap length is ∙ running-length 0 xs in
      let below' : (k : ℕ) → k < i → get_or (running m 0 xs) k 0 < n = subst (λ (l : List ℕ). (k : ℕ) → k < i → get_or l k 0 < n) is below in
      not_all i (length xs) (omega arith) (λ whole. let over = reaches 0 xs n some (λ k lt. below' k (omega arith)) in omega arith)
    where
      not_all : (a b : ℕ) → a ≤ b → (a ≡ b → ⊥) → a < b
      not_all a b le away = omega (arith, away)

  -- the entry whose count is the first to reach n sends message n
  pub sent_at : (xs : List E) (sums : List ℕ) (n i s : ℕ) (e : E) → sums ≡ running m 0 xs → 0 < n → i < length xs → e ≡ get_or xs i e → s ≡ m.sent e → ((k : ℕ) → k < i → get_or sums k 0 < n) → n ≤ get_or sums i 0
      → (s ≤ get_or sums i 0) × (get_or sums i 0 - s < n) × IsSent m xs n (i + 1) (n - (get_or sums i 0 - s) - 1) e
  sent_at xs sums n i s e is some lt at sends below reached =
      let c : CutAt xs 0 i e = subst (CutAt xs 0 i) (sym at) (cut_at 0 xs i e lt) in
      let below' : (k : ℕ) → k < i → get_or (running m 0 xs) k 0 < n = subst (λ (l : List ℕ). (k : ℕ) → k < i → get_or l k 0 < n) is below in
      let less = earlier_below xs n i e some below' c in
      let count : get_or sums i 0 ≡ sent_count m c.earlier + m.sent e = ap (λ (l : List ℕ). get_or l i 0) is ∙ c.count ∙ omega arith in (
        omega arith,
        omega arith,
        record {
          earlier = c.earlier;
          there = (c.later, append_assoc c.earlier (e ∷ []) c.later ∙ c.is);
          place_is = omega (arith, c.len);
          number = omega arith;
          within = omega arith;
        },
      )
