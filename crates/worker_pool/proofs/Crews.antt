-- Steps of single calls, over plain lists.
use Rattle.std.proofs.Common.{◌≡◌, ℕ, ◌+◌, ◌-◌, ◌<◌, suc, List, [], ◌∷◌, ◌++◌, length, map, refl, ap, sym, ◌∙◌, subst, arith, append_assoc}
use Rattle.std.proofs.lemmas.List.{append-nil}
use Rattle.std.specs.List.{AllZip}
use Rattle.std.specs.Prelude.{Option, Some, None, IfNone, slice_index_or, Bool, true, false, ◌&&◌, take, drop}
use Rattle.worker_pool.specs.declared.pool.Tally.{Tally}
use Rattle.worker_pool.specs.declared.hand.Hand.{Hand}
use Rattle.worker_pool.specs.declared.desk.Desk.{Desk}
use Rattle.worker_pool.specs.declared.worker.Worker.{Worker}
use Rattle.crossbeam_queue.specs.Passes.{view, Pass}
use Rattle.part_sums.specs.Totals.{total}
use Rattle.worker_pool.specs.Jobs.{SameJobs}
use Rattle.worker_pool.specs.calls.Hands.{hand}
use Rattle.worker_pool.specs.calls.Work.{Stand, stand, unused, TookUp}
use Rattle.worker_pool.specs.calls.Crew.{seat_of, Gave}
use Rattle.part_sums.proofs.Weights.{total-append, total-snoc}
use Rattle.worker_pool.proofs.Running.{none_of}

pub and_both : (a b r : Bool) → r ≡ (a && b) → r ≡ true → (a ≡ true) × (b ≡ true)
and_both true true r is all = (refl, refl)
and_both true false r is all = (refl, sym is ∙ all)
and_both false true r is all = (sym is ∙ all, refl)
and_both false false r is all = (sym is ∙ all, sym is ∙ all)

pub if_none : {A : Type 0} (r : Option A) (P : Type 0) → P → IfNone r P
if_none None P p = p
if_none (Some x) P p = tt

module _ {J : Type 0} where
  abbrev pub at_desk : Hand J → List J → Tally → Stand J
  at_desk v own tally = record { hand = v; own = own; tally = tally }

  pub took_kept : (v : Hand J) (tally : Tally) (own rest : List J) (job : J) → own ≡ rest ++ job ∷ [] → TookUp (at_desk v own tally) job (at_desk v rest tally)
  took_kept v tally own rest job is = record { from = λ h. omega (arith, ap (total h) is, total-snoc h rest job); put = refl; tally = refl }

  pub took_queued : (v w : Hand J) (tally : Tally) (own rest : List J) (job : J) → rest ≡ own → w ≡ hand v.parts v.put (v.taken ++ job ∷ []) → TookUp (at_desk v own tally) job (at_desk w rest tally)
  took_queued v w tally own rest job same is = record {
    from = λ h. omega (arith, ap (total h) same, ap (λ (y : Hand J). total h y.taken) is, total-snoc h v.taken job);
    put = ap (λ (y : Hand J). y.put) is;
    tally = refl;
  }

  -- where nothing is held, what was put is what was taken
  pub nothing_held : (v : Hand J) (held : List J) → length held ≡ 0 → (v.parts ≡ 1024 → SameJobs v.put (v.taken ++ held)) → v.parts ≡ 1024 → SameJobs v.put v.taken
  nothing_held v held none same all h = omega (arith, same all h, total-append h v.taken held, ap (total h) (none_of held none))

  pub fresh_stand : (d : Desk J) (p : Pass J (Hand J)) → d.port ≡ p → view p ≡ hand 1 [] [] → d.own.items ≡ [] → d.tally.put ≡ 0 → d.tally.taken ≡ 0 → stand d ≡ unused
  fresh_stand d p port is own put taken =
      let seen : view d.port ≡ hand 1 [] [] = ap view port ∙ is in
      λ i. record { hand = seen i; own = own i; tally = record { put = put i; taken = taken i } }

  pub gave_none : (d : Stand J) → Gave 0 d d
  gave_none d = record { parts = omega arith; put = refl; taken = refl; own = refl; tally = refl }

  pub gave_more : (n m : ℕ) (d e : Stand J) (v : Hand J) → Gave n d e → 0 < e.hand.parts → m ≡ n + 1 → v ≡ hand (e.hand.parts - 1) e.hand.put e.hand.taken → Gave m d (at_desk v e.own e.tally)
  gave_more n m d e v gave some more is = record {
    parts = omega (arith, gave.parts, more, some, ap (λ (y : Hand J). y.parts) is);
    put = ap (λ (y : Hand J). y.put) is ∙ gave.put;
    taken = ap (λ (y : Hand J). y.taken) is ∙ gave.taken;
    own = gave.own;
    tally = gave.tally;
  }

module _ {S : Type 0} where
  -- what was written back over a whole list
  pub written : (xs ys : List S) → length xs ≡ length ys → take (length ys) (xs ++ drop (length xs) ys) ≡ xs
  written [] [] long = refl
  written [] (y ∷ ys) long = absurd (omega (arith, long))
  written (x ∷ xs) [] long = absurd (omega (arith, long))
  written (x ∷ xs) (y ∷ ys) long = ap (λ l. x ∷ l) (written xs ys (omega (arith, long)))

  pub long_both : (xs ys : List S) → length (xs ++ ys) ≡ length xs + length ys
  long_both [] ys = omega arith
  long_both (x ∷ xs) ys = omega (arith, long_both xs ys)

module _ {J S : Type 0} where
  pub long_seats : (ws : List (Worker J S)) → length (map seat_of ws) ≡ length ws
  long_seats [] = refl
  long_seats (w ∷ ws) = ap suc (long_seats ws)

  pub long_workers : (xs ys : List (Worker J S)) → length (xs ++ ys) ≡ length xs + length ys
  long_workers [] ys = omega arith
  long_workers (x ∷ xs) ys = omega (arith, long_workers xs ys)

  -- as many seats are left as have no worker
  pub seats_left : (ws : List (Worker J S)) (rest all : List S) → map seat_of ws ++ rest ≡ all → length ws + length rest ≡ length all
  seats_left ws rest all is = omega (arith, long_both (map seat_of ws) rest, long_seats ws, ap length is)

  pub seats_more : (ws : List (Worker J S)) (w : Worker J S) (rest more all : List S) → map seat_of ws ++ rest ≡ all → rest ≡ seat_of w ∷ more → map seat_of (ws ++ w ∷ []) ++ more ≡ all
  seats_more ws w rest more all is next = last ws ∙ ap (λ l. map seat_of ws ++ l) (sym next) ∙ is
    where
      last : (ws : List (Worker J S)) → map seat_of (ws ++ w ∷ []) ++ more ≡ map seat_of ws ++ (seat_of w ∷ more)
      last [] = refl
      last (x ∷ ws) = ap (λ l. seat_of x ∷ l) (last ws)

  -- place by place, of the seats of workers and what became of the workers
  pub each_of : (R : S → Worker J S → Type 0) (xs ys : List (Worker J S)) → length ys ≡ length xs → ((i : ℕ) (d : Worker J S) → i < length xs → R (seat_of (slice_index_or xs i d)) (slice_index_or ys i d))
      → AllZip R (map seat_of xs) ys
  each_of R [] [] long each = tt
  each_of R [] (y ∷ ys) long each = absurd (omega (arith, long))
  each_of R (x ∷ xs) [] long each = absurd (omega (arith, long))
  each_of R (x ∷ xs) (y ∷ ys) long each = (each 0 x (omega arith), each_of R xs ys (omega (arith, long)) (λ k d less. each (suc k) d (omega (arith, less))))

  -- the seats of workers that come back: those that are done, and those of the rest
  abbrev pub Parted : (S → Worker J S → Type 0) → (List S → Type 0) → List (Worker J S) → List S → Type 0
  Parted R Done rest before = (done : List S) × (left : List S) × (done ++ left ≡ before) × AllZip R left rest × Done done

  pub next_done : (R : S → Worker J S → Type 0) (Done Then : List S → Type 0) (w : Worker J S) (rest more : List (Worker J S)) (before : List S) → rest ≡ w ∷ more
      → ((done : List S) (s : S) → Done done → R s w → Then (done ++ s ∷ [])) → Parted R Done rest before → Parted R Then more before
  next_done R Done Then w rest more before next step was = go was.0 was.1 was.2 (subst (λ ws. AllZip R was.1 ws) next was.3) was.4
    where
      go : (done left : List S) → done ++ left ≡ before → AllZip R left (w ∷ more) → Done done → Parted R Then more before
      go done [] is zip d = absurd zip
      go done (s ∷ left) is zip d = (done ++ s ∷ [], left, append_assoc done (s ∷ []) left ∙ is, zip.1, step done s d zip.0)

  pub all_done : (R : S → Worker J S → Type 0) (Done : List S → Type 0) (rest : List (Worker J S)) (before : List S) → rest ≡ [] → Parted R Done rest before → Done before
  all_done R Done rest before none was = go was.0 was.1 was.2 (subst (λ ws. AllZip R was.1 ws) none was.3) was.4
    where
      go : (done left : List S) → done ++ left ≡ before → AllZip R left [] → Done done → Done before
      go done [] is zip d = subst Done (sym (append-nil done) ∙ is) d
      go done (s ∷ left) is zip d = absurd zip

  -- the same where the workers were lent as a slice, and written back
  pub zip_back : (R : S → Worker J S → Type 0) (old lent new whole : List (Worker J S)) → lent ≡ old → length new ≡ length lent → ((i : ℕ) (d : Worker J S) → i < length lent → R (seat_of (slice_index_or lent i d)) (slice_index_or new i d)) → whole ≡ new
      → AllZip R (map seat_of old) whole
  zip_back R old lent new whole same long each is = subst (λ ws. AllZip R (map seat_of old) ws) (sym is) (subst (λ xs. AllZip R (map seat_of xs) new) same (each_of R lent new long each))

  pub written_whole : (n : ℕ) (old lent new : List (Worker J S)) → n ≡ length old → lent ≡ old → length new ≡ length lent → take n (new ++ drop (length new) old) ≡ new
  written_whole n old lent new size same long = ap (λ k. take k (new ++ drop (length new) old)) size ∙ written new old (long ∙ ap length same)
