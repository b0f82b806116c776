-- What workers do, one job after another, and all together.
use Rattle.std.proofs.Common.{◌≡◌, ℕ, ◌+◌, List, [], ◌∷◌, ◌++◌, length, set, ◌<◌, refl, ap, sym, ◌∙◌, subst, arith, append_assoc}
use Rattle.std.specs.Prelude.{slice_index_or}
use Rattle.worker_pool.specs.declared.pool.Tally.{Tally}
use Rattle.worker_pool.specs.declared.hand.Hand.{Hand}
use Rattle.part_sums.specs.Totals.{total}
use Rattle.worker_pool.specs.Jobs.{SameJobs, jobs_of, added_by, joined, counted, Leads, AllLed, Drained}
use Rattle.worker_pool.specs.calls.Work.{Stand, unused, IsCount, TookUp, RanOne, Worked}
use Rattle.worker_pool.specs.calls.Crew.{Gave, TookIn, Joined}
use Rattle.part_sums.proofs.Weights.{total-append}
use Rattle.worker_pool.proofs.Counts.{counted_more, counted_both, counted_none, counted_small}

module _ {J : Type 0} where
  pub none_of : (l : List J) → length l ≡ 0 → l ≡ []
  none_of [] le = refl
  none_of (x ∷ xs) le = absurd (omega arith)

  pub many : (xs ys : List J) → length (xs ++ ys) ≡ length xs + length ys
  many [] ys = omega arith
  many (x ∷ xs) ys = omega (arith, many xs ys)

  -- as many jobs as weigh 1 each
  pub total_ones : (xs : List J) → total (λ j. 1) xs ≡ length xs
  total_ones [] = refl
  total_ones (x ∷ xs) = omega (arith, total_ones xs)

module _ {J : Type 0} where
  pub jobs_of-append : (xs ys : List (J × List J)) → jobs_of (xs ++ ys) ≡ jobs_of xs ++ jobs_of ys
  jobs_of-append [] ys = refl
  jobs_of-append (x ∷ xs) ys = ap (λ l. x.0 ∷ l) (jobs_of-append xs ys)

  pub added_by-append : (xs ys : List (J × List J)) → added_by (xs ++ ys) ≡ added_by xs ++ added_by ys
  added_by-append [] ys = refl
  added_by-append (x ∷ xs) ys = ap (λ l. x.1 ++ l) (added_by-append xs ys) ∙ sym (append_assoc x.1 (added_by xs) (added_by ys))

  pub joined-append : (xs ys : List (List (J × List J))) → joined (xs ++ ys) ≡ joined xs ++ joined ys
  joined-append [] ys = refl
  joined-append (x ∷ xs) ys = ap (λ l. x ++ l) (joined-append xs ys) ∙ sym (append_assoc x (joined xs) (joined ys))

  pub long_jobs : (ran : List (J × List J)) → length (jobs_of ran) ≡ length ran
  long_jobs [] = refl
  long_jobs (x ∷ xs) = omega (arith, long_jobs xs)

  pub weigh_jobs : (h : J → ℕ) (xs ys : List (J × List J)) → total h (jobs_of (xs ++ ys)) ≡ total h (jobs_of xs) + total h (jobs_of ys)
  weigh_jobs h xs ys = ap (total h) (jobs_of-append xs ys) ∙ total-append h (jobs_of xs) (jobs_of ys)

  pub weigh_added : (h : J → ℕ) (xs ys : List (J × List J)) → total h (added_by (xs ++ ys)) ≡ total h (added_by xs) + total h (added_by ys)
  weigh_added h xs ys = ap (total h) (added_by-append xs ys) ∙ total-append h (added_by xs) (added_by ys)

  pub long_added : (xs ys : List (J × List J)) → length (added_by (xs ++ ys)) ≡ length (added_by xs) + length (added_by ys)
  long_added xs ys = ap length (added_by-append xs ys) ∙ many (added_by xs) (added_by ys)

  -- one run more
  pub more_added : (n : ℕ) (ran : List (J × List J)) (job : J) (added : List J) → n + length (added_by ran) + length added ≡ n + length (added_by (ran ++ (job, added) ∷ []))
  more_added n ran job added = omega (arith, long_added ran ((job, added) ∷ []), many added [])

  pub more_ran : (n : ℕ) (ran : List (J × List J)) (r : J × List J) → n + length ran + 1 ≡ n + length (ran ++ r ∷ [])
  more_ran n ran r = omega (arith, many ran (r ∷ []))

  -- the runs of one seat more
  pub weigh_joined_jobs : (h : J → ℕ) (runs : List (List (J × List J))) (ran : List (J × List J)) → total h (jobs_of (joined (runs ++ ran ∷ []))) ≡ total h (jobs_of (joined runs)) + total h (jobs_of ran)
  weigh_joined_jobs h runs ran =
      ap (λ l. total h (jobs_of l)) (joined-append runs (ran ∷ [])) ∙ omega (arith, weigh_jobs h (joined runs) (ran ++ []), weigh_jobs h ran [])

  pub weigh_joined_added : (h : J → ℕ) (runs : List (List (J × List J))) (ran : List (J × List J)) → total h (added_by (joined (runs ++ ran ∷ []))) ≡ total h (added_by (joined runs)) + total h (added_by ran)
  weigh_joined_added h runs ran =
      ap (λ l. total h (added_by l)) (joined-append runs (ran ∷ [])) ∙ omega (arith, weigh_added h (joined runs) (ran ++ []), weigh_added h ran [])

  pub more_joined_added : (n : ℕ) (runs : List (List (J × List J))) (ran : List (J × List J)) → n + (length (added_by (joined runs)) + length (added_by ran)) ≡ n + length (added_by (joined (runs ++ ran ∷ [])))
  more_joined_added n runs ran =
      omega (arith, ap (λ l. length (added_by l)) (joined-append runs (ran ∷ [])), long_added (joined runs) (ran ++ []), long_added ran [])

  pub more_joined : (n : ℕ) (runs : List (List (J × List J))) (ran : List (J × List J)) → n + (length (joined runs) + length ran) ≡ n + length (joined (runs ++ ran ∷ []))
  more_joined n runs ran = omega (arith, ap length (joined-append runs (ran ∷ [])), many (joined runs) (ran ++ []), many ran [])

module _ {J S : Type 0} (does : S → J → List J → S → Type 0) where
  pub leads_on : (s m t : S) (ran more : List (J × List J)) → Leads does s ran m → Leads does m more t → Leads does s (ran ++ more) t
  leads_on s m t [] more is l = subst (λ x. Leads does x more t) (sym is) l
  leads_on s m t (r ∷ ran) more l after = (l.0, l.1, leads_on l.0 m t ran more l.2 after)

  pub led_more : (ss : List S) (runs : List (List (J × List J))) (ts : List S) (s : S) (ran : List (J × List J)) (t : S)
      → AllLed does ss runs ts → Leads does s ran t → AllLed does (ss ++ s ∷ []) (runs ++ ran ∷ []) (ts ++ t ∷ [])
  led_more [] [] [] s ran t led l = (l, tt)
  led_more [] [] (x ∷ ts) s ran t led l = absurd led
  led_more [] (x ∷ runs) ts s ran t led l = absurd led
  led_more (x ∷ ss) [] ts s ran t led l = absurd led
  led_more (x ∷ ss) (y ∷ runs) [] s ran t led l = absurd led
  led_more (x ∷ ss) (y ∷ runs) (z ∷ ts) s ran t led l = (led.0, led_more ss runs ts s ran t led.1 l)

  pub idle : (s : S) (d : Stand J) → IsCount d → Worked does s d s d
  idle s d count = record { ran = []; leads = refl; even = λ h. omega arith; put_count = counted_none d.tally.put count.0; taken_count = counted_none d.tally.taken count.1 }

  -- a worker that begins
  pub begun : (s : S) (d : Stand J) → d ≡ unused → Worked does s unused s d
  begun s d is = subst (λ (x : Stand J). Worked does s unused s x) (sym is) (idle s unused (counted_small 0 (omega arith), counted_small 0 (omega arith)))

  -- a job was taken up and run
  pub worked_on : (s m t : S) (d e f g : Stand J) (job : J) → Worked does s d m e → TookUp e job f → RanOne does m f job t g → Worked does s d t g
  worked_on s m t d e f g job was took ran =
      let r : J × List J = (job, ran.added) in
      let one : List (J × List J) = r ∷ [] in record {
        ran = was.ran ++ one;
        leads = leads_on s m t was.ran one was.leads (t, ran.did, refl);
        even = λ h.
            omega (
              arith,
              was.even h,
              took.from h,
              ran.adds h,
              ap (total h) took.put,
              ap (total h) ran.taken,
              ap (total h) (jobs_of-append was.ran one),
              total-append h (jobs_of was.ran) (job ∷ []),
              ap (total h) (added_by-append was.ran one),
              total-append h (added_by was.ran) (ran.added ++ []),
              total-append h ran.added [],
            );
        put_count = ran.put_count ∙ ap (λ (c : Tally). counted (c.put + length ran.added)) took.tally
            ∙ counted_more e.tally.put (d.tally.put + length (added_by was.ran)) (length ran.added) was.put_count
            ∙ ap counted (more_added d.tally.put was.ran job ran.added);
        taken_count = ran.taken_count ∙ ap (λ (c : Tally). counted (c.taken + 1)) took.tally
            ∙ counted_more e.tally.taken (d.tally.taken + length was.ran) 1 was.taken_count
            ∙ ap counted (more_ran d.tally.taken was.ran r);
      }

  -- one more worker came back
  pub joined_on : (ss ts : List S) (s t : S) (d e f other : Stand J) → Joined does ss d ts e → Worked does s unused t other → other.own ≡ [] → TookIn e other f → Joined does (ss ++ s ∷ []) d (ts ++ t ∷ []) f
  joined_on ss ts s t d e f other was worked none took = record {
    runs = was.runs ++ worked.ran ∷ [];
    led = led_more ss was.runs ts s worked.ran t was.led worked.leads;
    even = λ h.
        omega (
          arith,
          was.even h,
          worked.even h,
          ap (total h) none,
          ap (λ (v : Hand J). total h v.put) took.hand,
          ap (λ (v : Hand J). total h v.taken) took.hand,
          total-append h e.hand.put other.hand.put,
          total-append h e.hand.taken other.hand.taken,
          weigh_joined_jobs h was.runs worked.ran,
          weigh_joined_added h was.runs worked.ran,
        );
    own = took.own ∙ was.own;
    put_count = took.put_count ∙ counted_both e.tally.put other.tally.put d.tally.put (length (added_by (joined was.runs))) (length (added_by worked.ran)) was.put_count worked.put_count
        ∙ ap counted (more_joined_added d.tally.put was.runs worked.ran);
    taken_count = took.taken_count ∙ counted_both e.tally.taken other.tally.taken d.tally.taken (length (joined was.runs)) (length worked.ran) was.taken_count worked.taken_count
        ∙ ap counted (more_joined d.tally.taken was.runs worked.ran);
  }

  pub none_joined : (d : Stand J) → IsCount d → Joined does [] d [] d
  none_joined d count = record { runs = []; led = tt; even = λ h. omega arith; own = refl; put_count = counted_none d.tally.put count.0; taken_count = counted_none d.tally.taken count.1 }

  -- of a drain's desk: after the first jobs were put, with the parts given away, with all workers back, and at the end
  drained_by : (before : List S) (s t : S) (rest : List S) (first : List J) (n : ℕ) (a b c d : Stand J) → a.hand.taken ≡ [] → ((h : J → ℕ) → total h a.hand.put + total h a.own ≡ total h first) → a.tally.put ≡ length first → a.tally.taken ≡ 0
      → Gave n a b → Joined does before b (s ∷ rest) c → Worked does s c t d → d.own ≡ [] → SameJobs d.hand.put d.hand.taken → Drained does before first (t ∷ rest) d.tally
  drained_by before s t rest first n a b c d none put count zero gave home last own same =
      go before home.runs home.led home.even home.put_count home.taken_count
    where
      go : (before : List S) (runs : List (List (J × List J))) → AllLed does before runs (s ∷ rest)
          → ((h : J → ℕ) → total h (jobs_of (joined runs)) + total h c.hand.put + total h b.hand.taken ≡ total h c.hand.taken + total h (added_by (joined runs)) + total h b.hand.put)
          → c.tally.put ≡ counted (b.tally.put + length (added_by (joined runs))) → c.tally.taken ≡ counted (b.tally.taken + length (joined runs)) → Drained does before first (t ∷ rest) d.tally
      go [] [] led even puts takes = absurd led
      go [] (x ∷ runs) led even puts takes = absurd led
      go (x ∷ before) [] led even puts takes = absurd led
      go (x ∷ before) (ran ∷ runs) led even puts takes =
          let mine : List (J × List J) = ran ++ last.ran in record {
            runs = mine ∷ runs;
            led = (leads_on x s t ran last.ran led.0 last.leads, led.1);
            once = λ h.
                omega (
                  arith,
                  put h,
                  even h,
                  last.even h,
                  same h,
                  ap (total h) none,
                  ap (total h) gave.put,
                  ap (total h) gave.taken,
                  ap (total h) gave.own,
                  ap (total h) home.own,
                  ap (total h) own,
                  total-append h first (added_by (mine ++ joined runs)),
                  weigh_jobs h ran (joined runs),
                  weigh_jobs h mine (joined runs),
                  weigh_jobs h ran last.ran,
                  weigh_added h ran (joined runs),
                  weigh_added h mine (joined runs),
                  weigh_added h ran last.ran,
                );
            put = last.put_count
                ∙ counted_more c.tally.put (b.tally.put + length (added_by (ran ++ joined runs))) (length (added_by last.ran)) puts
                ∙ ap
                counted
                (omega (
                  arith,
                  ap (λ (k : Tally). k.put) gave.tally,
                  count,
                  many first (added_by (mine ++ joined runs)),
                  long_added ran (joined runs),
                  long_added mine (joined runs),
                  long_added ran last.ran,
                ));
            taken = last.taken_count
                ∙ counted_more c.tally.taken (b.tally.taken + length (ran ++ joined runs)) (length last.ran) takes
                ∙ ap
                counted
                (omega (
                  arith,
                  ap (λ (k : Tally). k.taken) gave.tally,
                  zero,
                  many ran (joined runs),
                  many mine (joined runs),
                  many ran last.ran,
                ));
          }

  pub drained : (before mid : List S) (s t : S) (first : List J) (n : ℕ) (a b c d : Stand J) → 0 < length mid → s ≡ slice_index_or mid 0 s → a.hand.taken ≡ [] → ((h : J → ℕ) → total h a.hand.put + total h a.own ≡ total h first) → a.tally.put ≡ length first
      → a.tally.taken ≡ 0 → Gave n a b → Joined does before b mid c → Worked does s c t d → d.own ≡ [] → SameJobs d.hand.put d.hand.taken → Drained does before first (set mid 0 t) d.tally
  drained before [] s t first n a b c d some is none put count zero gave home last own same = absurd (omega (arith, some))
  drained before (x ∷ rest) s t first n a b c d some is none put count zero gave home last own same =
      drained_by before x t rest first n a b c d none put count zero gave home (subst (λ (y : S). Worked does y c t d) is last) own same

  -- as many were put as were taken
  pub even_tally : (before : List S) (first : List J) (after : List S) (tally : Tally) → Drained does before first after tally → tally.put ≡ tally.taken
  even_tally before first after tally d =
      d.put
      ∙ ap
      counted
      (omega (arith, d.once (λ j. 1), total_ones (jobs_of (joined d.runs)), total_ones (first ++ added_by (joined d.runs)), long_jobs (joined d.runs)))
      ∙ sym d.taken
