-- Calls that are tried one after another.
use Rattle.std.proofs.Common.{◌≡◌, ℕ, zero, suc, ◌+◌, ◌-◌, ◌<◌, ◌≤◌, Bool, true, false, List, [], ◌∷◌, ◌++◌, length, drop, get_or, Option, Some, None, Result, Ok, Err, refl, sym, ◌∙◌, ap, subst, arith, add-one, append_assoc, append-nil}
use Rattle.std.specs.Prelude.{◌||◌, not, nat_lt, if◌then◌else◌}
use Rattle.upi_words.specs.Prelude.{Call, History, Text, is_closed}
use Rattle.upi_base.specs.declared.fault.NoMemory.{NoMemory}
use Rattle.upi_base.specs.declared.limits.TheConstants.{MAX_ENTRIES}
use Rattle.upi_model.specs.Legal.{has_room}
use Rattle.upi_model.specs.Pending.{lowest_pending}
use Rattle.upi_model.specs.DueList.{DueTxn, due_list}
use Rattle.switch_core.specs.declared.fault.CoreFault.{CoreFault}
use Rattle.switch_core.specs.Calls.{refused_by}
use Rattle.script_engine.specs.Play.{Play, Played, Tried, put_call, tried_by, try_call, still, behind_text, and_go, try_calls, many, treat, run_turn, run_turns, lates, tick}
use Rattle.script_engine.specs.End.{closed_at_end}
use Rattle.script_engine.specs.calls.Tries.{AppliedAnswer, ToldAnswer, TriedAnswer, IsAhead}

-- an accepted call, once its entry is written
pub accepted : (p new : Play) (c : Call) (before after : Text) → refused_by p.history c ≡ None → new ≡ (put_call p c).play → after ≡ before ++ (put_call p c).text → TriedAnswer (try_call p c) before after new (Ok true)
accepted p new c before after free made wrote =
    let t : try_call p c ≡ record { play = (put_call p c).play; text = (put_call p c).text; goes = true } = ap (λ (f : Option CoreFault). tried_by f p c) free in
    subst (λ (t : Tried). TriedAnswer t before after new (Ok true)) (sym t) (made, wrote, refl)

-- a refused call, once it is told
pub told : (p new : Play) (c : Call) (fault : CoreFault) (before after : Text) (r : Result Bool NoMemory) → AppliedAnswer p c new (Err fault) → ToldAnswer fault before after r → TriedAnswer (try_call p c) before after new r
told p new c CoreFault.NoMemory before after (Ok goes) refused t = absurd t
told p new c CoreFault.NoMemory before after (Err e) refused t = tt
told p new c (CoreFault.Full len) before after (Ok goes) refused t =
    subst (λ (x : Tried). TriedAnswer x before after new (Ok goes)) (sym (ap (λ (f : Option CoreFault). tried_by f p c) refused.0)) (refused.1, t.0, t.1)
told p new c (CoreFault.Full len) before after (Err e) refused t = tt
told p new c (CoreFault.NoMessage n sent) before after (Ok goes) refused t =
    subst (λ (x : Tried). TriedAnswer x before after new (Ok goes)) (sym (ap (λ (f : Option CoreFault). tried_by f p c) refused.0)) (refused.1, t.0, t.1)
told p new c (CoreFault.NoMessage n sent) before after (Err e) refused t = tt

-- ---- so much is tried

both_texts : (t u : Text) (q : Tried) → behind_text t (behind_text u q) ≡ behind_text (t ++ u) q
both_texts t u q = ap (λ (x : Text). record { play = q.play; text = x; goes = q.goes }) (sym (append_assoc t u q.text))

pub begins : (whole : Tried) (out : Text) → IsAhead whole out out whole
begins whole out = record { text = []; wrote = sym (append-nil out); goes_on = refl }

-- what is left was tried too
pub joins : (whole rest : Tried) (before mid after : Text) (new : Play) (goes : Bool) → IsAhead whole before mid rest → TriedAnswer rest mid after new (Ok goes) → TriedAnswer whole before after new (Ok goes)
joins whole rest before mid after new goes is last = (
  last.0 ∙ sym (ap (λ (t : Tried). t.play) is.goes_on),
  last.1 ∙ (ap (λ (x : Text). x ++ rest.text) is.wrote ∙ (append_assoc before is.text rest.text ∙ ap (λ (x : Text). before ++ x) (sym (ap (λ (t : Tried). t.text) is.goes_on)))),
  last.2 ∙ sym (ap (λ (t : Tried). t.goes) is.goes_on),
)

-- nothing is left
pub ends : (whole : Tried) (before after : Text) (p : Play) → IsAhead whole before after (still p) → TriedAnswer whole before after p (Ok true)
ends whole before after p is = joins whole (still p) before after after p true is (refl, sym (append-nil after), refl)

-- the next was tried, and more goes on
pub goes_on : (whole t : Tried) (more : Play → Tried) (before mid after : Text) (new : Play) (goes : Bool) → IsAhead whole before mid (and_go t more) → goes ≡ true → TriedAnswer t mid after new (Ok goes)
    → IsAhead whole before after (more new)
goes_on whole t more before mid after new goes is yes' next =
    let went : and_go t more ≡ behind_text t.text (more t.play) = ap (λ (b : Bool). if b then behind_text t.text (more t.play) else t) (sym next.2 ∙ yes') in
    let there : behind_text t.text (more t.play) ≡ behind_text t.text (more new) = ap (λ (p : Play). behind_text t.text (more p)) (sym next.0) in
    record {
      text = is.text ++ t.text;
      wrote = next.1 ∙ (ap (λ (x : Text). x ++ t.text) is.wrote ∙ append_assoc before is.text t.text);
      goes_on = is.goes_on ∙ (ap (behind_text is.text) (went ∙ there) ∙ both_texts is.text t.text (more new));
    }

-- the next was refused, and nothing goes on
pub stops : (whole t : Tried) (more : Play → Tried) (before mid after : Text) (new : Play) (goes : Bool) → IsAhead whole before mid (and_go t more) → goes ≡ false → TriedAnswer t mid after new (Ok goes)
    → TriedAnswer whole before after new (Ok false)
stops whole t more before mid after new goes is no' next =
    let halted : and_go t more ≡ t = ap (λ (b : Bool). if b then behind_text t.text (more t.play) else t) (sym next.2 ∙ no') in
    joins whole t before mid after new false (record { text = is.text; wrote = is.wrote; goes_on = is.goes_on ∙ ap (behind_text is.text) halted }) (next.0, next.1, sym no' ∙ next.2)

-- ---- RUN

pub turn_is : (k r turns : ℕ) (p : Play) → run_turns k r (suc turns) p ≡ run_turn k r (run_turns k r turns) p (lowest_pending p.history)
unfolding run_turns
turn_is k r turns p = refl

pub no_turns : (k r : ℕ) (p : Play) → run_turns k r zero p ≡ still p
unfolding run_turns
no_turns k r p = refl

-- a turn where nothing is pending
pub turn_idle : (k r turns : ℕ) (p : Play) → None ≡ lowest_pending p.history → run_turns k r (suc turns) p ≡ still p
turn_idle k r turns p none = turn_is k r turns p ∙ ap (run_turn k r (run_turns k r turns) p) (sym none)

-- a turn that treats a message
pub turn_treats : (k r turns n : ℕ) (p : Play) → Some n ≡ lowest_pending p.history → run_turns k r (suc turns) p ≡ and_go (treat k r n p) (run_turns k r turns)
turn_treats k r turns n p some = turn_is k r turns p ∙ ap (run_turn k r (run_turns k r turns) p) (sym some)

-- ---- what is left of a loop

-- the next of so many equal calls
pub many_ahead : (whole : Tried) (c : Call) (times i : ℕ) (p : Play) (before mid : Text) → i < times → IsAhead whole before mid (try_calls (many (times - i) c) p)
    → IsAhead whole before mid (and_go (try_call p c) (try_calls (many (times - (i + 1)) c)))
many_ahead whole c times i p before mid lt is =
    let more : times - i ≡ suc (times - (i + 1)) = omega (arith, lt) in subst (λ (n : ℕ). IsAhead whole before mid (try_calls (many n c) p)) more is

-- the next turn of RUN, which treats a message
pub turn_ahead : (whole : Tried) (k r turns i n : ℕ) (p : Play) (before mid : Text) → i < turns → Some n ≡ lowest_pending p.history → IsAhead whole before mid (run_turns k r (turns - i) p)
    → IsAhead whole before mid (and_go (treat k r n p) (run_turns k r (turns - (i + 1))))
turn_ahead whole k r turns i n p before mid lt some is =
    let more : turns - i ≡ suc (turns - (i + 1)) = omega (arith, lt) in
    subst (IsAhead whole before mid) (ap (λ (m : ℕ). run_turns k r m p) more ∙ turn_treats k r (turns - (i + 1)) n p some) is

-- the next turn of RUN, where nothing is pending
pub idle_ahead : (whole : Tried) (k r turns i : ℕ) (p : Play) (before mid : Text) → i < turns → None ≡ lowest_pending p.history → IsAhead whole before mid (run_turns k r (turns - i) p)
    → TriedAnswer whole before mid p (Ok true)
idle_ahead whole k r turns i p before mid lt none is =
    let more : turns - i ≡ suc (turns - (i + 1)) = omega (arith, lt) in
    ends whole before mid p (subst (IsAhead whole before mid) (ap (λ (m : ℕ). run_turns k r m p) more ∙ turn_idle k r (turns - (i + 1)) p none) is)

-- RUN has no turn left
pub turns_over : (whole : Tried) (k r turns i : ℕ) (p : Play) (before mid : Text) → turns ≤ i → IsAhead whole before mid (run_turns k r (turns - i) p) → TriedAnswer whole before mid p (Ok true)
turns_over whole k r turns i p before mid le is =
    let none : turns - i ≡ zero = omega (arith, le) in
    ends whole before mid p (subst (IsAhead whole before mid) (ap (λ (m : ℕ). run_turns k r m p) none ∙ no_turns k r p) is)

-- TICK begins
pub tick_begins : (p : Play) (moment : ℕ) (items : List DueTxn) (out : Text) → items ≡ due_list p.setup.lines p.history moment → IsAhead (tick moment p) out out (try_calls (lates items) (record p { now = moment }))
tick_begins p moment items out same = subst (λ (ds : List DueTxn). IsAhead (tick moment p) out out (try_calls (lates ds) (record p { now = moment }))) (sym same) (begins (tick moment p) out)

drop_at : (ds : List DueTxn) (i : ℕ) (d : DueTxn) → i < length ds → d ≡ get_or ds i d → drop i ds ≡ d ∷ drop (suc i) ds
drop_at [] i d lt here = absurd (omega (arith, lt))
drop_at (x ∷ ds) zero d lt here = ap (λ (y : DueTxn). y ∷ ds) (sym here)
drop_at (x ∷ ds) (suc i) d lt here = drop_at ds i d (omega (arith, lt)) here

drop_all : (ds : List DueTxn) (i : ℕ) → length ds ≤ i → drop i ds ≡ []
drop_all [] zero le = refl
drop_all [] (suc i) le = refl
drop_all (x ∷ ds) zero le = absurd (omega (arith, le))
drop_all (x ∷ ds) (suc i) le = drop_all ds i (omega (arith, le))

-- the next transaction that is late
pub late_ahead : (whole : Tried) (ds : List DueTxn) (i : ℕ) (d : DueTxn) (txn : Text) (p : Play) (before mid : Text) → i < length ds → d ≡ get_or ds i d → txn ≡ d.1
    → IsAhead whole before mid (try_calls (lates (drop i ds)) p)
    → IsAhead whole before mid (and_go (try_call p (Call.Late txn)) (try_calls (lates (drop (i + 1) ds))))
late_ahead whole ds i d txn p before mid lt here named is =
    let left : drop i ds ≡ d ∷ drop (i + 1) ds = drop_at ds i d lt here ∙ ap (λ (j : ℕ). d ∷ drop j ds) (sym (add-one i)) in
    subst (λ (t : Text). IsAhead whole before mid (and_go (try_call p (Call.Late t)) (try_calls (lates (drop (i + 1) ds))))) (sym named)
    (subst (λ (xs : List DueTxn). IsAhead whole before mid (try_calls (lates xs) p)) left is)

-- no transaction is left
pub lates_over : (whole : Tried) (ds : List DueTxn) (i : ℕ) (p : Play) (before mid : Text) → length ds ≤ i → IsAhead whole before mid (try_calls (lates (drop i ds)) p) → TriedAnswer whole before mid p (Ok true)
lates_over whole ds i p before mid le is = ends whole before mid p (subst (λ (xs : List DueTxn). IsAhead whole before mid (try_calls (lates xs) p)) (drop_all ds i le) is)

-- ---- the end

or_true : (b : Bool) → (b || true) ≡ true
or_true true = refl
or_true false = refl

-- the first Close is never refused
first_close : (h : History) → is_closed h ≡ false → refused_by h Call.Close ≡ None
first_close h runs =
    let room : has_room h Call.Close ≡ true = ap (λ (b : Bool). nat_lt (length h) MAX_ENTRIES || not b) runs ∙ or_true (nat_lt (length h) MAX_ENTRIES) in
    ap (λ (b : Bool). if not b then Some (CoreFault.Full (length h)) else None) room

-- nothing is left to close
pub closed_same : (p : Play) (out : Text) → is_closed p.history ≡ true → (p ≡ (closed_at_end p).play) × (out ≡ out ++ (closed_at_end p).text)
closed_same p out closed =
    let e : closed_at_end p ≡ record { play = p; text = [] } = ap (λ (b : Bool). if b then record { play = p; text = [] } else put_call p Call.Close) closed in
    (sym (ap (λ (q : Played). q.play) e), sym (append-nil out) ∙ ap (λ (x : Text). out ++ x) (sym (ap (λ (q : Played). q.text) e)))

-- the switch is closed at the end
pub closes : (p new : Play) (before after : Text) (goes : Bool) → is_closed p.history ≡ false → TriedAnswer (try_call p Call.Close) before after new (Ok goes)
    → (new ≡ (closed_at_end p).play) × (after ≡ before ++ (closed_at_end p).text)
closes p new before after goes runs tried =
    let e : closed_at_end p ≡ put_call p Call.Close = ap (λ (b : Bool). if b then record { play = p; text = [] } else put_call p Call.Close) runs in
    let t : try_call p Call.Close ≡ tried_by None p Call.Close = ap (λ (f : Option CoreFault). tried_by f p Call.Close) (first_close p.history runs) in (
      tried.0 ∙ (ap (λ (x : Tried). x.play) t ∙ sym (ap (λ (q : Played). q.play) e)),
      tried.1 ∙ (ap (λ (x : Tried). before ++ x.text) t ∙ sym (ap (λ (q : Played). before ++ q.text) e)),
    )

-- the text of the end
pub end_text : (before closing title report mid after : Text) → mid ≡ before ++ closing → after ≡ mid ++ title ++ report → after ≡ before ++ (closing ++ title ++ report)
end_text before closing title report mid after first last =
    last ∙ (ap (λ (x : Text). x ++ title ++ report) first ∙ (ap (λ (x : Text). x ++ report) (append_assoc before closing title) ∙ append_assoc before (closing ++ title) report))
