-- Marks of messages that were taken.
use Rattle.std.proofs.Common.{◌≡◌, ℕ, zero, suc, ◌+◌, ◌-◌, ◌<◌, ◌≤◌, Bool, true, false, List, [], ◌∷◌, length, get_or, Option, Some, None, refl, sym, ◌∙◌, ap, arith}
use Rattle.std.specs.Prelude.{◌==◌, ◌||◌, nat_lt, if◌then◌else◌, slice_set}
use Rattle.std.proofs.lemmas.Bool.Decides.{nat_tests}
use Rattle.std.proofs.lemmas.List.{get_or-set_same, get_or-set_other}
use Rattle.upi_words.specs.Prelude.{Call, Entry, History}
use Rattle.upi_model.specs.History.{sent_count}
use Rattle.upi_model.specs.Pending.{takes, is_taken, lowest_from, lowest_pending}
use Rattle.script_engine.specs.calls.Marks.{mark, IsTakenBy, AreSet, unmarked_from, message_in}

-- no message was taken
pub none_taken : IsTakenBy [] []
none_taken n least = refl

at_mark : (marks : List Bool) (k : ℕ) → mark marks (k + 1) ≡ get_or marks k false
at_mark marks k = let same : k + 1 - 1 ≡ k = omega arith in ap (λ (j : ℕ). get_or marks j false) same

-- the first mark that isn't set is found, if it is among so many
finds : (marks : List Bool) (passed : ℕ) → AreSet marks passed → get_or marks passed false ≡ false → (more k : ℕ) → k ≤ passed → passed < k + more
    → unmarked_from marks (k + 1) more ≡ Some (passed + 1)
finds marks passed set stops zero k le lt = absurd (omega (arith, le, lt))
finds marks passed set stops (suc more) k le lt = go (nat_lt k passed) refl (λ less. finds marks passed set stops more (k + 1) (omega (arith, less)) (omega (arith, lt)))
  where
    go : (b : Bool) → nat_lt k passed ≡ b → (k < passed → unmarked_from marks (k + 1 + 1) more ≡ Some (passed + 1)) → unmarked_from marks (k + 1) (suc more) ≡ Some (passed + 1)
    go true t rest =
        let less : k < passed = grind (arith, nat_tests) in
        ap (λ (b : Bool). if b then unmarked_from marks (k + 1 + 1) more else Some (k + 1)) (at_mark marks k ∙ set.all k less) ∙ rest less
    go false t rest =
        let same : k ≡ passed = grind (arith, nat_tests) in
        ap (λ (b : Bool). if b then unmarked_from marks (k + 1 + 1) more else Some (k + 1)) (at_mark marks k ∙ (ap (λ (j : ℕ). get_or marks j false) same ∙ stops))
        ∙ ap (λ (j : ℕ). Some (j + 1)) same

-- and none is found where all of so many are set
finds_none : (marks : List Bool) (passed : ℕ) → AreSet marks passed → (more k : ℕ) → k + more ≤ passed → unmarked_from marks (k + 1) more ≡ None
finds_none marks passed set zero k le = refl
finds_none marks passed set (suc more) k le =
    ap (λ (b : Bool). if b then unmarked_from marks (k + 1 + 1) more else Some (k + 1)) (at_mark marks k ∙ set.all k (omega (arith, le)))
    ∙ finds_none marks passed set more (k + 1) (omega (arith, le))

pub first_unmarked : (marks : List Bool) (passed sent : ℕ) → AreSet marks passed → get_or marks passed false ≡ false → passed < sent → Some (passed + 1) ≡ unmarked_from marks 1 sent
first_unmarked marks passed sent set stops less = sym (finds marks passed set stops sent 0 (omega arith) (omega (arith, less)))

pub all_marked : (marks : List Bool) (passed sent : ℕ) → AreSet marks passed → sent ≤ passed → None ≡ unmarked_from marks 1 sent
all_marked marks passed sent set le = sym (finds_none marks passed set sent 0 (omega (arith, le)))

-- the lowest pending message by the marks
by_marks : (h : History) (marks : List Bool) → IsTakenBy h marks → (more n : ℕ) → 1 ≤ n → unmarked_from marks n more ≡ lowest_from h n more
by_marks h marks is zero n least = refl
by_marks h marks is (suc more) n least =
    ap (λ (b : Bool). if b then unmarked_from marks (n + 1) more else Some n) (sym (is n least))
    ∙ ap (λ (o : Option ℕ). if is_taken h n then o else Some n) (by_marks h marks is more (n + 1) (omega arith))

pub lowest_marked : (h : History) (marks : List Bool) → IsTakenBy h marks → unmarked_from marks 1 (sent_count h) ≡ lowest_pending h
lowest_marked h marks is = by_marks h marks is (sent_count h) 1 (omega arith)

-- marks that read the same serve the same history
pub same_marks : (h : History) (marks new : List Bool) → IsTakenBy h marks → ((n : ℕ) → mark new n ≡ mark marks n) → IsTakenBy h new
same_marks h marks new is same n least = is n least ∙ sym (same n)

takes_none : (c : Call) (k : ℕ) → message_in c ≡ None → takes k c ≡ false
takes_none (Call.Hear p what) k none = refl
takes_none (Call.Deliver n) k none = absurd (cc)
takes_none (Call.Lose n) k none = absurd (cc)
takes_none (Call.Late t) k none = refl
takes_none Call.Close k none = refl

takes_one : (c : Call) (k n : ℕ) → message_in c ≡ Some n → takes k c ≡ (n == k)
takes_one (Call.Hear p what) k n one = absurd (cc)
takes_one (Call.Deliver m) k n one = let same : m ≡ n = cc in ap (λ (j : ℕ). j == k) same
takes_one (Call.Lose m) k n one = let same : m ≡ n = cc in ap (λ (j : ℕ). j == k) same
takes_one (Call.Late t) k n one = absurd (cc)
takes_one Call.Close k n one = absurd (cc)

-- an entry that takes no message leaves the marks
pub taken_same : (h : History) (e : Entry) (marks : List Bool) → message_in e.call ≡ None → IsTakenBy h marks → IsTakenBy (e ∷ h) marks
taken_same h e marks none is n least = ap (λ (b : Bool). b || is_taken h n) (takes_none e.call n none) ∙ is n least

-- an entry that takes a message sets its mark
pub taken_more : (h : History) (e : Entry) (marks : List Bool) (m : ℕ) → message_in e.call ≡ Some m → 1 ≤ m → m ≤ length marks → IsTakenBy h marks → IsTakenBy (e ∷ h) (slice_set marks (m - 1) true)
taken_more h e marks m one least_m room is n least = ap (λ (b : Bool). b || is_taken h n) (takes_one e.call n m one) ∙ go (m == n) refl
  where
    go : (b : Bool) → (m == n) ≡ b → (b || is_taken h n) ≡ mark (slice_set marks (m - 1) true) n
    go true t =
        let same : n - 1 ≡ m - 1 = grind (arith, nat_tests) in
        let within : m - 1 < length marks = omega (arith, least_m, room) in
        sym (ap (λ (j : ℕ). get_or (slice_set marks (m - 1) true) j false) same ∙ get_or-set_same marks (m - 1) true false within)
    go false t =
        let other : n - 1 ≡ m - 1 → ⊥ = λ e. absurd (grind (arith, nat_tests, e, least, least_m)) in
        is n least ∙ sym (get_or-set_other marks (m - 1) (n - 1) true false other)
