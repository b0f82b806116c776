use Rattle.std.proofs.Common.{◌≡◌, ℕ, ◌+◌, ◌-◌, ◌<◌, ◌≤◌, List, length, get_or, arith, ap, sym, ◌∙◌, subst, rules}
use Rattle.upi_journal.specs.Entries.{sent_count, running, IsSent}
use Rattle.upi_journal.proofs.Counts.{running-length, rises, some_reaches, sent_at}
use Rattle.upi_journal.proofs.history.find_message.Goals as goal

pub first_reaching-at-requires : goal.first_reaching-at-requires
first_reaching-at-requires g c =
    let m = g.E.JournalEntry.marks in
    subst (λ (l : List ℕ). (i j : ℕ) → i ≤ j → j < length l → get_or l i 0 ≤ get_or l j 0) (sym c.requires.sums) (λ i j le lt. rises m 0 c.args.entries.now i j 0 le lt)

pub bounds-entries-at : goal.bounds-entries-at
bounds-entries-at g c =
    let p = c.first_reaching-at.ensures in
    some_reaches g.E.JournalEntry.marks c.args.entries.now c.args.sums.now c.args.n c.first_reaching-at.result c.requires.sums (omega arith) (omega (arith, c.requires.sent)) p.bound p.below

pub offset_bounds-entries-at : goal.offset_bounds-entries-at
offset_bounds-entries-at g c =
    let p = c.first_reaching-at.ensures in
    let lt = some_reaches g.E.JournalEntry.marks c.args.entries.now c.args.sums.now c.args.n c.first_reaching-at.result c.requires.sums (omega arith) (omega (arith, c.requires.sent)) p.bound p.below in
    omega arith

pub bounds-sums-at : goal.bounds-sums-at
bounds-sums-at g c =
    let p = c.first_reaching-at.ensures in
    let m = g.E.JournalEntry.marks in
    let lt = some_reaches m c.args.entries.now c.args.sums.now c.args.n c.first_reaching-at.result c.requires.sums (omega arith) (omega (arith, c.requires.sent)) p.bound p.below in
    let len : length c.args.sums.now ≡ length c.args.entries.now = ap length c.requires.sums ∙ running-length m 0 c.args.entries.now in
    omega arith

pub overflow_sub-earlier : goal.overflow_sub-earlier
overflow_sub-earlier g c =
    let p = c.first_reaching-at.ensures in
    let m = g.E.JournalEntry.marks in
    let i = c.first_reaching-at.result in
    let lt = some_reaches m c.args.entries.now c.args.sums.now c.args.n i c.requires.sums (omega arith) (omega (arith, c.requires.sent)) p.bound p.below in
    let len : length c.args.sums.now ≡ length c.args.entries.now = ap length c.requires.sums ∙ running-length m 0 c.args.entries.now in
    let found = sent_at m c.args.entries.now c.args.sums.now c.args.n i c.sent_len.result c.index-entries-at.result c.requires.sums (omega arith) lt c.index-entries-at.is c.sent_len.ensures p.below (p.above i (omega arith) (omega arith)) in
    found.0

pub overflow_sub-result : goal.overflow_sub-result
overflow_sub-result g c =
    let p = c.first_reaching-at.ensures in
    let m = g.E.JournalEntry.marks in
    let i = c.first_reaching-at.result in
    let lt = some_reaches m c.args.entries.now c.args.sums.now c.args.n i c.requires.sums (omega arith) (omega (arith, c.requires.sent)) p.bound p.below in
    let len : length c.args.sums.now ≡ length c.args.entries.now = ap length c.requires.sums ∙ running-length m 0 c.args.entries.now in
    let found = sent_at m c.args.entries.now c.args.sums.now c.args.n i c.sent_len.result c.index-entries-at.result c.requires.sums (omega arith) lt c.index-entries-at.is c.sent_len.ensures p.below (p.above i (omega arith) (omega arith)) in
    let less = found.1 in
    omega arith

pub overflow_sub-result-2 : goal.overflow_sub-result-2
overflow_sub-result-2 g c =
    let p = c.first_reaching-at.ensures in
    let m = g.E.JournalEntry.marks in
    let i = c.first_reaching-at.result in
    let lt = some_reaches m c.args.entries.now c.args.sums.now c.args.n i c.requires.sums (omega arith) (omega (arith, c.requires.sent)) p.bound p.below in
    let len : length c.args.sums.now ≡ length c.args.entries.now = ap length c.requires.sums ∙ running-length m 0 c.args.entries.now in
    let found = sent_at m c.args.entries.now c.args.sums.now c.args.n i c.sent_len.result c.index-entries-at.result c.requires.sums (omega arith) lt c.index-entries-at.is c.sent_len.ensures p.below (p.above i (omega arith) (omega arith)) in
    let less = found.1 in
    omega arith

pub returns : goal.returns
returns g c =
    let p = c.first_reaching-at.ensures in
    let m = g.E.JournalEntry.marks in
    let i = c.first_reaching-at.result in
    let lt = some_reaches m c.args.entries.now c.args.sums.now c.args.n i c.requires.sums (omega arith) (omega (arith, c.requires.sent)) p.bound p.below in
    let len : length c.args.sums.now ≡ length c.args.entries.now = ap length c.requires.sums ∙ running-length m 0 c.args.entries.now in
    let found = sent_at m c.args.entries.now c.args.sums.now c.args.n i c.sent_len.result c.index-entries-at.result c.requires.sums (omega arith) lt c.index-entries-at.is c.sent_len.ensures p.below (p.above i (omega arith) (omega arith)) in
    subst (IsSent m c.args.entries.now c.args.n (i + 1) (c.args.n - (get_or c.args.sums.now i 0 - c.sent_len.result) - 1)) (sym c.in_ok-copy.ensures) found.2
