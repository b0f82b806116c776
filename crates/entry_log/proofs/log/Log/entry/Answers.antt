use Rattle.std.proofs.Common.{◌≡◌, ◌≤◌, ◌-◌, ℕ, List, Some, length, ap, subst, sym, ◌∙◌}
use Rattle.upi_words.specs.Prelude.{Sent}
use Rattle.entry_log.specs.declared.rows.Row.{Row}
use Rattle.entry_log.specs.Rows.{between, row_of, sent_before}
use Rattle.entry_log.specs.Views.{shown_call}
use Rattle.entry_log.proofs.Counts.{none_at, row_is, shown_at}
use Rattle.entry_log.proofs.log.Log.entry.Goals as goal

pub returns-in_default : goal.returns-in_default
returns-in_default c =
    none_at c.args.self.now c.self.inside.rows.items c.self.inside.messages.items c.args.k c.self.view_is
    (c.in_default.ensures ∙ ap (λ (rows : List Row). row_of rows c.args.k) c.as_slice-rows.ensures.value)

pub sent_before-from-requires : goal.sent_before-from-requires
sent_before-from-requires c =
    let is : Some c.in-Some.row.now ≡ row_of c.self.inside.rows.items c.args.k = c.in-Some.ensures ∙ ap (λ (rows : List Row). row_of rows c.args.k) c.as_slice-rows.ensures.value in
    subst (λ (rows : List Row). c.args.k - 1 ≤ length rows) (sym c.as_slice-rows.ensures.value)
    (row_is c.self.inside.rows.items (length c.self.inside.messages.items) c.args.k c.in-Some.row.now c.self.invariant.counted is).0

pub between-requires-clause-order : goal.between-requires-clause-order
between-requires-clause-order c =
    let is : Some c.in-Some.row.now ≡ row_of c.self.inside.rows.items c.args.k = c.in-Some.ensures ∙ ap (λ (rows : List Row). row_of rows c.args.k) c.as_slice-rows.ensures.value in
    let from : c.sent_before-from.result ≡ sent_before 0 c.self.inside.rows.items (c.args.k - 1) = c.sent_before-from.ensures ∙ ap (λ (rows : List Row). sent_before 0 rows (c.args.k - 1)) c.as_slice-rows.ensures.value in
    subst (λ (n : ℕ). n ≤ c.in-Some.row.now.upto) (sym from)
    (row_is c.self.inside.rows.items (length c.self.inside.messages.items) c.args.k c.in-Some.row.now c.self.invariant.counted is).1.order

pub between-requires-clause-there : goal.between-requires-clause-there
between-requires-clause-there c =
    let is : Some c.in-Some.row.now ≡ row_of c.self.inside.rows.items c.args.k = c.in-Some.ensures ∙ ap (λ (rows : List Row). row_of rows c.args.k) c.as_slice-rows.ensures.value in
    subst (λ (messages : List Sent). c.in-Some.row.now.upto ≤ length messages) (sym c.as_slice-messages.ensures.value)
    (row_is c.self.inside.rows.items (length c.self.inside.messages.items) c.args.k c.in-Some.row.now c.self.invariant.counted is).1.there

pub returns : goal.returns
returns c =
    let is : Some c.in-Some.row.now ≡ row_of c.self.inside.rows.items c.args.k = c.in-Some.ensures ∙ ap (λ (rows : List Row). row_of rows c.args.k) c.as_slice-rows.ensures.value in
    let from : c.sent_before-from.result ≡ sent_before 0 c.self.inside.rows.items (c.args.k - 1) = c.sent_before-from.ensures ∙ ap (λ (rows : List Row). sent_before 0 rows (c.args.k - 1)) c.as_slice-rows.ensures.value in
    let messages : c.as_slice-messages.result.now ≡ c.self.inside.messages.items = c.as_slice-messages.ensures.value in
    shown_at c.args.self.now c.self.inside.rows.items c.self.inside.messages.items c.args.k c.in-Some.row.now (shown_call c.call_view.result) c.between.result.now c.self.view_is is
    (c.between.ensures ∙ (λ i. between (from i) c.in-Some.row.now.upto (messages i))) c.call_view.ensures
