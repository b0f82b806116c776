use Rattle.std.proofs.Common.{◌≡◌, [], ◌∷◌, ◌++◌, All, ap, sym, ◌∙◌, subst}
use Rattle.std.specs.Prelude.{option_to_list}
use Rattle.std.proofs.lemmas.List.{append-nil}
use Rattle.upi_journal.specs.Passes.{IsWhole}
use Rattle.upi_journal.proofs.Closing.{by_owners, by_callers}
use Rattle.upi_journal.proofs.journal.Journal.close.Goals as goal
use Rattle.upi_journal.proofs.journal.Journal.close.Goals.{in-Some, in_default}

pub returns-after-last-clause-ok : goal.returns-after-last-clause-ok
returns-after-last-clause-ok g c =
    let m = g.E.JournalEntry.marks in
    let ok = c.in-Ok.ensures.ok in
    let h = c.in-Ok.seat.me.0.seen in
    let now = ok.0 ∙ sym ok.3 in
    let all : c.match-last.entries.items ≡ h ++ option_to_list c.args.last = elim c.match-last.branch [
      | in-Some w ↦ ap (λ v. v.items) w.entries-is ∙ w.push_reserved.ensures.items ∙ ap (λ l. l ++ w.in-Some.entry ∷ []) now ∙ ap (λ o. h ++ option_to_list o) (sym w.in-Some.is)
      | in_default w ↦ ap (λ v. v.items) w.entries-is ∙ now ∙ sym (append-nil h) ∙ ap (λ o. h ++ option_to_list o) (sym w.in_default.is)
    ] in
    let of_callers = subst (λ l. All (IsWhole m l) c.args.passes.items) c.compare.ensures.same c.compare-in-Ok.ensures.passes in
    record {
      history = h;
      all_is = all;
      right = ok.2.history;
      of_owners = c.compare.ensures.passes;
      of_callers = of_callers;
      by_owners = by_owners m g.N.JournalName.charter h c.args.owners.items ok.2.history c.compare.ensures.passes;
      by_callers = by_callers m g.N.JournalName.charter h c.args.passes.items ok.2.history of_callers;
    }
