use Rattle.std.proofs.Common.{◌≡◌, ◌+◌, ◌≤◌, [], ◌∷◌, ◌++◌, length, arith, ap, sym, ◌∙◌, subst}
use mathlib.Core.List.{IsPrefix}
use Rattle.upi_journal.specs.declared.view.Role.TheVariants.{Owner, Caller}
use Rattle.upi_journal.specs.Rule.{own}
use Rattle.upi_journal.specs.Charter.{IsHistory}
use Rattle.upi_journal.specs.Passes.{front, front_of}
use Rattle.upi_journal.specs.calls.Seats.{IsPass}
use Rattle.upi_journal.proofs.Passes.{goes_on, home_entered, pass_entered, appended, owner_push, caller_push}
use Rattle.upi_journal.proofs.pass.admit.Goals as goal

pub enter-requires : goal.enter-requires
enter-requires g c =
    let m = g.E.JournalEntry.marks in
    let e = c.args.entry.now in
    let log = c.args.home.now.me.0.seen in
    let all = c.show-2.new.home.me.0.seen in
    let same : all ≡ log = c.show-2.ensures.same ∙ c.show.ensures.same in
    let len : length all ≡ c.args.count = ap length same ∙ c.requires.count.0 in
    let owner_was = c.owner.view_is ∙ c.show.ensures.pass in
    let caller_was = c.caller.view_is ∙ c.show-2.ensures.pass in
    let owner_mine = ap (λ f. f.mine) owner_was ∙ c.show.ensures.mine ∙ ap (λ r. own m r log) c.requires.owner ∙ ap (own m (Owner (m.owner e))) (sym same) in
    let caller_mine = ap (λ f. f.mine) caller_was ∙ c.show-2.ensures.mine ∙ ap (λ r. own m r c.show.new.home.me.0.seen) c.requires.caller ∙ ap (own m (Caller (m.caller e))) (sym c.show-2.ensures.same) in
    let owner_role = ap (λ f. f.role) owner_was ∙ c.requires.owner in
    let caller_role = ap (λ f. f.role) caller_was ∙ c.requires.caller in
    let home = c.show-2.ensures.home in
    record {
      board = (home.table ∙ sym c.requires.board.0, c.owner.invariant.table ∙ sym c.requires.board.0, c.caller.invariant.table ∙ sym c.requires.board.0, ap (λ t. t.words) c.requires.board.0 ∙ c.requires.board.1);
      count = (len, omega (arith, len, home.known), c.requires.count.2);
      home = home.role;
      owner = (owner_role, owner_mine);
      caller = (caller_role, caller_mine);
    }

pub returns-clause-home : goal.returns-clause-home
returns-clause-home g c =
    let m = g.E.JournalEntry.marks in
    let e = c.args.entry.now in
    let log = c.args.home.now.me.0.seen in
    let all = c.show-2.new.home.me.0.seen in
    let same : all ≡ log = c.show-2.ensures.same ∙ c.show.ensures.same in
    let len : length all ≡ c.args.count = ap length same ∙ c.requires.count.0 in
    let owner_was = c.owner.view_is ∙ c.show.ensures.pass in
    let caller_was = c.caller.view_is ∙ c.show-2.ensures.pass in
    let owner_mine = ap (λ f. f.mine) owner_was ∙ c.show.ensures.mine ∙ ap (λ r. own m r log) c.requires.owner ∙ ap (own m (Owner (m.owner e))) (sym same) in
    let caller_mine = ap (λ f. f.mine) caller_was ∙ c.show-2.ensures.mine ∙ ap (λ r. own m r c.show.new.home.me.0.seen) c.requires.caller ∙ ap (own m (Caller (m.caller e))) (sym c.show-2.ensures.same) in
    let owner_role = ap (λ f. f.role) owner_was ∙ c.requires.owner in
    let caller_role = ap (λ f. f.role) caller_was ∙ c.requires.caller in
    let N = g.N.JournalName.charter in
    let history : IsHistory m N (all ++ e ∷ []) = goes_on m N log all e c.args.owner.now c.args.caller.now c.owner.inside.seat.me.0.role c.caller.inside.seat.me.0.role same c.show-2.ensures.home.history c.owner.invariant.knows.role c.caller.invariant.knows.role owner_role caller_role
    c.requires.owner c.show.ensures.mine c.requires.fits (subst (IsPrefix c.args.caller.now.seen) c.show.ensures.same c.show-2.ensures.longer) c.requires.fact (omega (arith, c.requires.count.0, c.requires.count.1)) in
    home_entered m N c.show-2.new.home c.enter.new.home e c.args.count c.show-2.ensures.home c.enter.ensures.board.0 c.enter.ensures.slots.0 c.enter.ensures.home.0 c.enter.ensures.home.1 c.enter.ensures.home.2 len history

pub returns-clause-owner : goal.returns-clause-owner
returns-clause-owner g c =
    let m = g.E.JournalEntry.marks in
    let e = c.args.entry.now in
    let log = c.args.home.now.me.0.seen in
    let all = c.show-2.new.home.me.0.seen in
    let same : all ≡ log = c.show-2.ensures.same ∙ c.show.ensures.same in
    let len : length all ≡ c.args.count = ap length same ∙ c.requires.count.0 in
    let owner_was = c.owner.view_is ∙ c.show.ensures.pass in
    let caller_was = c.caller.view_is ∙ c.show-2.ensures.pass in
    appended c.args.owner.now (front_of c.enter.new.owner.me.0) log all e c.args.count c.owner.inside.seat.me.0 owner_was c.enter.ensures.owner (subst (IsPrefix c.args.owner.now.seen) (sym same) c.show.ensures.longer) len

pub returns-clause-caller : goal.returns-clause-caller
returns-clause-caller g c =
    let m = g.E.JournalEntry.marks in
    let e = c.args.entry.now in
    let log = c.args.home.now.me.0.seen in
    let all = c.show-2.new.home.me.0.seen in
    let same : all ≡ log = c.show-2.ensures.same ∙ c.show.ensures.same in
    let len : length all ≡ c.args.count = ap length same ∙ c.requires.count.0 in
    let owner_was = c.owner.view_is ∙ c.show.ensures.pass in
    let caller_was = c.caller.view_is ∙ c.show-2.ensures.pass in
    appended c.args.caller.now (front_of c.enter.new.caller.me.0) c.show.new.home.me.0.seen all e c.args.count c.caller.inside.seat.me.0 caller_was c.enter.ensures.caller (subst (IsPrefix c.args.caller.now.seen) (sym c.show-2.ensures.same) c.show-2.ensures.longer) len

pub returns-clause-more : goal.returns-clause-more
returns-clause-more g c =
    c.enter.ensures.home.1 ∙ ap (λ l. l ++ c.args.entry.now ∷ []) (c.show-2.ensures.same ∙ c.show.ensures.same)

pub returns-clause-seen : goal.returns-clause-seen
returns-clause-seen g c =
    (ap (λ f. f.seen) c.enter.ensures.owner ∙ sym c.enter.ensures.home.1, ap (λ f. f.seen) c.enter.ensures.caller ∙ sym c.enter.ensures.home.1)

pub returns-clause-knows : goal.returns-clause-knows
returns-clause-knows g c =
    let m = g.E.JournalEntry.marks in
    let e = c.args.entry.now in
    let log = c.args.home.now.me.0.seen in
    let all = c.show-2.new.home.me.0.seen in
    let same : all ≡ log = c.show-2.ensures.same ∙ c.show.ensures.same in
    let len : length all ≡ c.args.count = ap length same ∙ c.requires.count.0 in
    let owner_was = c.owner.view_is ∙ c.show.ensures.pass in
    let caller_was = c.caller.view_is ∙ c.show-2.ensures.pass in
    let owner_mine = ap (λ f. f.mine) owner_was ∙ c.show.ensures.mine ∙ ap (λ r. own m r log) c.requires.owner ∙ ap (own m (Owner (m.owner e))) (sym same) in
    let caller_mine = ap (λ f. f.mine) caller_was ∙ c.show-2.ensures.mine ∙ ap (λ r. own m r c.show.new.home.me.0.seen) c.requires.caller ∙ ap (own m (Caller (m.caller e))) (sym c.show-2.ensures.same) in
    let owner_role = ap (λ f. f.role) owner_was ∙ c.requires.owner in
    let caller_role = ap (λ f. f.role) caller_was ∙ c.requires.caller in
    let N = g.N.JournalName.charter in
    let history : IsHistory m N (all ++ e ∷ []) = goes_on m N log all e c.args.owner.now c.args.caller.now c.owner.inside.seat.me.0.role c.caller.inside.seat.me.0.role same c.show-2.ensures.home.history c.owner.invariant.knows.role c.caller.invariant.knows.role owner_role caller_role
    c.requires.owner c.show.ensures.mine c.requires.fits (subst (IsPrefix c.args.caller.now.seen) c.show.ensures.same c.show-2.ensures.longer) c.requires.fact (omega (arith, c.requires.count.0, c.requires.count.1)) in
    let of_owner : IsPass m N c.owner.inside.role c.enter.new.owner = pass_entered m N c.owner.inside.role c.owner.inside.seat c.enter.new.owner all e c.args.count (Owner (m.owner e)) c.owner.invariant c.enter.ensures.board.1 c.enter.ensures.slots.1 owner_role owner_mine c.enter.ensures.owner len (owner_push m all e) history in
    let of_caller : IsPass m N c.caller.inside.role c.enter.new.caller = pass_entered m N c.caller.inside.role c.caller.inside.seat c.enter.new.caller all e c.args.count (Caller (m.caller e)) c.caller.invariant c.enter.ensures.board.2 c.enter.ensures.slots.2 caller_role caller_mine c.enter.ensures.caller len (caller_push m all e) history in
    (of_owner.knows, of_caller.knows)

pub invariant_of-owner : goal.invariant_of-owner
invariant_of-owner g c =
    let m = g.E.JournalEntry.marks in
    let e = c.args.entry.now in
    let log = c.args.home.now.me.0.seen in
    let all = c.show-2.new.home.me.0.seen in
    let same : all ≡ log = c.show-2.ensures.same ∙ c.show.ensures.same in
    let len : length all ≡ c.args.count = ap length same ∙ c.requires.count.0 in
    let owner_was = c.owner.view_is ∙ c.show.ensures.pass in
    let caller_was = c.caller.view_is ∙ c.show-2.ensures.pass in
    let owner_mine = ap (λ f. f.mine) owner_was ∙ c.show.ensures.mine ∙ ap (λ r. own m r log) c.requires.owner ∙ ap (own m (Owner (m.owner e))) (sym same) in
    let caller_mine = ap (λ f. f.mine) caller_was ∙ c.show-2.ensures.mine ∙ ap (λ r. own m r c.show.new.home.me.0.seen) c.requires.caller ∙ ap (own m (Caller (m.caller e))) (sym c.show-2.ensures.same) in
    let owner_role = ap (λ f. f.role) owner_was ∙ c.requires.owner in
    let caller_role = ap (λ f. f.role) caller_was ∙ c.requires.caller in
    let N = g.N.JournalName.charter in
    let history : IsHistory m N (all ++ e ∷ []) = goes_on m N log all e c.args.owner.now c.args.caller.now c.owner.inside.seat.me.0.role c.caller.inside.seat.me.0.role same c.show-2.ensures.home.history c.owner.invariant.knows.role c.caller.invariant.knows.role owner_role caller_role
    c.requires.owner c.show.ensures.mine c.requires.fits (subst (IsPrefix c.args.caller.now.seen) c.show.ensures.same c.show-2.ensures.longer) c.requires.fact (omega (arith, c.requires.count.0, c.requires.count.1)) in
    pass_entered m N c.owner.inside.role c.owner.inside.seat c.enter.new.owner all e c.args.count (Owner (m.owner e)) c.owner.invariant c.enter.ensures.board.1 c.enter.ensures.slots.1 owner_role owner_mine c.enter.ensures.owner len (owner_push m all e) history

pub invariant_of-caller : goal.invariant_of-caller
invariant_of-caller g c =
    let m = g.E.JournalEntry.marks in
    let e = c.args.entry.now in
    let log = c.args.home.now.me.0.seen in
    let all = c.show-2.new.home.me.0.seen in
    let same : all ≡ log = c.show-2.ensures.same ∙ c.show.ensures.same in
    let len : length all ≡ c.args.count = ap length same ∙ c.requires.count.0 in
    let owner_was = c.owner.view_is ∙ c.show.ensures.pass in
    let caller_was = c.caller.view_is ∙ c.show-2.ensures.pass in
    let owner_mine = ap (λ f. f.mine) owner_was ∙ c.show.ensures.mine ∙ ap (λ r. own m r log) c.requires.owner ∙ ap (own m (Owner (m.owner e))) (sym same) in
    let caller_mine = ap (λ f. f.mine) caller_was ∙ c.show-2.ensures.mine ∙ ap (λ r. own m r c.show.new.home.me.0.seen) c.requires.caller ∙ ap (own m (Caller (m.caller e))) (sym c.show-2.ensures.same) in
    let owner_role = ap (λ f. f.role) owner_was ∙ c.requires.owner in
    let caller_role = ap (λ f. f.role) caller_was ∙ c.requires.caller in
    let N = g.N.JournalName.charter in
    let history : IsHistory m N (all ++ e ∷ []) = goes_on m N log all e c.args.owner.now c.args.caller.now c.owner.inside.seat.me.0.role c.caller.inside.seat.me.0.role same c.show-2.ensures.home.history c.owner.invariant.knows.role c.caller.invariant.knows.role owner_role caller_role
    c.requires.owner c.show.ensures.mine c.requires.fits (subst (IsPrefix c.args.caller.now.seen) c.show.ensures.same c.show-2.ensures.longer) c.requires.fact (omega (arith, c.requires.count.0, c.requires.count.1)) in
    pass_entered m N c.caller.inside.role c.caller.inside.seat c.enter.new.caller all e c.args.count (Caller (m.caller e)) c.caller.invariant c.enter.ensures.board.2 c.enter.ensures.slots.2 caller_role caller_mine c.enter.ensures.caller len (caller_push m all e) history
