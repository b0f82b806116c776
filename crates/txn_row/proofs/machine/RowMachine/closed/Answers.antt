use Rattle.std.proofs.Common.{subst, sym}
use Rattle.upi_words.specs.Prelude.{Event, Reply}
use Rattle.txn_machine.specs.declared.moves.{Move.Move, Wants.Wants}
use Rattle.txn_machine.specs.Stands.{IsOf}
use Rattle.txn_machine.specs.Follows.{Follows}
use Rattle.txn_row.specs.declared.machine.{RowMachine.RowMachine}
use Rattle.txn_row.specs.Rows.{machine_in}
use Rattle.txn_row.proofs.machine.RowMachine.closed.Goals as goal

pub returns-in-Pay : goal.returns-in-Pay
returns-in-Pay c = λ x now of.
    subst (λ (k : RowMachine). Follows (machine_in k) c.close-moved.new.self (record { reply = Reply.Closed; wants = Wants.Nothing }) x Event.Close now) (sym c.in-Pay.is)
    (subst (λ (mv : Move). Follows c.in-Pay.machine c.close-moved.new.self mv x Event.Close now) c.close-moved.ensures.answer
    (c.close-moved.ensures.follows x now (subst (λ (k : RowMachine). IsOf (machine_in k) x) c.in-Pay.is of)))

pub returns-in-Collect : goal.returns-in-Collect
returns-in-Collect c = λ x now of.
    subst (λ (k : RowMachine). Follows (machine_in k) c.close-moved-in-Collect.new.self (record { reply = Reply.Closed; wants = Wants.Nothing }) x Event.Close now) (sym c.in-Collect.is)
    (subst (λ (mv : Move). Follows c.in-Collect.machine c.close-moved-in-Collect.new.self mv x Event.Close now) c.close-moved-in-Collect.ensures.answer
    (c.close-moved-in-Collect.ensures.follows x now (subst (λ (k : RowMachine). IsOf (machine_in k) x) c.in-Collect.is of)))
