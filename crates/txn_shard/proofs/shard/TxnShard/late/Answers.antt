use Rattle.std.proofs.Common.{[], None}
use Rattle.upi_words.specs.Prelude.{Event, Reply}
use Rattle.txn_shard.specs.calls.Plans.{quiet, going}
use Rattle.txn_shard.proofs.Goes.{late_goes}
use Rattle.txn_shard.proofs.Quiet.{vain_late}
use Rattle.txn_shard.proofs.Plans.{going_planned, quiet_planned, makes_same, named_late}
use Rattle.txn_shard.proofs.shard.TxnShard.late.Goals as goal

pub returns-in_ok-turn-in-Some : goal.returns-in_ok-turn-in-Some
returns-in_ok-turn-in-Some c =
    let S = c.args.dir.now.lines in
    let x = c.args.self.now in
    let t = c.args.txn.now in
    let turn = c.in_ok-turn-in-Some.turn in
    let turns = named_late S x.rows c.in-Some.row.now t c.args.now turn c.in-Some.ensures c.in_ok-turn-in-Some.ensures in
    record {
      planned = going_planned x c.gone.result t c.in-Some.row.now turn c.in-Some.ensures turns.kept c.requires c.gone.ensures;
      makes = λ s. makes_same S s x.rows (Event.Late t) None c.args.now c.gone.result (going t turn) c.gone.ensures
          (late_goes S s x.rows c.args.now c.in-Some.row.now turn t c.in-Some.ensures turns);
    }

pub returns-in-None : goal.returns-in-None
returns-in-None c =
    let S = c.args.dir.now.lines in
    let x = c.args.self.now in
    record {
      planned = quiet_planned x c.replied.result Reply.NotDue [] c.replied.ensures;
      makes = λ s. makes_same S s x.rows (Event.Late c.args.txn.now) None c.args.now c.replied.result (quiet Reply.NotDue []) c.replied.ensures
          (vain_late S s x.rows c.args.txn.now c.args.now c.in-None.ensures);
    }
