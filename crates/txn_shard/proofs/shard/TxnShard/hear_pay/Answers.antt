use Rattle.std.proofs.Common.{None}
use Rattle.upi_words.specs.Prelude.{Event, Said}
use Rattle.txn_shard.specs.calls.Plans.{going}
use Rattle.txn_shard.proofs.Goes.{pay_goes}
use Rattle.txn_shard.proofs.Plans.{going_planned, makes_same}
use Rattle.txn_shard.proofs.Tables.{names_row}
use Rattle.txn_shard.proofs.shard.TxnShard.hear_pay.Goals as goal

pub returns-in-Some : goal.returns-in-Some
returns-in-Some c =
    let S = c.args.dir.now.lines in
    let x = c.args.self.now in
    let t = c.args.terms.now.txn in
    let turn = c.repeated-turn.result in
    let turns = c.repeated-turn.ensures S c.args.now in
    record {
      planned = going_planned x c.gone.result t c.in-Some.row.now turn c.in-Some.ensures turns.kept c.requires c.gone.ensures;
      makes = λ s its. makes_same S s x.rows (Event.Heard c.args.psp.now (Said.Pay c.args.terms.now)) None c.args.now c.gone.result (going t turn) c.gone.ensures
          (pay_goes S s x.rows c.args.now c.in-Some.row.now turn c.args.psp.now c.args.terms.now c.in-Some.ensures turns);
    }

pub repeated-turn-requires : goal.repeated-turn-requires
repeated-turn-requires c = names_row c.args.self.now.rows c.args.terms.now.txn c.in-Some.row.now c.in-Some.ensures
