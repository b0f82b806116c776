use Rattle.std.proofs.Common.{Some, refl}
use Rattle.upi_words.specs.Prelude.{Party, Said}
use Rattle.psp_role.specs.Roles.{answer_of}
use Rattle.txn_shard.proofs.Plans.{said_as, all_moments, told_planned}
use Rattle.txn_shard.proofs.shard.TxnShard.model_was_told.Goals as goal

pub returns-in-Psp-clause-makes : goal.returns-in-Psp-clause-makes
returns-in-Psp-clause-makes c =
    let S = c.args.dir.now.lines in
    let rows = c.args.self.now.rows in
    let m = c.args.message.now in
    λ s now. said_as S rows m (Said.Confirmed c.args.txn.now) now m.from (Party.Psp c.in-Psp.psp) c.hear_confirmed.result c.in-Psp.is (λ k. c.hear_confirmed.ensures.makes S k now (Some m) c.requires.answers) s

pub returns-in-Bank-clause-planned : goal.returns-in-Bank-clause-planned
returns-in-Bank-clause-planned c = told_planned c.args.self.now (answer_of c.args.dir.now.lines c.args.message.now) c.told.result c.told.ensures

pub returns-in-Bank-clause-makes : goal.returns-in-Bank-clause-makes
returns-in-Bank-clause-makes c =
    all_moments c.args.dir.now.lines c.args.self.now.rows c.args.message.now (Said.Confirmed c.args.txn.now) c.args.message.now.from (Party.Bank c.in-Bank._bank) c.told.result c.in-Bank.is refl c.requires.answers c.told.ensures

pub returns-in-Switch-clause-planned : goal.returns-in-Switch-clause-planned
returns-in-Switch-clause-planned c = told_planned c.args.self.now (answer_of c.args.dir.now.lines c.args.message.now) c.told-in-Switch.result c.told-in-Switch.ensures

pub returns-in-Switch-clause-makes : goal.returns-in-Switch-clause-makes
returns-in-Switch-clause-makes c =
    all_moments c.args.dir.now.lines c.args.self.now.rows c.args.message.now (Said.Confirmed c.args.txn.now) c.args.message.now.from Party.Switch c.told-in-Switch.result c.in-Switch.is refl c.requires.answers c.told-in-Switch.ensures
