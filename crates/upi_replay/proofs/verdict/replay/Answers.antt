use Rattle.std.proofs.Common.{subst, Option}
use Rattle.std.specs.Prelude.{MatchOption}
use Rattle.upi_words.specs.Prelude.{AuditWhy}
use Rattle.upi_model.specs.Chronicle.{Chronicle}
use Rattle.upi_model.specs.Legal.{IsLegalEntry}
use Rattle.upi_model.specs.Verdicts.{IsFault}
use Rattle.upi_replay.proofs.Verdicts.{first_wrong}
use Rattle.upi_replay.proofs.verdict.replay.Goals as goal

pub returns-in-Some : goal.returns-in-Some
returns-in-Some c =
    let H = c.args.history.now in
    let e = c.index-history-i.result in
    let fault = subst (λ (o : Option AuditWhy). MatchOption o (IsLegalEntry c.entries.switch.setup c.entries.switch.history e) (λ w. IsFault c.entries.switch.setup c.entries.switch.history e w)) c.in-Some.is c.in_ok-why.ensures in
    let there = subst (λ (k : Chronicle). IsFault k.setup k.history e c.in-Some.why) c.entries.invariant.played fault in
    first_wrong c.args.setup.now.lines H c.entries.i e c.in-Some.why c.entries-test.true c.index-history-i.is c.entries.invariant.legal there
