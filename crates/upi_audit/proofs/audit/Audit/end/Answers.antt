use Rattle.std.proofs.Common.{◌≡◌, Option, Some, sym, ◌∙◌, subst}
use Rattle.upi_words.specs.Prelude.{Verdict}
use Rattle.upi_audit.specs.Journal.{Journal}
use Rattle.upi_audit.specs.calls.Keeping.{AuditState, Bench, HasRead}
use Rattle.upi_audit.specs.calls.Steps.{verdict_of}
use Rattle.upi_audit.proofs.Kept.{verdict_ends}
use Rattle.upi_audit.proofs.audit.Audit.end.Goals as goal

pub returns-in-Some-verdict-clause-end : goal.returns-in-Some-verdict-clause-end
returns-in-Some-verdict-clause-end c = λ j read.
    let S = c.self.inside.setup in
    let b = c.in-Some.judge in
    let failed = c.self.inside.failed in
    let v = c.in-Some-verdict.verdict in
    let kept : HasRead j (record { setup = S; bench = c.self.inside.judge; failed = failed }) = subst (HasRead j) (sym c.self.view_is) read in
    let judged : HasRead j (record { setup = S; bench = Some b; failed = failed }) = subst (λ (o : Option Bench). HasRead j (record { setup = S; bench = o; failed = failed })) c.in-Some.is kept in
    let said : verdict_of b b.due b.wrong ≡ Some v = sym c.verdict.ensures ∙ c.in-Some-verdict.is in
    verdict_ends j S b failed v judged said
