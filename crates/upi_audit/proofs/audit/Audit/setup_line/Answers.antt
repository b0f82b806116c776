use Rattle.std.proofs.Common.{◌≡◌, false, None, Some, sym, ◌∙◌, ap, subst}
use Rattle.upi_audit.specs.calls.Keeping.{AuditState, IsOpenedOnce}
use Rattle.upi_audit.proofs.Kept.{SetupLineTaken, setup_more, setup_opened}
use Rattle.upi_audit.proofs.audit.Audit.setup_line.Goals as goal

pub returns-in-More-clause-line : goal.returns-in-More-clause-line
returns-in-More-clause-line c =
    let S = c.self.inside.setup in
    let bench = c.self.inside.judge in
    let none : bench ≡ None = ap (λ (a : AuditState). a.bench) c.self.view_is ∙ c.requires in
    let closed : S.is_open ≡ false = subst (IsOpenedOnce S) none c.self.invariant in
    let a = c.in_ok-line.ensures.answer in
    subst (λ (s : AuditState). SetupLineTaken s.setup c.args.line.now c.line.new.self bench) c.self.view_is
    (setup_more S c.line.new.self bench c.args.line.now a.0 closed none a.1 (sym c.in-More.is ∙ a.2) a.3)

pub returns-in_ok-judge-in-Opened-clause-line : goal.returns-in_ok-judge-in-Opened-clause-line
returns-in_ok-judge-in-Opened-clause-line c =
    let S = c.self.inside.setup in
    let a = c.in_ok-line.ensures.answer in
    let made = sym a.3 ∙ (sym c.replace-text.ensures.value ∙ c.into_directory.ensures.read) in
    subst (λ (s : AuditState). SetupLineTaken s.setup c.args.line.now c.self.inside.setup (Some c.in_ok-judge-in-Opened.judge)) c.self.view_is
    (setup_opened S c.self.inside.setup c.into_directory.result c.in_ok-judge-in-Opened.judge c.args.line.now a.0 a.1 (sym c.in-Opened.is ∙ a.2) made c.in_ok-judge-in-Opened.ensures)

pub line-requires : goal.line-requires
line-requires c = subst (IsOpenedOnce c.self.inside.setup) (ap (λ (a : AuditState). a.bench) c.self.view_is ∙ c.requires) c.self.invariant
