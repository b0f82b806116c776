use Rattle.std.proofs.Common.{◌≡◌, None, sym, subst}
use Rattle.upi_base.specs.declared.setup.Setup.{Setup}
use Rattle.upi_base.specs.declared.setup.SetupLine.{SetupLine}
use Rattle.upi_base.specs.declared.setup.SetupLine.TheVariants as line
use Rattle.upi_base.specs.Setup.{setup_fault}
use Rattle.vpa_directory.proofs.Additions.{grows, with_bank, with_psp, with_account, with_address}
use Rattle.vpa_directory.proofs.Directory.push.Goals as goal

pub invariant_of-self : goal.invariant_of-self
invariant_of-self c =
    let d = c.self.inside in
    let l : SetupLine = line.Bank c.in-Bank.code in
    let inside : setup_fault d.setup.lines c.args.line ≡ None = subst (λ (s : Setup). setup_fault s.lines c.args.line ≡ None) (sym c.self.view_is) c.requires in
    let free : setup_fault d.setup.lines l ≡ None = subst (λ (x : SetupLine). setup_fault d.setup.lines x ≡ None) c.in-Bank.is inside in
    let how = grows d.setup.lines c.push_bank.new.lines l c.push_bank.result free c.push_bank.ensures.ok c.push_bank.ensures.err in
    with_bank d.setup.lines c.push_bank.new.lines d.banks.keys d.psps.keys d.accounts.keys d.addresses.entries c.self.invariant c.in-Bank.code c.push_bank.new.banks.keys how c.push_bank.ensures.fit

pub invariant_of-self-in-Psp : goal.invariant_of-self-in-Psp
invariant_of-self-in-Psp c =
    let d = c.self.inside in
    let l : SetupLine = line.Psp c.in-Psp.name in
    let inside : setup_fault d.setup.lines c.args.line ≡ None = subst (λ (s : Setup). setup_fault s.lines c.args.line ≡ None) (sym c.self.view_is) c.requires in
    let free : setup_fault d.setup.lines l ≡ None = subst (λ (x : SetupLine). setup_fault d.setup.lines x ≡ None) c.in-Psp.is inside in
    let how = grows d.setup.lines c.push_psp.new.lines l c.push_psp.result free c.push_psp.ensures.ok c.push_psp.ensures.err in
    with_psp d.setup.lines c.push_psp.new.lines d.banks.keys d.psps.keys d.accounts.keys d.addresses.entries c.self.invariant c.in-Psp.name c.push_psp.new.psps.keys how c.push_psp.ensures.fit

pub invariant_of-self-in-Account : goal.invariant_of-self-in-Account
invariant_of-self-in-Account c =
    let d = c.self.inside in
    let l : SetupLine = line.Account c.in-Account.ac c.in-Account.opening c.in-Account.no_debit c.in-Account.no_credit in
    let inside : setup_fault d.setup.lines c.args.line ≡ None = subst (λ (s : Setup). setup_fault s.lines c.args.line ≡ None) (sym c.self.view_is) c.requires in
    let free : setup_fault d.setup.lines l ≡ None = subst (λ (x : SetupLine). setup_fault d.setup.lines x ≡ None) c.in-Account.is inside in
    let how = grows d.setup.lines c.push_account.new.lines l c.push_account.result free c.push_account.ensures.ok c.push_account.ensures.err in
    with_account d.setup.lines c.push_account.new.lines d.banks.keys d.psps.keys d.accounts.keys d.addresses.entries c.self.invariant c.in-Account.ac c.in-Account.opening c.in-Account.no_debit c.in-Account.no_credit c.push_account.new.accounts.keys how c.push_account.ensures.fit

pub invariant_of-self-in-Address : goal.invariant_of-self-in-Address
invariant_of-self-in-Address c =
    let d = c.self.inside in
    let l : SetupLine = line.Address c.in-Address.addr c.in-Address.ac c.in-Address.policy in
    let inside : setup_fault d.setup.lines c.args.line ≡ None = subst (λ (s : Setup). setup_fault s.lines c.args.line ≡ None) (sym c.self.view_is) c.requires in
    let free : setup_fault d.setup.lines l ≡ None = subst (λ (x : SetupLine). setup_fault d.setup.lines x ≡ None) c.in-Address.is inside in
    let how = grows d.setup.lines c.push_address.new.lines l c.push_address.result free c.push_address.ensures.ok c.push_address.ensures.err in
    with_address d.setup.lines c.push_address.new.lines d.banks.keys d.psps.keys d.accounts.keys d.addresses.entries c.self.invariant c.in-Address.addr c.in-Address.ac c.in-Address.policy c.push_address.new.addresses.entries how c.push_address.ensures.fit
