use Rattle.std.proofs.Common.{[], ◌∷◌, ◌++◌, sym, ◌∙◌}
use Rattle.upi_base.specs.declared.setup.SetupLine.TheVariants as line
use Rattle.vpa_directory.proofs.Additions.{address_entered}
use Rattle.vpa_directory.proofs.Refusals.{address_judged}
use Rattle.vpa_directory.proofs.tables.push_address.Goals as goal

pub returns-clause-fit : goal.returns-clause-fit
returns-clause-fit c =
    let given = c.args.listing in
    let more = c.in_ok-push.ensures.ok ∙ λ i. c.args.lines.now ++ line.Address (c.copy.ensures i) (c.copy-2.ensures i) given.policy ∷ [] in
    let entries = rw c.unwrap.ensures at c.insert.ensures.entries in
    address_entered c.args.lines.now c.push.new.self c.args.psps.now.keys c.args.accounts.now.keys c.args.addresses.now.entries c.reserve.new.self c.insert.new.self.entries c.args.addr given c.requires.addresses (sym (address_judged c.args.lines.now c.args.psps.now.keys c.args.accounts.now.keys c.args.addresses.now.entries c.args.addr given.ac c.requires.psps c.requires.accounts c.requires.addresses ∙ c.requires.free)) c.reserve.ensures.entries entries more
