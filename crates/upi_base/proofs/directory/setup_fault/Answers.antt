use Rattle.upi_base.proofs.directory.setup_fault.Goals as goal

pub returns-in-Address : goal.returns-in-Address
returns-in-Address c = rw c.in-Address.is c.address_fault.ensures
