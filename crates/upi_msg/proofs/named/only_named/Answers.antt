use Rattle.std.proofs.Common.{subst}
use Rattle.upi_msg.specs.Lots.{IsLot}
use Rattle.upi_msg.proofs.Lots.{only_nothing, only_one, only_several}
use Rattle.upi_msg.proofs.named.only_named.Goals as goal

pub returns-in-Nothing : goal.returns-in-Nothing
returns-in-Nothing c = λ k ds h. only_nothing k ds (subst (λ l. IsLot l k ds) c.in-Nothing.is h).0

pub returns-in-One : goal.returns-in-One
returns-in-One c = λ k ds h.
    let here = subst (λ l. IsLot l k ds) c.in-One.is h in
    only_one k ds c.in-One.index c.in-One.value.now here.0 here.1

pub returns-in-Several : goal.returns-in-Several
returns-in-Several c = λ k ds h. only_several k ds (subst (λ l. IsLot l k ds) c.in-Several.is h)
