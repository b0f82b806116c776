use Rattle.std.proofs.Common.{codes, subst, ◌∙◌}
use Rattle.upi_msg.specs.Lots.{IsLot}
use Rattle.upi_msg.proofs.Lots.{minutes_nothing, minutes_one, minutes_several}
use Rattle.upi_msg.proofs.pay.minutes_in.Goals as goal

pub returns-in-Nothing : goal.returns-in-Nothing
returns-in-Nothing c = λ ds h.
    let here = subst (λ l. IsLot l (codes "EXPIREAFTER") ds) c.in-Nothing.is h in
    minutes_nothing c.args.part ds here.0 here.1

pub returns-in-One : goal.returns-in-One
returns-in-One c = λ ds h.
    let here = subst (λ l. IsLot l (codes "EXPIREAFTER") ds) c.in-One.is h in
    c.minutes_at.ensures ∙ minutes_one c.args.part ds c.in-One.index c.in-One.text.now here.0 here.1

pub returns-in-Several : goal.returns-in-Several
returns-in-Several c = λ ds h. minutes_several c.args.part ds (subst (λ l. IsLot l (codes "EXPIREAFTER") ds) c.in-Several.is h)
