use Rattle.std.proofs.Common.{sym, ◌∙◌}
use Rattle.json_tree.specs.Spots.{spot_data}
use Rattle.upi_msg.proofs.Roots.{object_there, no_object}
use Rattle.upi_msg.proofs.member.object_of.Goals as goal

pub returns-then-is_object : goal.returns-then-is_object
returns-then-is_object c = object_there c.args.place (spot_data c.args.value) (sym c.if-is_object.true ∙ c.is_object.ensures)

pub returns-else-is_object : goal.returns-else-is_object
returns-else-is_object c = no_object c.args.place (spot_data c.args.value) (sym c.if-is_object.false ∙ c.is_object.ensures)
