use Rattle.upi_msg.proofs.Paths.{text_fits, part_fits, member_fits, item_fits, in_item_fits}
use Rattle.upi_msg.proofs.place.push_place.Goals as goal

pub returns-in_ok-extend_from_slice-in-Text-clause-path : goal.returns-in_ok-extend_from_slice-in-Text-clause-path
returns-in_ok-extend_from_slice-in-Text-clause-path c = rw c.in-Text.is text_fits

pub returns-in_ok-push_part-in-Part-clause-path : goal.returns-in_ok-push_part-in-Part-clause-path
returns-in_ok-push_part-in-Part-clause-path c = rw c.in-Part.is (part_fits c.in-Part.part)

pub returns-in_ok-push_named-in-Member-clause-path : goal.returns-in_ok-push_named-in-Member-clause-path
returns-in_ok-push_named-in-Member-clause-path c = rw c.in-Member.is (member_fits c.in-Member.part c.in-Member.name)

pub returns-in_ok-push_item-in-Item-clause-path : goal.returns-in_ok-push_item-in-Item-clause-path
returns-in_ok-push_item-in-Item-clause-path c = rw c.in-Item.is (item_fits c.in-Item.part c.in-Item.list c.in-Item.index c.in_ok-push_item-in-Item.ensures.path)

pub returns-in_ok-push_in_item-in-InItem-clause-path : goal.returns-in_ok-push_in_item-in-InItem-clause-path
returns-in_ok-push_in_item-in-InItem-clause-path c = rw c.in-InItem.is (in_item_fits c.in-InItem.part c.in-InItem.list c.in-InItem.index c.in-InItem.name c.in_ok-push_in_item-in-InItem.ensures.path)
