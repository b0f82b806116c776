use Rattle.json_tree.specs.Spots.{spot_data}
use Rattle.upi_msg.proofs.Lots.{name_is, value_is}
use Rattle.upi_msg.specs.declared.place.{Part.Part, Name.Name, Place.Place}
use Rattle.upi_msg.proofs.named.named_item.Goals as goal

pub returns-clause-names : goal.returns-clause-names
returns-clause-names c =
    let at = Place.Item c.args.part c.args.list c.args.index in
    let names = Place.InItem c.args.part c.args.list c.args.index Name.Name in
    let values = Place.InItem c.args.part c.args.list c.args.index Name.Value in
    let whole = spot_data c.args.value in
    let inner = spot_data c.in_ok-item.item in
    (λ k. name_is k whole inner c.in_ok-name.name.now at names c.in_ok-item.ensures c.in_ok-name.ensures, value_is whole inner c.in_ok-text.text.now at values c.in_ok-item.ensures c.in_ok-text.ensures)
