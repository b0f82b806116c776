use Rattle.std.proofs.Common.{◌≡◌, Err, option_map, ap, sym, ◌∙◌, subst}
use Rattle.serde_json.specs.Find.{as_object}
use Rattle.json_tree.specs.Spots.{spot_data}
use Rattle.upi_msg.specs.Members.{Gives}
use Rattle.upi_msg.specs.Read.{root_in, root_named, known}
use Rattle.upi_msg.proofs.Roots.{root_of, only_root}
use Rattle.upi_msg.proofs.reader.root_in.Goals as goal

pub returns-in-Some : goal.returns-in-Some
returns-in-Some c =
    let o = as_object (spot_data c.args.value.now) in
    let found : root_in o ≡ known (spot_data c.in-Some.body) (root_named c.in-Some.name.now) =
    sym (only_root o) ∙ ap root_of (sym c.only_member.ensures) ∙ ap (λ r. root_of (option_map (λ p. (p.0.now, spot_data p.1)) r)) c.in-Some.is in
    subst (Gives (λ p. (p.0, spot_data p.1)) c.root_and.result) (sym found) c.root_and.ensures

pub returns-in-None : goal.returns-in-None
returns-in-None c =
    let o = as_object (spot_data c.args.value.now) in
    sym (only_root o) ∙ ap root_of (sym c.only_member.ensures) ∙ ap (λ r. root_of (option_map (λ p. (p.0.now, spot_data p.1)) r)) c.in-None.is ∙ ap Err (sym c.no_root.ensures)
