use Rattle.std.proofs.Common.{option_map, ap, ◌∙◌}
use Rattle.serde_json.specs.Find.{as_object}
use Rattle.json_tree.specs.Seen.{only_of, name_of}
use Rattle.json_tree.specs.Spots.{spot_data}
use Rattle.json_tree.proofs.Seen.{not_same, are_same}
use Rattle.json_tree.proofs.Placed.{no_name, empty_name, going_start, going_other, going_same, going_end}
use Rattle.json_tree.proofs.spots.only_name.Goals as goal

pub returns-in_err-members : goal.returns-in_err-members
returns-in_err-members c = ap (option_map (λ s. s.now)) c.from_residual.ensures ∙ no_name c.args.spot.now.at c.args.spot.now.within c.in_err-members.ensures

pub returns-in_err-first : goal.returns-in_err-first
returns-in_err-first c = ap (option_map (λ s. s.now)) c.from_residual-in_err-first.ensures ∙ empty_name c.args.spot.now.at c.args.spot.now.within c.in_ok-members.members c.next.new.self c.in_ok-members.ensures c.in_err-first.ensures.value

pub members-init : goal.members-init
members-init c = going_start c.args.spot.now.at c.args.spot.now.within c.in_ok-members.members c.next.new.self c.in_ok-first.first.1 c.in_ok-first.first.0.now c.in_ok-members.ensures c.in_ok-first.ensures.value

pub returns-then-not-is_same : goal.returns-then-not-is_same
returns-then-not-is_same c =
    let k = c.in_ok-first.first.0.now in
    let l = c.in-Some.other.0.now in
    let g = name_of (only_of (as_object (spot_data c.args.spot.now))) in
    going_other c.members.members c.next-in-members.new.self c.in-Some.other.1 k l g c.members.invariant c.in-Some.ensures.value (not_same l k c.is_same.result c.is_same.ensures c.if-not-is_same.true)

pub members-preserved : goal.members-preserved
members-preserved c =
    let k = c.in_ok-first.first.0.now in
    let l = c.in-Some.other.0.now in
    let g = name_of (only_of (as_object (spot_data c.args.spot.now))) in
    going_same c.members.members c.next-in-members.new.self c.in-Some.other.1 k l g c.members.invariant c.in-Some.ensures.value (are_same l k c.is_same.result c.is_same.ensures c.if-not-is_same.false)

pub returns : goal.returns
returns c = going_end c.members.members c.next-in-members.new.self c.in_ok-first.first.0.now (name_of (only_of (as_object (spot_data c.args.spot.now)))) c.members.invariant c.in_default.ensures.value
