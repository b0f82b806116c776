use Rattle.std.proofs.Common.{arith}
use Rattle.json_tree.proofs.Placed.{next_none, next_some, next_inner, next_size}
use Rattle.json_tree.proofs.spots.next_item.Goals as goal

pub overflow_add-spots : goal.overflow_add-spots
overflow_add-spots c =
    let e = next_size c.args.spots.now.rest c.next.new.self c.in-Some.at c.args.spots.now.inside c.in-Some.ensures.value in
    omega (arith, c.args.spots.now.small, c.args.spots.now.fits, e.0, e.1)

pub invariant_of-spots-clause-inside : goal.invariant_of-spots-clause-inside
invariant_of-spots-clause-inside c = next_inner c.args.spots.now.rest c.next.new.self c.next.result c.args.spots.now.inside c.next.ensures.value c.next.ensures.stays

pub invariant_of-result-clause-within : goal.invariant_of-result-clause-within
invariant_of-result-clause-within c = (next_some c.args.spots.now.rest c.next.new.self c.in-Some.at c.args.spots.now.inside c.in-Some.ensures.value).1.0

pub returns-in-Some-clause-value : goal.returns-in-Some-clause-value
returns-in-Some-clause-value c = (next_some c.args.spots.now.rest c.next.new.self c.in-Some.at c.args.spots.now.inside c.in-Some.ensures.value).0

pub returns-in-Some-clause-shorter : goal.returns-in-Some-clause-shorter
returns-in-Some-clause-shorter c =
    let e = next_size c.args.spots.now.rest c.next.new.self c.in-Some.at c.args.spots.now.inside c.in-Some.ensures.value in
    omega (arith, e.0, e.1)

pub returns-in-None-clause-value : goal.returns-in-None-clause-value
returns-in-None-clause-value c = next_none c.args.spots.now.rest c.next.new.self c.args.spots.now.inside c.in-None.ensures.value

pub invariant_of-spots-clause-small : goal.invariant_of-spots-clause-small
invariant_of-spots-clause-small c =
    let e = next_size c.args.spots.now.rest c.next.new.self c.in-Some.at c.args.spots.now.inside c.in-Some.ensures.value in
    omega (arith, c.args.spots.now.small, e.0, e.1)

pub invariant_of-result-clause-small : goal.invariant_of-result-clause-small
invariant_of-result-clause-small c =
    let e = next_size c.args.spots.now.rest c.next.new.self c.in-Some.at c.args.spots.now.inside c.in-Some.ensures.value in
    omega (arith, c.args.spots.now.small, e.0, e.1)

pub invariant_of-spots-clause-fits : goal.invariant_of-spots-clause-fits
invariant_of-spots-clause-fits c = c.args.spots.now.fits

pub invariant_of-result-clause-fits : goal.invariant_of-result-clause-fits
invariant_of-result-clause-fits c = c.args.spots.now.fits
