use Rattle.std.proofs.Common.{◌≡◌, Some, None, Err, true, false, sym, ap, ◌∙◌}
use Rattle.json_tree.specs.Placed.{placed, is_fit}
use Rattle.json_tree.proofs.Seen.{if_so}
use Rattle.json_tree.proofs.Placed.{read_some, none_read}
use Rattle.json_tree.proofs.place.places_of.Goals as goal

pub returns-then-is_fit : goal.returns-then-is_fit
returns-then-is_fit c =
    let fit = c.is_fit.ensures ∙ ap (is_fit 0) c.nodes.ensures.tokens in
    sym (read_some c.args.text.now c.in-Ok.tape c.is_fit.result c.in-Ok.ensures.ok.0 c.in-Ok.ensures.ok.1 fit ∙ ap (λ k. if_so k (placed c.in-Ok.tape)) c.if-is_fit.true)

pub returns-in-Ok : goal.returns-in-Ok
returns-in-Ok c =
    let fit = c.is_fit.ensures ∙ ap (is_fit 0) c.nodes.ensures.tokens in
    sym (read_some c.args.text.now c.in-Ok.tape c.is_fit.result c.in-Ok.ensures.ok.0 c.in-Ok.ensures.ok.1 fit ∙ ap (λ k. if_so k (placed c.in-Ok.tape)) c.if-is_fit.false)

pub returns : goal.returns
returns c = none_read c.no_places.result c.args.text.now c.in-Err.error c.no_places.ensures (λ e. c.in-Err.ensures.invalid (ap Err e))
