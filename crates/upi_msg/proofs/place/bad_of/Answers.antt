use Rattle.std.proofs.Common.{List, ℕ, ◌++◌, ap, ◌∙◌}
use Rattle.upi_msg.specs.Places.{place_text}
use Rattle.upi_msg.proofs.Paths.{no_other}
use Rattle.upi_msg.proofs.place.bad_of.Goals as goal

pub unreachable-requires : goal.unreachable-requires
unreachable-requires c =
    no_other c.args.fault.place c.deref.result.now c.in_ok-push_place.ensures.path
    (c.deref.ensures.value ∙ c.in_ok-push_place.ensures.text ∙ ap (λ (l : List ℕ). l ++ place_text c.args.fault.place) c.new-text.ensures.items)
    c.in-None.ensures.found
