use Rattle.std.proofs.Common.{Option, ap, ◌∙◌}
use Rattle.std.specs.Option.{option_map}
use Rattle.upi_base.specs.declared.setup.Setup.{Setup}
use Rattle.upi_base.specs.declared.setup.Listing.{Listing}
use Rattle.upi_base.specs.Setup.{listing_at}
use Rattle.vpa_directory.proofs.Directory.policy.Goals as goal

pub returns-in-Some : goal.returns-in-Some
returns-in-Some c =
    ap (λ (o : Option Listing). option_map (λ (l : Listing). l.policy) o)
    (c.in-Some.ensures.value ∙ c.self.invariant.addresses_fit.found c.args.addr.now ∙ ap (λ (s : Setup). listing_at s.lines c.args.addr.now) c.self.view_is)

pub returns-in-None : goal.returns-in-None
returns-in-None c =
    ap (λ (o : Option Listing). option_map (λ (l : Listing). l.policy) o)
    (c.in-None.ensures.value ∙ c.self.invariant.addresses_fit.found c.args.addr.now ∙ ap (λ (s : Setup). listing_at s.lines c.args.addr.now) c.self.view_is)
