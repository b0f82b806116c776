use Rattle.std.proofs.Common.{ap, ◌∙◌}
use Rattle.std.proofs.lemmas.Bool.{both_ways}
use Rattle.upi_base.specs.Names.{Text}
use Rattle.upi_base.specs.Texts.{fits, is_psp}
use Rattle.upi_base.specs.Setup.{provider}
use Rattle.vpa_directory.proofs.Providers.{provider_fits}
use Rattle.txn_row.proofs.messages.psp_of.Goals as goal

pub unreachable-requires : goal.unreachable-requires
unreachable-requires c =
    let named = c.provider.ensures ∙ ap provider c.bytes.ensures.same in
    both_ways (fits 20 is_psp c.provider.result.now) c.in_default.ensures.found (ap (λ (t : Text). fits 20 is_psp t) named ∙ provider_fits c.args.addr.now c.bytes.ensures.allowed)
