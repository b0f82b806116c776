use Rattle.std.proofs.Common.{◌≡◌, true, false, sym, ap, ◌∙◌}
use Rattle.upi_base.specs.Texts.{fits, is_psp}
use Rattle.upi_base.specs.Setup.{provider}
use Rattle.upi_replay.proofs.Addresses.{psp_fits}
use Rattle.upi_replay.proofs.sending.psp_of.Goals as goal

pub unreachable-requires : goal.unreachable-requires
unreachable-requires c =
    let same : c.provider.result.now ≡ provider c.args.addr.now = c.provider.ensures ∙ ap provider c.bytes.ensures.same in
    let both : false ≡ true = sym c.in-None.ensures.found ∙ (ap (fits 20 is_psp) same ∙ psp_fits c.args.addr.now c.bytes.ensures.allowed) in
    absurd cc
