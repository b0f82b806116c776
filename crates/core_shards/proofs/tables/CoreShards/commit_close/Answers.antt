use Rattle.std.proofs.Common.{◌≡◌, true, false, ◌∷◌, ap, sym, subst, ◌∙◌}
use Rattle.upi_base.specs.declared.setup.Setup.{Setup as Directory}
use Rattle.upi_base.specs.Setup.{is_setup}
use Rattle.upi_words.specs.Prelude.{Call, Entry, Setup, History, Legal, flight, is_closed}
use Rattle.bank_shards.specs.Banks.{StandAll}
use Rattle.bank_shards.specs.Histories.{orders_in}
use Rattle.txn_shards.specs.Txns.{all_return, rows_all}
use Rattle.core_shards.specs.Tables.{StandsAll, Tables}
use Rattle.core_shards.proofs.Commits.{commit_close}
use Rattle.core_shards.proofs.tables.CoreShards.commit_close.Goals as goal

pub returns-clause-stands : goal.returns-clause-stands
returns-clause-stands c =
    let v : Tables = record { lines = c.self.inside.dir.lines; txns = c.self.inside.txns; banks = c.self.inside.banks; opened = c.self.inside.opened; flight = c.self.inside.flight; closed = c.self.inside.closed } in
    let now : Tables = record { lines = c.self.inside.dir.lines; txns = c.self.inside.txns; banks = c.arrive_all.new.self; opened = c.self.inside.opened; flight = c.left-self-inside.result; closed = true } in
    let lines : c.items.result.now ≡ c.self.inside.dir.lines = c.items.ensures ∙ ap (λ (d : Directory). d.lines) c.setup.ensures.same in
    subst (λ (o : Tables). (h : History) (e : Entry) → StandsAll h o → is_closed h ≡ false → e.call ≡ Call.Close → Legal o.lines (e ∷ h) → StandsAll (e ∷ h) now) c.self.view_is
    (λ h e all run call legal. commit_close h e v c.args.returns.items c.arrive_all.new.self c.left-self-inside.result all run call legal (c.requires.returns ∙ ap (λ (o : Tables). all_return o.lines (rows_all o.txns)) (sym c.self.view_is)) c.arrive_all.ensures
    (λ arrived.
    (subst (λ (S : Setup). is_setup S ≡ true → Legal S (e ∷ h) → StandAll S (orders_in S (e ∷ h)) c.arrive_all.new.self → c.left-self-inside.result ≡ flight S (e ∷ h)) lines (c.left-self-inside.ensures (e ∷ h))) all.accepted legal arrived))
