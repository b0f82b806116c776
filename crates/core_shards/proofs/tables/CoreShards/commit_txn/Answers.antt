use Rattle.std.proofs.Common.{◌≡◌, ◌<◌, false, ◌∷◌, ap, sym, subst, ◌∙◌}
use Rattle.upi_base.specs.Lists.{joined}
use Rattle.upi_words.specs.Prelude.{Entry, History, Legal, is_closed}
use Rattle.upi_model.specs.Owners.{message_of}
use Rattle.txn_shards.specs.Txns.{IsPlannedIn, MakesIn, Placed, rows_all}
use Rattle.core_shards.specs.Tables.{StandsAll, Tables}
use Rattle.core_shards.proofs.Commits.{commit_txn}
use Rattle.core_shards.proofs.tables.CoreShards.commit_txn.Goals as goal

pub add-requires : goal.add-requires
add-requires c = subst (λ (v : Tables). 0 < v.opened.spare) (sym c.self.view_is) c.requires.room

pub commit-requires : goal.commit-requires
commit-requires c = subst (λ (v : Tables). IsPlannedIn v.txns c.args.step) (sym c.self.view_is) c.requires.planned

pub returns-clause-lines : goal.returns-clause-lines
returns-clause-lines c = ap (λ (v : Tables). v.lines) c.self.view_is

pub returns-clause-stands : goal.returns-clause-stands
returns-clause-stands c =
    let v : Tables = record { lines = c.self.inside.dir.lines; txns = c.self.inside.txns; banks = c.self.inside.banks; opened = c.self.inside.opened; flight = c.self.inside.flight; closed = c.self.inside.closed } in
    let now : Tables = record { lines = c.self.inside.dir.lines; txns = c.commit.new.self; banks = c.self.inside.banks; opened = c.add.new.self; flight = c.self.inside.flight; closed = c.self.inside.closed } in
    subst (λ (o : Tables). (h : History) (e : Entry) (x : Placed) → x.place ≡ c.args.step.place → x.plan.change ≡ c.args.step.plan.change → StandsAll h o → is_closed (e ∷ h) ≡ false → Legal o.lines (e ∷ h)
    → MakesIn o.lines (rows_all o.txns) e.call (message_of h e.call) e.at x → StandsAll (e ∷ h) now) c.self.view_is
    (λ h e x at changes all run legal makes. commit_txn h e v x c.args.step.plan.change c.args.step.place c.commit.new.self c.add.new.self at changes all run legal makes c.commit.ensures
    (c.add.ensures ∙ ap (joined c.self.inside.opened.names) c.opens.ensures))
