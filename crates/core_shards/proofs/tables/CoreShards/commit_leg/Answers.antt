use Rattle.std.proofs.Common.{◌≡◌, false, ◌∷◌, ap, sym, subst}
use Rattle.upi_words.specs.Prelude.{Entry, History, Legal, is_closed}
use Rattle.upi_model.specs.Owners.{message_of}
use Rattle.account_shard.specs.Shard.{Plan}
use Rattle.bank_shards.specs.Banks.{IsPlannedIn}
use Rattle.bank_shards.specs.Flights.{FlightMoves}
use Rattle.core_shards.specs.Steps.{IsLegOf}
use Rattle.core_shards.specs.Tables.{StandsAll, Tables}
use Rattle.core_shards.proofs.Commits.{commit_leg}
use Rattle.core_shards.proofs.tables.CoreShards.commit_leg.Goals as goal

pub commit-requires : goal.commit-requires
commit-requires c = subst (λ (v : Tables). IsPlannedIn v.banks c.args.step) (sym c.self.view_is) c.requires

pub returns-clause-lines : goal.returns-clause-lines
returns-clause-lines c = ap (λ (v : Tables). v.lines) c.self.view_is

pub returns-clause-stands : goal.returns-clause-stands
returns-clause-stands c =
    let v : Tables = record { lines = c.self.inside.dir.lines; txns = c.self.inside.txns; banks = c.self.inside.banks; opened = c.self.inside.opened; flight = c.self.inside.flight; closed = c.self.inside.closed } in
    let now : Tables = record { lines = c.self.inside.dir.lines; txns = c.self.inside.txns; banks = c.commit.new.self; opened = c.self.inside.opened; flight = c.flight_after-self-inside.result; closed = c.self.inside.closed } in
    subst (λ (o : Tables). (h : History) (e : Entry) (x : Plan) → x.order ≡ c.args.step.order → StandsAll h o → is_closed (e ∷ h) ≡ false → Legal o.lines (e ∷ h) → IsLegOf e.call (message_of h e.call) x → StandsAll (e ∷ h) now) c.self.view_is
    (λ h e x same all run legal leg. commit_leg h e v x c.args.step c.commit.new.self c.flight_after-self-inside.result all run legal leg same (subst (λ (o : Tables). IsPlannedIn o.banks c.args.step) (sym c.self.view_is) c.requires) c.commit.ensures.stands
    (λ n few moves. c.flight_after-self-inside.ensures n few (subst (λ m. FlightMoves m c.self.inside.flight n) (sym c.moved.ensures) moves)))
