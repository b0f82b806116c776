use Rattle.std.proofs.Common.{List, length, subst}
use Rattle.upi_words.specs.Prelude.{Sent}
use Rattle.bank_shards.specs.Banks.{HasRoom}
use Rattle.core_shards.specs.Tables.{Tables}
use Rattle.core_shards.proofs.Commits.{banks_same, can_close, same_stands}
use Rattle.core_shards.proofs.tables.CoreShards.plan_close.Goals as goal

pub returns-clause-can : goal.returns-clause-can
returns-clause-can c = λ h all run.
    let v : Tables = record { lines = c.self.inside.dir.lines; txns = c.self.inside.txns; banks = c.self.inside.banks; opened = c.self.inside.opened; flight = c.self.inside.flight; closed = c.self.inside.closed } in
    let now : Tables = record { lines = c.self.inside.dir.lines; txns = c.self.inside.txns; banks = c.reserve.new.self; opened = c.self.inside.opened; flight = c.self.inside.flight; closed = c.self.inside.closed } in
    can_close h now c.in_ok-returns.returns.items (same_stands h c.args.self.now now (banks_same v c.args.self.now c.reserve.new.self c.self.view_is c.reserve.ensures.same) all) run c.in_ok-returns.ensures
    (subst (λ (ms : List Sent). HasRoom (length ms) c.reserve.new.self) c.as_slice.ensures.value c.in_ok-reserve.ensures.ok)

pub returns-clause-same : goal.returns-clause-same
returns-clause-same c = λ h all.
    let v : Tables = record { lines = c.self.inside.dir.lines; txns = c.self.inside.txns; banks = c.self.inside.banks; opened = c.self.inside.opened; flight = c.self.inside.flight; closed = c.self.inside.closed } in
    let now : Tables = record { lines = c.self.inside.dir.lines; txns = c.self.inside.txns; banks = c.reserve.new.self; opened = c.self.inside.opened; flight = c.self.inside.flight; closed = c.self.inside.closed } in
    same_stands h c.args.self.now now (banks_same v c.args.self.now c.reserve.new.self c.self.view_is c.reserve.ensures.same) all

pub returns-in_err-reserve-clause-same : goal.returns-in_err-reserve-clause-same
returns-in_err-reserve-clause-same c = λ h all.
    let v : Tables = record { lines = c.self.inside.dir.lines; txns = c.self.inside.txns; banks = c.self.inside.banks; opened = c.self.inside.opened; flight = c.self.inside.flight; closed = c.self.inside.closed } in
    let now : Tables = record { lines = c.self.inside.dir.lines; txns = c.self.inside.txns; banks = c.reserve.new.self; opened = c.self.inside.opened; flight = c.self.inside.flight; closed = c.self.inside.closed } in
    same_stands h c.args.self.now now (banks_same v c.args.self.now c.reserve.new.self c.self.view_is c.reserve.ensures.same) all
