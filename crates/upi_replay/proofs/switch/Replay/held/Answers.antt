use Rattle.std.proofs.Common.{ℕ, ◌<◌, ◌≤◌, ◌^◌, subst, sym, arith}
use Rattle.upi_replay.proofs.Holdings.{balance_fits}
use Rattle.upi_replay.proofs.switch.Replay.held.Goals as goal

pub overflow_cast-result : goal.overflow_cast-result
overflow_cast-result c =
    let within : c.args.account.now.opening ≤ 1_000_000_000_000_000 = subst (λ (n : ℕ). n ≤ 1_000_000_000_000_000) c.get-opening.ensures.same c.get-opening.ensures.bound in
    let small : c.balance.result < 2 ^ 64 = subst (λ (n : ℕ). n < 2 ^ 64) (sym c.balance.ensures) (balance_fits c.args.self.now.setup c.args.account.now c.args.self.now.history within) in
    omega (arith, small)
