-- Why a setup line is refused, as a directory tells it.
use Rattle.std.specs.Prelude.{◌≡◌, ◌-◌, ◌≤◌, true, take, slice_get, Some, MatchOption}
use Rattle.upi_base.specs.Names.{Setup}
use Rattle.upi_base.specs.declared.setup.SetupLine.{SetupLine}
use Rattle.upi_base.specs.declared.fault.Why.{Why}
use Rattle.upi_base.specs.declared.fault.Why.TheVariants as why
use Rattle.upi_base.specs.Setup.{setup_fault, is_setup}
use Rattle.vpa_directory.specs.declared.fault.SetupFault.{SetupFault}
use Rattle.vpa_directory.specs.declared.fault.SetupFault.TheVariants as fault
use Rattle.vpa_directory.specs.declared.fault.At.{At}

-- a reason for which a setup line is refused, as a directory tells it: any that isn't one of the first four is the limit
abbrev pub told : Why → SetupFault
told why.Twice = fault.Twice
told why.NoBank = fault.NoBank
told why.NoPsp = fault.NoPsp
told why.NoAccount = fault.NoAccount
told _ = fault.Limit

-- Why a setup was refused: each line before the one at this place, counted from 1, was accepted;
-- and that one was refused, and this is the reason, or there was no memory for it.
pub record IsRefusal (lines : Setup) (at : At) : Type 0 where
  pub counted : 1 ≤ at.at
  pub before : is_setup (take (at.at - 1) lines) ≡ true
  pub line : SetupLine
  pub there : slice_get lines (at.at - 1) ≡ Some line
  pub reason_is : MatchOption (setup_fault (take (at.at - 1) lines) line) (at.fault ≡ fault.NoMemory) (λ why. at.fault ≡ told why)
