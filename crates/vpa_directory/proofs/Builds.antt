-- A directory that is built line by line.
use Rattle.std.proofs.Common.{◌≡◌, ℕ, true, ◌++◌, length}
use Rattle.upi_base.specs.Names.{Setup as Lines}
use Rattle.upi_base.specs.declared.setup.Setup.{Setup}
use Rattle.upi_base.specs.Setup.{is_setup}

-- so many lines of the setup are in the directory, and the others are left
pub record IsBuilt (whole now : Setup) (done rest : Lines) (at : ℕ) : Type 0 where
  pub now_is : now ≡ record { start = whole.start; lines = done }
  pub parts : done ++ rest ≡ whole.lines
  pub count : at ≡ length done
  pub accepted : is_setup done ≡ true
