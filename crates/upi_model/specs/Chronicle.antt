-- What a switch has to show: its setup, and what happened.
use Rattle.upi_model.specs.Types.{Setup, History}

-- a setup, and a history over it
pub record Chronicle : Type 0 where
  pub setup : Setup
  pub history : History
