-- What a call that was planned is to the switch that planned it.
use Rattle.std.specs.Prelude.{◌≡◌}
use Rattle.upi_words.specs.Prelude.{event_of}
use Rattle.upi_model.specs.Chronicle.{Chronicle}
use Rattle.upi_replay.specs.declared.switch.Step.{Step}

-- the step says what the call of its entry brings behind that history
abbrev pub IsPlanned : Chronicle → Step → Type 0
IsPlanned k s = s.event ≡ event_of k.history s.entry.call
