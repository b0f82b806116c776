-- What a setup that is being read keeps.
use Rattle.std.specs.Prelude.{◌≡◌, Bool, true, false, [], Option, Some, None}
use Rattle.upi_base.specs.declared.setup.Setup.{Setup}
use Rattle.upi_base.specs.Setup.{is_setup}
use Rattle.upi_text.specs.Setup.{SetupState}

-- what was read: nothing before START, and then what the directory has
abbrev pub state_of : Option Setup → Bool → SetupState
state_of None is_open = record { start = None; lines = []; is_open = is_open }
state_of (Some s) is_open = record { start = Some s.start; lines = s.lines; is_open = is_open }

-- the setup accepts its lines, and OPEN stands behind START
abbrev pub IsKept : Option Setup → Bool → Type 0
IsKept None is_open = is_open ≡ false
IsKept (Some s) is_open = is_setup s.lines ≡ true
