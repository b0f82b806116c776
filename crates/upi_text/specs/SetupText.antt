-- The lines of a setup, written.
use Rattle.std.specs.Prelude.{ℕ, ◌≡◌, Bool, if◌then◌else◌, List, [], ◌∷◌, ◌++◌, codes, Result, Ok, Err}
use Rattle.upi_base.specs.declared.setup.SetupLine.{SetupLine}
use Rattle.upi_base.specs.declared.setup.SetupLine.TheVariants as line
use Rattle.upi_base.specs.Money.{paise_text}
use Rattle.upi_base.specs.Shards.{account_text}
use Rattle.upi_base.specs.Time.{moment_text}
use Rattle.upi_base.specs.declared.fault.EngineFault.{EngineFault}
use Rattle.upi_text.specs.Refusals.{refusal}
use Rattle.upi_text.specs.Setup.{SetupState, setup_read, state_after}
use Rattle.upi_text.specs.Pieces.{spaced, policy_text}
use Rattle.upi_text.specs.declared.setup.SetupRead.{SetupRead}
use Rattle.upi_text.specs.declared.setup.SetupRead.TheVariants as read
use Rattle.upi_text.specs.declared.setup_text.SetupStep.{SetupStep}

-- the flags of an account
abbrev pub flags_text : Bool → Bool → List ℕ
flags_text no_debit no_credit = (if no_debit then codes " NODEBIT" else []) ++ (if no_credit then codes " NOCREDIT" else [])

abbrev pub line_text : SetupLine → List ℕ
line_text (line.Bank code) = codes "BANK" ++ spaced code
line_text (line.Psp name) = codes "PSP" ++ spaced name
line_text (line.Account ac opening no_debit no_credit) = codes "ACCOUNT" ++ spaced (account_text ac) ++ spaced (paise_text opening) ++ flags_text no_debit no_credit
line_text (line.Address addr ac p) = codes "ADDR" ++ spaced addr ++ spaced (account_text ac) ++ spaced (policy_text p)

-- `START` and its moment
unfoldable pub start_text : ℕ → List ℕ
start_text start = codes "START" ++ spaced (moment_text start)

-- what is written for a line: nothing for one that is passed over, and else its one form, with a line feed
abbrev pub setup_text_of : SetupRead → List ℕ
setup_text_of read.Skipped = []
setup_text_of (read.Start start) = start_text start ++ 10 ∷ []
setup_text_of (read.Line l) = line_text l ++ 10 ∷ []
setup_text_of read.Open = codes "OPEN\n"

-- what a line did: OPEN was read, or more is to come
abbrev pub step_of : SetupRead → SetupStep
step_of read.Open = SetupStep.Opened
step_of _ = SetupStep.More

-- what a line does to a setup that is being read, and writes; a refusal changes nothing
abbrev pub SetupAnswer : SetupState → List ℕ → List ℕ → List ℕ → SetupState → Result SetupStep EngineFault → Type 0
SetupAnswer S line before after new (Ok step) = (r : SetupRead) × (setup_read S line ≡ Ok r) × (step ≡ step_of r) × (new ≡ state_after S r) × (after ≡ before ++ setup_text_of r)
SetupAnswer S line before after new (Err (EngineFault.Bad field why)) = (setup_read S line ≡ Err (refusal field why)) × (new ≡ S) × (after ≡ before)
SetupAnswer S line before after new (Err EngineFault.NoMemory) = (new ≡ S) × (after ≡ before)
