-- The lines of a setup, read.
use Rattle.std.specs.Prelude.{◌≡◌, ℕ, ◌==◌, nat_le, Bool, true, false, not, ◌&&◌, if◌then◌else◌, List, [], ◌∷◌, ◌++◌, length, codes, Option, Some, None, Result, Ok, Err}
use Rattle.std.specs.Str.{bytes_eq, is_utf8}
use Rattle.upi_base.specs.declared.code.Policy.{Policy}
use Rattle.upi_base.specs.declared.code.Policy.TheVariants as policy
use Rattle.upi_base.specs.declared.fault.Why.{Why}
use Rattle.upi_base.specs.declared.fault.Why.TheVariants as why
use Rattle.upi_base.specs.declared.setup.SetupLine.{SetupLine}
use Rattle.upi_base.specs.declared.setup.SetupLine.TheVariants as line
use Rattle.upi_base.specs.Lists.{when}
use Rattle.upi_base.specs.Texts.{is_bank_code, is_psp_name, is_addr}
use Rattle.upi_base.specs.Money.{paise_of}
use Rattle.upi_base.specs.Time.{moment_of}
use Rattle.upi_base.specs.Setup.{setup_fault}
use Rattle.upi_base.specs.Accounts.{account_of}
use Rattle.upi_text.specs.Words.{is_skipped, words, word_at}
use Rattle.upi_text.specs.Refusals.{◌>>=◌, refusal, not_utf8, no_command, other_fields, valued}
use Rattle.upi_text.specs.declared.refusal.Refusal.{Refusal}
use Rattle.upi_text.specs.declared.setup.Command.{Command}
use Rattle.upi_text.specs.declared.setup.Command.TheVariants as command
use Rattle.upi_text.specs.declared.setup.Flags.{Flags}
use Rattle.upi_text.specs.declared.setup.SetupRead.{SetupRead}
use Rattle.upi_text.specs.declared.setup.SetupRead.TheVariants as read

-- the lines of a setup that were read: the moment of START, the lines behind it, and whether OPEN was read
pub record SetupState : Type 0 where
  pub start : Option ℕ
  pub lines : List SetupLine
  pub is_open : Bool

-- `BANK code`
unfoldable pub bank_line : List (List ℕ) → Result SetupLine Refusal
bank_line ws =
    if length ws == 2
    then (valued 2 (when (is_bank_code (word_at 1 ws)) (word_at 1 ws)) >>= λ code.
    Ok (line.Bank code))
    else Err other_fields

-- `PSP name`
unfoldable pub psp_line : List (List ℕ) → Result SetupLine Refusal
psp_line ws =
    if length ws == 2
    then (valued 2 (when (is_psp_name (word_at 1 ws)) (word_at 1 ws)) >>= λ name.
    Ok (line.Psp name))
    else Err other_fields

-- which postings an account doesn't take
abbrev pub flags : Bool → Bool → Flags
flags no_debit no_credit = record { no_debit = no_debit; no_credit = no_credit }

-- `NODEBIT` or `NOCREDIT`
unfoldable pub flag_of : List ℕ → Option Flags
flag_of word =
    if bytes_eq word (codes "NODEBIT") then Some (flags true false)
    else if bytes_eq word (codes "NOCREDIT") then Some (flags false true)
    else None

-- what follows the opening balance: nothing, `NODEBIT`, `NOCREDIT` or `NODEBIT NOCREDIT`
unfoldable pub flags_of : List (List ℕ) → Result Flags Refusal
flags_of ws =
    if length ws == 3 then Ok (flags false false)
    else if length ws == 4 then valued 4 (flag_of (word_at 3 ws))
    else if not (bytes_eq (word_at 3 ws) (codes "NODEBIT")) then Err (refusal 4 why.Value)
    else if not (bytes_eq (word_at 4 ws) (codes "NOCREDIT")) then Err (refusal 5 why.Value)
    else Ok (flags true true)

-- `ACCOUNT account value` and the flags
unfoldable pub account_line : List (List ℕ) → Result SetupLine Refusal
account_line ws =
    if nat_le 3 (length ws) && nat_le (length ws) 5
    then (valued 2 (account_of (word_at 1 ws)) >>= λ ac.
    valued 3 (paise_of (word_at 2 ws)) >>= λ opening.
    flags_of ws >>= λ f.
    Ok (line.Account ac opening f.no_debit f.no_credit))
    else Err other_fields

-- `YES`, `NO` or `ASK`
unfoldable pub policy_of : List ℕ → Option Policy
policy_of word =
    if bytes_eq word (codes "YES") then Some policy.Yes
    else if bytes_eq word (codes "NO") then Some policy.No
    else if bytes_eq word (codes "ASK") then Some policy.Ask
    else None

-- `ADDR addr account policy`
unfoldable pub address_line : List (List ℕ) → Result SetupLine Refusal
address_line ws =
    if length ws == 4
    then (valued 2 (when (is_addr (word_at 1 ws)) (word_at 1 ws)) >>= λ addr.
    valued 3 (account_of (word_at 2 ws)) >>= λ ac.
    valued 4 (policy_of (word_at 3 ws)) >>= λ p.
    Ok (line.Address addr ac p))
    else Err other_fields

-- `OPEN`
unfoldable pub open_line : List (List ℕ) → Result SetupRead Refusal
open_line ws = if length ws == 1 then Ok read.Open else Err other_fields

-- `START ts`
unfoldable pub start_line : List (List ℕ) → Result SetupRead Refusal
start_line ws =
    if not (bytes_eq (word_at 0 ws) (codes "START")) then Err no_command
    else if length ws == 2
    then (valued 2 (moment_of (word_at 1 ws)) >>= λ start.
    Ok (read.Start start))
    else Err other_fields

-- the word at which a reason of the setup stands
abbrev pub field_of : Why → ℕ
field_of why.Twice = 2
field_of why.NoBank = 2
field_of why.NoPsp = 2
field_of why.NoAccount = 3
field_of why.Limit = 1
field_of _ = 0

-- the line, unless it is refused for a reason, which stands at its word
abbrev pub unless_refused : SetupLine → Option Why → Result SetupRead Refusal
unless_refused l None = Ok (read.Line l)
unless_refused l (Some w) = Err (refusal (field_of w) w)

-- the line, if the setup takes it behind those lines
abbrev pub accepted : List SetupLine → SetupLine → Result SetupRead Refusal
accepted lines l = unless_refused l (setup_fault lines l)

-- what the first word of a line behind START names
unfoldable pub command_of : List ℕ → Option Command
command_of word =
    if bytes_eq word (codes "BANK") then Some command.Bank
    else if bytes_eq word (codes "PSP") then Some command.Psp
    else if bytes_eq word (codes "ACCOUNT") then Some command.Account
    else if bytes_eq word (codes "ADDR") then Some command.Address
    else if bytes_eq word (codes "OPEN") then Some command.Open
    else None

-- what a line behind START says, by its first word
abbrev pub commanded : List SetupLine → List (List ℕ) → Option Command → Result SetupRead Refusal
commanded lines ws None = Err no_command
commanded lines ws (Some command.Bank) = bank_line ws >>= accepted lines
commanded lines ws (Some command.Psp) = psp_line ws >>= accepted lines
commanded lines ws (Some command.Account) = account_line ws >>= accepted lines
commanded lines ws (Some command.Address) = address_line ws >>= accepted lines
commanded lines ws (Some command.Open) = open_line ws

-- a line behind START
abbrev pub later_line : List SetupLine → List (List ℕ) → Result SetupRead Refusal
later_line lines ws = commanded lines ws (command_of (word_at 0 ws))

-- a line before START, which has to be START itself, or one behind it
abbrev pub part_line : Option ℕ → List SetupLine → List (List ℕ) → Result SetupRead Refusal
part_line None lines ws = start_line ws
part_line (Some start) lines ws = later_line lines ws

-- what a line says behind the lines that were read, or why it is refused
abbrev pub setup_read : SetupState → List ℕ → Result SetupRead Refusal
setup_read S text =
    if is_skipped text then Ok read.Skipped
    else if not (is_utf8 text) then Err not_utf8
    else part_line S.start S.lines (words text)

-- the setup takes what a line says
abbrev pub MayFollow : List SetupLine → SetupRead → Type 0
MayFollow lines read.Skipped = Unit {0}
MayFollow lines (read.Start start) = Unit {0}
MayFollow lines (read.Line l) = setup_fault lines l ≡ None
MayFollow lines read.Open = Unit {0}

-- START stands first, and all others behind it
abbrev pub IsPlaced : Option ℕ → SetupRead → Type 0
IsPlaced start read.Skipped = Unit {0}
IsPlaced None (read.Start s) = Unit {0}
IsPlaced (Some start) (read.Start s) = ⊥
IsPlaced None (read.Line l) = ⊥
IsPlaced (Some start) (read.Line l) = Unit {0}
IsPlaced None read.Open = ⊥
IsPlaced (Some start) read.Open = Unit {0}

-- nothing was read
abbrev pub unread : SetupState
unread = record { start = None; lines = []; is_open = false }

-- the lines that were read, with one more
abbrev pub state_after : SetupState → SetupRead → SetupState
state_after S read.Skipped = S
state_after S (read.Start start) = record S { start = Some start }
state_after S (read.Line l) = record S { lines = S.lines ++ l ∷ [] }
state_after S read.Open = record S { is_open = true }
