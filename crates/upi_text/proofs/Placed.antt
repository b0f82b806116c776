-- Where in a setup a line may stand.
use Rattle.std.proofs.Common.{◌≡◌, ℕ, Bool, true, false, List, length, Option, Some, None, Result, Ok, Err, refl, subst}
use Rattle.std.specs.Prelude.{◌==◌, not, if◌then◌else◌, codes}
use Rattle.std.specs.Str.{bytes_eq, is_utf8}
use Rattle.upi_words.specs.Prelude.{Why, SetupLine, Setup, Text}
use Rattle.upi_base.specs.Setup.{setup_fault}
use Rattle.upi_base.specs.Time.{moment_of}
use Rattle.upi_text.specs.Words.{is_skipped, words, word_at}
use Rattle.upi_text.specs.Refusals.{◌>>=◌, not_utf8, no_command, other_fields, valued}
use Rattle.upi_text.specs.Setup.{SetupState, start_line, open_line, unless_refused, accepted, bank_line, psp_line, account_line, address_line, command_of, commanded, part_line, setup_read, IsPlaced}
use Rattle.upi_text.specs.declared.refusal.Refusal.{Refusal}
use Rattle.upi_text.specs.declared.setup.Command.{Command}
use Rattle.upi_text.specs.declared.setup.Command.TheVariants as command
use Rattle.upi_text.specs.declared.setup.SetupRead.{SetupRead}
use Rattle.upi_text.specs.declared.setup.SetupRead.TheVariants as read

first : (ws : List Text) (r : SetupRead) → start_line ws ≡ Ok r → IsPlaced None r
unfolding start_line
first ws r e = go (not (bytes_eq (word_at 0 ws) (codes "START"))) (length ws == 2) (moment_of (word_at 1 ws)) e
  where
    go : (a b : Bool) (m : Option ℕ) → (if a then Err no_command else if b then (valued 2 m >>= λ start. Ok (read.Start start)) else Err other_fields) ≡ Ok r → IsPlaced None r
    go true b m e = absurd (cc)
    go false false m e = absurd (cc)
    go false true None e = absurd (cc)
    go false true (Some s) e = let same : read.Start s ≡ r = cc in subst (IsPlaced None) same tt

opens : (start : ℕ) (ws : List Text) (r : SetupRead) → open_line ws ≡ Ok r → IsPlaced (Some start) r
unfolding open_line
opens start ws r e = go (length ws == 1) e
  where
    go : (b : Bool) → (if b then Ok read.Open else Err other_fields) ≡ Ok r → IsPlaced (Some start) r
    go true e = let same : read.Open ≡ r = cc in subst (IsPlaced (Some start)) same tt
    go false e = absurd (cc)

taken : (start : ℕ) (l : SetupLine) (w : Option Why) (r : SetupRead) → unless_refused l w ≡ Ok r → IsPlaced (Some start) r
taken start l None r e = let same : read.Line l ≡ r = cc in subst (IsPlaced (Some start)) same tt
taken start l (Some w) r e = absurd (cc)

lined : (start : ℕ) (lines : Setup) (l : Result SetupLine Refusal) (r : SetupRead) → (l >>= accepted lines) ≡ Ok r → IsPlaced (Some start) r
lined start lines (Err x) r e = absurd (cc)
lined start lines (Ok l) r e = taken start l (setup_fault lines l) r e

later : (start : ℕ) (lines : Setup) (ws : List Text) (c : Option Command) (r : SetupRead) → commanded lines ws c ≡ Ok r → IsPlaced (Some start) r
later start lines ws None r e = absurd (cc)
later start lines ws (Some command.Bank) r e = lined start lines (bank_line ws) r e
later start lines ws (Some command.Psp) r e = lined start lines (psp_line ws) r e
later start lines ws (Some command.Account) r e = lined start lines (account_line ws) r e
later start lines ws (Some command.Address) r e = lined start lines (address_line ws) r e
later start lines ws (Some command.Open) r e = opens start ws r e

part : (start : Option ℕ) (lines : Setup) (ws : List Text) (r : SetupRead) → part_line start lines ws ≡ Ok r → IsPlaced start r
part None lines ws r e = first ws r e
part (Some start) lines ws r e = later start lines ws (command_of (word_at 0 ws)) r e

pub placed : (S : SetupState) (text : Text) (r : SetupRead) → setup_read S text ≡ Ok r → IsPlaced S.start r
placed S text r e = go (is_skipped text) (not (is_utf8 text)) e
  where
    go : (a b : Bool) → (if a then Ok read.Skipped else if b then Err not_utf8 else part_line S.start S.lines (words text)) ≡ Ok r → IsPlaced S.start r
    go true b e = let same : read.Skipped ≡ r = cc in subst (IsPlaced S.start) same tt
    go false true e = absurd (cc)
    go false false e = part S.start S.lines (words text) r e
