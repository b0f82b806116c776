-- Values by the words that spell them.
use Rattle.std.specs.Prelude.{ℕ, nat_le, Bool, ◌||◌, List, codes, Option, Some, None}
use Rattle.std.specs.Str.{bytes_eq}
use Rattle.upi_words.specs.Prelude.{Code, Leg, Text}
use Rattle.upi_base.specs.declared.message.MsgWhy.{MsgWhy}
use Rattle.upi_base.specs.Lists.{when, pick}
use Rattle.upi_base.specs.Texts.{is_bank_code, is_psp_name}
use Rattle.upi_base.specs.Time.{max_moment}
use Rattle.upi_text.specs.Pieces.{code_text, fault_text, leg_text}
use Rattle.upi_text.specs.Words.{number_of}
use Rattle.journal_lines.specs.declared.spelled.TheConstants.{CODES, LEGS, FAULTS}

-- the value, where its text is the word
abbrev pub if_spelled : {X : Type 0} → (X → Text) → Text → X → Option X
if_spelled text word x = when (bytes_eq (text x) word) x

-- the code that a word spells
abbrev pub code_of : Text → Option Code
code_of word = pick (if_spelled code_text word) CODES

-- the leg that a word spells
abbrev pub leg_of : Text → Option Leg
leg_of word = pick (if_spelled leg_text word) LEGS

-- the fault of a message that a word spells
abbrev pub fault_of : Text → Option MsgWhy
fault_of word = pick (if_spelled fault_text word) FAULTS

-- the word names the switch, a PSP or a bank
abbrev pub is_party : Text → Bool
is_party word = bytes_eq word (codes "SWITCH") || is_psp_name word || is_bank_code word

-- seconds within the moments
abbrev pub moment_at : Option ℕ → Option ℕ
moment_at None = None
moment_at (Some second) = when (nat_le second max_moment) second

-- the moment whose seconds a word spells
abbrev pub moment_of : Text → Option ℕ
moment_of word = moment_at (number_of word)
