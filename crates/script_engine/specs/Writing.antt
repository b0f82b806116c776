-- What a script has written: the lines of its setup and of its journal, and remarks.
use Rattle.std.specs.Prelude.{◌≡◌, ℕ, Bool, true, false, List, [], ◌∷◌, ◌++◌, codes, Option, Some, None, Ok}
use Rattle.upi_words.specs.Prelude.{Setup, Text}
use Rattle.upi_text.specs.Setup.{SetupState}
use Rattle.upi_text.specs.SetupText.{start_text, line_text}
use Rattle.upi_text.specs.Journal.{history_text}
use Rattle.switch_core.specs.declared.fault.CoreFault.{CoreFault}
use Rattle.script_engine.specs.Play.{Play, Played, refusal_text, play}

-- the line of START
abbrev pub start_part : Option ℕ → Text
start_part None = []
start_part (Some start) = start_text start ++ 10 ∷ []

-- the lines of banks, PSPs, accounts and addresses
abbrev pub lines_part : Setup → Text
lines_part [] = []
lines_part (l ∷ ls) = (line_text l ++ 10 ∷ []) ++ lines_part ls

-- the line OPEN, once it was read
abbrev pub open_part : Bool → Text
open_part true = codes "OPEN\n"
open_part false = []

-- the text of a setup
abbrev pub setup_text : SetupState → Text
setup_text S = start_part S.start ++ lines_part S.lines ++ open_part S.is_open

-- the text of a setup, and of a history over it
abbrev pub whole_text : Play → Text
whole_text p = setup_text p.setup ++ history_text p.history

-- a piece of what is written: lines of the setup or of an entry, or the remark that a call was refused
pub data Piece : Type 0 where
  Lines : Text → Piece
  Remark : CoreFault → Piece

-- pieces as they are written
abbrev pub written : List Piece → Text
written [] = []
written (Lines text ∷ ps) = text ++ written ps
written (Remark fault ∷ ps) = refusal_text fault ++ written ps

-- pieces without the remarks
abbrev pub said : List Piece → Text
said [] = []
said (Lines text ∷ ps) = text ++ said ps
said (Remark fault ∷ ps) = said ps

-- a text is that of the setup and of the history of a play, but for remarks that are put in
pub record IsTextOf (p : Play) (text : Text) : Type 0 where
  pub pieces : List Piece
  pub wrote : text ≡ written pieces
  pub tells : said pieces ≡ whole_text p

-- what lines play to has written its setup and its history
abbrev pub TextIsOfHistory : Type 0
TextIsOfHistory = (lines : List Text) (q : Played) → play lines ≡ Ok q → IsTextOf q.play q.text
