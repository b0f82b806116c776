-- What holds of the bytes of every report.
use Rattle.std.specs.Prelude.{◌≡◌, ℕ, Bool, false, ◌==◌, ◌||◌, List, [], ◌∷◌, ◌++◌, map}
use Rattle.std.specs.List.{list_any}
use Rattle.csv.specs.Reading.{AreRecords, default_config, strip_bom}
use Rattle.csv.specs.declared.parser.State.{State}
use Rattle.upi_words.specs.Prelude.{Text, AccountRef, TxnRow}
use Rattle.recon_report.specs.Report.{Line, fields, line_text, report_lines, report_of}

-- a report reads back: what a reader of CSV with the usual settings finds in it are its lines, field by field, and nothing else
abbrev pub ReportReadsBack : Type 0
ReportReadsBack =
    (banks : List Text) (rows : List TxnRow) (balances : List (AccountRef × ℕ)) (flight : ℕ)
    → AreRecords default_config State.StartRecord (strip_bom (report_of banks rows balances flight)) (map fields (report_lines banks rows balances flight))

-- a byte that would put a field in quotes: a comma, a quote, a carriage return or a line feed
abbrev pub is_mark : ℕ → Bool
is_mark c = (c == 44) || (c == 34) || (c == 13) || (c == 10)

-- a text without such a byte
abbrev pub IsPlain : Text → Type 0
IsPlain text = list_any is_mark text ≡ false

-- all fields of a line are plain
pub record IsPlainLine (l : Line) : Type 0 where
  pub kind : IsPlain l.kind
  pub id : IsPlain l.id
  pub bank : IsPlain l.bank
  pub detail : IsPlain l.detail
  pub amount : IsPlain l.amount
  pub code : IsPlain l.code

-- the fields of a line, joined by commas, and a line feed
abbrev pub joined : Line → List ℕ
joined l = l.kind ++ 44 ∷ (l.id ++ 44 ∷ (l.bank ++ 44 ∷ (l.detail ++ 44 ∷ (l.amount ++ 44 ∷ (l.code ++ 10 ∷ [])))))

-- a line whose fields are plain is its fields, joined: nothing is quoted
abbrev pub PlainLinesAreJoined : Type 0
PlainLinesAreJoined = (l : Line) → IsPlainLine l → line_text l ≡ joined l
