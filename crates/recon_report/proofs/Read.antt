-- What is written reads back.
use Rattle.std.proofs.Common.{◌≡◌, ℕ, Bool, true, false, ◌||◌, ◌==◌, List, [], ◌∷◌, ◌++◌, map, None, refl, sym, ◌∙◌, ap, subst, append_assoc, append-nil}
use Rattle.std.specs.List.{flat_map, list_any}
use Rattle.csv.proofs.RoundTrip.{read-write-many}
use Rattle.csv.specs.Machine.{next_record}
use Rattle.csv.specs.Reading.{AreRecords, Reached, default_config, strip_bom}
use Rattle.csv.specs.Writing.{default_writer, field_text, fields_text, is_blank, needs_byte}
use Rattle.csv.specs.declared.parser.State.{State}
use Rattle.upi_words.specs.Prelude.{Text}
use Rattle.recon_report.specs.Laws.{IsPlain, PlainLinesAreJoined, ReportReadsBack, is_mark}
use Rattle.recon_report.specs.Report.{Line, fields, header, line_text, report_lines, report_of}

-- all lines are read, one after the other
reached : (lines : List Line) → Reached default_config State.StartRecord (flat_map line_text lines) (map fields lines) State.StartRecord []
unfolding Reached line_text
reached [] = (refl, refl)
reached (l ∷ ls) =
    ((fields l, State.StartRecord, flat_map line_text ls), read-write-many l.kind l.id (l.bank ∷ l.detail ∷ l.amount ∷ l.code ∷ []) (flat_map line_text ls), refl, reached ls)

-- behind them nothing is left
ended : next_record default_config State.StartRecord [] [] [] ≡ None
unfolding next_record
ended = refl

pub read_back : (lines : List Line) → AreRecords default_config State.StartRecord (flat_map line_text lines) (map fields lines)
read_back lines = (State.StartRecord, [], reached lines, ended)

-- a report begins with the names of its fields, and so with no byte order mark
unmarked : (rest : List Line) → strip_bom (flat_map line_text (header ∷ rest)) ≡ flat_map line_text (header ∷ rest)
unfolding strip_bom line_text fields_text
unmarked rest = refl

pub reads_back : ReportReadsBack
unfolding report_of
reads_back banks rows balances flight =
    let lines : List Line = report_lines banks rows balances flight in
    let Reads : List ℕ → Type 0 = λ text. AreRecords default_config State.StartRecord text (map fields lines) in
    subst Reads (sym (unmarked _)) (read_back lines)

-- the tests for quotes, as the writer orders them
ordered : (a b c d : Bool) → (a || b || (c || d) || false || false) ≡ (a || b || c || d)
ordered true b c d = refl
ordered false true c d = refl
ordered false false true d = refl
ordered false false false true = refl
ordered false false false false = refl

marked : (c : ℕ) → needs_byte default_writer c ≡ is_mark c
marked c = ordered (c == 44) (c == 34) (c == 13) (c == 10)

-- a plain field is written as it is
plain_field : (text : Text) → IsPlain text → field_text default_writer text ≡ text
plain_field text plain =
    let needs : list_any (needs_byte default_writer) text ≡ false = ap (λ (p : ℕ → Bool). list_any p text) (λ i c. marked c i) ∙ plain in
    rw needs refl

-- commas between fields, and the end of the line behind them
closed : (kind id bank detail amount code : Text)
    → (kind ++ 44 ∷ (id ++ 44 ∷ (bank ++ 44 ∷ (detail ++ 44 ∷ (amount ++ 44 ∷ (code ++ [])))))) ++ 10 ∷ []
    ≡ kind ++ 44 ∷ (id ++ 44 ∷ (bank ++ 44 ∷ (detail ++ 44 ∷ (amount ++ 44 ∷ (code ++ 10 ∷ [])))))
closed kind id bank detail amount code = simp (append_assoc, append-nil)

pub plain_lines : PlainLinesAreJoined
unfolding line_text fields_text is_blank
plain_lines l plain =
    (λ i.
    (plain_field l.kind plain.kind i ++ 44 ∷ (plain_field l.id plain.id i ++ 44 ∷ (plain_field l.bank plain.bank i ++ 44 ∷ (plain_field l.detail plain.detail i
    ++ 44 ∷ (plain_field l.amount plain.amount i ++ 44 ∷ (plain_field l.code plain.code i ++ [])))))) ++ 10 ∷ [])
    ∙ closed l.kind l.id l.bank l.detail l.amount l.code
