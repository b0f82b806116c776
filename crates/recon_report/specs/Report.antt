-- The report: its lines, and their bytes as comma-separated values.
use Rattle.std.specs.Prelude.{ℕ, List, [], ◌∷◌, ◌++◌, codes, Option, Some, None, map}
use Rattle.std.specs.List.{flat_map}
use Rattle.csv.specs.Writing.{default_writer, row_text}
use Rattle.upi_base.specs.Money.{paise_text, sum_text}
use Rattle.upi_base.specs.Words.{code_text, outcome_word, side_text}
use Rattle.upi_model.specs.Settlement.{accounts, banks, net_of, recon_items, settlement_items, txn_rows}
use Rattle.upi_words.specs.Prelude.{Text, Setup, History, Account, AccountRef, Item, Outcome, Recon, TxnRow, balance, flight}

-- a line: its six fields
pub record Line : Type 0 where
  pub kind : Text
  pub id : Text
  pub bank : Text
  pub detail : Text
  pub amount : Text
  pub code : Text

-- the fields of a line, in order
abbrev pub fields : Line → List Text
fields l = l.kind ∷ l.id ∷ l.bank ∷ l.detail ∷ l.amount ∷ l.code ∷ []

-- the bytes of a line: its fields with commas between them and a line feed after them. A field that holds a comma, a quote or the end of a line stands in quotes.
unfoldable pub line_text : Line → List ℕ
line_text l = row_text default_writer (fields l)

-- the first line: the names of the fields
abbrev pub header : Line
header = record { kind = codes "row"; id = codes "id"; bank = codes "bank"; detail = codes "detail"; amount = codes "amount"; code = codes "code" }

-- the code of a failure; empty for the other outcomes
abbrev pub outcome_code : Outcome → Text
outcome_code Outcome.Success = []
outcome_code (Outcome.Failure code) = code_text code
outcome_code Outcome.Deemed = []

-- how a transaction of this name and amount ended: no line where it has no outcome
abbrev pub ended_line : Text → ℕ → Option Outcome → List Line
ended_line txn amount None = []
ended_line txn amount (Some outcome) =
    record { kind = codes "OUTCOME"; id = txn; bank = []; detail = outcome_word outcome; amount = paise_text amount; code = outcome_code outcome } ∷ []

-- how a transaction ended
abbrev pub outcome_line : TxnRow → List Line
outcome_line r = ended_line r.txn r.amount r.outcome

-- an item of a bank's settlement list
abbrev pub settle_line : Text → Item → Line
settle_line bank i = record { kind = codes "SETTLE"; id = i.txn; bank = bank; detail = side_text i.side; amount = paise_text i.amount; code = [] }

-- the settlement list of a bank
abbrev pub settle_lines : List TxnRow → Text → List Line
settle_lines rows bank = map (settle_line bank) (settlement_items bank rows)

-- what a bank received less what it paid
abbrev pub net_line : List TxnRow → Text → Line
net_line rows bank = record { kind = codes "NET"; id = []; bank = bank; detail = []; amount = sum_text (net_of (settlement_items bank rows)); code = [] }

-- a deemed transaction whose credit didn't move
abbrev pub recon_line : Recon → Line
recon_line r = record { kind = codes "RECON"; id = r.txn; bank = r.bank; detail = []; amount = paise_text r.amount; code = [] }

-- what an account holds
abbrev pub balance_line : (AccountRef × ℕ) → Line
balance_line held = record { kind = codes "BALANCE"; id = held.0.num; bank = held.0.bank; detail = []; amount = paise_text held.1; code = [] }

-- the money in flight
abbrev pub flight_line : ℕ → Line
flight_line sum = record { kind = codes "FLIGHT"; id = []; bank = []; detail = []; amount = paise_text sum; code = [] }

-- the whole report: the names of the fields, how transactions ended, the settlement list of each bank, the net of each bank, the reconciliation items, the balances, and the money in flight
abbrev pub report_lines : List Text → List TxnRow → List (AccountRef × ℕ) → ℕ → List Line
report_lines banks rows balances flight =
    header ∷ [] ++ flat_map outcome_line rows ++ flat_map (settle_lines rows) banks ++ map (net_line rows) banks ++ map recon_line (recon_items rows) ++ map balance_line balances ++ flight_line flight ∷ []

-- the bytes of the whole report
unfoldable pub report_of : List Text → List TxnRow → List (AccountRef × ℕ) → ℕ → List ℕ
report_of banks rows balances flight = flat_map line_text (report_lines banks rows balances flight)

-- the accounts of a setup with what they hold, in setup order
abbrev pub balances : Setup → History → List (AccountRef × ℕ)
balances S h = map (λ (a : Account). (a.ac, balance S a h)) (accounts S)

-- the report of a history: banks and accounts in setup order, transactions in opening order
abbrev pub report_text : Setup → History → List ℕ
report_text S h = report_of (banks S) (txn_rows S h) (balances S h) (flight S h)
