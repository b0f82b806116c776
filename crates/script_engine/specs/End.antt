-- The end of a script.
use Rattle.std.specs.Prelude.{Bool, true, false, if◌then◌else◌, [], ◌++◌, length, codes, count_by, Option, Some}
use Rattle.upi_words.specs.Prelude.{Call, Outcome, TxnRow, Setup, History, is_closed, flight}
use Rattle.upi_base.specs.declared.settled.Summary.{Summary}
use Rattle.upi_model.specs.History.{sent_count}
use Rattle.upi_model.specs.Settlement.{txn_rows, is_deemed, is_unmatched}
use Rattle.recon_report.specs.Report.{report_text}
use Rattle.script_engine.specs.Play.{Play, Played, put_call}

-- the end of the input closes, where nothing has closed before
abbrev pub closed_at_end : Play → Played
closed_at_end p = if is_closed p.history then record { play = p; text = [] } else put_call p Call.Close

-- the end: the close, and the report
abbrev pub finished : Play → Played
finished p = let q = closed_at_end p in record { play = q.play; text = q.text ++ codes "REPORT\n" ++ report_text q.play.setup.lines q.play.history }

-- the outcome is SUCCESS
abbrev pub is_success : Option Outcome → Bool
is_success (Some Outcome.Success) = true
is_success _ = false

-- the outcome is FAILURE
abbrev pub is_failure : Option Outcome → Bool
is_failure (Some (Outcome.Failure code)) = true
is_failure _ = false

-- the counts of a history
abbrev pub summary_of : Setup → History → Summary
summary_of S h = record {
  success = count_by (λ (r : TxnRow). is_success r.outcome) (txn_rows S h);
  failure = count_by (λ (r : TxnRow). is_failure r.outcome) (txn_rows S h);
  deemed = count_by (λ (r : TxnRow). is_deemed r.outcome) (txn_rows S h);
  items = count_by is_unmatched (txn_rows S h);
  flight = flight S h;
  entries = length h;
  messages = sent_count h;
}
