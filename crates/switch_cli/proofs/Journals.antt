-- The whole text of a script: what its lines have written, and its end.
use Rattle.std.proofs.Common.{◌≡◌, Bool, true, false, if◌then◌else◌, List, [], ◌∷◌, ◌++◌, codes, sym, ap, subst, ◌∙◌, append_assoc, append-nil}
use Rattle.upi_words.specs.Prelude.{Call, Text, is_closed}
use Rattle.upi_text.specs.Journal.{history_text}
use Rattle.recon_report.specs.Report.{report_text}
use Rattle.script_engine.specs.Play.{Play, Played, put_call, refusal_text}
use Rattle.script_engine.specs.End.{closed_at_end, finished}
use Rattle.script_engine.specs.Writing.{Piece, Lines, Remark, written, said, setup_text, IsTextOf}
use Rattle.switch_cli.specs.Run.{IsWholeText}

-- one piece more
written_more : (ps : List Piece) (t : Text) → written (ps ++ Lines t ∷ []) ≡ written ps ++ t
written_more [] t = append-nil t
written_more (Lines u ∷ ps) t = ap (λ (x : Text). u ++ x) (written_more ps t) ∙ sym (append_assoc u (written ps) t)
written_more (Remark f ∷ ps) t = ap (λ (x : Text). refusal_text f ++ x) (written_more ps t) ∙ sym (append_assoc (refusal_text f) (written ps) t)

said_more : (ps : List Piece) (t : Text) → said (ps ++ Lines t ∷ []) ≡ said ps ++ t
said_more [] t = append-nil t
said_more (Lines u ∷ ps) t = ap (λ (x : Text). u ++ x) (said_more ps t) ∙ sym (append_assoc u (said ps) t)
said_more (Remark f ∷ ps) t = said_more ps t

-- an entry more
entry_more : (p : Play) (t : Text) → IsTextOf p t → IsTextOf (put_call p Call.Close).play (t ++ (put_call p Call.Close).text)
entry_more p t a =
    let e = (put_call p Call.Close).text in
    record {
      pieces = a.pieces ++ Lines e ∷ [];
      wrote = ap (λ (x : Text). x ++ e) a.wrote ∙ sym (written_more a.pieces e);
      tells = said_more a.pieces e ∙ ap (λ (x : Text). x ++ e) a.tells ∙ append_assoc (setup_text p.setup) (history_text p.history) e;
    }

-- what the end plays, where something has closed before and where nothing has
abbrev closed_if : Play → Bool → Played
closed_if p b = if b then record { play = p; text = [] } else put_call p Call.Close

close_told : (p : Play) (t : Text) → IsTextOf p t → IsTextOf (closed_at_end p).play (t ++ (closed_at_end p).text)
close_told p t a = go (is_closed p.history)
  where
    go : (b : Bool) → IsTextOf (closed_if p b).play (t ++ (closed_if p b).text)
    go true = subst (λ (x : Text). IsTextOf p x) (sym (append-nil t)) a
    go false = entry_more p t a

-- and the report
pub whole_text_of : (p : Play) (t : Text) → IsTextOf p t → IsWholeText (finished p).play (t ++ (finished p).text)
whole_text_of p t a =
    let q = closed_at_end p in
    let report : Text = report_text q.play.setup.lines q.play.history in
    let word : Text = codes "REPORT\n" in
    record {
      journal = t ++ q.text;
      tells = close_told p t a;
      ends = sym (append_assoc t (q.text ++ word) report) ∙ ap (λ (x : Text). x ++ report) (sym (append_assoc t q.text word));
    }
