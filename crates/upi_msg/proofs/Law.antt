-- A message that is written reads back as itself.
use Rattle.std.proofs.Common.{◌≡◌, ℕ, List, true, ap, sym, ◌∙◌, arith}
use Rattle.std.specs.Str.{bytes_eq}
use Rattle.std.proofs.lemmas.Slice.Eq.{bytes_eq-Decides}
use Rattle.upi_msg.specs.Types.{PayReq, Message, Input}
use Rattle.upi_msg.specs.Tree.{message_tree, message_text}
use Rattle.upi_msg.specs.Read.{said_by, judged, input_of}
use Rattle.upi_msg.specs.Typed.{IsTypedPay, ReadsBack}
use Rattle.upi_msg.proofs.Roots.{tree_some}
use Rattle.upi_msg.proofs.Wells.{well_utf8, well_again}
use Rattle.upi_msg.proofs.Written.{message_well}
use Rattle.upi_msg.proofs.Fields.{message_back}

pub reads_back : ReadsBack
reads_back m t =
    let good = message_well m t in
    ap said_by (tree_some (message_text m) (message_tree m) (well_utf8 9 (message_tree m) good) (well_again 9 (message_tree m) (omega arith) good))
    ∙ ap judged (message_back m t)

-- a payment that is written as a text is what that text says
pub guess_right : (text written : List ℕ) (r : PayReq) → IsTypedPay r → written ≡ message_text (Message.Pay r) → true ≡ bytes_eq written text → Input.Good (Message.Pay r) ≡ input_of text
guess_right text written r t e same = sym (ap input_of (sym ((bytes_eq-Decides written text).0 (sym same)) ∙ e) ∙ reads_back (Message.Pay r) t)
