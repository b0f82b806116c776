-- What the functions that write lines say of the writer underneath.
use Rattle.std.specs.Prelude.{◌≡◌, ℕ, false, List, ◌++◌}
use Rattle.std.specs.List.{flat_map}
use Rattle.std.specs.declared.alloc.Global.{Global}
use Rattle.std.specs.declared.vec.Vec.{Vec}
use Rattle.csv.specs.Writing.{default_writer, fields_written, has_written, writer_pending, writer_setup, writer_under}
use Rattle.csv.specs.declared.writer.Writer.{Writer}
use Rattle.upi_base.specs.Money.{paise_text, sum_text}
use Rattle.recon_report.specs.Report.{Line, line_text}
use Rattle.recon_report.specs.declared.page.{Amount.Amount}

-- a writer of comma-separated values into memory
abbrev pub Out : Type 0
Out = Writer (Vec ℕ Global)

-- the bytes that were written
abbrev pub text_of : Out → List ℕ
text_of out = (writer_under out).items ++ writer_pending out

-- a writer stands at the beginning of a line, and writes with the defaults of CSV
pub record IsAtLine (out : Out) : Type 0 where
  pub setup : writer_setup out ≡ default_writer
  pub fields : fields_written out ≡ 0
  pub wrote : has_written out ≡ false

-- these lines were added
pub record Adds (old new : Out) (lines : List Line) : Type 0 where
  pub at_line : IsAtLine new
  pub text : text_of new ≡ text_of old ++ flat_map line_text lines

-- how an amount is written
abbrev pub amount_text : Amount → List ℕ
amount_text (Amount.Paise sum) = paise_text sum
amount_text (Amount.Total sum) = paise_text sum
amount_text (Amount.Net sum) = sum_text sum
