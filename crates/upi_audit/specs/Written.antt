-- How a verdict is written.
use Rattle.std.specs.Prelude.{List, [], ◌∷◌, ◌++◌, codes, decimal}
use Rattle.upi_words.specs.Prelude.{Text, Verdict}
use Rattle.upi_io.specs.Status.{audit_why_name}
use Rattle.upi_text.specs.Pieces.{spaced}

-- the line of a verdict: `YES entries` or `NO entry WHY`
abbrev pub verdict_text : Verdict → Text
verdict_text (Verdict.Yes entries) = codes "YES" ++ spaced (decimal entries) ++ 10 ∷ []
verdict_text (Verdict.No entry why) = codes "NO" ++ spaced (decimal entry) ++ spaced (audit_why_name why) ++ 10 ∷ []
