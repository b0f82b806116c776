-- Lines that are added one after the other.
use Rattle.std.proofs.Common.{List, ◌++◌, sym, ◌∙◌, ap, append_assoc}
use Rattle.std.specs.List.{flat_map}
use Rattle.std.proofs.lemmas.List.Concat.{flat_map-append}
use Rattle.recon_report.specs.calls.Pages.{Out, Adds, text_of}
use Rattle.recon_report.specs.Report.{Line, line_text}

-- some lines are added, and then more
pub both : (old middle new : Out) (first later : List Line) → Adds old middle first → Adds middle new later → Adds old new (first ++ later)
both old middle new first later one two = record {
  at_line = two.at_line;
  text =
      two.text
      ∙ (ap (λ z. z ++ flat_map line_text later) one.text
      ∙ (append_assoc (text_of old) (flat_map line_text first) (flat_map line_text later)
      ∙ ap (λ z. text_of old ++ z) (sym (flat_map-append line_text first later))));
}
