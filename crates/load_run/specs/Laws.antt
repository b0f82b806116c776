-- What holds of all loads.
use Rattle.std.specs.Prelude.{◌≡◌, ℕ, ◌≤◌, Result, Ok}
use Rattle.upi_base.specs.declared.settled.Summary.{Summary}
use Rattle.script_engine.specs.Play.{Played, play}
use Rattle.load_generator.specs.declared.text.TheConstants.{MAX_COUNT}
use Rattle.load_run.specs.LoadLines.{load_lines}
use Rattle.load_run.specs.Summaries.{LoadAnswer, IsPlayed}
use Rattle.load_run.specs.declared.run.LoadFault.{LoadFault}

pub record LoadLaws : Type 0 where
  -- No line of a load of at most 50,000 payments is refused, whatever the seed.
  pub none_is_refused : (count seed : ℕ) → count ≤ MAX_COUNT → (q : Played) × (play (load_lines count seed) ≡ Ok q)
  -- So no answer of a load that was run names a line.
  pub names_no_line : (count seed : ℕ) (answer : Result Summary LoadFault) → count ≤ MAX_COUNT → LoadAnswer count seed answer → IsPlayed answer
