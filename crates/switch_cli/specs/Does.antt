-- What each command does, from a source to a sink.
use Rattle.std.specs.Prelude.{◌≡◌, ◌⊎◌, Bool, true, false, Option, Some, None, Ok}
use Rattle.std.specs.Io.KnownBytes.{Appends}
use Rattle.upi_words.specs.Prelude.{Text}
use Rattle.upi_io.specs.declared.status.Status.{Status}
use Rattle.script_engine.specs.Play.{Played, play}
use Rattle.script_engine.specs.End.{summary_of}
use Rattle.command_words.specs.declared.command.Command.{Command}
use Rattle.load_generator.specs.Loads.{generated}
use Rattle.load_run.specs.LoadLines.{load_lines}
use Rattle.load_run.specs.Summaries.{summary_text}
use Rattle.load_commands.specs.Outputs.{Generates, Loads}
use Rattle.switch_cli.specs.Run.{Ran, Completes}
use Rattle.switch_cli.specs.Audits.{Audits, CompletesAudit}

-- What a command does. The source had `source` left before and has `left` now; the sink had taken `before`, and has taken `after` now.
abbrev pub Does : Option Command → Option Text → Option Text → Option Text → Option Text → Status → Type 0
Does None source left before after s = s ≡ Status.Usage
Does (Some Command.Script) source left before after s = Ran source left before after s
Does (Some Command.Audit) source left before after s = Audits source left before after s
Does (Some (Command.Generate size)) source left before after s = Generates size.count size.seed before after s
Does (Some (Command.Load size)) source left before after s = Loads size.count size.seed before after s

-- whether a command reads the source
abbrev pub reads_input : Option Command → Bool
reads_input None = false
reads_input (Some Command.Script) = true
reads_input (Some Command.Audit) = true
reads_input (Some (Command.Generate size)) = false
reads_input (Some (Command.Load size)) = false

-- all is done, and this text was written; or there was no memory
abbrev pub IsDone : Text → Option Text → Option Text → Status → Type 0
IsDone text before after s = (s ≡ Status.NoMemory) ⊎ ((s ≡ Status.Done) × Appends before after text)

-- How a command ends where neither the source nor the sink fails: over a whole script, over a whole journal, and over a load whose lines no script refuses.
abbrev pub CompletesAs : Option Command → Option Text → Option Text → Option Text → Status → Type 0
CompletesAs None source before after s = Unit {0}
CompletesAs (Some Command.Script) source before after s = Completes source before after s
CompletesAs (Some Command.Audit) source before after s = CompletesAudit source before after s
CompletesAs (Some (Command.Generate size)) source before after s = IsDone (generated size.count size.seed) before after s
CompletesAs (Some (Command.Load size)) source before after s =
    (q : Played) → play (load_lines size.count size.seed) ≡ Ok q → IsDone (summary_text size.count size.seed (summary_of q.play.setup.lines q.play.history)) before after s
