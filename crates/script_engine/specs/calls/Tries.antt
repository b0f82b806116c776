-- What the functions that try calls answer.
use Rattle.std.specs.Prelude.{◌≡◌, ℕ, ◌+◌, Bool, false, ◌++◌, length, Option, Some, None, Result, Ok, Err}
use Rattle.upi_words.specs.Prelude.{Call, Entry, History, Text}
use Rattle.upi_base.specs.declared.entry.Done.{Done}
use Rattle.upi_base.specs.declared.fault.EngineFault.{EngineFault}
use Rattle.upi_base.specs.declared.fault.NoMemory.{NoMemory}
use Rattle.upi_text.specs.Refusals.{refusal}
use Rattle.upi_text.specs.declared.refusal.Refusal.{Refusal}
use Rattle.switch_core.specs.declared.fault.CoreFault.{CoreFault}
use Rattle.upi_text.specs.Journal.{entry_lines}
use Rattle.switch_core.specs.Calls.{refused_by, entry_at}
use Rattle.script_engine.specs.Play.{Play, Played, Tried, refusal_text, put_call, behind_text}

-- a call is applied: accepted with its place, or refused, which changes nothing
abbrev pub AppliedAnswer : Play → Call → Play → Result Done CoreFault → Type 0
AppliedAnswer p c new (Ok done) = (refused_by p.history c ≡ None) × (new ≡ (put_call p c).play) × (done.place ≡ length p.history + 1)
AppliedAnswer p c new (Err CoreFault.NoMemory) = Unit {0}
AppliedAnswer p c new (Err (CoreFault.Full len)) = (refused_by p.history c ≡ Some (CoreFault.Full len)) × (new ≡ p)
AppliedAnswer p c new (Err (CoreFault.NoMessage n sent)) = (refused_by p.history c ≡ Some (CoreFault.NoMessage n sent)) × (new ≡ p)

-- a refused call is told, and the line's calls don't go on
abbrev pub ToldAnswer : CoreFault → Text → Text → Result Bool NoMemory → Type 0
ToldAnswer CoreFault.NoMemory before after (Ok goes) = ⊥
ToldAnswer fault before after (Ok goes) = (after ≡ before ++ refusal_text fault) × (goes ≡ false)
ToldAnswer fault before after (Err e) = Unit {0}

-- the entry at a place, if there is one, is written with messages that come behind so many
abbrev pub WritesEntry : ℕ → ℕ → Text → Text → Option Entry → Type 0
WritesEntry place sent before after None = ⊥
WritesEntry place sent before after (Some e) = after ≡ before ++ entry_lines e place (sent + 1)

-- the same, of the entry of a history
abbrev pub IfWritten : History → ℕ → ℕ → Text → Text → Type 0
IfWritten h place sent before after = WritesEntry place sent before after (entry_at h place)

-- calls are tried, by the definition t; whether they go on
abbrev pub TriedAnswer : Tried → Text → Text → Play → Result Bool NoMemory → Type 0
TriedAnswer t before after new (Ok goes) = (new ≡ t.play) × (after ≡ before ++ t.text) × (goes ≡ t.goes)
TriedAnswer t before after new (Err e) = Unit {0}

-- of the whole so much is tried and written, and the rest is to come
pub record IsAhead (whole : Tried) (before after : Text) (rest : Tried) : Type 0 where
  pub text : Text
  pub wrote : after ≡ before ++ text
  pub goes_on : whole ≡ behind_text text rest

-- a line is played, by the definition r, or refused, which changes nothing
abbrev pub PlayAnswer : Result Played Refusal → Play → Text → Text → Play → Result (Unit {0}) EngineFault → Type 0
PlayAnswer r p before after new (Ok u) = (q : Played) × (r ≡ Ok q) × (after ≡ before ++ q.text) × (new ≡ q.play)
PlayAnswer r p before after new (Err (EngineFault.Bad field why)) = (r ≡ Err (refusal field why)) × (after ≡ before) × (new ≡ p)
PlayAnswer r p before after new (Err EngineFault.NoMemory) = Unit {0}
