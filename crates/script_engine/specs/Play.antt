-- What a script plays: the history that its lines make, and the text that they write.
use Rattle.std.specs.Prelude.{ℕ, zero, suc, ◌+◌, ◌==◌, ◌%◌, nat_lt, Bool, true, false, ◌&&◌, if◌then◌else◌, List, [], ◌∷◌, ◌++◌, length, map, codes, decimal, Option, Some, None, unwrap_or, Result, Ok, Err}
use Rattle.upi_words.specs.Prelude.{Call, History, Text}
use Rattle.upi_base.specs.declared.limits.TheConstants.{MAX_ENTRIES}
use Rattle.upi_model.specs.History.{sent_count}
use Rattle.upi_model.specs.Legal.{entry_of}
use Rattle.upi_model.specs.Pending.{lowest_pending}
use Rattle.upi_model.specs.DueList.{DueTxn, due_list}
use Rattle.upi_text.specs.Pieces.{spaced}
use Rattle.upi_text.specs.Setup.{SetupState, unread, setup_read, state_after}
use Rattle.upi_text.specs.SetupText.{setup_text_of}
use Rattle.upi_text.specs.Journal.{entry_lines}
use Rattle.upi_text.specs.declared.refusal.Refusal.{Refusal}
use Rattle.upi_text.specs.declared.setup.SetupRead.{SetupRead}
use Rattle.switch_core.specs.declared.fault.CoreFault.{CoreFault}
use Rattle.switch_core.specs.Calls.{refused_by}
use Rattle.script_engine.specs.declared.line.Command.{Command}
use Rattle.script_engine.specs.Script.{call_read}

-- What the lines so far have made: the setup, the history (the latest entry first), and the current moment, which START gives and TICK raises.
pub record Play : Type 0 where
  pub setup : SetupState
  pub history : History
  pub now : ℕ

-- a play, with the text that was written on the way to it
pub record Played : Type 0 where
  pub play : Play
  pub text : Text

-- the same, and whether the calls of a line go on: a refused call leaves out the rest of them
pub record Tried : Type 0 where
  pub play : Play
  pub text : Text
  pub goes : Bool

-- nothing was read
abbrev pub blank : Play
blank = record { setup = unread; history = []; now = 0 }

-- ---- calls

-- what is written of a refused call
abbrev pub refusal_text : CoreFault → Text
refusal_text (CoreFault.Full len) = codes "# FULL " ++ decimal len ++ 10 ∷ []
refusal_text (CoreFault.NoMessage n sent) = codes "# NOMSG " ++ decimal n ++ spaced (decimal sent) ++ 10 ∷ []
refusal_text CoreFault.NoMemory = []

-- an accepted call: its entry is put at the end, and written
abbrev pub put_call : Play → Call → Played
put_call p c =
    let e = entry_of p.setup.lines p.history 0 c p.now in
    record { play = record p { history = e ∷ p.history }; text = entry_lines e (length p.history + 1) (sent_count p.history + 1) }

-- a call that is accepted or refused
abbrev pub tried_by : Option CoreFault → Play → Call → Tried
tried_by None p c = record { play = (put_call p c).play; text = (put_call p c).text; goes = true }
tried_by (Some fault) p c = record { play = p; text = refusal_text fault; goes = false }

-- a call is tried at the current moment
abbrev pub try_call : Play → Call → Tried
try_call p c = tried_by (refused_by p.history c) p c

-- no call is tried
abbrev pub still : Play → Tried
still p = record { play = p; text = []; goes = true }

-- what was tried behind a text
abbrev pub behind_text : Text → Tried → Tried
behind_text text t = record { play = t.play; text = text ++ t.text; goes = t.goes }

-- more is tried, unless a call was refused
abbrev pub and_go : Tried → (Play → Tried) → Tried
and_go t more = if t.goes then behind_text t.text (more t.play) else t

-- calls are tried, one after another
abbrev pub try_calls : List Call → Play → Tried
try_calls [] p = still p
try_calls (c ∷ cs) p = and_go (try_call p c) (try_calls cs)

-- a call, so many times
abbrev pub many : ℕ → Call → List Call
many zero c = []
many (suc more) c = c ∷ many more c

-- ---- RUN

-- a number greater than 0 divides another
abbrev pub divides : ℕ → ℕ → Bool
divides k n = nat_lt 0 k && (n % k == 0)

-- a message is delivered twice
abbrev pub deliver_twice : ℕ → Play → Tried
deliver_twice n p = and_go (try_call p (Call.Deliver n)) (λ q. try_call q (Call.Deliver n))

-- how RUN treats a message: it is lost where k divides its number, delivered twice where r does, and else delivered once
abbrev pub treat : ℕ → ℕ → ℕ → Play → Tried
treat k r n p =
    if divides k n then try_call p (Call.Lose n)
    else if divides r n then deliver_twice n p
    else try_call p (Call.Deliver n)

-- one turn of RUN treats the lowest pending message and goes on, until there is none or a call is refused
abbrev pub run_turn : ℕ → ℕ → (Play → Tried) → Play → Option ℕ → Tried
run_turn k r go p None = still p
run_turn k r go p (Some n) = and_go (treat k r n p) go

-- RUN, in so many turns
unfoldable pub run_turns : ℕ → ℕ → ℕ → Play → Tried
run_turns k r zero p = still p
run_turns k r (suc turns) p = run_turn k r (run_turns k r turns) p (lowest_pending p.history)

-- Each turn adds an entry, so within this many turns nothing is pending or the journal is full.
abbrev pub run_all : ℕ → ℕ → Play → Tried
run_all k r p = run_turns k r (suc MAX_ENTRIES) p

-- ---- TICK

-- a Late for each of these transactions
abbrev pub lates : List DueTxn → List Call
lates ds = map (λ (d : DueTxn). Call.Late d.1) ds

-- The moment is raised, and each transaction that is then due is late, in their order. Where that is refused, the moment stays raised.
abbrev pub tick : ℕ → Play → Tried
tick moment p = try_calls (lates (due_list p.setup.lines p.history moment)) (record p { now = moment })

-- ---- lines

-- what a line behind OPEN does
abbrev pub played : Play → Command → Tried
played p Command.Skipped = still p
played p (Command.Send psp input) = try_call p (Call.Hear psp input)
played p (Command.Deliver n) = try_call p (Call.Deliver n)
played p (Command.Repeat n times) = try_calls (many times (Call.Deliver n)) p
played p (Command.Lose n) = try_call p (Call.Lose n)
played p (Command.Run k r) = run_all k r p
played p (Command.Tick moment) = tick moment p
played p Command.Close = try_call p Call.Close

-- a line behind OPEN, played
abbrev pub call_done : Play → Result Command Refusal → Result Played Refusal
call_done p (Ok c) = Ok (record { play = (played p c).play; text = (played p c).text })
call_done p (Err e) = Err e

-- a line of the setup is taken; START gives the current moment
abbrev pub take_setup : Play → SetupRead → Played
take_setup p r = record { play = record p { setup = state_after p.setup r; now = unwrap_or (state_after p.setup r).start 0 }; text = setup_text_of r }

-- a line of the setup, played
abbrev pub setup_done : Play → Result SetupRead Refusal → Result Played Refusal
setup_done p (Ok r) = Ok (take_setup p r)
setup_done p (Err e) = Err e

-- a line, played, or why it is refused
abbrev pub play_line : Play → Text → Result Played Refusal
play_line p text = if p.setup.is_open then call_done p (call_read p.setup.lines p.now text) else setup_done p (setup_read p.setup text)

-- more is played, behind a text
abbrev pub onto : Text → Result Played Refusal → Result Played Refusal
onto text (Ok q) = Ok (record { play = q.play; text = text ++ q.text })
onto text (Err e) = Err e

-- more is played behind what was played
abbrev pub and_then : Result Played Refusal → (Play → Result Played Refusal) → Result Played Refusal
and_then (Ok q) more = onto q.text (more q.play)
and_then (Err e) more = Err e

-- these lines are played one after another, up to the first that is refused
abbrev pub play_from : List Text → Play → Result Played Refusal
play_from [] p = Ok (record { play = p; text = [] })
play_from (l ∷ ls) p = and_then (play_line p l) (play_from ls)

-- a script of these lines
abbrev pub play : List Text → Result Played Refusal
play lines = play_from lines blank
