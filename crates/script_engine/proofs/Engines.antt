-- What an engine keeps and answers.
use Rattle.std.proofs.Common.{◌≡◌, ℕ, Bool, true, false, List, [], ◌++◌, Option, Some, None, Result, Ok, Err, refl, sym, ◌∙◌, ap, subst, append-nil}
use Rattle.std.specs.Prelude.{if◌then◌else◌, unwrap_or}
use Rattle.upi_words.specs.Prelude.{Why, Text}
use Rattle.upi_base.specs.declared.fault.EngineFault.{EngineFault}
use Rattle.upi_base.specs.declared.setup.Setup.{Setup}
use Rattle.upi_model.specs.Chronicle.{Chronicle}
use Rattle.upi_text.specs.Setup.{SetupState, setup_read, state_after}
use Rattle.upi_text.specs.SetupText.{step_of, SetupAnswer}
use Rattle.upi_text.specs.declared.refusal.Refusal.{Refusal}
use Rattle.upi_text.specs.declared.setup.SetupRead.{SetupRead}
use Rattle.upi_text.specs.declared.setup.SetupRead.TheVariants as read
use Rattle.upi_text.specs.declared.setup_text.SetupStep.{SetupStep}
use Rattle.script_engine.specs.Script.{call_read}
use Rattle.script_engine.specs.Play.{Play, Played, call_done, take_setup, setup_done, play_line}
use Rattle.script_engine.specs.Engine.{EngineState, IsTrue, HasFailed, LineAnswer, EndAnswer}
use Rattle.script_engine.specs.calls.Tries.{PlayAnswer}
use Rattle.script_engine.specs.calls.Playing.{IsPlaying, IsOpenPlay, opened_play, play_of, IsEngine}
use Rattle.script_engine.specs.calls.Ending.{is_no_memory, FinishAnswer, SettledAnswer}

-- what an engine keeps says that its setup is accepted and its history legal
pub engine_holds : (S : SetupState) (o : Option Play) (failed : Bool) → IsEngine S o → IsTrue (record { play = play_of S o; failed = failed })
engine_holds S None failed is = record { accepted = is.1; legal = tt }
engine_holds S (Some p) failed is = record { accepted = is.accepted; legal = is.legal }

-- where OPEN wasn't read, nothing is played yet
pub unopened : (S : SetupState) (o : Option Play) → IsEngine S o → (play_of S o).setup.is_open ≡ false → (o ≡ None) × (S.is_open ≡ false)
unopened S None is closed = (refl, closed)
unopened S (Some p) is closed = absurd (cc)

-- what a player keeps says that its setup is accepted and its history legal
pub open_play : (core : Chronicle) (marks : List Bool) (start now : ℕ) → IsPlaying core marks → IsOpenPlay (record { setup = record { start = Some start; lines = core.setup; is_open = true }; history = core.history; now = now })
open_play core marks start now is = record { opened = refl; accepted = is.switch.accepted; legal = is.switch.legal }

-- ---- a line before OPEN

-- a line before OPEN is a line of the setup
setup_played : (S : SetupState) (line : Text) → S.is_open ≡ false → play_line (play_of S None) line ≡ setup_done (play_of S None) (setup_read S line)
setup_played S line closed = ap (λ (b : Bool). if b then call_done (play_of S None) (call_read S.lines (unwrap_or S.start 0) line) else setup_done (play_of S None) (setup_read S line)) closed

-- a line of the setup was refused
pub setup_refused : (S new : SetupState) (line before after : Text) (field : ℕ) (why : Why) → S.is_open ≡ false → SetupAnswer S line before after new (Err (EngineFault.Bad field why))
    → PlayAnswer (play_line (play_of S None) line) (play_of S None) before after (play_of new None) (Err (EngineFault.Bad field why))
setup_refused S new line before after field why closed answer =
    (setup_played S line closed ∙ ap (setup_done (play_of S None)) answer.0, answer.2, ap (λ (s : SetupState). play_of s None) answer.1)

stays_closed : (S : SetupState) (r : SetupRead) → SetupStep.More ≡ step_of r → S.is_open ≡ false → (state_after S r).is_open ≡ false
stays_closed S read.Skipped more closed = closed
stays_closed S (read.Start start) more closed = closed
stays_closed S (read.Line l) more closed = closed
stays_closed S read.Open more closed = absurd (cc)

opens : (S : SetupState) (r : SetupRead) → SetupStep.Opened ≡ step_of r → (state_after S r).is_open ≡ true
opens S read.Skipped opened = absurd (cc)
opens S (read.Start start) opened = absurd (cc)
opens S (read.Line l) opened = absurd (cc)
opens S read.Open opened = refl

-- a line of the setup was taken
pub setup_taken : (S new : SetupState) (line before after : Text) → S.is_open ≡ false → SetupAnswer S line before after new (Ok SetupStep.More)
    → (PlayAnswer (play_line (play_of S None) line) (play_of S None) before after (play_of new None) (Ok tt)) × (new.is_open ≡ false)
setup_taken S new line before after closed answer = (
  (take_setup (play_of S None) answer.0, setup_played S line closed ∙ ap (setup_done (play_of S None)) answer.1, answer.4, ap (λ (s : SetupState). play_of s None) answer.3),
  ap (λ (s : SetupState). s.is_open) answer.3 ∙ stays_closed S answer.0 answer.2 closed,
)

-- OPEN was read
pub setup_opened : (S new : SetupState) (line before after : Text) → SetupAnswer S line before after new (Ok SetupStep.Opened) → new.is_open ≡ true
setup_opened S new line before after answer = ap (λ (s : SetupState). s.is_open) answer.3 ∙ opens S answer.0 answer.2

-- and the switch opens over it
pub switch_opened : (S new : SetupState) (setup : Setup) (line before after : Text) → S.is_open ≡ false → SetupAnswer S line before after new (Ok SetupStep.Opened)
    → new ≡ record { start = Some setup.start; lines = setup.lines; is_open = true }
    → PlayAnswer (play_line (play_of S None) line) (play_of S None) before after (opened_play setup) (Ok tt)
switch_opened S new setup line before after closed answer made = (
  take_setup (play_of S None) answer.0,
  setup_played S line closed ∙ ap (setup_done (play_of S None)) answer.1,
  answer.4,
  ap (λ (s : SetupState). play_of s None) (sym made ∙ answer.3),
)

-- ---- a line behind OPEN

-- a line behind OPEN is a call
pub call_played : (p new : Play) (line before after : Text) (r : Result (Unit {0}) EngineFault) → p.setup.is_open ≡ true
    → PlayAnswer (call_done p (call_read p.setup.lines p.now line)) p before after new r → PlayAnswer (play_line p line) p before after new r
call_played p new line before after r opened answer =
    subst (λ (x : Result Played Refusal). PlayAnswer x p before after new r)
    (sym (ap (λ (b : Bool). if b then call_done p (call_read p.setup.lines p.now line) else setup_done p (setup_read p.setup line)) opened)) answer

-- ---- what is handed on

-- an answer is handed on
pub handed_on : (e : EngineState) (answer : Result (Unit {0}) EngineFault) (text before after : Text) → is_no_memory answer ≡ false → after ≡ before ++ text → SettledAnswer e answer text before after e answer
handed_on e (Ok u) text before after there wrote = (refl, wrote, refl)
handed_on e (Err (EngineFault.Bad field why)) text before after there wrote = (refl, wrote, refl)
handed_on e (Err EngineFault.NoMemory) text before after there wrote = absurd (cc)

never : (b : Bool) {A : Type 0} → b ≡ false → b ≡ true → A
never b no' yes' = absurd (cc)

-- a line that was played is answered
pub line_settled : (e mid new : EngineState) (line text before after : Text) (answer result : Result (Unit {0}) EngineFault) → e.failed ≡ false → mid.failed ≡ e.failed
    → PlayAnswer (play_line e.play line) e.play [] text mid.play answer → SettledAnswer mid answer text before after new result → LineAnswer e line before after new result
line_settled e mid new line text before after answer (Ok u) sound kept played settled =
    let done : PlayAnswer (play_line e.play line) e.play [] text mid.play (Ok u) = subst (PlayAnswer (play_line e.play line) e.play [] text mid.play) settled.0 played in (
      sound,
      (done.0, done.1, settled.1 ∙ ap (λ (x : Text). before ++ x) done.2, settled.2 ∙ (λ i. record { play = done.3 i; failed = (kept ∙ sound) i })),
    )
line_settled e mid new line text before after answer (Err (EngineFault.Bad field why)) sound kept played settled =
    let refused : PlayAnswer (play_line e.play line) e.play [] text mid.play (Err (EngineFault.Bad field why)) = subst (PlayAnswer (play_line e.play line) e.play [] text mid.play) settled.0 played in (
      sound,
      refused.0,
      settled.1 ∙ (ap (λ (x : Text). before ++ x) refused.1 ∙ append-nil before),
      settled.2 ∙ (λ i. record { play = refused.2 i; failed = kept i }),
    )
line_settled e mid new line text before after answer (Err EngineFault.NoMemory) sound kept played settled =
    record { failed = ap (λ (x : EngineState). x.failed) settled.1; unwritten = settled.0; stays = λ failed. never e.failed sound failed }

-- the end that was played is answered
pub end_settled : (e mid new : EngineState) (text before after : Text) (answer result : Result (Unit {0}) EngineFault) → e.failed ≡ false → mid.failed ≡ e.failed
    → FinishAnswer e.play [] text mid.play answer → SettledAnswer mid answer text before after new result → EndAnswer e before after new result
end_settled e mid new text before after answer (Ok u) sound kept ended settled =
    let done : FinishAnswer e.play [] text mid.play (Ok u) = subst (FinishAnswer e.play [] text mid.play) settled.0 ended in
    (sound, done.0, settled.1 ∙ ap (λ (x : Text). before ++ x) done.1, settled.2 ∙ (λ i. record { play = done.2 i; failed = (kept ∙ sound) i }))
end_settled e mid new text before after answer (Err (EngineFault.Bad field why)) sound kept ended settled =
    let refused : FinishAnswer e.play [] text mid.play (Err (EngineFault.Bad field why)) = subst (FinishAnswer e.play [] text mid.play) settled.0 ended in
    (sound, refused.0, refused.1, refused.2, settled.1 ∙ (ap (λ (x : Text). before ++ x) refused.3 ∙ append-nil before), settled.2 ∙ (λ i. record { play = refused.4 i; failed = kept i }))
end_settled e mid new text before after answer (Err EngineFault.NoMemory) sound kept ended settled =
    record { failed = ap (λ (x : EngineState). x.failed) settled.1; unwritten = settled.0; stays = λ failed. never e.failed sound failed }

-- an engine that had failed stays so
pub stays_failed : (e : EngineState) (out : Text) → e.failed ≡ true → HasFailed e out out e
stays_failed e out failed = record { failed = failed; unwritten = refl; stays = λ f. refl }
