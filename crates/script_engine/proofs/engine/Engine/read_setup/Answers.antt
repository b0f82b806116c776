use Rattle.std.proofs.Common.{◌≡◌, false, Option, None, Ok, sym, ◌∙◌, subst}
use Rattle.upi_text.specs.SetupText.{SetupAnswer}
use Rattle.upi_text.specs.declared.setup_text.SetupStep.{SetupStep}
use Rattle.script_engine.specs.Play.{Play, play_line}
use Rattle.script_engine.specs.Engine.{EngineState}
use Rattle.script_engine.specs.calls.Tries.{PlayAnswer}
use Rattle.script_engine.specs.calls.Playing.{play_of}
use Rattle.script_engine.proofs.Engines.{unopened, setup_taken, switch_opened}
use Rattle.script_engine.proofs.engine.Engine.read_setup.Goals as goal

pub returns-in-More-clause-line : goal.returns-in-More-clause-line
returns-in-More-clause-line c =
    let S = c.self.inside.setup in
    let new = c.line.new.self in
    let line = c.args.line.now in
    let before = c.args.out.now.items in
    let after = c.line.new.out.items in
    let closed : (play_of S c.self.inside.player).setup.is_open ≡ false = subst (λ (e : EngineState). e.play.setup.is_open ≡ false) (sym c.self.view_is) c.requires in
    let early = unopened S c.self.inside.player c.self.invariant closed in
    let answer : SetupAnswer S line before after new (Ok SetupStep.More) = subst (λ (s : SetupStep). SetupAnswer S line before after new (Ok s)) c.in-More.is c.in_ok-line.ensures.answer in
    let taken = (setup_taken S new line before after early.1 answer).0 in
    let here : PlayAnswer (play_line (play_of S c.self.inside.player) line) (play_of S c.self.inside.player) before after (play_of new c.self.inside.player) (Ok tt) =
    subst (λ (o : Option Play). PlayAnswer (play_line (play_of S o) line) (play_of S o) before after (play_of new o) (Ok tt)) (sym early.0) taken in
    subst (λ (e : EngineState). PlayAnswer (play_line e.play line) e.play before after (play_of new c.self.inside.player) (Ok tt)) c.self.view_is here

pub returns-in_ok-player-in-Opened-clause-line : goal.returns-in_ok-player-in-Opened-clause-line
returns-in_ok-player-in-Opened-clause-line c =
    let S = c.self.inside.setup in
    let new = c.line.new.self in
    let line = c.args.line.now in
    let before = c.args.out.now.items in
    let after = c.line.new.out.items in
    let player = c.in_ok-player-in-Opened.player in
    let closed : (play_of S c.self.inside.player).setup.is_open ≡ false = subst (λ (e : EngineState). e.play.setup.is_open ≡ false) (sym c.self.view_is) c.requires in
    let early = unopened S c.self.inside.player c.self.invariant closed in
    let answer : SetupAnswer S line before after new (Ok SetupStep.Opened) = subst (λ (s : SetupStep). SetupAnswer S line before after new (Ok s)) c.in-Opened.is c.in_ok-line.ensures.answer in
    let made = sym c.replace-text.ensures.value ∙ c.into_directory.ensures.read in
    let opened : PlayAnswer (play_line (play_of S None) line) (play_of S None) before after player (Ok tt) =
    subst (λ (p : Play). PlayAnswer (play_line (play_of S None) line) (play_of S None) before after p (Ok tt)) (sym c.in_ok-player-in-Opened.ensures.play)
    (switch_opened S new c.into_directory.result line before after early.1 answer made) in
    let here : PlayAnswer (play_line (play_of S c.self.inside.player) line) (play_of S c.self.inside.player) before after player (Ok tt) =
    subst (λ (o : Option Play). PlayAnswer (play_line (play_of S o) line) (play_of S o) before after player (Ok tt)) (sym early.0) opened in
    subst (λ (e : EngineState). PlayAnswer (play_line e.play line) e.play before after player (Ok tt)) c.self.view_is here
