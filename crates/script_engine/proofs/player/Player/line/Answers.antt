use Rattle.std.proofs.Common.{◌≡◌, Ok, ap, subst}
use Rattle.upi_words.specs.Prelude.{Setup}
use Rattle.script_engine.specs.Script.{call_read}
use Rattle.script_engine.specs.Play.{Play, Played, played, call_done}
use Rattle.script_engine.proofs.player.Player.line.Goals as goal

pub returns-clause-line : goal.returns-clause-line
returns-clause-line c =
    let p = c.args.self.now in
    let line = c.args.line.now in
    let command = c.in_ok-command.command in
    let inside : call_read c.self.inside.core.setup c.self.inside.moment line ≡ Ok command =
    subst (λ (S : Setup). call_read S c.self.inside.moment line ≡ Ok command) c.directory.ensures c.in_ok-command.ensures.line in
    let says : call_read p.setup.lines p.now line ≡ Ok command = subst (λ (q : Play). call_read q.setup.lines q.now line ≡ Ok command) c.self.view_is inside in
    let done : Played = record { play = (played p command).play; text = (played p command).text } in
    (done, ap (call_done p) says, c.in_ok-_goes.ensures.1, c.in_ok-_goes.ensures.0)
