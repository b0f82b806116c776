use Rattle.std.proofs.Common.{◌≡◌, ◌++◌, codes, subst}
use Rattle.recon_report.specs.Report.{report_text}
use Rattle.script_engine.specs.Play.{Play}
use Rattle.script_engine.specs.End.{closed_at_end}
use Rattle.script_engine.proofs.Trying.{end_text}
use Rattle.script_engine.proofs.player.Player.finish.Goals as goal

pub returns : goal.returns
returns c =
    let q = closed_at_end c.args.self.now in
    let report = report_text q.play.setup.lines q.play.history in
    let mid = c.close_at_end.new.out.items in
    let after = c.write_report.new.out.items in
    let wrote : after ≡ mid ++ codes "REPORT\n" ++ report =
    subst (λ (p : Play). after ≡ mid ++ codes "REPORT\n" ++ report_text p.setup.lines p.history) c.in_ok-close_at_end.ensures.0 c.in_ok-write_report.ensures in
    (c.in_ok-close_at_end.ensures.0, end_text c.args.out.now.items q.text (codes "REPORT\n") report mid after c.in_ok-close_at_end.ensures.1 wrote)
