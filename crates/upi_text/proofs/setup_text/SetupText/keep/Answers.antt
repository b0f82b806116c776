use Rattle.upi_text.proofs.Kept.{line_kept}
use Rattle.upi_text.proofs.setup_text.SetupText.keep.Goals as goal

pub invariant_of-self-2 : goal.invariant_of-self-2
invariant_of-self-2 c = line_kept c.self.inside.directory c.self.inside.is_open c.args.self.now c.in-Some.directory c.push.new.self c.args.line c.self.invariant c.in-Some.is c.self.view_is c.requires.follows c.in_ok-push.ensures.ok

pub returns-clause-accepted : goal.returns-clause-accepted
returns-clause-accepted c = line_kept c.self.inside.directory c.self.inside.is_open c.args.self.now c.in-Some.directory c.push.new.self c.args.line c.self.invariant c.in-Some.is c.self.view_is c.requires.follows c.in_ok-push.ensures.ok
