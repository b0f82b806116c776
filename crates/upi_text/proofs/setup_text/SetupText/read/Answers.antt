use Rattle.upi_text.proofs.setup_text.SetupText.read.Goals as goal

pub returns-in-None-clause-follows : goal.returns-in-None-clause-follows
returns-in-None-clause-follows c = c.start_line.ensures.follows c.args.self.now.lines
