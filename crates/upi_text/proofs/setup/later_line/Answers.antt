use Rattle.upi_text.proofs.setup.later_line.Goals as goal

pub returns-in-Open-clause-follows : goal.returns-in-Open-clause-follows
returns-in-Open-clause-follows c = c.open_line.ensures.follows c.args.directory.now.lines
