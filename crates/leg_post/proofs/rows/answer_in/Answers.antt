use Rattle.std.proofs.Common.{ap, ◌∙◌}
use Rattle.std.specs.Option.{option_map}
use Rattle.leg_post.specs.declared.rows.Posting.{Posting}
use Rattle.leg_post.proofs.Views.{found}
use Rattle.leg_post.proofs.rows.answer_in.Goals as goal

pub returns-in-Some : goal.returns-in-Some
returns-in-Some c = ap (option_map (λ (p : Posting). p.answer)) c.in-Some.ensures ∙ found c.args.rows.now.rows c.args.key.now
