use Rattle.script_engine.proofs.Written.{text_is_of_history}
use Rattle.script_engine.proofs.laws.text_is_of_history.Goals as goal

pub returns : goal.returns
returns c = text_is_of_history
