use Rattle.std.proofs.Common.{rules, [], ◌∷◌, codes}
use Rattle.load_run.specs.LoadLines.{with_more_turns}
use Rattle.load_run.proofs.run.Runner.close.Goals as goal

pub returns-in_err-take_turns : goal.returns-in_err-take_turns
returns-in_err-take_turns c = record {
  runs = λ lines g.
      let stops = c.in_err-take_turns.ensures.runs lines (with_more_turns 3 (codes "CLOSE" ∷ [])) g in
      search (rules, stops);
}

pub returns-in_err-take_turns-2 : goal.returns-in_err-take_turns-2
returns-in_err-take_turns-2 c = record {
  runs = λ lines g.
      let first = c.in_ok-take_turns.ensures.runs lines (with_more_turns 3 (codes "CLOSE" ∷ [])) g in
      let stops = c.in_err-take_turns-2.ensures.runs lines (with_more_turns 2 (codes "CLOSE" ∷ [])) first in
      search (rules, stops);
}

pub returns-in_err-take_turns-3 : goal.returns-in_err-take_turns-3
returns-in_err-take_turns-3 c = record {
  runs = λ lines g.
      let first = c.in_ok-take_turns.ensures.runs lines (with_more_turns 3 (codes "CLOSE" ∷ [])) g in
      let second = c.in_ok-take_turns-2.ensures.runs lines (with_more_turns 2 (codes "CLOSE" ∷ [])) first in
      let stops = c.in_err-take_turns-3.ensures.runs lines (with_more_turns 1 (codes "CLOSE" ∷ [])) second in
      search (rules, stops);
}

pub returns-in_err-take_turns-4 : goal.returns-in_err-take_turns-4
returns-in_err-take_turns-4 c = record {
  runs = λ lines g.
      let first = c.in_ok-take_turns.ensures.runs lines (with_more_turns 3 (codes "CLOSE" ∷ [])) g in
      let second = c.in_ok-take_turns-2.ensures.runs lines (with_more_turns 2 (codes "CLOSE" ∷ [])) first in
      let third = c.in_ok-take_turns-3.ensures.runs lines (with_more_turns 1 (codes "CLOSE" ∷ [])) second in
      let stops = c.in_err-take_turns-4.ensures.runs lines (codes "CLOSE" ∷ []) third in
      search (rules, stops);
}
