-- What lines leave as it is: the setup, and the moment but for TICK.
use Rattle.std.proofs.Common.{◌≡◌, ℕ, zero, suc, Bool, true, false, if◌then◌else◌, List, [], ◌∷◌, Option, Some, None, refl, ◌∙◌}
use Rattle.upi_words.specs.Prelude.{Call, Text}
use Rattle.switch_core.specs.declared.fault.CoreFault.{CoreFault}
use Rattle.switch_core.specs.Calls.{refused_by}
use Rattle.upi_model.specs.Pending.{lowest_pending}
use Rattle.script_engine.specs.Play.{Play, Tried, put_call, tried_by, try_call, still, behind_text, and_go, try_calls, divides, deliver_twice, treat, run_turn, run_turns, run_all}

-- one setup, and one moment
pub record Same (p q : Play) : Type 0 where
  pub setup : q.setup ≡ p.setup
  pub now : q.now ≡ p.now

same : (p : Play) → Same p p
same p = record { setup = refl; now = refl }

pub trans : (p q r : Play) → Same p q → Same q r → Same p r
trans p q r a b = record { setup = b.setup ∙ a.setup; now = b.now ∙ a.now }

pub call_same : (p : Play) (c : Call) → Same p (try_call p c).play
call_same p c = go (refused_by p.history c)
  where
    go : (o : Option CoreFault) → Same p (tried_by o p c).play
    go None = record { setup = refl; now = refl }
    go (Some fault) = same p

and_go_same : (p : Play) (t : Tried) (more : Play → Tried) → Same p t.play → ((q : Play) → Same q (more q).play) → Same p (and_go t more).play
and_go_same p t more s f = go t.goes
  where
    go : (b : Bool) → Same p (if b then behind_text t.text (more t.play) else t).play
    go true = trans p t.play (more t.play).play s (f t.play)
    go false = s

pub calls_same : (cs : List Call) (p : Play) → Same p (try_calls cs p).play
calls_same [] p = same p
calls_same (c ∷ cs) p = and_go_same p (try_call p c) (try_calls cs) (call_same p c) (calls_same cs)

treat_same : (k r n : ℕ) (p : Play) → Same p (treat k r n p).play
treat_same k r n p = go (divides k n) (divides r n)
  where
    go : (a b : Bool) → Same p (if a then try_call p (Call.Lose n) else if b then deliver_twice n p else try_call p (Call.Deliver n)).play
    go true b = call_same p (Call.Lose n)
    go false true = and_go_same p (try_call p (Call.Deliver n)) (λ q. try_call q (Call.Deliver n)) (call_same p (Call.Deliver n)) (λ q. call_same q (Call.Deliver n))
    go false false = call_same p (Call.Deliver n)

turn_same : (k r : ℕ) (more : Play → Tried) (p : Play) → ((q : Play) → Same q (more q).play) → (o : Option ℕ) → Same p (run_turn k r more p o).play
turn_same k r more p f None = same p
turn_same k r more p f (Some n) = and_go_same p (treat k r n p) more (treat_same k r n p) f

pub turns_same : (k r turns : ℕ) (p : Play) → Same p (run_turns k r turns p).play
unfolding run_turns
turns_same k r zero p = same p
turns_same k r (suc turns) p = turn_same k r (run_turns k r turns) p (turns_same k r turns) (lowest_pending p.history)
