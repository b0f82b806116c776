-- The end, played by an engine.
use Rattle.std.proofs.Common.{◌≡◌, ℕ, Bool, if◌then◌else◌, Result, Ok, Err, sym, ap, ◌∙◌}
use Rattle.upi_words.specs.Prelude.{Why, Text}
use Rattle.upi_base.specs.declared.fault.EngineFault.{EngineFault}
use Rattle.upi_text.specs.Refusals.{refusal}
use Rattle.upi_text.specs.declared.refusal.Refusal.{Refusal}
use Rattle.script_engine.specs.Play.{Played}
use Rattle.script_engine.specs.End.{finished}
use Rattle.script_engine.specs.Engine.{EngineState, EndAnswer}
use Rattle.switch_cli.specs.calls.Steps.{PlaysAs, end_of}

abbrev good : Played → Result Played Refusal
good q = Ok q

abbrev bad : Refusal → Result Played Refusal
bad r = Err r

-- what an engine answers at the end is the end as it is defined
pub end_answers : (e new : EngineState) (before after : Text) (r : Result (Unit {0}) EngineFault) → EndAnswer e before after new r → PlaysAs (end_of e.play) before after new.play r
end_answers e new before after (Ok u) a =
    let is_open = ap (λ (b : Bool). if b then good (finished e.play) else bad (refusal 0 Why.End)) a.1 in
    (finished e.play, is_open, a.2, ap (λ (s : EngineState). s.play) a.3)
end_answers e new before after (Err (EngineFault.Bad field why)) a =
    let early = ap (λ (b : Bool). if b then good (finished e.play) else bad (refusal 0 Why.End)) a.1 in
    (early ∙ ap (λ (k : ℕ). bad (refusal k Why.End)) (sym a.2) ∙ ap (λ (w : Why). bad (refusal field w)) (sym a.3), a.4)
end_answers e new before after (Err EngineFault.NoMemory) a = a.unwritten
