-- Steps of a run: a line is played, or refused.
use Rattle.std.proofs.Common.{◌≡◌, ◌<◌, ℕ, suc, ◌+◌, ◌-◌, List, [], ◌∷◌, ◌++◌, length, Result, Ok, Err, refl, sym, ap, subst, arith, ◌∙◌, append_assoc, append-nil, length-append}
use Rattle.upi_words.specs.Prelude.{Text, Why}
use Rattle.upi_base.specs.declared.fault.EngineFault.{EngineFault}
use Rattle.load_generator.specs.Users.{setup_line, setup_len}
use Rattle.load_generator.specs.Loads.{next_send}
use Rattle.upi_base.specs.declared.settled.Summary.{Summary}
use Rattle.script_engine.specs.Play.{Play, Played, blank, play, play_line}
use Rattle.script_engine.specs.End.{summary_of}
use Rattle.script_engine.specs.Engine.{EngineState, fresh, LineAnswer}
use Rattle.load_run.specs.LoadLines.{setup_from, payments_from, with_turns_at, load_lines}
use Rattle.load_run.specs.Summaries.{LoadAnswer}
use Rattle.load_run.specs.Runs.{Going, IsRefused}
use Rattle.load_run.proofs.Plays.{one_more}

-- nothing was played
pub begins : (lines : List Text) → Going lines lines blank 0
begins lines = record { done = []; written = []; split = refl; counted = refl; plays = refl }

-- an engine that has read nothing stands before all lines of a load
pub load_begins : (count seed : ℕ) (e : EngineState) (n : ℕ) → e ≡ fresh → n ≡ 0 → Going (load_lines count seed) (setup_from 0 setup_len (payments_from seed count 0 count)) e.play n
unfolding load_lines
load_begins count seed e n is none =
    let lines = load_lines count seed in
    let blank_play : e.play ≡ blank = ap (λ (x : EngineState). x.play) is in
    subst (λ (k : ℕ). Going lines lines e.play k) (sym none) (subst (λ (p : Play). Going lines lines p 0) (sym blank_play) (begins lines))

-- one line more
one_played : (lines rest : List Text) (line : Text) (p : Play) (n : ℕ) (q : Played) → Going lines (line ∷ rest) p n → play_line p line ≡ Ok q → Going lines rest q.play (n + 1)
one_played lines rest line p n q g e = record {
  done = g.done ++ line ∷ [];
  written = g.written ++ q.text;
  split = g.split ∙ sym (append_assoc g.done (line ∷ []) rest);
  counted = length-append g.done (line ∷ []) ∙ ap (λ (k : ℕ). k + 1) g.counted;
  plays = one_more g.done blank line (record { play = p; text = g.written }) q g.plays e;
}

-- an engine plays the next line
pub line_played : (lines rest : List Text) (line before after : Text) (e new : EngineState) (n : ℕ) (u : Unit {0})
    → LineAnswer e line before after new (Ok u) → Going lines (line ∷ rest) e.play n → Going lines rest new.play (n + 1)
line_played lines rest line before after e new n u a g =
    subst (λ (s : EngineState). Going lines rest s.play (n + 1)) (sym a.1.3) (one_played lines rest line e.play n a.1.0 g a.1.1)

-- an engine refuses the next line
pub line_refused : (lines rest : List Text) (line before after : Text) (e new : EngineState) (n field : ℕ) (w : Why)
    → LineAnswer e line before after new (Err (EngineFault.Bad field w)) → Going lines (line ∷ rest) e.play n → IsRefused lines (n + 1) field w
line_refused lines rest line before after e new n field w a g = record {
  line = line;
  rest = rest;
  play = e.play;
  count = n;
  going = g;
  here = refl;
  refused = a.1;
}

-- the next line of the setup
pub at_setup : (lines rest : List Text) (k : ℕ) (p : Play) (n : ℕ) (line : Text) → k < setup_len → line ≡ setup_line k
    → Going lines (setup_from k (setup_len - k) rest) p n → Going lines (line ∷ setup_from (k + 1) (setup_len - (k + 1)) rest) p n
at_setup lines rest k p n line lt is g =
    let more : setup_len - k ≡ suc (setup_len - (k + 1)) = omega (arith, lt) in
    subst (λ (l : Text). Going lines (l ∷ setup_from (k + 1) (setup_len - (k + 1)) rest) p n) (sym is)
    (subst (λ (left : ℕ). Going lines (setup_from k left rest) p n) more g)

-- the next payment
pub at_payment : (lines : List Text) (seed count made : ℕ) (p : Play) (n : ℕ) (line : Text) → made < count → line ≡ next_send seed made
    → Going lines (payments_from seed count made (count - made)) p n
    → Going lines (line ∷ with_turns_at count (made + 1) (payments_from seed count (made + 1) (count - (made + 1)))) p n
at_payment lines seed count made p n line lt is g =
    let more : count - made ≡ suc (count - (made + 1)) = omega (arith, lt) in
    subst (λ (l : Text). Going lines (l ∷ with_turns_at count (made + 1) (payments_from seed count (made + 1) (count - (made + 1)))) p n) (sym is)
    (subst (λ (left : ℕ). Going lines (payments_from seed count made left) p n) more g)

-- all lines of a load were played
pub load_answered : (count seed : ℕ) (p : Play) (n : ℕ) (s : Summary) → Going (load_lines count seed) [] p n → s ≡ summary_of p.setup.lines p.history → LoadAnswer count seed (Ok s)
load_answered count seed p n s g is =
    (record { play = p; text = g.written }, subst (λ (ls : List Text). play ls ≡ Ok (record { play = p; text = g.written })) (sym (g.split ∙ append-nil g.done)) g.plays, is)
