-- Fronts of what a run has written and kept back, where a write fails.
use Rattle.std.proofs.Common.{◌≡◌, ℕ, zero, suc, ◌+◌, ◌<◌, ◌≤◌, List, [], ◌∷◌, ◌++◌, length, take, Option, Ok, ◌⊎◌, refl, sym, ap, subst, ◌∙◌, inl, inr, arith, append_assoc, append-nil, length-append}
use Rattle.std.proofs.KnownBytes.{Appends-trans}
use Rattle.std.specs.Io.KnownBytes.{Appends}
use Rattle.upi_words.specs.Prelude.{Text}
use Rattle.upi_io.specs.declared.lines.TheConstants.{MAX_LINES}
use Rattle.upi_io.specs.declared.status.Status.{Status}
use Rattle.script_engine.specs.Play.{Play, Played, play_line, play}
use Rattle.switch_cli.specs.Run.{IsTrusted, StopsInLine, Ran}
use Rattle.switch_cli.specs.Lines.{AreRead, IsNext}
use Rattle.switch_cli.specs.calls.Pieces.{WritesFront, IsCut, AllCuts}
use Rattle.script_engine.proofs.Written.{text_is_of_history}

-- a front of two texts ends within the first, or within the second
pub split_front : (a b : Text) (k : ℕ) → ((k < length a) × (take k (a ++ b) ≡ take k a)) ⊎ ((j : ℕ) × (k ≡ length a + j) × (take k (a ++ b) ≡ a ++ take j b))
split_front [] b k = inr (k, omega arith, refl)
split_front (c ∷ cs) b zero = inl (omega arith, refl)
split_front (c ∷ cs) b (suc k) =
    elim (split_front cs b k) [
      | inl low ↦ inl (omega (arith, low.0), ap (λ (l : Text). c ∷ l) low.1)
      | inr past ↦ inr (past.0, omega (arith, past.1), ap (λ (l : Text). c ∷ l) past.2)
    ]

-- the front of all of the first and of some of the second
past_first : (a b : Text) (j : ℕ) → take (length a + j) (a ++ b) ≡ a ++ take j b
past_first a b j =
    elim (split_front a b (length a + j)) [
      | inl low ↦ absurd (omega (arith, low.0))
      | inr past ↦
          let same : past.0 ≡ j = omega (arith, past.1) in
          past.2 ∙ ap (λ i. a ++ take i b) same
    ]

-- more is written behind a front, but nothing
pub front_more : (before mid after : Option Text) (text : Text) → WritesFront before mid text → Appends mid after [] → WritesFront before after text
front_more before mid after text f none =
    let front = take f.count text in
    record { count = f.count; short = f.short; wrote = subst (λ t. Appends before after t) (append-nil front) (Appends-trans before mid after front [] f.wrote none) }

-- a front of two texts was written: one of the first, or all of the first and a front of the second
pub front_of_two : (before after : Option Text) (a b : Text) → WritesFront before after (a ++ b) → WritesFront before after a ⊎ ((j : ℕ) × (j < length b) × Appends before after (a ++ take j b))
front_of_two before after a b f =
    elim (split_front a b f.count) [
      | inl low ↦
          let front : WritesFront before after a = record { count = f.count; short = low.0; wrote = subst (λ t. Appends before after t) low.1 f.wrote } in inl front
      | inr past ↦ inr (past.0, omega (arith, past.1, f.short, length-append a b), subst (λ t. Appends before after t) past.2 f.wrote)
    ]

-- ---- where a text may be cut off

pub no_cuts : (source : Option Text) → AllCuts source []
no_cuts source = λ k low. absurd (omega (arith, low))

-- in what was written before, and in what one more line writes
pub more_cuts : (source : Option Text) (texts : List Text) (p : Play) (written text : Text) (q : Played) → AllCuts source written → length texts ≤ MAX_LINES → play texts ≡ Ok (record { play = p; text = written }) → IsTrusted p → AreRead source texts (IsNext text) → play_line p text ≡ Ok q → AllCuts source (written ++ q.text)
more_cuts source texts p written text q cuts few plays trust next does = λ k low.
    elim (split_front written q.text k) [
      | inl front ↦ subst (λ t. IsCut source t) (sym front.1) (cuts k front.0)
      | inr past ↦
          let at : StopsInLine source texts p (take past.0 q.text) = record { text = text; played = q; next = next; plays = does; count = past.0; short = omega (arith, low, past.1, length-append written q.text); front = refl } in
          record { texts = texts; played = record { play = p; text = written }; few = few; plays = plays; trusted = trust; part = take past.0 q.text; is = past.2; stops = at }
    ]

-- a front of what is kept back was written: so a run ends by a write fault
pub cut_ran : (source left before mid now : Option Text) (out kept : Text) → Appends before mid out → AllCuts source (out ++ kept) → WritesFront mid now kept → Ran source left before now Status.WriteFault
cut_ran source left before mid now out kept wrote cuts f =
    let c = cuts (length out + f.count) (omega (arith, f.short, length-append out kept)) in
    let all : Appends before now (out ++ take f.count kept) = Appends-trans before mid now out (take f.count kept) wrote f.wrote in
    record {
      texts = c.texts;
      played = c.played;
      few = c.few;
      plays = c.plays;
      trusted = c.trusted;
      tells = text_is_of_history c.texts c.played c.plays;
      part = c.part;
      wrote = subst (λ t. Appends before now t) (sym (past_first out kept f.count) ∙ c.is) all;
      ends = inl c.stops;
    }
