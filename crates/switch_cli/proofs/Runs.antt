-- Runs over lines, from step to step and to their ends.
use Rattle.std.proofs.Common.{◌≡◌, ℕ, ◌+◌, ◌<◌, ◌≤◌, Bool, true, false, if◌then◌else◌, List, [], ◌∷◌, ◌++◌, length, take, Option, Result, Ok, Err, refl, sym, ap, subst, ◌∙◌, inl, inr, arith, append_assoc, append-nil, length-append}
use Rattle.std.proofs.KnownBytes.{Appends-nil, Appends-trans}
use Rattle.std.specs.Io.KnownBytes.{prepend_known, Appends}
use Rattle.upi_words.specs.Prelude.{Why, Text}
use Rattle.upi_base.specs.declared.fault.EngineFault.{EngineFault}
use Rattle.upi_io.specs.declared.lines.TheConstants.{MAX_LINES}
use Rattle.upi_io.specs.declared.lines.Line.{Line}
use Rattle.upi_io.specs.declared.lines.LineFault.{LineFault}
use Rattle.upi_io.specs.declared.sink.Wrote.{Wrote}
use Rattle.upi_io.specs.declared.status.Status.{Status}
use Rattle.upi_text.specs.Refusals.{refusal}
use Rattle.upi_text.specs.declared.refusal.Refusal.{Refusal}
use Rattle.script_engine.specs.Play.{Play, Played, blank, play_line}
use Rattle.script_engine.specs.End.{finished}
use Rattle.switch_cli.specs.declared.script.Stop.{Stop}
use Rattle.switch_cli.specs.Run.{IsTrusted, IsWholeText, Finishes, IsRefused, AreTooMany, EndsEarly, IsBad, StopsAtEnd, EndsBy, Ran}
use Rattle.switch_cli.specs.Lines.{AreRead}
use Rattle.switch_cli.specs.calls.Steps.{IsAhead, Finds, end_of, played_next, Steps, status_of}
use Rattle.switch_cli.specs.calls.Pieces.{WritesFront, HandsOn, Leaves, AllCuts, Going}
use Rattle.script_engine.proofs.Written.{text_is_of_history}
use Rattle.switch_cli.proofs.Journals.{whole_text_of}
use Rattle.switch_cli.proofs.Plays.{one_more}
use Rattle.switch_cli.proofs.Cuts.{none_read, any_read, all_read, cut_read, many_read, long_read, next_read, one_more_read}
use Rattle.switch_cli.proofs.Fronts.{no_cuts, more_cuts, cut_ran, front_more, front_of_two}

-- ---- where nothing was read yet

pub begins : (source before : Option Text) → Going source (prepend_known [] source) blank 0 before before []
begins source before = record { texts = []; out = []; count = refl; plays = refl; wrote = Appends-nil before; read = none_read source; cuts = no_cuts source }

-- ---- the end, played

abbrev good : Played → Result Played Refusal
good q = Ok q

abbrev bad : Refusal → Result Played Refusal
bad r = Err r

same_refusal : (x y : Refusal) → bad x ≡ bad y → x ≡ y
same_refusal x y e = cc

-- it is played where OPEN was read
end_played : (p : Play) (q : Played) → end_of p ≡ Ok q → (p.setup.is_open ≡ true) × (q ≡ finished p)
end_played p q e = go p.setup.is_open refl e
  where
    go : (b : Bool) → p.setup.is_open ≡ b → (if b then good (finished p) else Err (refusal 0 Why.End)) ≡ Ok q → (p.setup.is_open ≡ true) × (q ≡ finished p)
    go true is e = (is, cc)
    go false is e = absurd cc

-- and it comes too soon where OPEN wasn't read
end_refused : (p : Play) (field : ℕ) (w : Why) → end_of p ≡ Err (refusal field w) → (p.setup.is_open ≡ false) × (field ≡ 0) × (w ≡ Why.End)
end_refused p field w e = go p.setup.is_open refl e
  where
    go : (b : Bool) → p.setup.is_open ≡ b → (if b then good (finished p) else Err (refusal 0 Why.End)) ≡ Err (refusal field w) → (p.setup.is_open ≡ false) × (field ≡ 0) × (w ≡ Why.End)
    go true is e = absurd cc
    go false is e =
        let same = same_refusal (refusal field w) (refusal 0 Why.End) (sym e) in
        (is, ap (λ (r : Refusal). r.field) same, ap (λ (r : Refusal). r.why) same)

-- ---- how a run ends

-- the run ends after the lines that were played, with what was kept back and a further part written
ends_with : (source ahead left : Option Text) (p : Play) (n : ℕ) (before mid after : Option Text) (kept part : Text) (s : Status) (g : Going source ahead p n before mid kept) → IsTrusted p → n ≤ MAX_LINES → Appends mid after (kept ++ part) → EndsBy source left g.texts (record { play = p; text = g.out ++ kept }) part s → Ran source left before after s
ends_with source ahead left p n before mid after kept part s g trust most w ends =
    record {
      texts = g.texts;
      played = record { play = p; text = g.out ++ kept };
      few = omega (arith, g.count, most);
      plays = g.plays;
      trusted = trust;
      tells = text_is_of_history g.texts (record { play = p; text = g.out ++ kept }) g.plays;
      part = part;
      wrote = subst (λ t. Appends before after t) (sym (append_assoc g.out kept part)) (Appends-trans before mid after g.out (kept ++ part) g.wrote w);
      ends = ends;
    }

-- with nothing more than what was kept back; and where a write fails, within that
ends_here : (source ahead left : Option Text) (p : Play) (n : ℕ) (before mid : Option Text) (kept new : Text) (s : Status) (g : Going source ahead p n before mid kept) → IsTrusted p → n ≤ MAX_LINES → new ≡ kept → EndsBy source left g.texts (record { play = p; text = g.out ++ kept }) [] s → Leaves source left before mid new s
ends_here source ahead left p n before mid kept new s g trust most same ends =
    record {
      all = λ now w. ends_with source ahead left p n before mid now kept [] s g trust most (subst (λ t. Appends mid now t) (same ∙ sym (append-nil kept)) w) ends;
      front = λ now w. cut_ran source left before mid now g.out kept g.wrote g.cuts (subst (λ t. WritesFront mid now t) same w);
    }

-- the number of the next line
pub next_number : (at n : ℕ) (texts : List Text) → length texts ≡ n → at ≡ n + 1 → at ≡ length texts + 1
next_number at n texts count is = is ∙ ap (λ k. k + 1) (sym count)

-- the next line isn't found
read_stops : (source ahead left : Option Text) (held : Text) (p : Play) (n : ℕ) (text : Text) (before mid : Option Text) (kept new : Text) (f : LineFault) → Going source ahead p n before mid kept → IsTrusted p → n ≤ MAX_LINES → Finds n ahead (prepend_known held left) left text (Err f) → new ≡ kept → Leaves source left before mid new (status_of (n + 1) (Stop.Read f))
read_stops source ahead left held p n text before mid kept new (LineFault.TooLong at) g trust most a same =
    ends_here source ahead left p n before mid kept new (Status.TooLong at) g trust most same (refl, next_number at n g.texts g.count a.number, long_read source ahead (prepend_known held left) g.texts n at text g.count g.read a.answer)
read_stops source ahead left held p n text before mid kept new LineFault.TooMany g trust most a same =
    let many : AreTooMany source g.texts 0 Why.Limit = record {
      many = omega (arith, g.count, most, a.number);
      more = many_read source ahead (prepend_known held left) g.texts n text g.read a.answer;
      whole = refl;
      limit = refl;
    } in
    ends_here source ahead left p n before mid kept new (Status.BadLine (n + 1) 0 Why.Limit) g trust most same (refl, next_number (n + 1) n g.texts g.count refl, inr (inl many))
read_stops source ahead left held p n text before mid kept new LineFault.ReadFault g trust most a same =
    ends_here source ahead left p n before mid kept new Status.ReadFault g trust most same (refl, cut_read source ahead left g.texts text g.read (a.cut refl))
read_stops source ahead left held p n text before mid kept new LineFault.NoMemory g trust most a same =
    ends_here source ahead left p n before mid kept new Status.NoMemory g trust most same (refl, any_read source ahead g.texts g.read)

-- what was found isn't played
refused : (source ahead left : Option Text) (held : Text) (p : Play) (n : ℕ) (text : Text) (texts : List Text) (field : ℕ) (w : Why) (found : Line) → length texts ≡ n → AreRead source texts (IsAhead ahead) → Finds n ahead (prepend_known held left) left text (Ok found) → played_next p text found ≡ Err (refusal field w) → IsBad source left texts p field w
refused source ahead left held p n text texts field w Line.Got count b a e =
    let r : IsRefused source texts p field w = record { text = text; few = omega (arith, count, a.number); next = next_read source ahead (prepend_known held left) texts n text b a.answer; refused = e } in inl r
refused source ahead left held p n text texts field w Line.End count b a e =
    let is = end_refused p field w e in
    let r : EndsEarly source left texts p field w = record { unready = is.0; over = all_read source ahead held left texts n text b a.answer (a.over refl); whole = is.1; ended = is.2 } in inr (inr r)

-- a step stops the run
stops : (source ahead left : Option Text) (held : Text) (p end : Play) (n : ℕ) (text : Text) (before mid : Option Text) (kept new : Text) (stop : Stop) → Going source ahead p n before mid kept → IsTrusted p → n ≤ MAX_LINES → Steps n ahead (prepend_known held left) left text p kept new end (Err stop) → Leaves source left before mid new (status_of (n + 1) stop)
stops source ahead left held p end n text before mid kept new (Stop.Read f) g trust most a = read_stops source ahead left held p n text before mid kept new f g trust most a.0 a.1
stops source ahead left held p end n text before mid kept new (Stop.Play (EngineFault.Bad field w)) g trust most a =
    ends_here source ahead left p n before mid kept new (Status.BadLine (n + 1) field w) g trust most a.3 (refl, next_number (n + 1) n g.texts g.count refl, refused source ahead left held p n text g.texts field w a.0 g.count g.read a.1 a.2)
stops source ahead left held p end n text before mid kept new (Stop.Play EngineFault.NoMemory) g trust most a =
    ends_here source ahead left p n before mid kept new Status.NoMemory g trust most a (refl, any_read source ahead g.texts g.read)

-- a step was the end, and what it wrote is kept back too: all of that is written, or a front
finished_all : (source ahead left : Option Text) (held : Text) (p end : Play) (n : ℕ) (text : Text) (before mid now : Option Text) (kept new : Text) → Going source ahead p n before mid kept → IsTrusted p → IsTrusted end → n ≤ MAX_LINES → Steps n ahead (prepend_known held left) left text p kept new end (Ok Line.End) → Appends mid now new → Ran source left before now Status.Done
finished_all source ahead left held p end n text before mid now kept new g trust last most a wrote =
    let w = a.1 in
    let is = end_played p w.played w.plays in
    let same : end ≡ (finished p).play = w.becomes ∙ ap (λ (x : Played). x.play) is.1 in
    let ends : Finishes source left g.texts (record { play = p; text = g.out ++ kept }) w.played.text = record {
      ready = is.0;
      over = all_read source ahead held left g.texts n text g.read a.0.answer (a.0.over refl);
      text = ap (λ (x : Played). x.text) is.1;
      whole = subst (λ (x : Played). IsWholeText (finished p).play ((g.out ++ kept) ++ x.text)) (sym is.1) (whole_text_of p (g.out ++ kept) (text_is_of_history g.texts (record { play = p; text = g.out ++ kept }) g.plays));
      trusted = subst IsTrusted same last;
    } in
    ends_with source ahead left p n before mid now kept w.played.text Status.Done g trust most (subst (λ t. Appends mid now t) w.kept wrote) ends

-- a front of what was kept back, or all of it and a front of the end's text
finished_front : (source ahead left : Option Text) (held : Text) (p end : Play) (n : ℕ) (text : Text) (before mid now : Option Text) (kept new : Text) → Going source ahead p n before mid kept → IsTrusted p → n ≤ MAX_LINES → Steps n ahead (prepend_known held left) left text p kept new end (Ok Line.End) → WritesFront mid now new → Ran source left before now Status.WriteFault
finished_front source ahead left held p end n text before mid now kept new g trust most a wrote =
    let w = a.1 in
    let is = end_played p w.played w.plays in
    elim (front_of_two mid now kept w.played.text (subst (λ t. WritesFront mid now t) w.kept wrote)) [
      | inl front ↦ cut_ran source left before mid now g.out kept g.wrote g.cuts front
      | inr more ↦
          let at : StopsAtEnd source left g.texts p (take more.0 w.played.text) = record {
            ready = is.0;
            over = all_read source ahead held left g.texts n text g.read a.0.answer (a.0.over refl);
            count = more.0;
            short = subst (λ (x : Played). more.0 < length x.text) is.1 more.1;
            front = ap (λ (x : Played). take more.0 x.text) is.1;
          } in
          ends_with source ahead left p n before mid now kept (take more.0 w.played.text) Status.WriteFault g trust most more.2 (inr at)
    ]

-- ---- and how it goes on

goes_on : (source ahead after' : Option Text) (left : Option Text) (p new : Play) (n : ℕ) (text : Text) (before mid : Option Text) (kept kept' : Text) → Going source ahead p n before mid kept → IsTrusted p → n ≤ MAX_LINES → Steps n ahead after' left text p kept kept' new (Ok Line.Got) → Going source after' new (n + 1) before mid kept'
goes_on source ahead after' left p new n text before mid kept kept' g trust most a =
    let w = a.1 in
    let joined : (g.out ++ kept) ++ w.played.text ≡ g.out ++ kept' = append_assoc g.out kept w.played.text ∙ ap (λ t. g.out ++ t) (sym w.kept) in
    record {
      texts = g.texts ++ text ∷ [];
      out = g.out;
      count = length-append g.texts (text ∷ []) ∙ ap (λ k. k + 1) g.count;
      plays = one_more g.texts blank text (record { play = p; text = g.out ++ kept }) w.played g.plays w.plays
          ∙ ap (λ (q : Play). Ok (record { play = q; text = (g.out ++ kept) ++ w.played.text })) (sym w.becomes)
          ∙ ap (λ (t : Text). Ok (record { play = new; text = t })) joined;
      wrote = g.wrote;
      read = one_more_read source ahead after' g.texts n text g.read a.0.answer;
      cuts = subst (λ t. AllCuts source t) joined (more_cuts source g.texts p (g.out ++ kept) text w.played g.cuts (omega (arith, g.count, most)) g.plays trust (next_read source ahead after' g.texts n text g.read a.0.answer) w.plays);
    }

-- what is kept back is written
pub handed_on : (source ahead : Option Text) (p : Play) (n : ℕ) (before mid after : Option Text) (kept new : Text) (u : Unit {0}) → Going source ahead p n before mid kept → HandsOn mid after kept new (Ok u) → Going source ahead p n before after new
handed_on source ahead p n before mid after kept new u g h =
    elim h [
      | inl same ↦ subst (λ o. Going source ahead p n before o new) (sym same.0) (subst (λ t. Going source ahead p n before mid t) (sym same.1) g)
      | inr out ↦
          let joined : g.out ++ kept ≡ (g.out ++ kept) ++ [] = sym (append-nil (g.out ++ kept)) in
          let is : Going source ahead p n before after [] = record {
            texts = g.texts;
            out = g.out ++ kept;
            count = g.count;
            plays = g.plays ∙ ap (λ (t : Text). Ok (record { play = p; text = t })) joined;
            wrote = Appends-trans before mid after g.out kept g.wrote out.0;
            read = g.read;
            cuts = subst (λ t. AllCuts source t) joined g.cuts;
          } in
          subst (λ t. Going source ahead p n before after t) (sym out.1) is
    ]

-- or a front of it, and then the run ends
pub not_handed_on : (source ahead left : Option Text) (p : Play) (n : ℕ) (before mid after : Option Text) (kept new : Text) (w : Wrote) → Going source ahead p n before mid kept → HandsOn mid after kept new (Err w) → Leaves source left before after new Status.WriteFault
not_handed_on source ahead left p n before mid after kept new w g h =
    record {
      all = λ now wrote. cut_ran source left before mid now g.out kept g.wrote g.cuts (front_more mid after now kept h.0 (subst (λ t. Appends after now t) h.1 wrote));
      front = λ now wrote. absurd (omega (arith, wrote.short, ap length h.1));
    }

-- ---- the same, with the lines counted twice: by the run and by the reader

pub run_stops : (source ahead left : Option Text) (held : Text) (p end : Play) (n lines : ℕ) (text : Text) (before mid : Option Text) (kept new : Text) (stop : Stop) → n ≡ lines → Going source ahead p n before mid kept → IsTrusted p → n ≤ MAX_LINES → Steps lines ahead (prepend_known held left) left text p kept new end (Err stop) → Leaves source left before mid new (status_of (n + 1) stop)
run_stops source ahead left held p end n lines text before mid kept new stop same g trust most a =
    stops source ahead left held p end n text before mid kept new stop g trust most (subst (λ k. Steps k ahead (prepend_known held left) left text p kept new end (Err stop)) (sym same) a)

pub run_finishes : (source ahead left : Option Text) (held : Text) (p end : Play) (n lines : ℕ) (text : Text) (before mid : Option Text) (kept new : Text) → n ≡ lines → Going source ahead p n before mid kept → IsTrusted p → IsTrusted end → n ≤ MAX_LINES → Steps lines ahead (prepend_known held left) left text p kept new end (Ok Line.End) → Leaves source left before mid new Status.Done
run_finishes source ahead left held p end n lines text before mid kept new same g trust last most a =
    let b = subst (λ k. Steps k ahead (prepend_known held left) left text p kept new end (Ok Line.End)) (sym same) a in
    record {
      all = λ now wrote. finished_all source ahead left held p end n text before mid now kept new g trust last most b wrote;
      front = λ now wrote. finished_front source ahead left held p end n text before mid now kept new g trust most b wrote;
    }

pub run_goes_on : (source ahead after' left : Option Text) (p new : Play) (n lines : ℕ) (text : Text) (before mid : Option Text) (kept kept' : Text) → n ≡ lines → Going source ahead p n before mid kept → IsTrusted p → n ≤ MAX_LINES → Steps lines ahead after' left text p kept kept' new (Ok Line.Got) → (n < MAX_LINES) × Going source after' new (n + 1) before mid kept'
run_goes_on source ahead after' left p new n lines text before mid kept kept' same g trust most a =
    let b = subst (λ k. Steps k ahead after' left text p kept kept' new (Ok Line.Got)) (sym same) a in
    (b.0.number, goes_on source ahead after' left p new n text before mid kept kept' g trust most b)
