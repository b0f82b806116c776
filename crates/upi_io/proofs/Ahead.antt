-- Bytes ahead of a reader, as they move into a line.
use Rattle.std.proofs.Common.{◌≡◌, ℕ, ◌+◌, ◌<◌, ◌≤◌, Bool, true, false, eqb, min, List, [], ◌∷◌, ◌++◌, length, take, drop, get_or, Option, Some, None, IfSome, Ok, Err, refl, sym, ap, subst, ◌∙◌, inl, inr, arith, append_assoc, append-nil, eqb-true, one-add}
use Rattle.std.proofs.KnownBytes.{Consumes-kept}
use Rattle.std.proofs.lemmas.Bool.{cases_Bool, eqb-false}
use Rattle.std.proofs.lemmas.List.{length-append, take-append-drop, drop-drop}
use Rattle.std.proofs.lemmas.List.Folds.{length-prefix_len}
use Rattle.std.proofs.lemmas.List.Sums.{split_at_first, passes_at_first}
use Rattle.std.specs.Io.KnownBytes.{prepend_known, Consumes}
use Rattle.upi_io.specs.Lines.{is_no_lf, line_len, IsCutOff}
use Rattle.upi_io.specs.Steps.{IsReady, TakesPart, Advances}
use Rattle.upi_io.specs.declared.lines.TheConstants.{MAX_LINE}
use Rattle.upi_io.specs.declared.lines.LineFault.{LineFault}
use Rattle.upi_io.specs.declared.lines.LineFault.TheVariants.{TooLong, TooMany, ReadFault, NoMemory}
use Rattle.upi_io.proofs.Raw.{len_more}

-- bytes with an LF are the front before it, the LF, and the others
lf_split : (held : List ℕ) → line_len held < length held → held ≡ take (line_len held) held ++ 10 ∷ drop (line_len held + 1) held
lf_split held h =
    let at : get_or held (line_len held) 0 ≡ 10 = eqb-true _ _ (passes_at_first (λ c. eqb c 10) held 0 h) in
    split_at_first (λ c. eqb c 10) held 0 h ∙ ap (λ x. take (line_len held) held ++ x ∷ drop (line_len held + 1) held) at

-- that front has no LF
len_front : (held : List ℕ) → line_len (take (line_len held) held) ≡ line_len held
len_front [] = refl
len_front (c ∷ cs) =
    let ih = len_front cs in
    elim (cases_Bool (is_no_lf c)) [
      | inl on ↦ rw (on, one-add, on) (omega (arith, ih))
      | inr off ↦ rw off refl
    ]

-- more bytes behind bring no LF nearer
len_le : (h x : List ℕ) → line_len h ≤ line_len (h ++ x)
len_le [] x = omega arith
len_le (c ∷ cs) x =
    let ih = len_le cs x in
    elim (cases_Bool (is_no_lf c)) [
      | inl on ↦ rw on (omega (arith, ih))
      | inr off ↦ rw off (omega arith)
    ]

-- the front of what is held moves to the end of a line
moved : (b left : Option (List ℕ)) (line held part rest : List ℕ) → held ≡ part ++ rest → Consumes b (prepend_known held left) line → Consumes b (prepend_known rest left) (line ++ part)
moved None left line held part rest e c = tt
moved (Some x) None line held part rest e c = absurd c
moved (Some x) (Some y) line held part rest e c = c ∙ ap (λ l. line ++ (l ++ y)) e ∙ simp append_assoc

-- a line that has grown too long shows that the bytes ahead begin with one
long : (b : Option (List ℕ)) (line held : List ℕ) (left : Option (List ℕ)) → Consumes b (prepend_known held left) line → line_len line ≡ length line → MAX_LINE < length line + line_len held → IfSome b (λ bytes. MAX_LINE < line_len bytes)
long None line held left p e h = tt
long (Some x) line held None p e h = absurd p
long (Some x) line held (Some y) p e h =
    let le = len_le held y in
    let more = len_more line (held ++ y) e in
    rw p (omega (arith, le, more))

-- a line that has no LF, and then the front of what is held
len_taken : (line held : List ℕ) → line_len line ≡ length line → line_len (line ++ take (line_len held) held) ≡ length (line ++ take (line_len held) held)
len_taken line held e =
    let front = len_front held in
    let len = length-prefix_len is_no_lf held in
    let more = len_more line (take (line_len held) held) e in
    omega (arith, front, len, more, length-append line (take (line_len held) held))

-- and then all of it
len_all : (line held : List ℕ) → line_len line ≡ length line → line_len held ≡ length held → line_len (line ++ held) ≡ length (line ++ held)
len_all line held e f = omega (arith, len_more line held e, length-append line held)

-- ---- what is ahead, once a byte is held, or none is left, or the source failed

-- bytes moved from the source to those held
pub ready_cut : (b : Option (List ℕ)) (line held held' : List ℕ) (left left' : Option (List ℕ)) → IsCutOff b (prepend_known held left) line → IsReady held held' left left' (Ok true) → IsCutOff b (prepend_known held' left') line
ready_cut b line held held' left left' cut r = record { bytes = Consumes-kept b _ _ line cut.bytes r.0; line = cut.line }

-- the source failed, and nothing is held
pub ready_fault : (b : Option (List ℕ)) (line held held' : List ℕ) (left left' : Option (List ℕ)) (at : ℕ) (f : LineFault) → IsCutOff b (prepend_known held left) line → IsReady held held' left left' (Err f) → Advances b held' left' line at (Err f)
ready_fault b line held held' left left' at f cut r = rw r.0 (record { bytes = Consumes-kept b _ _ line cut.bytes r.1; line = cut.line }, r.2)

-- ---- what is ahead, once a part was taken

-- what a fault of a part says of all the bytes ahead
pub fault_is : (b : Option (List ℕ)) (line held : List ℕ) (left : Option (List ℕ)) (at : ℕ) (held' line' : List ℕ) (f : LineFault) → IsCutOff b (prepend_known held left) line → TakesPart held line at held' line' (Err f) → Advances b held' left line' at (Err f)
fault_is b line held left at held' line' (TooLong a) cut t = (t.0, long b line held left cut.bytes cut.line.no_lf t.1, rw (t.2, t.3) cut)
fault_is b line held left at held' line' TooMany cut t = t
fault_is b line held left at held' line' ReadFault cut t = absurd t
fault_is b line held left at held' line' NoMemory cut t = rw (t.0, t.1) cut

-- a line has ended
pub part_ends : (b : Option (List ℕ)) (line held : List ℕ) (left : Option (List ℕ)) (at : ℕ) (held' line' : List ℕ) → IsCutOff b (prepend_known held left) line → TakesPart held line at held' line' (Ok true) → Advances b held' left line' at (Ok true)
part_ends b line held left at held' line' cut t =
    let front = take (line_len held) held in
    let rest = drop (line_len held + 1) held in
    let split : held ≡ (front ++ 10 ∷ []) ++ rest = lf_split held t.0 ∙ sym (append_assoc front (10 ∷ []) rest) in
    let whole = moved b left line held (front ++ 10 ∷ []) rest split cut.bytes in
    rw (t.1, t.2) (
      subst (λ (l : List ℕ). Consumes b (prepend_known rest left) l) (sym (append_assoc line front (10 ∷ []))) whole,
      record { no_lf = len_taken line held cut.line.no_lf; short = rw t.1 at t.3 },
    )

-- all that was held is in the line
pub part_goes_on : (b : Option (List ℕ)) (line held : List ℕ) (left : Option (List ℕ)) (at : ℕ) (held' line' : List ℕ) → IsCutOff b (prepend_known held left) line → TakesPart held line at held' line' (Ok false) → IsCutOff b (prepend_known held' left) line'
part_goes_on b line held left at held' line' cut t =
    rw (t.1, t.2) record {
      bytes = moved b left line held held [] (sym (append-nil held)) cut.bytes;
      line = record { no_lf = len_all line held cut.line.no_lf t.0; short = rw t.1 at t.3 };
    }

-- what a source over memory gave
pub given : (bytes rest buf : List ℕ) (at n : ℕ) → rest ≡ drop at bytes → take n buf ≡ take n rest → drop at bytes ≡ take n buf ++ drop (at + n) bytes
given bytes rest buf at n e f =
    rw (f, e) (sym (take-append-drop n (drop at bytes)) ∙ ap (λ l. take n (drop at bytes) ++ l) (drop-drop n at bytes))

-- something was given, and no more than there is room for
pub some_given : {b : Bool} (rest : List ℕ) (most room n : ℕ) → b ≡ false → b ≡ eqb (length rest) 0 → 0 < most → 0 < room → n ≡ min (min (length rest) most) room → (0 < n) × (n ≤ room)
some_given rest most room n empty is some fits e =
    let long : 0 < length rest = omega (arith, eqb-false _ _ (sym is ∙ empty)) in
    (omega (arith, e, long), omega (arith, e))

-- ---- a whole line is held, so nothing is read

-- what was held and left at first is so still
pub same_kept : {S : Type 0} (first held held' : List ℕ) (one two three : S) → line_len first < length first → (held ≡ first) × (two ≡ one) → (0 < length held → (held' ≡ held) × (three ≡ two)) → (held' ≡ first) × (three ≡ one)
same_kept first held held' one two three whole same next =
    let some : 0 < length held = omega (arith, ap length same.0, whole) in
    let n = next some in
    (n.0 ∙ same.0, n.1 ∙ same.1)

-- and a part that has no LF isn't what is held
pub no_whole : (first held : List ℕ) → line_len first < length first → held ≡ first → line_len held ≡ length held → ⊥
no_whole first held whole same none = omega (arith, ap length same, ap line_len same, none, whole)
