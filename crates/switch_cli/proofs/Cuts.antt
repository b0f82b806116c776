-- The lines that were read, with the next one, and the bytes after them.
use Rattle.std.proofs.Common.{◌≡◌, ℕ, ◌<◌, ◌≤◌, true, leb, List, [], ◌∷◌, ◌++◌, length, Option, Some, None, Result, Ok, Err, refl, sym, ap, subst, ◌∙◌, inl, inr, append_assoc, append-nil}
use Rattle.std.proofs.lemmas.Bool.{and_from, le-leb, cases_Bool, leb-false}
use Rattle.std.proofs.lemmas.List.{map-append}
use Rattle.std.proofs.lemmas.List.Folds.{list_all-append}
use Rattle.std.specs.List.{concat, list_all}
use Rattle.std.specs.Io.KnownBytes.{prepend_known, IsAtEnd}
use Rattle.upi_words.specs.Prelude.{Text}
use Rattle.upi_io.specs.Lines.{line_len, text_of, raw_lines, first_of, Answers, AnswersAhead, IsCutOff}
use Rattle.upi_io.specs.declared.lines.TheConstants.{MAX_LINE, MAX_LINES}
use Rattle.upi_io.specs.declared.lines.Line.{Line}
use Rattle.upi_io.specs.declared.lines.LineFault.{LineFault}
use Rattle.upi_io.proofs.Laws.{got_line, long_line, many_lines, lines_joined}
use Rattle.switch_cli.specs.Lines.{is_short, BeginWith, AreRead, IsAny, IsOver, IsCutAt, IsMore, IsNext, IsLong}
use Rattle.switch_cli.specs.calls.Steps.{IsAhead}

pub none_read : (source : Option Text) → AreRead source [] (IsAhead (prepend_known [] source))
none_read None = tt
none_read (Some bytes) = record { read = []; rest = bytes; whole = refl; lines = refl; short = refl; are = refl; after = refl }

-- what is known of the bytes after the lines
seen : (source : Option Text) (texts : List Text) (P Q : Text → Type 0) → ((rest : Text) → P rest → Q rest) → AreRead source texts P → AreRead source texts Q
seen None texts P Q f b = tt
seen (Some bytes) texts P Q f b = record { read = b.read; rest = b.rest; whole = b.whole; lines = b.lines; short = b.short; are = b.are; after = f b.rest b.after }

-- what a reader answers, of the bytes after the lines
answered : (ahead after : Option Text) (n : ℕ) (text rest : Text) (r : Result Line LineFault) → IsAhead ahead rest → AnswersAhead n ahead after text r → Answers n (raw_lines rest) after text r
answered ahead after n text rest r e a = subst (λ o. AnswersAhead n o after text r) e a

pub any_read : (source ahead : Option Text) (texts : List Text) → AreRead source texts (IsAhead ahead) → AreRead source texts IsAny
any_read source ahead texts = seen source texts (IsAhead ahead) IsAny (λ rest e. tt)

-- bytes without lines are none
no_bytes : (rest : Text) → raw_lines rest ≡ [] → rest ≡ []
no_bytes rest e = sym (lines_joined rest) ∙ ap concat e

-- a source that has nothing ahead of a reader has nothing left
none_left : (held : Text) (left : Option Text) → prepend_known held left ≡ Some [] → IsAtEnd left → left ≡ Some []
none_left held None e a = absurd (cc)
none_left held (Some bytes) e a = ap (λ (bs : Text). Some bs) a

pub all_read : (source ahead : Option Text) (held : Text) (left : Option Text) (texts : List Text) (n : ℕ) (text : Text) → AreRead source texts (IsAhead ahead) → AnswersAhead n ahead (prepend_known held left) text (Ok Line.End) → IsAtEnd left → AreRead source texts (IsOver left)
all_read source ahead held left texts n text b a over =
    seen source texts (IsAhead ahead) (IsOver left) (λ rest e.
    let is = answered ahead (prepend_known held left) n text rest (Ok Line.End) e a in
    (no_bytes rest is.0, none_left held left is.1 over)) b

pub cut_read : (source ahead left : Option Text) (texts : List Text) (text : Text) → AreRead source texts (IsAhead ahead) → IsCutOff ahead left text → AreRead source texts (IsCutAt left)
cut_read source ahead left texts text b cut = seen source texts (IsAhead ahead) (IsCutAt left) (λ rest e. (text, subst (λ o. IsCutOff o left text) e cut)) b

pub many_read : (source ahead after : Option Text) (texts : List Text) (n : ℕ) (text : Text) → AreRead source texts (IsAhead ahead) → AnswersAhead n ahead after text (Err LineFault.TooMany) → AreRead source texts IsMore
many_read source ahead after texts n text b a =
    seen source texts (IsAhead ahead) IsMore (λ rest e.
    let m = many_lines n (raw_lines rest) after text (answered ahead after n text rest (Err LineFault.TooMany) e a) in
    (m.0, m.1, m.2)) b

-- a line that is too long is within the limit of lines
few_lines : (n at : ℕ) (l : Text) (ls : List Text) → first_of n (l ∷ ls) ≡ Err (LineFault.TooLong at) → n < MAX_LINES
few_lines n at l ls a =
    elim (cases_Bool (leb MAX_LINES n)) [
      | inl on ↦ let k = rw on at a in absurd cc
      | inr off ↦ leb-false _ _ off
    ]

few : (n at : ℕ) (lines : List Text) (after : Option Text) (text : Text) → Answers n lines after text (Err (LineFault.TooLong at)) → n < MAX_LINES
few n at [] after text a = absurd cc
few n at (l ∷ ls) after text a = few_lines n at l ls a

pub long_read : (source ahead after : Option Text) (texts : List Text) (n at : ℕ) (text : Text) → length texts ≡ n → AreRead source texts (IsAhead ahead) → AnswersAhead n ahead after text (Err (LineFault.TooLong at)) → AreRead source texts (IsLong texts)
long_read source ahead after texts n at text count b a =
    seen source texts (IsAhead ahead) (IsLong texts) (λ rest e.
    let is = answered ahead after n text rest (Err (LineFault.TooLong at)) e a in
    let m = long_line n at (raw_lines rest) after text is in
    let k : length texts < MAX_LINES = rw count (few n at (raw_lines rest) after text is) in
    (m.0, m.1, m.2, m.3, k)) b

pub next_read : (source ahead after : Option Text) (texts : List Text) (n : ℕ) (text : Text) → AreRead source texts (IsAhead ahead) → AnswersAhead n ahead after text (Ok Line.Got) → AreRead source texts (IsNext text)
next_read source ahead after texts n text b a =
    seen source texts (IsAhead ahead) (IsNext text) (λ rest e.
    let m = got_line n (raw_lines rest) after text (answered ahead after n text rest (Ok Line.Got) e a) in
    (m.0, raw_lines m.1, m.3, m.4, m.5)) b

-- the bytes of the first line, and those after it
first_bytes : (rest l left : Text) → raw_lines rest ≡ l ∷ raw_lines left → rest ≡ l ++ left
first_bytes rest l left e = sym (lines_joined rest) ∙ ap concat e ∙ ap (λ bs. l ++ bs) (lines_joined left)

concat-push : (ls : List Text) (l : Text) → concat (ls ++ l ∷ []) ≡ concat ls ++ l
concat-push [] l = append-nil l
concat-push (x ∷ ls) l = ap (λ bs. x ++ bs) (concat-push ls l) ∙ sym (append_assoc x (concat ls) l)

-- one line more
more_read : (bytes : Text) (texts : List Text) (ahead : Option Text) (text l left : Text) (b : BeginWith bytes texts (IsAhead ahead)) → raw_lines b.rest ≡ l ∷ raw_lines left → line_len l ≤ MAX_LINE → text ≡ text_of l → BeginWith bytes (texts ++ text ∷ []) (IsAhead (Some left))
more_read bytes texts ahead text l left b e short is =
    record {
      read = b.read ++ l ∷ [];
      rest = left;
      whole = b.whole
          ∙ ap (λ bs. concat b.read ++ bs) (first_bytes b.rest l left e)
          ∙ sym (append_assoc (concat b.read) l left)
          ∙ ap (λ bs. bs ++ left) (sym (concat-push b.read l));
      lines = b.lines ∙ ap (λ ls. b.read ++ ls) e ∙ sym (append_assoc b.read (l ∷ []) (raw_lines left));
      short = list_all-append is_short b.read (l ∷ []) ∙ and_from (list_all is_short b.read) (list_all is_short (l ∷ [])) b.short (and_from (is_short l) true (le-leb _ _ short) refl);
      are = map-append text_of b.read (l ∷ []) ∙ ap (λ ts. ts ++ text_of l ∷ []) b.are ∙ ap (λ t. texts ++ t ∷ []) (sym is);
      after = refl;
    }

pub one_more_read : (source ahead after : Option Text) (texts : List Text) (n : ℕ) (text : Text) → AreRead source texts (IsAhead ahead) → AnswersAhead n ahead after text (Ok Line.Got) → AreRead source (texts ++ text ∷ []) (IsAhead after)
one_more_read None ahead after texts n text b a = tt
one_more_read (Some bytes) ahead after texts n text b a =
    let m = got_line n (raw_lines b.rest) after text (answered ahead after n text b.rest (Ok Line.Got) b.after a) in
    subst (λ o. BeginWith bytes (texts ++ text ∷ []) (IsAhead o)) (sym m.2) (more_read bytes texts ahead text m.0 m.1 b m.3 m.4 m.5)
