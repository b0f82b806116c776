-- A run of a whole script is done, unless an object fails or there is no memory.
use Rattle.std.proofs.Common.{◌≡◌, ℕ, ◌+◌, ◌≤◌, true, List, [], ◌∷◌, ◌++◌, length, map, Option, Some, None, Result, Ok, Err, refl, sym, ap, subst, ◌∙◌, inl, inr, ◌⊎◌, arith, append-nil, length-append}
use Rattle.std.specs.List.{list_all}
use Rattle.std.specs.Io.KnownBytes.{Appends}
use Rattle.std.proofs.lemmas.Bool.{and_parts, leb-true}
use Rattle.std.proofs.lemmas.List.{map-append, length-map}
use Rattle.std.proofs.lemmas.List.Folds.{list_all-append}
use Rattle.upi_words.specs.Prelude.{Why, Text}
use Rattle.upi_io.specs.Lines.{raw_lines, text_of, line_len}
use Rattle.upi_io.specs.declared.lines.TheConstants.{MAX_LINE}
use Rattle.upi_io.specs.declared.status.Status.{Status}
use Rattle.upi_text.specs.Refusals.{refusal}
use Rattle.upi_text.specs.declared.refusal.Refusal.{Refusal}
use Rattle.script_engine.specs.Play.{Played, blank, play}
use Rattle.script_engine.specs.End.{finished}
use Rattle.switch_cli.specs.Lines.{is_short, BeginWith, IsOver, IsMore, IsNext, IsLong}
use Rattle.switch_cli.specs.Run.{IsRefused, AreTooMany, EndsEarly, IsBad, Ran, IsScript, IsWhole, Completes}
use Rattle.switch_cli.proofs.Plays.{refused_there}

-- ---- the lines that were read, among all

pub all_read : (bytes : Text) (left : Option Text) (texts : List Text) → BeginWith bytes texts (IsOver left) → map text_of (raw_lines bytes) ≡ texts
all_read bytes left texts b = ap (map text_of) (b.lines ∙ ap (λ (r : Text). b.read ++ raw_lines r) b.after.0 ∙ append-nil b.read) ∙ b.are

pub next_read : (bytes text : Text) (texts : List Text) (b : BeginWith bytes texts (IsNext text)) → map text_of (raw_lines bytes) ≡ texts ++ text ∷ map text_of b.after.1
next_read bytes text texts b =
    ap (map text_of) (b.lines ∙ ap (λ r. b.read ++ r) b.after.2)
    ∙ map-append text_of b.read (b.after.0 ∷ b.after.1)
    ∙ ap (λ ts. ts ++ map text_of (b.after.0 ∷ b.after.1)) b.are
    ∙ ap (λ t. texts ++ t ∷ map text_of b.after.1) (sym b.after.4)

pub count_read : (bytes : Text) (texts : List Text) (b : BeginWith bytes texts IsMore) → length texts + 1 ≤ length (raw_lines bytes)
count_read bytes texts b =
    let whole = ap length b.lines ∙ length-append b.read (raw_lines b.rest) in
    let rest = ap length b.after.2 in
    let read = sym (length-map b.read text_of) ∙ ap length b.are in
    omega (arith, whole, rest, read)

-- ---- how a script doesn't end

abbrev ok : Played → Result Played Refusal
ok q = Ok q

same_played : (q r : Played) → ok q ≡ ok r → q ≡ r
same_played q r e = cc

refuses : (q : Played) (e : Refusal) → ok q ≡ Err e → ⊥
refuses q e is = absurd cc

same_whole : (bytes : Text) (left : Option Text) (texts : List Text) (p q : Played) → BeginWith bytes texts (IsOver left) → play texts ≡ Ok p → IsScript bytes q → p ≡ q
same_whole bytes left texts p q b e k = same_played p q (sym e ∙ ap play (sym (all_read bytes left texts b)) ∙ k.plays)

not_refused : (bytes : Text) (texts : List Text) (p q : Played) (field : ℕ) (w : Why) → play texts ≡ Ok p → IsRefused (Some bytes) texts p.play field w → IsScript bytes q → ⊥
not_refused bytes texts p q field w e r k =
    refuses q (refusal field w) (sym k.plays ∙ ap play (next_read bytes r.text texts r.next) ∙ refused_there texts (map text_of r.next.after.1) blank r.text p (refusal field w) e r.refused)

not_many : (bytes : Text) (texts : List Text) (q : Played) (field : ℕ) (w : Why) → AreTooMany (Some bytes) texts field w → IsScript bytes q → ⊥
not_many bytes texts q field w m k = omega (arith, k.few, m.many, count_read bytes texts m.more)

not_early : (bytes : Text) (left : Option Text) (texts : List Text) (p q : Played) (field : ℕ) (w : Why) → play texts ≡ Ok p → EndsEarly (Some bytes) left texts p.play field w → IsScript bytes q → ⊥
not_early bytes left texts p q field w e r k =
    let same : q.play.setup.is_open ≡ p.play.setup.is_open = ap (λ (x : Played). x.play.setup.is_open) (sym (same_whole bytes left texts p q r.over e k)) in
    let off = r.unready in
    let on = k.ready in
    cc

not_bad : (bytes : Text) (left : Option Text) (texts : List Text) (p q : Played) (field : ℕ) (w : Why) → play texts ≡ Ok p → IsBad (Some bytes) left texts p.play field w → IsScript bytes q → ⊥
not_bad bytes left texts p q field w e (inl r) k = not_refused bytes texts p q field w e r k
not_bad bytes left texts p q field w e (inr (inl m)) k = not_many bytes texts q field w m k
not_bad bytes left texts p q field w e (inr (inr r)) k = not_early bytes left texts p q field w e r k

-- no line is too long, where all are short
pub none_long : (bytes : Text) (texts : List Text) → BeginWith bytes texts (IsLong texts) → list_all is_short (raw_lines bytes) ≡ true → ⊥
none_long bytes texts b are_short =
    let cut : raw_lines bytes ≡ b.read ++ b.after.0 ∷ b.after.1 = b.lines ∙ ap (λ r. b.read ++ r) b.after.2 in
    let all = sym (list_all-append is_short b.read (b.after.0 ∷ b.after.1)) ∙ ap (list_all is_short) (sym cut) ∙ are_short in
    let rest = and_parts (list_all is_short b.read) (list_all is_short (b.after.0 ∷ b.after.1)) all in
    let short = and_parts (is_short b.after.0) (list_all is_short b.after.1) rest.1 in
    omega (arith, leb-true (line_len b.after.0) MAX_LINE short.0, b.after.3)

-- ---- how it ends

abbrev whole_text : Played → Text
whole_text q = q.text ++ (finished q.play).text

whole : (bytes : Text) (left before after : Option Text) (q : Played) → Ran (Some bytes) left before after Status.Done → IsScript bytes q → IsWhole q before after Status.Done
whole bytes left before after q r k =
    let same = same_whole bytes left r.texts r.played q r.ends.over r.plays k in
    let text : r.played.text ++ r.part ≡ whole_text q = ap (λ t. r.played.text ++ t) r.ends.text ∙ ap whole_text same in
    record { done = refl; wrote = subst (λ (t : Text). Appends before after t) text r.wrote }

ends : (bytes : Text) (left before after : Option Text) (q : Played) (s : Status) → Ran (Some bytes) left before after s → (s ≡ Status.ReadFault → ⊥) → (s ≡ Status.WriteFault → ⊥) → IsScript bytes q → (s ≡ Status.NoMemory) ⊎ IsWhole q before after s
ends bytes left before after q Status.Done r x y k = inr (whole bytes left before after q r k)
ends bytes left before after q Status.Usage r x y k = absurd r.ends
ends bytes left before after q (Status.BadLine at field w) r x y k = absurd (not_bad bytes left r.texts r.played q field w r.plays r.ends.2 k)
ends bytes left before after q (Status.TooLong at) r x y k = absurd (none_long bytes r.texts r.ends.2 k.short)
ends bytes left before after q Status.ReadFault r x y k = absurd (x refl)
ends bytes left before after q Status.WriteFault r x y k = absurd (y refl)
ends bytes left before after q Status.NoMemory r x y k = inl refl
ends bytes left before after q (Status.AuditNo entry w) r x y k = absurd r.ends

pub completes : (source left before after : Option Text) (s : Status) → Ran source left before after s → (s ≡ Status.ReadFault → ⊥) → (s ≡ Status.WriteFault → ⊥) → Completes source before after s
completes None left before after s r x y = tt
completes (Some bytes) left before after s r x y = λ q k. ends bytes left before after q s r x y k
