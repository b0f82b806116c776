-- What lines have written.
use Rattle.std.proofs.Common.{◌≡◌, ℕ, zero, suc, Bool, true, false, List, [], ◌∷◌, ◌++◌, codes, Option, Some, None, Result, Ok, Err, refl, sym, ◌∙◌, ap, subst, append_assoc, append-nil}
use Rattle.std.specs.Prelude.{if◌then◌else◌}
use Rattle.upi_words.specs.Prelude.{Call, Setup, SetupLine, History, Text}
use Rattle.upi_base.specs.declared.limits.TheConstants.{MAX_ENTRIES}
use Rattle.upi_model.specs.Pending.{lowest_pending}
use Rattle.upi_model.specs.DueList.{due_list}
use Rattle.upi_text.specs.Setup.{SetupState, setup_read, IsPlaced}
use Rattle.upi_text.specs.SetupText.{line_text, setup_text_of}
use Rattle.upi_text.specs.Journal.{history_text}
use Rattle.upi_text.specs.declared.refusal.Refusal.{Refusal}
use Rattle.upi_text.specs.declared.setup.SetupRead.{SetupRead}
use Rattle.upi_text.specs.declared.setup.SetupRead.TheVariants as read
use Rattle.switch_core.specs.declared.fault.CoreFault.{CoreFault}
use Rattle.switch_core.specs.Calls.{refused_by}
use Rattle.script_engine.specs.declared.line.Command.{Command}
use Rattle.script_engine.specs.Script.{call_read}
use Rattle.script_engine.specs.Play.{Play, Played, Tried, blank, refusal_text, put_call, tried_by, try_call, behind_text, and_go, try_calls, many, divides, deliver_twice, treat, run_turn, run_turns, lates, tick, played, call_done, take_setup, setup_done, play_line, onto, and_then, play_from}
use Rattle.script_engine.specs.Writing.{start_part, lines_part, open_part, setup_text, whole_text, Piece, Lines, Remark, written, said, TextIsOfHistory}
use Rattle.upi_text.proofs.Placed.{placed}

-- ---- pieces one after another

written_joined : (ps qs : List Piece) → written (ps ++ qs) ≡ written ps ++ written qs
written_joined [] qs = refl
written_joined (Lines t ∷ ps) qs = ap (λ (x : Text). t ++ x) (written_joined ps qs) ∙ sym (append_assoc t (written ps) (written qs))
written_joined (Remark f ∷ ps) qs = ap (λ (x : Text). refusal_text f ++ x) (written_joined ps qs) ∙ sym (append_assoc (refusal_text f) (written ps) (written qs))

said_joined : (ps qs : List Piece) → said (ps ++ qs) ≡ said ps ++ said qs
said_joined [] qs = refl
said_joined (Lines t ∷ ps) qs = ap (λ (x : Text). t ++ x) (said_joined ps qs) ∙ sym (append_assoc t (said ps) (said qs))
said_joined (Remark f ∷ ps) qs = said_joined ps qs

-- ---- calls: the journal of the history that they add

-- the text of a way from one play to another is the journal of what it adds, with remarks
record Journals (p q : Play) (text : Text) : Type 0 where
  pub pieces : List Piece
  pub wrote : text ≡ written pieces
  pub adds : history_text q.history ≡ history_text p.history ++ said pieces
  pub same : q.setup ≡ p.setup

stays : (p : Play) → Journals p p []
stays p = record { pieces = []; wrote = refl; adds = sym (append-nil (history_text p.history)); same = refl }

goes : (p q r : Play) (t u : Text) → Journals p q t → Journals q r u → Journals p r (t ++ u)
goes p q r t u a b = record {
  pieces = a.pieces ++ b.pieces;
  wrote = ap (λ (x : Text). x ++ u) a.wrote ∙ (ap (λ (x : Text). written a.pieces ++ x) b.wrote ∙ sym (written_joined a.pieces b.pieces));
  adds = b.adds ∙ (ap (λ (x : Text). x ++ said b.pieces) a.adds ∙ (append_assoc (history_text p.history) (said a.pieces) (said b.pieces) ∙ ap (λ (x : Text). history_text p.history ++ x) (sym (said_joined a.pieces b.pieces))));
  same = b.same ∙ a.same;
}

-- the same of what was tried
abbrev Tells : Play → Tried → Type 0
Tells p t = Journals p t.play t.text

tried : (f : Option CoreFault) (p : Play) (c : Call) → Tells p (tried_by f p c)
tried None p c =
    let t = (put_call p c).text in
    record { pieces = Lines t ∷ []; wrote = sym (append-nil t); adds = ap (λ (x : Text). history_text p.history ++ x) (sym (append-nil t)); same = refl }
tried (Some f) p c = record { pieces = Remark f ∷ []; wrote = sym (append-nil (refusal_text f)); adds = sym (append-nil (history_text p.history)); same = refl }

call : (p : Play) (c : Call) → Tells p (try_call p c)
call p c = tried (refused_by p.history c) p c

go_on : (p : Play) (t : Tried) (more : Play → Tried) → Tells p t → ((q : Play) → Tells q (more q)) → Tells p (and_go t more)
go_on p t more a b = go t.goes
  where
    go : (g : Bool) → Tells p (if g then behind_text t.text (more t.play) else t)
    go true = goes p t.play (more t.play).play t.text (more t.play).text a (b t.play)
    go false = a

calls : (cs : List Call) (p : Play) → Tells p (try_calls cs p)
calls [] p = stays p
calls (c ∷ cs) p = go_on p (try_call p c) (try_calls cs) (call p c) (calls cs)

either : (p : Play) (b : Bool) (t u : Tried) → Tells p t → Tells p u → Tells p (if b then t else u)
either p true t u x y = x
either p false t u x y = y

treats : (k r n : ℕ) (p : Play) → Tells p (treat k r n p)
treats k r n p =
    either p (divides k n) (try_call p (Call.Lose n)) (if divides r n then deliver_twice n p else try_call p (Call.Deliver n)) (call p (Call.Lose n))
    (either p (divides r n) (deliver_twice n p) (try_call p (Call.Deliver n)) (go_on p (try_call p (Call.Deliver n)) (λ q. try_call q (Call.Deliver n)) (call p (Call.Deliver n)) (λ q. call q (Call.Deliver n))) (call p (Call.Deliver n)))

turn : (k r : ℕ) (more : Play → Tried) (p : Play) (o : Option ℕ) → ((q : Play) → Tells q (more q)) → Tells p (run_turn k r more p o)
turn k r more p None b = stays p
turn k r more p (Some n) b = go_on p (treat k r n p) more (treats k r n p) b

turns : (k r n : ℕ) (p : Play) → Tells p (run_turns k r n p)
unfolding run_turns
turns k r zero p = stays p
turns k r (suc n) p = turn k r (run_turns k r n) p (lowest_pending p.history) (turns k r n)

ticks : (moment : ℕ) (p : Play) → Tells p (tick moment p)
ticks moment p = let j = calls (lates (due_list p.setup.lines p.history moment)) (record p { now = moment }) in record { pieces = j.pieces; wrote = j.wrote; adds = j.adds; same = j.same }

does : (p : Play) (c : Command) → Tells p (played p c)
does p Command.Skipped = stays p
does p (Command.Send psp input) = call p (Call.Hear psp input)
does p (Command.Deliver n) = call p (Call.Deliver n)
does p (Command.Repeat n times) = calls (many times (Call.Deliver n)) p
does p (Command.Lose n) = call p (Call.Lose n)
does p (Command.Run k r) = turns k r (suc MAX_ENTRIES) p
does p (Command.Tick moment) = ticks moment p
does p Command.Close = call p Call.Close

-- ---- lines: the setup, and the journal behind it

-- what holds of each play: before OPEN nothing was called, and before START there are no lines
record IsPlain (p : Play) : Type 0 where
  pub early : p.setup.is_open ≡ false → p.history ≡ []
  pub bare : p.setup.start ≡ None → p.setup.lines ≡ []

-- a way from one play to another adds to the text of the whole, with remarks
record Adds (p q : Play) (text : Text) : Type 0 where
  pub pieces : List Piece
  pub wrote : text ≡ written pieces
  pub tells : whole_text q ≡ whole_text p ++ said pieces
  pub plain : IsPlain q

never : (b : Bool) {A : Type 0} → b ≡ true → b ≡ false → A
never b yes' no' = absurd (cc)

called : (p q : Play) (text : Text) → p.setup.is_open ≡ true → IsPlain p → Journals p q text → Adds p q text
called p q text opened plain j = record {
  pieces = j.pieces;
  wrote = j.wrote;
  tells = ap (λ (s : SetupState). setup_text s ++ history_text q.history) j.same
      ∙ (ap (λ (x : Text). setup_text p.setup ++ x) j.adds ∙ sym (append_assoc (setup_text p.setup) (history_text p.history) (said j.pieces)));
  plain = record {
    early = λ closed. never q.setup.is_open (ap (λ (s : SetupState). s.is_open) j.same ∙ opened) closed;
    bare = λ none. ap (λ (s : SetupState). s.lines) j.same ∙ plain.bare (sym (ap (λ (s : SetupState). s.start) j.same) ∙ none);
  };
}

lines_more : (ls : Setup) (l : SetupLine) → lines_part (ls ++ l ∷ []) ≡ lines_part ls ++ (line_text l ++ 10 ∷ [])
lines_more [] l = append-nil (line_text l ++ 10 ∷ [])
lines_more (k ∷ ls) l = ap (λ (x : Text). (line_text k ++ 10 ∷ []) ++ x) (lines_more ls l) ∙ sym (append_assoc (line_text k ++ 10 ∷ []) (lines_part ls) (line_text l ++ 10 ∷ []))

-- the text of the whole, part by part
abbrev join : Text → Setup → Bool → History → Text
join start lines is_open h = start ++ lines_part lines ++ open_part is_open ++ history_text h

start_first : (lines : Setup) (is_open : Bool) (h : History) (t : Text) → lines ≡ [] → is_open ≡ false → h ≡ [] → join t lines is_open h ≡ join [] lines is_open h ++ t
start_first lines is_open h t none closed early =
    let step : join t [] false [] ≡ join [] [] false [] ++ t = append-nil ((t ++ []) ++ []) ∙ (append-nil (t ++ []) ∙ append-nil t) in
    subst (λ (xs : Setup). join t xs is_open h ≡ join [] xs is_open h ++ t) (sym none)
    (subst (λ (b : Bool). join t [] b h ≡ join [] [] b h ++ t) (sym closed) (subst (λ (k : History). join t [] false k ≡ join [] [] false k ++ t) (sym early) step))

line_last : (start : Text) (lines : Setup) (is_open : Bool) (h : History) (l : SetupLine) → is_open ≡ false → h ≡ []
    → join start (lines ++ l ∷ []) is_open h ≡ join start lines is_open h ++ (line_text l ++ 10 ∷ [])
line_last start lines is_open h l closed early =
    let t = line_text l ++ 10 ∷ [] in
    let step : join start (lines ++ l ∷ []) false [] ≡ join start lines false [] ++ t =
    append-nil ((start ++ lines_part (lines ++ l ∷ [])) ++ []) ∙ (append-nil (start ++ lines_part (lines ++ l ∷ []))
    ∙ (ap (λ (x : Text). start ++ x) (lines_more lines l) ∙ (sym (append_assoc start (lines_part lines) t)
    ∙ ap (λ (x : Text). x ++ t) (sym (append-nil ((start ++ lines_part lines) ++ []) ∙ append-nil (start ++ lines_part lines)))))) in
    subst (λ (b : Bool). join start (lines ++ l ∷ []) b h ≡ join start lines b h ++ t) (sym closed) (subst (λ (k : History). join start (lines ++ l ∷ []) false k ≡ join start lines false k ++ t) (sym early) step)

open_last : (start : Text) (lines : Setup) (is_open : Bool) (h : History) → is_open ≡ false → h ≡ [] → join start lines true h ≡ join start lines is_open h ++ codes "OPEN\n"
open_last start lines is_open h closed early =
    let t = codes "OPEN\n" in
    let step : join start lines true [] ≡ join start lines false [] ++ t =
    append-nil ((start ++ lines_part lines) ++ t) ∙ ap (λ (x : Text). x ++ t) (sym (append-nil ((start ++ lines_part lines) ++ []) ∙ append-nil (start ++ lines_part lines))) in
    subst (λ (b : Bool). join start lines true h ≡ join start lines b h ++ t) (sym closed) (subst (λ (k : History). join start lines true k ≡ join start lines false k ++ t) (sym early) step)

none_some : {A : Type 0} (o : Option ℕ) (s : ℕ) → o ≡ Some s → o ≡ None → A
none_some o s some none = absurd (cc)

-- a line of the setup
taken : (p : Play) (start : Option ℕ) (r : SetupRead) → p.setup.start ≡ start → IsPlaced start r → p.setup.is_open ≡ false → IsPlain p → Adds p (take_setup p r).play (setup_text_of r)
taken p start read.Skipped at here closed plain = record { pieces = []; wrote = refl; tells = sym (append-nil (whole_text p)); plain = record { early = plain.early; bare = plain.bare } }
taken p None (read.Start s) at here closed plain =
    let t = setup_text_of (read.Start s) in
    let before : join (start_part p.setup.start) p.setup.lines p.setup.is_open p.history ≡ join [] p.setup.lines p.setup.is_open p.history = ap (λ (o : Option ℕ). join (start_part o) p.setup.lines p.setup.is_open p.history) at in
    record {
      pieces = Lines t ∷ [];
      wrote = sym (append-nil t);
      tells = start_first p.setup.lines p.setup.is_open p.history t (plain.bare at) closed (plain.early closed) ∙ (ap (λ (x : Text). x ++ t) (sym before) ∙ ap (λ (x : Text). whole_text p ++ x) (sym (append-nil t)));
      plain = record { early = plain.early; bare = λ none. none_some (Some s) s refl none };
    }
taken p (Some start) (read.Start s) at here closed plain = absurd here
taken p None (read.Line l) at here closed plain = absurd here
taken p (Some start) (read.Line l) at here closed plain =
    let t = setup_text_of (read.Line l) in
    record {
      pieces = Lines t ∷ [];
      wrote = sym (append-nil t);
      tells = line_last (start_part p.setup.start) p.setup.lines p.setup.is_open p.history l closed (plain.early closed) ∙ ap (λ (x : Text). whole_text p ++ x) (sym (append-nil t));
      plain = record { early = plain.early; bare = λ none. none_some p.setup.start start at none };
    }
taken p None read.Open at here closed plain = absurd here
taken p (Some start) read.Open at here closed plain =
    let t = setup_text_of read.Open in
    record {
      pieces = Lines t ∷ [];
      wrote = sym (append-nil t);
      tells = open_last (start_part p.setup.start) p.setup.lines p.setup.is_open p.history closed (plain.early closed) ∙ ap (λ (x : Text). whole_text p ++ x) (sym (append-nil t));
      plain = record { early = λ not_open. never true refl not_open; bare = plain.bare };
    }

-- a line of a script
line : (p : Play) (text : Text) (q : Played) → IsPlain p → play_line p text ≡ Ok q → Adds p q.play q.text
line p text q plain e = go p.setup.is_open refl e
  where
    called_line : (r : Result Command Refusal) → p.setup.is_open ≡ true → call_done p r ≡ Ok q → Adds p q.play q.text
    called_line (Err x) opened e = absurd (cc)
    called_line (Ok c) opened e =
        let same : record { play = (played p c).play; text = (played p c).text } ≡ q = cc in
        subst (λ (x : Played). Adds p x.play x.text) same (called p (played p c).play (played p c).text opened plain (does p c))

    setup_line : (r : Result SetupRead Refusal) → setup_read p.setup text ≡ r → p.setup.is_open ≡ false → setup_done p r ≡ Ok q → Adds p q.play q.text
    setup_line (Err x) is closed e = absurd (cc)
    setup_line (Ok r) is closed e =
        let same : take_setup p r ≡ q = cc in
        subst (λ (x : Played). Adds p x.play x.text) same (taken p p.setup.start r refl (placed p.setup text r is) closed plain)

    go : (b : Bool) → p.setup.is_open ≡ b → (if b then call_done p (call_read p.setup.lines p.now text) else setup_done p (setup_read p.setup text)) ≡ Ok q → Adds p q.play q.text
    go true opened e = called_line (call_read p.setup.lines p.now text) opened e
    go false closed e = setup_line (setup_read p.setup text) refl closed e

both : (p q r : Play) (t u : Text) → Adds p q t → Adds q r u → Adds p r (t ++ u)
both p q r t u a b = record {
  pieces = a.pieces ++ b.pieces;
  wrote = ap (λ (x : Text). x ++ u) a.wrote ∙ (ap (λ (x : Text). written a.pieces ++ x) b.wrote ∙ sym (written_joined a.pieces b.pieces));
  tells = b.tells ∙ (ap (λ (x : Text). x ++ said b.pieces) a.tells ∙ (append_assoc (whole_text p) (said a.pieces) (said b.pieces) ∙ ap (λ (x : Text). whole_text p ++ x) (sym (said_joined a.pieces b.pieces))));
  plain = b.plain;
}

all_lines : (ls : List Text) (p : Play) (q : Played) → IsPlain p → play_from ls p ≡ Ok q → Adds p q.play q.text
all_lines [] p q plain e =
    let same : record { play = p; text = [] } ≡ q = cc in
    subst (λ (x : Played). Adds p x.play x.text) same (record { pieces = []; wrote = refl; tells = sym (append-nil (whole_text p)); plain = plain })
all_lines (l ∷ ls) p q plain e = go (play_line p l) refl e (λ m is r. all_lines ls m r is)
  where
    go : (r : Result Played Refusal) → play_line p l ≡ r → and_then r (play_from ls) ≡ Ok q → ((m : Play) → IsPlain m → (r : Played) → play_from ls m ≡ Ok r → Adds m r.play r.text) → Adds p q.play q.text
    go (Err x) is e more = absurd (cc)
    go (Ok m) is e more = rest (play_from ls m.play) refl e
      where
        rest : (r : Result Played Refusal) → play_from ls m.play ≡ r → onto m.text r ≡ Ok q → Adds p q.play q.text
        rest (Err x) then' e = absurd (cc)
        rest (Ok n) then' e =
            let a = line p l m plain is in
            let same : record { play = n.play; text = m.text ++ n.text } ≡ q = cc in
            subst (λ (x : Played). Adds p x.play x.text) same (both p m.play n.play m.text n.text a (more m.play a.plain n then'))

pub text_is_of_history : TextIsOfHistory
text_is_of_history lines q e =
    let a = all_lines lines blank q (record { early = λ closed. refl; bare = λ none. refl }) e in record { pieces = a.pieces; wrote = a.wrote; tells = sym a.tells }
