-- The lines of a load are played: none of them is refused.
use Rattle.std.proofs.Common.{◌≡◌, ◌≤◌, ℕ, zero, suc, ◌+◌, ◌*◌, ◌==◌, nat_le, Bool, true, false, true≢false, not, ◌&&◌, if◌then◌else◌, List, [], ◌∷◌, ◌++◌, length, codes, Option, Some, None, Result, Ok, Err, refl, sym, ap, subst, arith, ◌∙◌}
use Rattle.std.proofs.lemmas.Bool.Decides.{nat_tests}
use Rattle.std.specs.Str.{is_utf8}
use Rattle.upi_words.specs.Prelude.{Call, Text, Why, Setup}
use Rattle.upi_base.specs.Lists.{when}
use Rattle.upi_base.specs.Setup.{has_psp}
use Rattle.upi_base.specs.Texts.{is_psp_byte, is_psp}
use Rattle.upi_base.specs.Time.{max_moment}
use Rattle.upi_msg.specs.Read.{input_of}
use Rattle.upi_model.specs.DueList.{due_list}
use Rattle.upi_text.specs.Words.{number_of}
use Rattle.upi_base.specs.declared.limits.TheConstants.{MAX_ENTRIES}
use Rattle.upi_text.specs.Setup.{SetupState, setup_read}
use Rattle.upi_text.specs.Refusals.{◌>>=◌, refusal, not_utf8, other_fields, valued}
use Rattle.upi_text.specs.declared.refusal.Refusal.{Refusal}
use Rattle.script_engine.specs.declared.line.Command.{Command}
use Rattle.script_engine.specs.Script.{verb_of, send_line, run_line, tick_line, close_line, call_read}
use Rattle.script_engine.specs.Play.{Play, Played, try_call, lates, run_all, tick, played, call_done, setup_done, play_line, onto, and_then, play_from}
use Rattle.load_generator.specs.Users.{psp_name}
use Rattle.load_generator.specs.Payments as Payments
use Rattle.load_generator.specs.Loads.{next_send, state_at}
use Rattle.load_run.specs.LoadLines.{with_turns, with_turns_at, with_more_turns, takes_turns, closing, payments_from}
use Rattle.load_run.proofs.Plain.{are_plain, both, by_psp, plain_psp, plain_message, plain_utf8}
use Rattle.load_run.proofs.Same.{Same, call_same, calls_same, turns_same}

-- a setup that was read to its end, with the four PSPs
pub record Stands (s : SetupState) : Type 0 where
  pub is_open : s.is_open ≡ true
  pub knows : (i : ℕ) → has_psp s.lines (psp_name i) ≡ true

-- these lines are played
abbrev pub Plays : List Text → Play → Type 0
Plays ls p = (q : Played) × (play_from ls p ≡ Ok q)

-- a line is played, and the setup stays
pub record Goes (p : Play) (l : Text) (later : ℕ) : Type 0 where
  pub next : Played
  pub plays : play_line p l ≡ Ok next
  pub setup : next.play.setup ≡ p.setup
  pub now : next.play.now ≡ later

more_plays : (p : Play) (l : Text) (ls : List Text) (q : Played) → play_line p l ≡ Ok q → Plays ls q.play → Plays (l ∷ ls) p
more_plays p l ls q e r =
    (record { play = r.0.play; text = q.text ++ r.0.text }, ap (λ x. and_then x (play_from ls)) e ∙ ap (onto q.text) r.1)

-- ---- what the lines say

if_open : (p : Play) (l : Text) (c : Command) → p.setup.is_open ≡ true → call_read p.setup.lines p.now l ≡ Ok c
    → play_line p l ≡ Ok (record { play = (played p c).play; text = (played p c).text })
if_open p l c o e = λ i. if o i then call_done p (e i) else setup_done p (setup_read p.setup l)

-- how a SEND line is cut
abbrev sent : Text → Text → Text
sent psp m = codes "SEND " ++ psp ++ codes " " ++ m

-- what is said of a SEND line, by three tests
abbrev said : Text → Text → Bool → Bool → Bool → Result Command Refusal
said psp m is_text is_known is_short =
    if not is_text then Err not_utf8
    else if is_short then Err other_fields
    else ((if is_known then Ok psp else Err (refusal 2 Why.NoPsp)) >>= λ (name : Text). Ok (Command.Send name (input_of m)))

abbrev Sends : Setup → ℕ → Text → Text → Type 0
Sends S now m psp = is_utf8 (sent psp m) ≡ true → has_psp S psp ≡ true → (length m == 0) ≡ false → call_read S now (sent psp m) ≡ Ok (Command.Send psp (input_of m))

sends_alpha : (S : Setup) (now : ℕ) (m : Text) → Sends S now m (codes "alpha")
unfolding verb_of send_line is_psp_byte is_psp
sends_alpha S now m u h z = λ i. said (codes "alpha") m (u i) (h i) (z i)

sends_beta : (S : Setup) (now : ℕ) (m : Text) → Sends S now m (codes "beta")
unfolding verb_of send_line is_psp_byte is_psp
sends_beta S now m u h z = λ i. said (codes "beta") m (u i) (h i) (z i)

sends_gamma : (S : Setup) (now : ℕ) (m : Text) → Sends S now m (codes "gamma")
unfolding verb_of send_line is_psp_byte is_psp
sends_gamma S now m u h z = λ i. said (codes "gamma") m (u i) (h i) (z i)

sends_delta : (S : Setup) (now : ℕ) (m : Text) → Sends S now m (codes "delta")
unfolding verb_of send_line is_psp_byte is_psp
sends_delta S now m u h z = λ i. said (codes "delta") m (u i) (h i) (z i)

send_read : (S : Setup) (now : ℕ) (m : Text) (i : ℕ) → Sends S now m (psp_name i)
send_read S now m i = by_psp (Sends S now m) (sends_alpha S now m) (sends_beta S now m) (sends_gamma S now m) (sends_delta S now m) i

run_read : (S : Setup) (now : ℕ) → call_read S now (codes "RUN 7 5") ≡ Ok (Command.Run 7 5)
unfolding verb_of run_line number_of
run_read S now =
    let u : is_utf8 (codes "RUN 7 5") ≡ true = plain_utf8 (codes "RUN 7 5") refl in
    λ i. if not (u i) then Err not_utf8 else Ok (Command.Run 7 5)

-- what is said of the line TICK 30, by whether it is a text, and the moment one
abbrev ticked : ℕ → Bool → Bool → Result Command Refusal
ticked moment is_text is_moment =
    if not is_text then Err not_utf8
    else (valued 2 (when is_moment moment) >>= λ (m : ℕ). Ok (Command.Tick m))

tick_read : (S : Setup) (now : ℕ) → now + 30 ≤ max_moment → call_read S now (codes "TICK 30") ≡ Ok (Command.Tick (now + 30))
unfolding verb_of tick_line number_of
tick_read S now le =
    let u : is_utf8 (codes "TICK 30") ≡ true = plain_utf8 (codes "TICK 30") refl in
    let fits : nat_le (now + 30) max_moment ≡ true = grind (arith, nat_tests, le) in
    λ i. ticked (now + 30) (u i) (fits i)

close_read : (S : Setup) (now : ℕ) → call_read S now (codes "CLOSE") ≡ Ok Command.Close
unfolding verb_of close_line
close_read S now =
    let u : is_utf8 (codes "CLOSE") ≡ true = plain_utf8 (codes "CLOSE") refl in
    λ i. if not (u i) then Err not_utf8 else Ok Command.Close

-- ---- what the lines do

sent_goes : (p : Play) (i : ℕ) (m : Text) → Stands p.setup → are_plain m ≡ true → (length m == 0) ≡ false → Goes p (sent (psp_name i) m) p.now
sent_goes p i m s plain some =
    let front : are_plain (codes "SEND " ++ psp_name i ++ codes " ") ≡ true = both (codes "SEND " ++ psp_name i) (codes " ") (both (codes "SEND ") (psp_name i) refl (plain_psp i)) refl in
    let text : is_utf8 (sent (psp_name i) m) ≡ true = plain_utf8 (sent (psp_name i) m) (both (codes "SEND " ++ psp_name i ++ codes " ") m front plain) in
    let read = send_read p.setup.lines p.now m i text (s.knows i) some in
    let stays = call_same p (Call.Hear (psp_name i) (input_of m)) in
    record {
      next = record { play = (played p (Command.Send (psp_name i) (input_of m))).play; text = (played p (Command.Send (psp_name i) (input_of m))).text };
      plays = if_open p (sent (psp_name i) m) (Command.Send (psp_name i) (input_of m)) s.is_open read;
      setup = stays.setup;
      now = stays.now;
    }

cons_some : (c : ℕ) (s : Text) → (length (c ∷ s) == 0) ≡ false
cons_some c s = grind (arith, nat_tests)

some_more : (s t : Text) → (length s == 0) ≡ false → (length (s ++ t) == 0) ≡ false
some_more [] t e = absurd (true≢false e)
some_more (c ∷ cs) t e = cons_some c (cs ++ t)

message_some : (j x : ℕ) → (length (Payments.message_text j (Payments.payment_from x)) == 0) ≡ false
unfolding Payments.message_text Payments.head_name Payments.head_front
message_some j x =
    let p = Payments.payment_from x in
    some_more (Payments.head_front ++ Payments.six_digits j ++ Payments.head_rest (Payments.asking p) ++ Payments.payee_text p.payee ++ Payments.amount_text p.amount ++ Payments.payer_text p.payer ++ Payments.name_text j) (Payments.type_text p.is_collect)
    (some_more (Payments.head_front ++ Payments.six_digits j ++ Payments.head_rest (Payments.asking p) ++ Payments.payee_text p.payee ++ Payments.amount_text p.amount ++ Payments.payer_text p.payer) (Payments.name_text j)
    (some_more (Payments.head_front ++ Payments.six_digits j ++ Payments.head_rest (Payments.asking p) ++ Payments.payee_text p.payee ++ Payments.amount_text p.amount) (Payments.payer_text p.payer)
    (some_more (Payments.head_front ++ Payments.six_digits j ++ Payments.head_rest (Payments.asking p) ++ Payments.payee_text p.payee) (Payments.amount_text p.amount)
    (some_more (Payments.head_front ++ Payments.six_digits j ++ Payments.head_rest (Payments.asking p)) (Payments.payee_text p.payee)
    (some_more (Payments.head_front ++ Payments.six_digits j) (Payments.head_rest (Payments.asking p))
    (some_more Payments.head_front (Payments.six_digits j) refl))))))

send_goes : (p : Play) (seed made : ℕ) → Stands p.setup → Goes p (next_send seed made) p.now
unfolding Payments.send_line
send_goes p seed made s = go (state_at seed made)
  where
    go : (x : ℕ) → Goes p (Payments.send_line (made + 1) (Payments.payment_from x)) p.now
    go x =
        let y = Payments.payment_from x in
        let asks : ℕ = if y.is_collect then y.payee else y.payer in
        sent_goes p asks (Payments.message_text (made + 1) y) s (plain_message (made + 1) asks x refl) (message_some (made + 1) x)

run_goes : (p : Play) → Stands p.setup → Goes p (codes "RUN 7 5") p.now
run_goes p s =
    let stays = turns_same 7 5 (suc MAX_ENTRIES) p in
    record {
      next = record { play = (played p (Command.Run 7 5)).play; text = (played p (Command.Run 7 5)).text };
      plays = if_open p (codes "RUN 7 5") (Command.Run 7 5) s.is_open (run_read p.setup.lines p.now);
      setup = stays.setup;
      now = stays.now;
    }

tick_goes : (p : Play) → Stands p.setup → p.now + 30 ≤ max_moment → Goes p (codes "TICK 30") (p.now + 30)
tick_goes p s le =
    let stays = calls_same (lates (due_list p.setup.lines p.history (p.now + 30))) (record p { now = p.now + 30 }) in
    record {
      next = record { play = (played p (Command.Tick (p.now + 30))).play; text = (played p (Command.Tick (p.now + 30))).text };
      plays = if_open p (codes "TICK 30") (Command.Tick (p.now + 30)) s.is_open (tick_read p.setup.lines p.now le);
      setup = stays.setup;
      now = stays.now;
    }

close_goes : (p : Play) → Stands p.setup → Goes p (codes "CLOSE") p.now
close_goes p s =
    let stays = call_same p Call.Close in
    record {
      next = record { play = (played p Command.Close).play; text = (played p Command.Close).text };
      plays = if_open p (codes "CLOSE") Command.Close s.is_open (close_read p.setup.lines p.now);
      setup = stays.setup;
      now = stays.now;
    }

-- ---- one line after another

goes_on : (p : Play) (l : Text) (later : ℕ) (ls : List Text) → Goes p l later → Stands p.setup → ((q : Play) → Stands q.setup → q.now ≡ later → Plays ls q) → Plays (l ∷ ls) p
goes_on p l later ls g s more = more_plays p l ls g.next g.plays (more g.next.play (subst (λ (x : SetupState). Stands x) (sym g.setup) s) g.now)

turns_play : (p : Play) (rest : List Text) → Stands p.setup → p.now + 30 ≤ max_moment → ((q : Play) → Stands q.setup → q.now ≡ p.now + 30 → Plays rest q) → Plays (with_turns rest) p
turns_play p rest s le more =
    goes_on p (codes "RUN 7 5") p.now (codes "TICK 30" ∷ rest) (run_goes p s) s (λ q t e.
    goes_on q (codes "TICK 30") (q.now + 30) rest (tick_goes q t (omega (arith, le, e))) t (λ r v d.
    more r v (d ∙ ap (λ (n : ℕ). n + 30) e)))

turns_at_play : (count made : ℕ) (p : Play) (rest : List Text) → Stands p.setup → p.now + 30 ≤ max_moment → ((q : Play) → Stands q.setup → q.now ≤ p.now + 30 → Plays rest q) → Plays (with_turns_at count made rest) p
turns_at_play count made p rest s le more = go (takes_turns count made)
  where
    go : (b : Bool) → Plays (if b then with_turns rest else rest) p
    go true = turns_play p rest s le (λ q t e. more q t (omega (arith, e)))
    go false = more p s (omega arith)

more_turns_play : (n : ℕ) (p : Play) → Stands p.setup → p.now + 30 * n ≤ max_moment → Plays (with_more_turns n (codes "CLOSE" ∷ [])) p
more_turns_play zero p s le = goes_on p (codes "CLOSE") p.now [] (close_goes p s) s (λ q t e. (record { play = q; text = [] }, refl))
more_turns_play (suc n) p s le = turns_play p (with_more_turns n (codes "CLOSE" ∷ [])) s (omega (arith, le)) (λ q t e. more_turns_play n q t (omega (arith, le, e)))

pub payments_play : (seed count made left : ℕ) (p : Play) → Stands p.setup → p.now + 30 * (left + 4) ≤ max_moment → Plays (payments_from seed count made left) p
payments_play seed count made zero p s le = more_turns_play 4 p s (omega (arith, le))
payments_play seed count made (suc left) p s le =
    goes_on p (next_send seed made) p.now (with_turns_at count (made + 1) (payments_from seed count (made + 1) left)) (send_goes p seed made s) s (λ q t e.
    turns_at_play count (made + 1) q (payments_from seed count (made + 1) left) t (omega (arith, le, e)) (λ r v d.
    payments_play seed count (made + 1) left r v (omega (arith, le, e, d))))
