-- No line of a load is refused: its setup is read, and all that follows is played.
use Rattle.std.proofs.Common.{◌≡◌, ◌≤◌, ℕ, zero, suc, ◌+◌, ◌*◌, ◌==◌, Bool, true, false, true≢false, ◌&&◌, List, [], ◌∷◌, ◌++◌, codes, Result, Ok, Err, refl, sym, ap, subst, arith, ◌∙◌}
use Rattle.std.proofs.lemmas.Bool.{and_parts}
use Rattle.std.proofs.lemmas.Bool.Decides.{nat_tests}
use lib.Utf8.{encode}
use Rattle.std.specs.Fmt.{digits}
use Rattle.std.specs.Str.{is_utf8, chars}
use Rattle.jiff_core.specs.Calendar.{days_from_civil, day_count, days_of_years, days_of_months}
use Rattle.upi_words.specs.Prelude.{Text, Why}
use Rattle.upi_base.specs.Money.{paise_of}
use Rattle.upi_base.specs.Texts.{is_name_byte, is_psp_byte, is_psp}
use Rattle.upi_base.specs.Time.{max_moment, day_number, clock_of, civil_of, after_fraction, zone_of, moment_of, civil_from}
use Rattle.upi_base.specs.Setup.{has_psp}
use Rattle.upi_text.specs.Setup.{bank_line, psp_line, flag_of, flags_of, account_line, policy_of, address_line, open_line, start_line, command_of}
use Rattle.upi_base.specs.declared.settled.Summary.{Summary}
use Rattle.upi_text.specs.Refusals.{refusal}
use Rattle.upi_text.specs.declared.refusal.Refusal.{Refusal}
use Rattle.script_engine.specs.Play.{Play, Played, blank, play, play_line, onto, and_then, play_from}
use Rattle.load_generator.specs.declared.text.TheConstants.{MAX_COUNT}
use Rattle.load_generator.specs.Users as Users
use Rattle.load_generator.specs.Users.{setup_len, setup_line, psp_name}
use Rattle.load_run.specs.LoadLines.{setup_from, payments_from, load_lines}
use Rattle.load_run.specs.Laws.{LoadLaws}
use Rattle.load_run.specs.Runs.{IsRefused}
use Rattle.load_run.specs.Summaries.{LoadAnswer, IsPlayed}
use Rattle.load_run.specs.declared.run.LoadFault.{LoadFault}
use Rattle.load_run.proofs.Plain.{by_psp}
use Rattle.load_run.proofs.Plays.{played_append}
use Rattle.load_run.proofs.Lines.{Stands, payments_play}

-- a setup that is read to its end has the four PSPs, and the moment of START
abbrev is_ready : Result Played Refusal → Bool
is_ready (Err e) = false
is_ready (Ok q) =
    q.play.setup.is_open
    && (has_psp q.play.setup.lines (codes "alpha")
    && (has_psp q.play.setup.lines (codes "beta")
    && (has_psp q.play.setup.lines (codes "gamma")
    && (has_psp q.play.setup.lines (codes "delta")
    && (q.play.now == 1704067200)))))

setup_ready : is_ready (play_from (setup_from 0 setup_len []) blank) ≡ true
unfolding is_utf8 chars encode days_from_civil day_count days_of_years days_of_months Users.setup_line Users.bank_name Users.psp_name Users.account_name Users.address Users.account_line Users.address_line digits is_name_byte is_psp_byte is_psp paise_of day_number clock_of civil_of after_fraction zone_of moment_of civil_from bank_line psp_line flag_of flags_of account_line policy_of address_line open_line start_line command_of
setup_ready = refl

record Opened (r : Result Played Refusal) : Type 0 where
  next : Played
  is : r ≡ Ok next
  stands : Stands next.play.setup
  now : next.play.now ≡ 1704067200

opened : (r : Result Played Refusal) → is_ready r ≡ true → Opened r
opened (Err x) e = absurd (true≢false (sym e))
opened (Ok q) e =
    let a = and_parts q.play.setup.is_open _ e in
    let b = and_parts (has_psp q.play.setup.lines (codes "alpha")) _ a.1 in
    let c = and_parts (has_psp q.play.setup.lines (codes "beta")) _ b.1 in
    let d = and_parts (has_psp q.play.setup.lines (codes "gamma")) _ c.1 in
    let f = and_parts (has_psp q.play.setup.lines (codes "delta")) (q.play.now == 1704067200) d.1 in
    record {
      next = q;
      is = refl;
      stands = record { is_open = a.0; knows = λ i. by_psp (λ (s : Text). has_psp q.play.setup.lines s ≡ true) b.0 c.0 d.0 f.0 i };
      now = grind (arith, nat_tests, f.1);
    }

-- the lines of the setup, and what comes behind them
setup_split : (k left : ℕ) (rest : List Text) → setup_from k left rest ≡ setup_from k left [] ++ rest
setup_split k zero rest = refl
setup_split k (suc left) rest = ap (λ (ls : List Text). setup_line k ∷ ls) (setup_split (k + 1) left rest)

behind : (first second : List Text) (o : Opened (play_from first blank)) (r : Played) → play_from second o.next.play ≡ Ok r → (q : Played) × (play (first ++ second) ≡ Ok q)
behind first second o r e = (
  record { play = r.play; text = o.next.text ++ r.text },
  played_append first second blank ∙ ap (λ x. and_then x (play_from second)) o.is ∙ ap (onto o.next.text) e,
)

-- all lines of a load are played
all_played : (count seed : ℕ) → count ≤ MAX_COUNT → (q : Played) × (play (load_lines count seed) ≡ Ok q)
unfolding load_lines
all_played count seed le =
    let o = opened (play_from (setup_from 0 setup_len []) blank) setup_ready in
    let r = payments_play seed count 0 count o.next.play o.stands (omega (arith, le, o.now)) in
    subst (λ (ls : List Text). (q : Played) × (play ls ≡ Ok q)) (sym (setup_split 0 setup_len (payments_from seed count 0 count))) (behind (setup_from 0 setup_len []) (payments_from seed count 0 count) o r.0 r.1)

unlike : (q : Played) (x : Refusal) → ◌≡◌ {A = Result Played Refusal} (Ok q) (Err x) → ⊥
unlike q x e = absurd cc

-- where lines are played to their end, none of them is the first that is refused
none_refused : (lines : List Text) (q : Played) (place field : ℕ) (w : Why) → play lines ≡ Ok q → IsRefused lines place field w → ⊥
none_refused lines q place field w e x =
    let g = x.going in
    let stops : play lines ≡ Err (refusal field w) =
    ap play g.split
    ∙ played_append g.done (x.line ∷ x.rest) blank
    ∙ ap (λ r. and_then r (play_from (x.line ∷ x.rest))) g.plays
    ∙ ap (λ r. onto g.written (and_then r (play_from x.rest))) x.refused in
    unlike q (refusal field w) (sym e ∙ stops)

-- the answer of a load that was run names no line
answer_played : (count seed : ℕ) (r : Result Summary LoadFault) → count ≤ MAX_COUNT → LoadAnswer count seed r → IsPlayed r
answer_played count seed (Ok s) le a = tt
answer_played count seed (Err (LoadFault.Refused place field w)) le a =
    let q = all_played count seed le in
    none_refused (load_lines count seed) q.0 place field w q.1 a
answer_played count seed (Err LoadFault.NoMemory) le a = tt

pub load_laws : LoadLaws
load_laws = record { none_is_refused = all_played; names_no_line = answer_played }
