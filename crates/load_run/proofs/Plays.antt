-- Lines that are played one after another.
use Rattle.std.proofs.Common.{◌≡◌, ℕ, List, [], ◌∷◌, ◌++◌, Result, Ok, Err, refl, sym, ap, ◌∙◌, append_assoc, append-nil}
use Rattle.upi_words.specs.Prelude.{Text}
use Rattle.upi_text.specs.declared.refusal.Refusal.{Refusal}
use Rattle.script_engine.specs.Play.{Play, Played, play_line, onto, and_then, play_from}

onto_nothing : (r : Result Played Refusal) → onto [] r ≡ r
onto_nothing (Ok q) = refl
onto_nothing (Err e) = refl

onto_twice : (first second : Text) (r : Result Played Refusal) → onto first (onto second r) ≡ onto (first ++ second) r
onto_twice first second (Ok q) = ap (λ (t : Text). Ok (record { play = q.play; text = t })) (sym (append_assoc first second q.text))
onto_twice first second (Err e) = refl

onto_then : (text : Text) (r : Result Played Refusal) (more : Play → Result Played Refusal) → onto text (and_then r more) ≡ and_then (onto text r) more
onto_then text (Ok q) more = onto_twice text q.text (more q.play)
onto_then text (Err e) more = refl

-- the lines of two lists
pub played_append : (ls ms : List Text) (p : Play) → play_from (ls ++ ms) p ≡ and_then (play_from ls p) (play_from ms)
played_append [] ms p = sym (onto_nothing (play_from ms p))
played_append (l ∷ ls) ms p = go (play_line p l) (λ q. played_append ls ms q)
  where
    go : (r : Result Played Refusal) → ((q : Play) → play_from (ls ++ ms) q ≡ and_then (play_from ls q) (play_from ms)) → and_then r (play_from (ls ++ ms)) ≡ and_then (and_then r (play_from ls)) (play_from ms)
    go (Ok x) ih = ap (onto x.text) (ih x.play) ∙ onto_then x.text (play_from ls x.play) (play_from ms)
    go (Err e) ih = refl

-- one line more
pub one_more : (ls : List Text) (p : Play) (l : Text) (q r : Played) → play_from ls p ≡ Ok q → play_line q.play l ≡ Ok r → play_from (ls ++ l ∷ []) p ≡ Ok (record { play = r.play; text = q.text ++ r.text })
one_more ls p l q r e f =
    played_append ls (l ∷ []) p
    ∙ ap (λ x. and_then x (play_from (l ∷ []))) e
    ∙ ap (λ x. onto q.text (and_then x (play_from []))) f
    ∙ ap (λ (t : Text). Ok (record { play = r.play; text = q.text ++ t })) (append-nil r.text)
