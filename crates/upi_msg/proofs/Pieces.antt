-- Joining parts of a written message.
use Rattle.std.proofs.Common.{◌≡◌, ℕ, ◌+◌, ◌<◌, true, false, List, [], ◌∷◌, ◌++◌, length, get_or, drop, Option, Some, None, refl, sym, ap, ◌∙◌, append_assoc, append-nil}
use Rattle.std.proofs.lemmas.List.{drop_more}
use Rattle.json.specs.Print.{escape_byte, escape, quoted}
use Rattle.serde_json.specs.Data.{Data, Members, member}
use Rattle.serde_json.specs.Written.{compact_text, members_text}
use Rattle.upi_msg.specs.Tree.{maybe}
use Rattle.upi_msg.specs.Pieces.{front_text, later_text}

pub escape-drop : (o t : List ℕ) (text : List ℕ) (i : ℕ) → i < length text → o ++ escape (drop i text) ≡ t → (o ++ escape_byte (get_or text i 0)) ++ escape (drop (i + 1) text) ≡ t
escape-drop o t text i lt e =
    append_assoc o (escape_byte (get_or text i 0)) (escape (drop (i + 1) text))
    ∙ ap (λ (l : List ℕ). o ++ escape l) (sym (drop_more text i 0 lt))
    ∙ e

pub front : (k : List ℕ) (o : Option Data) (l : List ℕ) (d : Data) (ms : Members) → members_text false (maybe k o (member l d ms)) ≡ front_text k o ++ members_text false (member l d ms)
front k None l d ms = refl
front k (Some e) l d ms =
    let rest : List ℕ = members_text true (member l d ms) in
    append-step (quoted k) (compact_text e) (members_text false (member l d ms))
  where
    append-step : (q t r : List ℕ) → q ++ 58 ∷ (t ++ 44 ∷ r) ≡ (q ++ 58 ∷ (t ++ 44 ∷ [])) ++ r
    append-step q t r = ap (λ x. q ++ 58 ∷ x) (sym (append_assoc t (44 ∷ []) r)) ∙ sym (append_assoc q (58 ∷ (t ++ 44 ∷ [])) r)

pub later : (k : List ℕ) (o : Option Data) (ms : Members) → members_text true (maybe k o ms) ≡ later_text k o ++ members_text true ms
later k None ms = refl
later k (Some e) ms = ap (λ x. 44 ∷ x) (sym (append_assoc (quoted k) (58 ∷ compact_text e) (members_text true ms)))

-- the parts, one behind the other
abbrev pub glue : List (List ℕ) → List ℕ
glue [] = []
glue (a ∷ []) = a
glue (a ∷ b ∷ rest) = a ++ glue (b ∷ rest)

-- each part in turn was appended
abbrev pub Grows : List ℕ → List (List ℕ) → List ℕ → Type 0
Grows o [] x = x ≡ o
Grows o (a ∷ rest) x = (y : List ℕ) × (y ≡ o ++ a) × Grows y rest x

grown : (o : List ℕ) (parts : List (List ℕ)) (x : List ℕ) → Grows o parts x → x ≡ o ++ glue parts
grown o [] x g = g ∙ sym (append-nil o)
grown o (a ∷ []) x g = g.2 ∙ g.1
grown o (a ∷ b ∷ rest) x g =
    grown g.0 (b ∷ rest) x g.2
    ∙ ap (λ (l : List ℕ). l ++ glue (b ∷ rest)) g.1
    ∙ append_assoc o a (glue (b ∷ rest))

-- what was appended in all
pub grows : (o : List ℕ) (parts : List (List ℕ)) (t x : List ℕ) → glue parts ≡ t → Grows o parts x → x ≡ o ++ t
grows o parts t x e g = grown o parts x g ∙ ap (λ (l : List ℕ). o ++ l) e
