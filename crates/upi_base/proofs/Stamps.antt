-- Texts that are appended piece by piece.
use Rattle.std.proofs.Common.{◌≡◌, ℕ, List, ◌++◌, ap, ◌∙◌, append_assoc}

pub appended_four : (x0 x1 x2 x3 x4 a b c d : List ℕ) → x1 ≡ x0 ++ a → x2 ≡ x1 ++ b → x3 ≡ x2 ++ c → x4 ≡ x3 ++ d → x4 ≡ x0 ++ (a ++ b ++ c ++ d)
appended_four x0 x1 x2 x3 x4 a b c d e1 e2 e3 e4 =
    e4 ∙ ap (λ l. l ++ d) (e3 ∙ ap (λ l. l ++ c) (e2 ∙ ap (λ l. l ++ b) e1))
    ∙ ap (λ l. l ++ d) (ap (λ l. l ++ c) (append_assoc x0 a b) ∙ append_assoc x0 (a ++ b) c) ∙ append_assoc x0 (a ++ b ++ c) d
