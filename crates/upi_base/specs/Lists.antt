-- Words on lists that every layer uses.
use Rattle.std.specs.Prelude.{ℕ, suc, Bool, cond, if◌then◌else◌, List, [], ◌∷◌, ◌++◌, Option, Some, None}
use Rattle.std.specs.Option.{option_or}

-- the value, where the test says yes
abbrev pub when : {X : Type 0} → Bool → X → Option X
when b x = cond b (Some x) None

-- what the first element that fits gives
abbrev pub pick : {X A : Type 0} → (A → Option X) → List A → Option X
pick f [] = None
pick f (x ∷ xs) = option_or (f x) (pick f xs)

-- the list with one element more, if there is one
abbrev pub joined : {X : Type 0} → List X → Option X → List X
joined xs None = xs
joined xs (Some x) = xs ++ x ∷ []

-- the elements that p picks, each with its place, of a list whose first place is k
abbrev pub picked : {X : Type 0} → (X → Bool) → ℕ → List X → List (ℕ × X)
picked p k [] = []
picked p k (x ∷ xs) = if p x then (k, x) ∷ picked p (suc k) xs else picked p (suc k) xs
