-- What a journal reads of its entries, and what it counts over a list of them.
use Rattle.std.specs.Prelude.{◌≡◌, ℕ, suc, ◌+◌, ◌<◌, Bool, List, [], ◌∷◌, ◌++◌, length, map, if◌then◌else◌}
use mathlib.Core.List.{IsPrefix}

-- what is read of an entry: the number of its owner, that of its caller, and how many messages it sends
pub record Marks (E : Type 0) : Type 0 where
  pub owner : E → ℕ
  pub caller : E → ℕ
  pub sent : E → ℕ

-- what a journal begins with: the number of its first caller, and the entries before all others
pub record Begin (E : Type 0) : Type 0 where
  pub first : ℕ
  pub before : List E

module _ {E : Type 0} where
  -- the entries that the test picks, each with its place, of a list whose first place is k
  abbrev pub picked : (E → Bool) → ℕ → List E → List (ℕ × E)
  picked p k [] = []
  picked p k (e ∷ es) = if p e then (k, e) ∷ picked p (suc k) es else picked p (suc k) es

  -- the entries without their places
  abbrev pub entries_in : List (ℕ × E) → List E
  entries_in xs = map (λ x. x.1) xs

module _ {E : Type 0} (m : Marks E) where
  -- how many messages the entries send
  abbrev pub sent_count : List E → ℕ
  sent_count [] = 0
  sent_count (e ∷ es) = m.sent e + sent_count es

  -- beside each entry how many messages were sent up to it and with it, where t were sent before
  abbrev pub running : ℕ → List E → List ℕ
  running t [] = []
  running t (e ∷ es) = (t + m.sent e) ∷ running (t + m.sent e) es

  -- the n-th message that the history sends is the one at this index, from 0, of the entry at this place
  pub record IsSent (history : List E) (n place index : ℕ) (e : E) : Type 0 where
    pub earlier : List E
    pub there : IsPrefix (earlier ++ e ∷ []) history
    pub place_is : place ≡ length earlier + 1
    pub number : n ≡ sent_count earlier + index + 1
    pub within : index < m.sent e
