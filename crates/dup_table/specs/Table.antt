-- What a contract sees of a table of first values.
use Rattle.std.specs.Prelude.{ℕ, Bool, List, [], ◌∷◌, ◌++◌, Option, refl}
use Rattle.std.specs.Coded.{Coded, code_by, coded×, coded_list, coded_ℕ}
use Rattle.std.specs.Map.{lookup}

-- the keys with their values, in the order in which they were put, and how many keys more there is room for
pub record Table (K V : Type 0) : Type 0 where
  pub rows : List (K × V)
  pub spare : ℕ

module _ {K V : Type 0} where
  -- a table is stored as the pair of its rows and its room
  abbrev pub table_code : Coded K → Coded V → Coded (Table K V)
  table_code k v = code_by (List (K × V) × ℕ) (coded× (coded_list (coded× k v)) coded_ℕ) (λ t. (t.rows, t.spare)) (λ p. record { rows = p.0; spare = p.1 }) (λ _. refl)

  -- the value that a key has, by the keys' equality
  abbrev pub value_of : (K → K → Bool) → Table K V → K → Option V
  value_of eq t key = lookup (eq key) t.rows

  -- the rows with a further one, which goes last
  abbrev pub with_row : Table K V → K → V → List (K × V)
  with_row t key value = t.rows ++ (key, value) ∷ []
