-- What was found, and the memory that it has.
use Rattle.std.specs.Prelude.{◌≡◌, ◌<◌, vec_len, vec_capacity}
use Rattle.upi_replay.specs.declared.found.Found.{Found}

-- both have found the same
pub record IsSameFound (f g : Found) : Type 0 where
  pub rows : g.rows.items ≡ f.rows.items
  pub strays : g.strays.items ≡ f.strays.items
  pub closed : g.closed ≡ f.closed

-- there is room for a row and for a stray more
pub record HasRoom (f : Found) : Type 0 where
  pub for_row : vec_len f.rows < vec_capacity f.rows
  pub for_stray : vec_len f.strays < vec_capacity f.strays
