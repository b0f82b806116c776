-- What a journal's name says of it, and what its history is then.
use Rattle.std.specs.Prelude.{◌≡◌, ℕ, ◌+◌, ◌≤◌, ◌<◌, List, [], ◌∷◌, ◌++◌, length}
use mathlib.Core.List.{IsPrefix}
use Rattle.atomic_table.specs.Seated.{TableId}
use Rattle.upi_journal.specs.declared.view.Role.TheVariants.{Owner}
use Rattle.upi_journal.specs.Entries.{Marks, entries_in}
use Rattle.upi_journal.specs.Rule.{own}

-- a journal's table, the entries that it begins with, how many owners have passes, the number of the first caller, how many callers have passes, and how many entries there may be
pub record Shape (E : Type 0) : Type 0 where
  pub table : TableId
  pub before : List E
  pub owners : ℕ
  pub first : ℕ
  pub callers : ℕ
  pub limit : ℕ

-- a journal's shape, which entry fits the earlier entries of its owner, and which entry's fact holds on which beginning of the history. A fact that holds on a beginning holds on each longer one
pub record Charter (E : Type 0) : Type 1 where
  pub shape : Shape E
  pub fits : List E → E → Type 0
  pub fact : List E → E → Type 0
  pub lasts : (xs ys : List E) (e : E) → IsPrefix xs ys → fact xs e → fact ys e

-- the table of nobody
abbrev pub no_table : TableId
no_table = record { words = 0; slots = 0; views_name = 0; atom = 0; block = 0; offset = 0; slot_names = [] }

-- the charter of no journal
abbrev pub no_charter : {E : Type 0} → Charter E
no_charter = record {
  shape = record { table = no_table; before = []; owners = 0; first = 0; callers = 0; limit = 0 };
  fits = λ xs e. Unit {0};
  fact = λ xs e. Unit {0};
  lasts = λ xs ys e p h. tt;
}

module _ {E : Type 0} (m : Marks E) (c : Charter E) where
  -- what holds of an entry that was appended to this history: its owner and its caller have passes, it fits its owner's earlier entries, and its fact holds
  pub record Follows (log : List E) (e : E) : Type 0 where
    pub owner : m.owner e < c.shape.owners
    pub caller : (c.shape.first ≤ m.caller e) × (m.caller e < c.shape.first + c.shape.callers)
    pub fits : c.fits (entries_in (own m (Owner (m.owner e)) log)) e
    pub fact : c.fact log e

  -- the journal may have this history: it begins with what stood before, isn't longer than the limit, and each entry after that was appended as it had to be
  pub record IsHistory (log : List E) : Type 0 where
    pub begins : IsPrefix c.shape.before log
    pub room : length log ≤ c.shape.limit
    pub follows : (h : List E) (e : E) → IsPrefix (h ++ e ∷ []) log → length c.shape.before ≤ length h → Follows h e
