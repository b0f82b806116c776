-- What the home seat, a pass, a journal without a name, and what lies behind the lock keep.
use Rattle.std.specs.Prelude.{◌≡◌, ℕ, ◌+◌, ◌*◌, ◌≤◌, ◌<◌, List, [], length}
use Rattle.atomic_table.specs.Seated.{TableId}
use Rattle.atomic_table.specs.declared.shared.Seat.{Seat}
use Rattle.upi_journal.specs.declared.view.View.{View}
use Rattle.upi_journal.specs.declared.view.Role.{Role}
use Rattle.upi_journal.specs.Entries.{Marks, Begin, sent_count, running}
use Rattle.upi_journal.specs.Rule.{home_role, home_with}
use Rattle.upi_journal.specs.Charter.{Charter, IsHistory}
use Rattle.upi_journal.specs.Passes.{front_of, Knows}

module _ {E : Type 0} (m : Marks E) (c : Charter E) where
  -- the seat is the journal's home seat, it has seen a history of the journal, and knows that all of it was taken
  pub record IsHomeSeat (seat : Seat E (View E)) : Type 0 where
    pub table : seat.table_id ≡ c.shape.table
    pub slots : seat.me.1 ≡ []
    pub role : seat.me.0.role ≡ home_role
    pub known : length seat.me.0.seen + length seat.me.0.seen ≤ seat.me.0.known
    pub history : IsHistory m c seat.me.0.seen

  -- the seat is that of a pass of this role
  pub record IsPass (role : Role) (seat : Seat E (View E)) : Type 0 where
    pub table : seat.table_id ≡ c.shape.table
    pub slots : seat.me.1 ≡ []
    pub role_is : role ≡ seat.me.0.role
    pub knows : Knows m c (front_of seat.me.0)

  -- behind the lock: the entries that the home seat has seen, the running counts of what they send, the whole count, and the limit
  pub record IsHome (entries : List E) (sums : List ℕ) (sent limit : ℕ) (seat : Seat E (View E)) : Type 0 where
    pub seat_is : IsHomeSeat seat
    pub seen : seat.me.0.seen ≡ entries
    pub sums_are : sums ≡ running m 0 entries
    pub sent_is : sent ≡ sent_count m entries
    pub sent_most : sent_count m entries ≤ length entries * 2147483648
    pub limit_is : limit ≡ c.shape.limit
    pub limit_most : limit ≤ 2147483648

module _ {E : Type 0} (m : Marks E) where
  -- a journal without a name: its home seat, over what it begins with, of which the counts are kept
  pub record IsBlank (start : Begin E) (sums : List ℕ) (sent limit : ℕ) (table : TableId) (seat : Seat E (View E)) : Type 0 where
    pub seat_is : (seat.table_id ≡ table) × (seat.me ≡ (home_with start.before 0 start.first, []))
    pub words : table.words ≡ 2
    pub sums_are : sums ≡ running m 0 start.before
    pub sent_is : sent ≡ sent_count m start.before
    pub sent_most : sent_count m start.before ≤ length start.before * 2147483648
    pub room : length start.before ≤ limit
    pub first_most : start.first < 576460752303423488
    pub limit_most : limit ≤ 2147483648
