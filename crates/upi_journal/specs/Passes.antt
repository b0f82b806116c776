-- Passes as contracts see them, and what each call does to them.
use Rattle.std.specs.Prelude.{◌≡◌, ◌⊎◌, ℕ, zero, suc, ◌+◌, ◌≤◌, ◌<◌, List, [], ◌∷◌, ◌++◌, length, Option, option_to_list, All, Any, Contains}
use mathlib.Core.List.{IsPrefix}
use Rattle.upi_journal.specs.declared.view.View.{View}
use Rattle.upi_journal.specs.declared.view.Role.{Role}
use Rattle.upi_journal.specs.declared.view.Role.TheVariants.{Home, Owner, Caller, Note}
use Rattle.upi_journal.specs.declared.fault.AppendFault.{AppendFault}
use Rattle.upi_journal.specs.declared.fault.AppendFault.TheVariants.{Full, NoMemory}
use Rattle.upi_journal.specs.declared.fault.Found.{Found}
use Rattle.upi_journal.specs.declared.fault.Found.TheVariants.{At, Past}
use Rattle.upi_journal.specs.Entries.{Marks, sent_count, IsSent}
use Rattle.upi_journal.specs.Rule.{own}
use Rattle.upi_journal.specs.Charter.{Shape, Charter, IsHistory}

-- whose pass it is, its own entries with their places, and the beginning of the history that it has seen
pub record Front (E : Type 0) : Type 0 where
  pub role : Role
  pub mine : List (ℕ × E)
  pub seen : List E

-- the number of an owner or a caller
abbrev pub number_of : Role → ℕ
number_of Home = 0
number_of (Owner o) = o
number_of (Caller c) = c
number_of Note = 0

module _ {E : Type 0} where
  abbrev pub front : Role → List (ℕ × E) → List E → Front E
  front role mine seen = record { role = role; mine = mine; seen = seen }

  -- what contracts see of a seat
  abbrev pub front_of : View E → Front E
  front_of v = front v.role v.mine v.seen

  -- the journal makes passes of this role
  abbrev pub HasPass : Shape E → Role → Type 0
  HasPass s Home = ⊥
  HasPass s (Owner o) = o < s.owners
  HasPass s (Caller c) = (s.first ≤ c) × (c < s.first + s.callers)
  HasPass s Note = ⊥

  -- among the passes is one of each owner
  abbrev pub HasOwners : Shape E → List (Front E) → Type 0
  HasOwners s passes = (o : ℕ) → o < s.owners → Any (λ p. p.role ≡ Owner o) passes

  -- among the passes is one of each caller
  abbrev pub HasCallers : Shape E → List (Front E) → Type 0
  HasCallers s passes = (n : ℕ) → s.first ≤ n → n < s.first + s.callers → Any (λ p. p.role ≡ Caller n) passes

  -- each entry that the history has beyond what the journal begins with is, at its place, one of a pass's own
  abbrev pub AreOwn : Shape E → List E → List (Front E) → Type 0
  AreOwn s history passes = (h : List E) (e : E) → IsPrefix (h ++ e ∷ []) history → length s.before ≤ length h → Any (λ p. Contains p.mine (length h + 1, e)) passes

  -- the pass is as before, but that it may have seen more
  pub record Keeps (old new : Front E) : Type 0 where
    pub role : new.role ≡ old.role
    pub mine : new.mine ≡ old.mine
    pub longer : IsPrefix old.seen new.seen

  -- the pass has one entry more of its own: it is the last one that it has seen, at its place, which is above all that it had seen
  pub record Appended (place : ℕ) (e : E) (old new : Front E) : Type 0 where
    pub role : new.role ≡ old.role
    pub mine : new.mine ≡ old.mine ++ (place, e) ∷ []
    pub longer : IsPrefix old.seen new.seen
    pub above : length old.seen < place
    pub last : (h : List E) × (new.seen ≡ h ++ e ∷ []) × (place ≡ length h + 1)

  -- why the entry was refused, which comes back: the history is as long as the limit, which the caller's pass has then seen; or memory ran out, and nothing changed
  abbrev pub Refused : ℕ → E → Front E → Front E → Front E → Front E → AppendFault E → Type 0
  Refused limit e owner owner' caller caller' (Full len entry) = (entry ≡ e) × (len ≡ limit) × (length caller'.seen ≡ limit) × (owner' ≡ owner) × Keeps caller caller'
  Refused limit e owner owner' caller caller' (NoMemory entry) = (entry ≡ e) × (owner' ≡ owner) × (caller' ≡ caller)

module _ {E : Type 0} (m : Marks E) where
  -- a pass of this role that has seen these entries
  abbrev pub pass_over : List E → Role → Front E
  pass_over log role = front role (own m role log) log

  -- a pass for each owner below this number, in order
  abbrev pub owners_over : List E → ℕ → List (Front E)
  owners_over log zero = []
  owners_over log (suc n) = owners_over log n ++ pass_over log (Owner n) ∷ []

  -- a pass for each of so many callers, from the first number on, in order
  abbrev pub callers_over : List E → ℕ → ℕ → List (Front E)
  callers_over log first zero = []
  callers_over log first (suc n) = callers_over log first n ++ pass_over log (Caller (first + n)) ∷ []

  -- what the pass has as its own is all of its own in the history, which begins with what the pass has seen
  pub record IsWhole (history : List E) (p : Front E) : Type 0 where
    pub mine : p.mine ≡ own m p.role history
    pub seen : IsPrefix p.seen history

  -- where the n-th message of the history is, or that there is none, of so many that were sent
  abbrev pub FoundIn : List E → ℕ → Found E → Type 0
  FoundIn history n (At place index entry) = IsSent m history n place index entry
  FoundIn history n (Past sent) = (sent ≡ sent_count m history) × ((n ≡ 0) ⊎ (sent < n))

module _ {E : Type 0} (m : Marks E) (c : Charter E) where
  -- what holds of each pass: it has a number of the journal's, has seen a history of the journal, and has as its own exactly its own entries of that
  pub record Knows (p : Front E) : Type 0 where
    pub role : HasPass c.shape p.role
    pub mine : p.mine ≡ own m p.role p.seen
    pub history : IsHistory m c p.seen

  -- what a close gives: a history of the journal, of which each pass handed in has all that is its own, and the last entry behind it. Where the passes of all owners were handed in, each entry that was appended is one's own of these; and so with those of all callers
  pub record Closes (owners callers : List (Front E)) (last : Option E) (all : List E) : Type 0 where
    pub history : List E
    pub all_is : all ≡ history ++ option_to_list last
    pub right : IsHistory m c history
    pub of_owners : All (IsWhole m history) owners
    pub of_callers : All (IsWhole m history) callers
    pub by_owners : HasOwners c.shape owners → AreOwn c.shape history owners
    pub by_callers : HasCallers c.shape callers → AreOwn c.shape history callers
