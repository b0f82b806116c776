-- The journal's rule: its two words, what its seats know, and what each kind of step changes.
use Rattle.std.specs.Prelude.{◌≡◌, ℕ, ◌+◌, ◌≤◌, ◌<◌, ◌==◌, max, List, [], ◌∷◌, ◌++◌, length}
use mathlib.Core.Option.{some}
use mathlib.Core.List.{IsPrefix}
use lib.ListN.{get_elem?}
use Rattle.atomic_table.specs.Table.{State, Me, Step}
use Rattle.upi_journal.specs.declared.view.View.{View}
use Rattle.upi_journal.specs.declared.view.Role.{Role}
use Rattle.upi_journal.specs.declared.view.Role.TheVariants.{Home, Owner, Caller, Note}
use Rattle.upi_journal.specs.Entries.{Marks, picked}

-- the role of the home seat
abbrev pub home_role : Role
home_role = Home

module _ {E : Type 0} where
  -- the home seat of a history that nobody has gone on with, where so many seats were made
  abbrev pub home_with : List E → ℕ → ℕ → View E
  home_with before owners callers = record { role = Home; seen = before; old = []; known = length before + length before; mine = []; owners_made = owners; callers_made = callers }

  -- the history that is seen grows by an entry
  abbrev pub grown : View E → E → View E
  grown v e = record { role = v.role; seen = v.seen ++ e ∷ []; old = v.old; known = v.known; mine = v.mine; owners_made = v.owners_made; callers_made = v.callers_made }

  -- the entry at this place becomes one's own, and the phase is known
  abbrev pub taken : View E → ℕ → E → ℕ → View E
  taken v place e phase = record { role = v.role; seen = v.seen; old = v.old; known = phase; mine = v.mine ++ (place, e) ∷ []; owners_made = v.owners_made; callers_made = v.callers_made }

  -- what a note has: what its origin has seen, and the phase that its origin knew
  abbrev pub note_of : View E → View E
  note_of v = record { role = Note; seen = v.seen; old = []; known = v.known; mine = []; owners_made = 0; callers_made = 0 }

  -- what is left of a note that was joined
  abbrev pub spent : View E
  spent = record { role = Note; seen = []; old = []; known = 0; mine = []; owners_made = 0; callers_made = 0 }

  -- the home seat v has joined the note w
  abbrev pub told : View E → View E → View E
  told v w = record { role = v.role; seen = v.seen; old = w.seen; known = max v.known w.known; mine = v.mine; owners_made = v.owners_made; callers_made = v.callers_made }

  -- the seat v has joined the note w, whose list it takes over
  abbrev pub brought : View E → View E → View E
  brought v w = record { role = v.role; seen = w.seen; old = v.seen; known = max v.known w.known; mine = v.mine; owners_made = v.owners_made; callers_made = v.callers_made }

  -- the home seat after it has made an owner's seat
  abbrev pub owner_more : View E → View E
  owner_more v = record { role = v.role; seen = v.seen; old = v.old; known = v.known; mine = v.mine; owners_made = v.owners_made + 1; callers_made = v.callers_made }

  -- the home seat after it has made a caller's seat
  abbrev pub caller_more : View E → View E
  caller_more v = record { role = v.role; seen = v.seen; old = v.old; known = v.known; mine = v.mine; owners_made = v.owners_made; callers_made = v.callers_made + 1 }

  -- the home seat has made a seat of this role
  abbrev pub IsMade : View E → Role → Type 0
  IsMade v Home = Unit {0}
  IsMade v (Owner o) = o < v.owners_made
  IsMade v (Caller c) = c < v.callers_made
  IsMade v Note = Unit {0}

  -- no two seats but notes have one role
  abbrev pub Alone : List (View E) → Type 0
  Alone views = (i j : ℕ) (v w : View E) → get_elem? views i ≡ some v → get_elem? views j ≡ some w → v.role ≡ w.role → (v.role ≡ Note → ⊥) → i ≡ j

  -- each role is one of which the home seat has made a seat
  abbrev pub Made : List (View E) → Type 0
  Made views = (i j : ℕ) (v w : View E) → get_elem? views i ≡ some v → get_elem? views j ≡ some w → v.role ≡ Home → IsMade v w.role

  -- the length that was expected was found, and the history grows by the entry that was said
  abbrev pub Announces : Step E → Me E (View E) → ℕ → Me E (View E) → Type 0
  Announces s v found w = (found ≡ s.first) × ((e : E) → s.said ≡ some e → w ≡ (grown v.0 e, v.1))

  -- the phase that was expected was found, and the entry that was said becomes one's own, at the end of what one has seen
  abbrev pub Takes : Step E → Me E (View E) → ℕ → Me E (View E) → Type 0
  Takes s v found w = (found ≡ s.first) × ((e : E) → s.said ≡ some e → w ≡ (taken v.0 (length v.0.seen) e s.second, v.1))

module _ {E : Type 0} (m : Marks E) where
  -- the entries of a history that are a seat's own
  abbrev pub own : Role → List E → List (ℕ × E)
  own Home log = []
  own (Owner o) log = picked (λ e. m.owner e == o) 1 log
  own (Caller c) log = picked (λ e. m.caller e == c) 1 log
  own Note log = []

  -- as much of the history as seats of this kind have taken
  abbrev pub part : Role → List E → List E → List E
  part Home owners callers = callers
  part (Owner o) owners callers = owners
  part (Caller c) owners callers = callers
  part Note owners callers = callers

  -- a new seat of this role: it has seen what the home seat has, and has its own entries of that
  abbrev pub seat_of : Role → View E → View E
  seat_of r v = record { role = r; seen = v.seen; old = []; known = v.known; mine = own r v.seen; owners_made = 0; callers_made = 0 }

  -- the seat of the next owner, and of the next caller
  abbrev pub new_owner : View E → View E
  new_owner v = seat_of (Owner v.owners_made) v

  abbrev pub new_caller : View E → View E
  new_caller v = seat_of (Caller v.callers_made) v

  -- the history is at least as long as what the seat has seen. The home seat finds just its length, and that what it was told begins the history. A seat that knows the phase at which all that it has seen was taken finds that it has its own entries of that
  abbrev pub Looks : Step E → Me E (View E) → ℕ → Me E (View E) → Type 0
  Looks s v found w =
      (w ≡ v) × (length v.0.seen ≤ found) × (v.0.role ≡ Home → (found ≡ length v.0.seen) × IsPrefix v.0.old v.0.seen)
      × (length v.0.seen + length v.0.seen ≤ v.0.known → IsPrefix (own v.0.role v.0.seen) v.0.mine)

  -- what holds of one seat, where this is the history, and owners and callers have taken so much of it
  pub record Fits (log owners callers : List E) (v : View E) : Type 0 where
    pub seen : IsPrefix v.seen log
    pub old : IsPrefix v.old log
    pub known : v.known ≤ length owners + length callers
    pub all : v.role ≡ Home → v.seen ≡ log
    pub mine : v.mine ≡ own v.role (part v.role owners callers)

  -- the rule, of a journal that began with the entries before
  pub record Kept (before : List E) (s : State E (View E)) : Type 0 where
    pub log : List E
    -- as much of the history as owners have taken, and as callers have
    pub owners : List E
    pub callers : List E
    -- the first word is the length of the history, the second the phase
    pub words : s.words ≡ length log ∷ (length owners + length callers) ∷ []
    pub begins : IsPrefix before callers
    pub fewer : IsPrefix callers owners
    pub some_of : IsPrefix owners log
    -- at most one entry isn't taken by all
    pub near : length log ≤ length callers + 1
    pub fits : (i : ℕ) (v : View E) → get_elem? s.views i ≡ some v → Fits log owners callers v
    pub alone : Alone s.views
    pub made : Made s.views
