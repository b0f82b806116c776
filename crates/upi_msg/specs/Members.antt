-- Members of a JSON tree, each with its first fault.
use Rattle.std.specs.Prelude.{◌≡◌, ℕ, Bool, Option, Some, None, Result, Ok, Err}
use Rattle.serde_json.specs.Find.{get, as_str, as_array, as_object}
use Rattle.upi_msg.specs.Types.{Text, Data, Items, Members, MsgWhy}
use Rattle.upi_base.specs.Lists.{when}
use Rattle.upi_base.specs.Time.{moment_of}
use Rattle.upi_msg.specs.Places.{name_text}
use Rattle.upi_msg.specs.declared.place.{Part.Part, Name.Name, Place.Place, Fault.Fault}

infixl 10 ◌>>=◌
-- what the next step makes of a value, or the fault that came first
abbrev pub ◌>>=◌ : {A B : Type 0} → Result A Fault → (A → Result B Fault) → Result B Fault
(Ok x) >>= f = f x
(Err e) >>= f = Err e

-- a fault at a place
abbrev pub fault : {A : Type 0} → Place → MsgWhy → Result A Fault
fault p w = Err (record { place = p; why = w })

-- what a call answered, seen by `view`
abbrev pub Gives : {X Y : Type 0} → (X → Y) → Result X Fault → Result Y Fault → Type 0
Gives view (Ok x) read = read ≡ Ok (view x)
Gives view (Err e) read = read ≡ Err e

-- what has to be there
abbrev pub there : {A : Type 0} → Place → Option A → Result A Fault
there p None = fault p MsgWhy.Missing
there p (Some x) = Ok x

-- what has to be of its kind
abbrev pub of_kind : {A : Type 0} → Place → Option A → Result A Fault
of_kind p None = fault p MsgWhy.Kind
of_kind p (Some x) = Ok x

-- what has to be within its grammar
abbrev pub of_value : {A : Type 0} → Place → Option A → Result A Fault
of_value p None = fault p MsgWhy.Value
of_value p (Some x) = Ok x

-- what has to be there once
abbrev pub of_count : {A : Type 0} → Place → Option A → Result A Fault
of_count p None = fault p MsgWhy.Count
of_count p (Some x) = Ok x

-- the tree, if it is an object
abbrev pub if_object : Data → Option Members → Option Data
if_object d None = None
if_object d (Some ms) = Some d

-- a tree that has to be a text
unfoldable pub text_of : Place → Data → Result Text Fault
text_of p d = of_kind p (as_str d)

-- a tree that has to be an object
unfoldable pub object_of : Place → Data → Result Data Fault
object_of p d = of_kind p (if_object d (as_object d))

-- a tree that has to be a list
unfoldable pub list_of : Place → Data → Result Items Fault
list_of p d = of_kind p (as_array d)

-- a member that has to be there
unfoldable pub member_at : Place → Name → Data → Result Data Fault
member_at p n d = there p (get (name_text n) d)

-- a member that has to be there, and a text
unfoldable pub text_at : Place → Name → Data → Result Text Fault
text_at p n d = member_at p n d >>= text_of p

-- a member that has to be there, and an object
unfoldable pub object_in : Part → Name → Data → Result Data Fault
object_in p n d = member_at (Place.Member p n) n d >>= object_of (Place.Member p n)

-- a member that has to be there, and a list
unfoldable pub list_in : Part → Name → Data → Result Items Fault
list_in p n d = member_at (Place.Member p n) n d >>= list_of (Place.Member p n)

-- a member that has to be there, a text, and one that `reads` takes
abbrev pub read_in : {A : Type 0} → (Text → Option A) → Part → Name → Data → Result A Fault
read_in reads p n d = text_at (Place.Member p n) n d >>= λ s. of_value (Place.Member p n) (reads s)

-- a member that has to be a text of some grammar
unfoldable pub small_in : (Text → Bool) → Part → Name → Data → Result Text Fault
small_in is p n d = read_in (λ s. when (is s) s) p n d

-- a member that has to be a moment
unfoldable pub moment_in : Part → Name → Data → Result ℕ Fault
moment_in p n d = read_in moment_of p n d
