-- The one member of an object, and what a text says.
use Rattle.std.proofs.Common.{◌≡◌, ◌≤◌, ℕ, List, [], ◌∷◌, length, Option, Some, None, is_some, Result, Ok, Err, refl, ap, ◌∙◌, Bool, true, false, if◌then◌else◌, IsUtf8, arith}
use Rattle.std.specs.Str.{is_utf8}
use Rattle.std.proofs.lemmas.Str.{IsUtf8-from_is_utf8, is_utf8-from_IsUtf8}
use Rattle.json_tree.specs.Seen.{only_of}
use Rattle.serde_json.specs.Data.{Data, null, boolean, number, string, array, object, Members, no_members, member}
use Rattle.serde_json.specs.Find.{as_object}
use Rattle.serde_json.specs.Read.{read}
use Rattle.upi_msg.specs.Types.{Text, MsgWhy}
use Rattle.upi_msg.specs.Members.{fault, object_of}
use Rattle.upi_msg.specs.Read.{root_in, root_named, known, no_root, tree_in}
use Rattle.upi_msg.specs.declared.place.{Root.Root, Place.Place, Fault.Fault}

-- the root of what may be one member
abbrev pub root_of : Option (Text × Data) → Result (Root × Data) Fault
root_of None = Err no_root
root_of (Some m) = known m.1 (root_named m.0)

-- the one member of an object, and its root
pub only_root : (o : Option Members) → root_of (only_of o) ≡ root_in o
only_root None = refl
only_root (Some no_members) = refl
only_root (Some (member k d no_members)) = refl
only_root (Some (member k d (member l e ms))) = refl

-- an object, as it has to be one
pub object_there : (p : Place) (d : Data) → true ≡ is_some (as_object d) → object_of p d ≡ Ok d
unfolding object_of
object_there p null h = absurd (cc)
object_there p (boolean b) h = absurd (cc)
object_there p (number n) h = absurd (cc)
object_there p (string s) h = absurd (cc)
object_there p (array ds) h = absurd (cc)
object_there p (object ms) h = refl

pub no_object : (p : Place) (d : Data) → false ≡ is_some (as_object d) → object_of p d ≡ fault p MsgWhy.Kind
unfolding object_of
no_object p null h = refl
no_object p (boolean b) h = refl
no_object p (number n) h = refl
no_object p (string s) h = refl
no_object p (array ds) h = refl
no_object p (object ms) h = absurd (cc)

pub tree_none : (text : List ℕ) → (IsUtf8 text → read text ≡ None) → tree_in text ≡ None
unfolding tree_in
tree_none text h = go (is_utf8 text) refl
  where
    go : (b : Bool) → is_utf8 text ≡ b → (if b then read text else None) ≡ None
    go false e = refl
    go true e = h (IsUtf8-from_is_utf8 text e)

pub tree_some : (text : List ℕ) (d : Data) → IsUtf8 text → read text ≡ Some d → tree_in text ≡ Some d
unfolding tree_in
tree_some text d u e = ap (λ (b : Bool). if b then read text else None) (is_utf8-from_IsUtf8 text u) ∙ e
