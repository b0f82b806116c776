-- What a list of named values has of one name, item by item.
use Rattle.std.proofs.Common.{◌≡◌, ◌≤◌, ◌+◌, ◌==◌, ℕ, [], Bool, true, false, nat_le, codes, Option, Some, None, option_and_then, unwrap_or, bytes_eq, Result, Ok, Err, if◌then◌else◌, refl, sym, ap, ◌∙◌, subst, arith}
use Rattle.std.proofs.lemmas.Bool.Decides.{nat_tests}
use Rattle.std.specs.Option.{option_map_or}
use Rattle.serde_json.specs.Data.{null, boolean, number, string, array, object}
use Rattle.serde_json.specs.Find.{get, as_str, as_object}
use Rattle.upi_msg.specs.Payments.{minutes_at, minutes_in}
use Rattle.upi_msg.specs.Types.{Text, Data, Items, no_items, item, MsgWhy}
use Rattle.upi_msg.specs.Members.{◌>>=◌, fault, object_of, text_of, text_at, member_at, there, of_kind}
use Rattle.upi_msg.specs.Named.{named_item, named_items, IsNamedList, is_named, value_of, count_named, find_named, only_named}
use Rattle.upi_msg.specs.Places.{name_text}
use Rattle.upi_msg.specs.Lots.{Holds, IsLot}
use Rattle.upi_msg.specs.declared.named.{Lot.Lot}
use Rattle.upi_msg.specs.declared.place.{Part.Part, Name.Name, Place.Place, Fault.Fault}

-- ---- an item

-- a tree that is an object is that object
pub object_same : (p : Place) (d e : Data) → object_of p d ≡ Ok e → d ≡ e
unfolding object_of
object_same p null e h = absurd cc
object_same p (boolean b) e h = absurd cc
object_same p (number n) e h = absurd cc
object_same p (string s) e h = absurd cc
object_same p (array ds) e h = absurd cc
object_same p (object ms) e h = cc

text_of_kind : (p : Place) (o : Option Text) (s : Text) → of_kind p o ≡ Ok s → o ≡ Some s
text_of_kind p None s h = absurd cc
text_of_kind p (Some t) s h = cc

text_in_member : (p : Place) (o : Option Data) (s : Text) → (there p o >>= λ e. of_kind p (as_str e)) ≡ Ok s → option_and_then as_str o ≡ Some s
text_in_member p None s h = absurd cc
text_in_member p (Some e) s h = text_of_kind p (as_str e) s h

-- a text that is there
pub text_there : (p : Place) (n : Name) (d : Data) (s : Text) → text_at p n d ≡ Ok s → option_and_then as_str (get (name_text n) d) ≡ Some s
unfolding text_at member_at text_of
text_there p n d s h = text_in_member p (get (name_text n) d) s h

-- the name and the value of an item
pub name_is : (k : Text) (d e : Data) (s : Text) (p q : Place) → object_of p d ≡ Ok e → text_at q Name.Name e ≡ Ok s → bytes_eq s k ≡ is_named k d
name_is k d e s p q whole told = sym (ap (is_named k) (object_same p d e whole) ∙ ap (λ o. option_map_or (λ t. bytes_eq t k) o false) (text_there q Name.Name e s told))

pub value_is : (d e : Data) (s : Text) (p q : Place) → object_of p d ≡ Ok e → text_at q Name.Value e ≡ Ok s → s ≡ value_of d
value_is d e s p q whole told = sym (ap value_of (object_same p d e whole) ∙ ap (λ o. unwrap_or o []) (text_there q Name.Value e s told))

-- ---- item by item

pub passed_item : (p : Part) (n : Name) (i j m : ℕ) (ds new : Items) (d : Data) (v : Text) (g : Result ℕ Fault) → named_items p n i ds ≡ g → ds ≡ item d new → j ≡ i → m ≡ j + 1 → named_item p n j d ≡ Ok v → named_items p n m new ≡ g
passed_item p n i j m ds new d v g h e same next ok =
    let here : named_items p n i ds ≡ named_items p n j (item d new) = ap (named_items p n i) e ∙ ap (λ k. named_items p n k (item d new)) (sym same) in
    ap (λ k. named_items p n k new) next ∙ sym (ap (λ r. r >>= λ _. named_items p n (j + 1) new) ok) ∙ sym here ∙ h

pub faulty_item : (p : Part) (n : Name) (i j : ℕ) (ds new : Items) (d : Data) (f : Fault) (g : Result ℕ Fault) → named_items p n i ds ≡ g → ds ≡ item d new → j ≡ i → named_item p n j d ≡ Err f → g ≡ Err f
faulty_item p n i j ds new d f g h e same bad =
    let here : named_items p n i ds ≡ named_items p n j (item d new) = ap (named_items p n i) e ∙ ap (λ k. named_items p n k (item d new)) (sym same) in
    sym h ∙ here ∙ ap (λ r. r >>= λ _. named_items p n (j + 1) new) bad

pub held_item : (k : Text) (all : Items) (lot : Lot) (i j : ℕ) (ds new : Items) (d : Data) → Holds k all lot i ds → ds ≡ item d new → j ≡ i → Holds k all lot j (item d new)
held_item k all lot i j ds new d h e same = subst (λ m. Holds k all lot m (item d new)) (sym same) (subst (λ es. Holds k all lot i es) e h)

nothing_more : (n : ℕ) → 0 + n ≡ n
nothing_more n = omega arith

pub first_found : (k : Text) (all : Items) (d : Data) (rest : Items) (i : ℕ) (v : Text) → true ≡ is_named k d → v ≡ value_of d → Holds k all Lot.Nothing i (item d rest) → (count_named k all ≡ 1 + count_named k rest) × (find_named k 0 all ≡ Some (i, v))
first_found k all d rest i v is val h = (
  h.0 ∙ ap (λ (b : Bool). (if b then 1 else 0) + count_named k rest) (sym is),
  h.1 ∙ ap (λ (b : Bool). if b then Some (i, value_of d) else find_named k (i + 1) rest) (sym is) ∙ ap (λ s. Some (i, s)) (sym val),
)

pub none_found : (k : Text) (all : Items) (d : Data) (rest : Items) (i : ℕ) → false ≡ is_named k d → Holds k all Lot.Nothing i (item d rest) → Holds k all Lot.Nothing (i + 1) rest
none_found k all d rest i is h = (
  h.0 ∙ ap (λ (b : Bool). (if b then 1 else 0) + count_named k rest) (sym is) ∙ nothing_more (count_named k rest),
  h.1 ∙ ap (λ (b : Bool). if b then Some (i, value_of d) else find_named k (i + 1) rest) (sym is),
)

pub second_found : (k : Text) (all : Items) (d : Data) (rest : Items) → true ≡ is_named k d → count_named k all ≡ 1 + count_named k (item d rest) → 2 ≤ count_named k all
second_found k all d rest is h =
    let more : count_named k (item d rest) ≡ 1 + count_named k rest = ap (λ (b : Bool). (if b then 1 else 0) + count_named k rest) (sym is) in
    omega (arith, h, more)

pub other_found : (k : Text) (all : Items) (d : Data) (rest : Items) → false ≡ is_named k d → count_named k all ≡ 1 + count_named k (item d rest) → count_named k all ≡ 1 + count_named k rest
other_found k all d rest is h =
    let more : count_named k (item d rest) ≡ 0 + count_named k rest = ap (λ (b : Bool). (if b then 1 else 0) + count_named k rest) (sym is) in
    omega (arith, h, more)

-- ---- the whole list

pub ended_items : (p : Part) (n : Name) (i : ℕ) (ds : Items) (g : Result ℕ Fault) → named_items p n i ds ≡ g → ds ≡ no_items → IsNamedList g
ended_items p n i ds g h e = (i, sym h ∙ ap (named_items p n i) e)

pub ended_lot : (lot : Lot) (k : Text) (all : Items) (i : ℕ) (ds : Items) → Holds k all lot i ds → ds ≡ no_items → IsLot lot k all
ended_lot Lot.Nothing k all i ds h e = (h.0 ∙ ap (count_named k) e, h.1 ∙ ap (find_named k i) e)
ended_lot (Lot.One n s) k all i ds h e = (h.0 ∙ ap (λ es. 1 + count_named k es) e, h.1)
ended_lot Lot.Several k all i ds h e = h

several : (n : ℕ) → 2 ≤ n → (n == 1) ≡ false
several n le = grind (arith, nat_tests)

pub only_nothing : (k : Text) (ds : Items) → count_named k ds ≡ 0 → None ≡ only_named k ds
unfolding only_named
only_nothing k ds none = sym (ap (λ n. if n == 1 then find_named k 0 ds else None) none)

pub only_one : (k : Text) (ds : Items) (i : ℕ) (v : Text) → count_named k ds ≡ 1 → find_named k 0 ds ≡ Some (i, v) → Some (i, v) ≡ only_named k ds
unfolding only_named
only_one k ds i v one found = sym (ap (λ n. if n == 1 then find_named k 0 ds else None) one ∙ found)

pub only_several : (k : Text) (ds : Items) → 2 ≤ count_named k ds → None ≡ only_named k ds
unfolding only_named
only_several k ds le = sym (ap (λ (b : Bool). if b then find_named k 0 ds else None) (several (count_named k ds) le))

-- ---- minutes

above : (n : ℕ) → 2 ≤ n → nat_le n 1 ≡ false
above n le = grind (arith, nat_tests)

pub minutes_nothing : (p : Part) (ds : Items) → count_named (codes "EXPIREAFTER") ds ≡ 0 → find_named (codes "EXPIREAFTER") 0 ds ≡ None → Ok None ≡ minutes_in p ds
unfolding minutes_in
minutes_nothing p ds none found = sym (ap (λ n. if nat_le n 1 then minutes_at p (find_named (codes "EXPIREAFTER") 0 ds) else fault (Place.Member p Name.Rule) MsgWhy.Count) none ∙ ap (minutes_at p) found)

pub minutes_one : (p : Part) (ds : Items) (i : ℕ) (v : Text) → count_named (codes "EXPIREAFTER") ds ≡ 1 → find_named (codes "EXPIREAFTER") 0 ds ≡ Some (i, v) → minutes_at p (Some (i, v)) ≡ minutes_in p ds
unfolding minutes_in
minutes_one p ds i v one found = sym (ap (λ n. if nat_le n 1 then minutes_at p (find_named (codes "EXPIREAFTER") 0 ds) else fault (Place.Member p Name.Rule) MsgWhy.Count) one ∙ ap (minutes_at p) found)

pub minutes_several : (p : Part) (ds : Items) → 2 ≤ count_named (codes "EXPIREAFTER") ds → fault (Place.Member p Name.Rule) MsgWhy.Count ≡ minutes_in p ds
unfolding minutes_in
minutes_several p ds le = sym (ap (λ (b : Bool). if b then minutes_at p (find_named (codes "EXPIREAFTER") 0 ds) else fault (Place.Member p Name.Rule) MsgWhy.Count) (above (count_named (codes "EXPIREAFTER") ds) le))
