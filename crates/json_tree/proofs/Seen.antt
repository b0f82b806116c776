-- What `serde_json` reads in a value, and what is found in a tree over its text.
use Rattle.std.proofs.Common.{◌≡◌, ℕ, Bool, true, false, cond, ◌&&◌, List, [], ◌∷◌, Option, Some, None, option_map, option_and_then, is_some, bytes_eq, true≢false, Ordering, Less, Equal, Greater, nat_cmp, is_eq, refl, sym, ap, ◌∙◌, subst}
use Rattle.std.proofs.lemmas.Cmp.{nat_list_cmp_total, tied_itself}
use Rattle.std.proofs.lemmas.Map.Text.{is_eq-slice_cmp}
use Rattle.std.proofs.lemmas.Slice.Eq.{bytes_eq-Decides}
use Rattle.std.specs.Cmp.Lexicographic.{slice_cmp}
use Rattle.std.specs.Ordering.{match_ordering}
use Rattle.json.specs.Json as json
use Rattle.json.specs.Find as found
use Rattle.json.proofs.Found.{Some_inj}
use Rattle.serde_json.specs.Data.{Num, Data, null, boolean, number, string, array, object, Items, item, Members, no_members, member, put}
use Rattle.serde_json.specs.Find.{get, get_member, as_str, as_array, as_object}
use Rattle.serde_json.specs.Read as serde
use Rattle.serde_json.specs.Read.{number_of}
use Rattle.serde_json.proofs.Views.{get_member-put, get_member-put_other}
use Rattle.json_tree.specs.Seen.{number_or_null, data_of, items_of, members_of, in_range, items_in_range, members_in_range, only_of, name_of}

-- ---- what `serde_json` reads

-- this, where the test holds
abbrev pub if_so : {A : Type 0} → Bool → A → Option A
if_so false x = None
if_so true x = Some x

a_number : (o : Option Num) → option_map number o ≡ if_so (is_some o) (number_or_null o)
a_number None = refl
a_number (Some n) = refl

mapped : {A B : Type 0} (f : A → B) (b : Bool) (x : A) → option_map f (if_so b x) ≡ if_so b (f x)
mapped f false x = refl
mapped f true x = refl

both : (a b : Bool) (d : Data) (ds : Items) → option_and_then (λ e. option_map (item e) (if_so b ds)) (if_so a d) ≡ if_so (a && b) (item d ds)
both false b d ds = refl
both true b d ds = mapped (item d) b ds

chosen : (a : Bool) (d : Data) (f : Data → Option Members) (b : Bool) (ms : Members) → f d ≡ if_so b ms → option_and_then f (if_so a d) ≡ if_so (a && b) ms
chosen false d f b ms e = refl
chosen true d f b ms e = e

mutual
  -- a value is read exactly where its numbers are in range, and then as it is seen
  pub of_json-seen : (j : json.Json) → serde.of_json j ≡ if_so (in_range j) (data_of j)
  of_json-seen json.null = refl
  of_json-seen (json.boolean b) = refl
  of_json-seen (json.number s) = a_number (number_of s)
  of_json-seen (json.string s) = refl
  of_json-seen (json.array js) = ap (option_map array) (of_items-seen js) ∙ mapped array (items_in_range js) (items_of js)
  of_json-seen (json.object ms) = ap (option_map object) (of_members-seen ms no_members) ∙ mapped object (members_in_range ms) (members_of ms no_members)

  of_items-seen : (js : json.Items) → serde.of_items js ≡ if_so (items_in_range js) (items_of js)
  of_items-seen json.no_items = refl
  of_items-seen (json.item j js) = (λ i. option_and_then (λ e. option_map (item e) (of_items-seen js i)) (of_json-seen j i)) ∙ both (in_range j) (items_in_range js) (data_of j) (items_of js)

  of_members-seen : (ms : json.Members) (found : Members) → serde.of_members ms found ≡ if_so (members_in_range ms) (members_of ms found)
  of_members-seen json.no_members found = refl
  of_members-seen (json.member k j ms) found =
      ap (option_and_then (λ d. serde.of_members ms (put k d found))) (of_json-seen j)
      ∙ chosen (in_range j) (data_of j) (λ d. serde.of_members ms (put k d found)) (members_in_range ms) (members_of ms (put k (data_of j) found)) (of_members-seen ms (put k (data_of j) found))

-- ---- members

put_found : (name k : List ℕ) (d : Data) (ms : Members) → get_member name (put k d ms) ≡ cond (bytes_eq k name) (Some d) (get_member name ms)
put_found name k d ms = go (bytes_eq k name) refl
  where
    go : (b : Bool) → bytes_eq k name ≡ b → get_member name (put k d ms) ≡ cond b (Some d) (get_member name ms)
    go true e = ap (λ n. get_member n (put k d ms)) (sym ((bytes_eq-Decides k name).0 e)) ∙ get_member-put k d ms
    go false e = get_member-put_other name k d ms (λ same. true≢false (sym ((bytes_eq-Decides k name).1 (sym same)) ∙ e))

abbrev or_else : Option Data → Option Data → Option Data
or_else None x = x
or_else (Some d) x = Some d

joined : (o : Option json.Json) (b : Bool) (j : json.Json) (x : Option Data) → or_else (option_map data_of o) (cond b (Some (data_of j)) x) ≡ or_else (option_map data_of (found.later_or o (cond b (Some j) None))) x
joined (Some i) b j x = refl
joined None true j x = refl
joined None false j x = refl

alone : (o : Option Data) → or_else o None ≡ o
alone None = refl
alone (Some d) = refl

members_found : (name : List ℕ) (ms : json.Members) (before : Members) → get_member name (members_of ms before) ≡ or_else (option_map data_of (found.get_member name ms)) (get_member name before)
members_found name json.no_members before = refl
members_found name (json.member k j ms) before =
    members_found name ms (put k (data_of j) before)
    ∙ ap (or_else (option_map data_of (found.get_member name ms))) (put_found name k (data_of j) before)
    ∙ joined (found.get_member name ms) (bytes_eq k name) j (get_member name before)

pub get-data_of : (name : List ℕ) (j : json.Json) → get name (data_of j) ≡ option_map data_of (found.get name j)
get-data_of name json.null = refl
get-data_of name (json.boolean b) = refl
get-data_of name (json.number s) = go (number_of s)
  where
    go : (o : Option Num) → get name (number_or_null o) ≡ None
    go None = refl
    go (Some n) = refl
get-data_of name (json.string s) = refl
get-data_of name (json.array js) = refl
get-data_of name (json.object ms) = members_found name ms no_members ∙ alone (option_map data_of (found.get_member name ms))

-- ---- texts and lists

pub as_str-data_of : (j : json.Json) → found.as_str j ≡ as_str (data_of j)
as_str-data_of json.null = refl
as_str-data_of (json.boolean b) = refl
as_str-data_of (json.number s) = go (number_of s)
  where
    go : (o : Option Num) → None ≡ as_str (number_or_null o)
    go None = refl
    go (Some n) = refl
as_str-data_of (json.string s) = refl
as_str-data_of (json.array js) = refl
as_str-data_of (json.object ms) = refl

-- ---- the one member

abbrev IsMany : Members → Type 0
IsMany no_members = ⊥
IsMany (member k d no_members) = ⊥
IsMany (member k d (member l e ms)) = Unit {0}

many_none : (ms : Members) → IsMany ms → only_of (Some ms) ≡ None
many_none no_members h = absurd h
many_none (member k d no_members) h = absurd h
many_none (member k d (member l e ms)) h = refl

many_put : (k : List ℕ) (d : Data) (ms : Members) → IsMany ms → IsMany (put k d ms)
many_put k d no_members h = absurd h
many_put k d (member l e no_members) h = absurd h
many_put k d (member l e (member m f ms)) h = first (slice_cmp nat_cmp k l)
  where
    second : (o : Ordering) → IsMany (member l e (match_ordering o (member k d (member m f ms)) (member m d ms) (member m f (put k d ms))))
    second Less = tt
    second Equal = tt
    second Greater = tt

    first : (o : Ordering) → IsMany (match_ordering o (member k d (member l e (member m f ms))) (member l d (member m f ms)) (member l e (put k d (member m f ms))))
    first Less = tt
    first Equal = tt
    first Greater = second (slice_cmp nat_cmp k m)

many_all : (ms : json.Members) (before : Members) → IsMany before → only_of (Some (members_of ms before)) ≡ None
many_all json.no_members before h = many_none before h
many_all (json.member k j ms) before h = many_all ms (put k (data_of j) before) (many_put k (data_of j) before h)

two : (k l : List ℕ) (d e : Data) → (l ≡ k → ⊥) → IsMany (put l e (member k d no_members))
two k l d e other = go (slice_cmp nat_cmp l k) refl
  where
    go : (o : Ordering) → slice_cmp nat_cmp l k ≡ o → IsMany (match_ordering o (member l e (member k d no_members)) (member k e no_members) (member k d (member l e no_members)))
    go Less is = tt
    go Equal is = absurd (other ((bytes_eq-Decides l k).0 (sym (is_eq-slice_cmp l k) ∙ ap is_eq is)))
    go Greater is = tt

-- another name makes two members
pub other_name : (k l : List ℕ) (j : json.Json) (d : Data) (ms : json.Members) → (l ≡ k → ⊥) → only_of (Some (members_of (json.member l j ms) (member k d no_members))) ≡ None
other_name k l j d ms other = many_all ms (put l (data_of j) (member k d no_members)) (two k l d (data_of j) other)

-- the same name gives the member its later value
pub same_name : (k l : List ℕ) (j : json.Json) (d : Data) (ms : json.Members) → l ≡ k → members_of (json.member l j ms) (member k d no_members) ≡ members_of ms (member k (data_of j) no_members)
same_name k l j d ms same = ap (λ n. members_of ms (put n (data_of j) (member k d no_members))) same ∙ ap (λ o. members_of ms (match_ordering o (member k (data_of j) (member k d no_members)) (member k (data_of j) no_members) (member k d (member k (data_of j) no_members)))) (tied_itself nat_list_cmp_total k)

-- ---- lists and objects

pub listed : (j : json.Json) → option_map items_of (found.as_array j) ≡ as_array (data_of j)
listed json.null = refl
listed (json.boolean b) = refl
listed (json.number s) = go (number_of s)
  where
    go : (o : Option Num) → None ≡ as_array (number_or_null o)
    go None = refl
    go (Some n) = refl
listed (json.string s) = refl
listed (json.array js) = refl
listed (json.object ms) = refl

abbrev pub from_none : json.Members → Members
from_none ms = members_of ms no_members

pub objects : (j : json.Json) → option_map from_none (found.as_object j) ≡ as_object (data_of j)
objects json.null = refl
objects (json.boolean b) = refl
objects (json.number s) = go (number_of s)
  where
    go : (o : Option Num) → None ≡ as_object (number_or_null o)
    go None = refl
    go (Some n) = refl
objects (json.string s) = refl
objects (json.array js) = refl
objects (json.object ms) = refl

-- ---- members one by one

pub not_same : (a b : List ℕ) (r : Bool) → r ≡ bytes_eq a b → r ≡ false → a ≡ b → ⊥
not_same a b r e other same = true≢false (sym ((bytes_eq-Decides a b).1 same) ∙ sym e ∙ other)

pub are_same : (a b : List ℕ) (r : Bool) → r ≡ bytes_eq a b → r ≡ true → a ≡ b
are_same a b r e holds = (bytes_eq-Decides a b).0 (sym e ∙ holds)

-- the one member that an object has is the one of its name
pub one_member : (d : Data) (k : List ℕ) → Some k ≡ name_of (only_of (as_object d)) → option_map {U = List ℕ × Data} (λ v. (k, v)) (get k d) ≡ only_of (as_object d)
one_member null k h = absurd cc
one_member (boolean b) k h = absurd cc
one_member (number n) k h = absurd cc
one_member (string s) k h = absurd cc
one_member (array ds) k h = absurd cc
one_member (object no_members) k h = absurd cc
one_member (object (member l e no_members)) k h =
    let same : k ≡ l = Some_inj k l h in
    subst (λ n. option_map {U = List ℕ × Data} (λ v. (n, v)) (get n (object (member l e no_members))) ≡ Some (l, e)) (sym same)
    (ap (λ o. option_map {U = List ℕ × Data} (λ v. (l, v)) (match_ordering o None (Some e) None)) (tied_itself nat_list_cmp_total l))
one_member (object (member l e (member m f ms))) k h = absurd cc
