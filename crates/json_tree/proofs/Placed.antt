-- The value that tokens begin with is the one that was read, and what is found in it.
use Rattle.std.proofs.Common.{◌≡◌, ◌≢◌, ℕ, zero, suc, ◌+◌, ◌-◌, ◌<◌, ◌≤◌, max, List, [], ◌∷◌, ◌++◌, length, Bool, true, false, true≢false, ◌&&◌, nat_le, nat_lt, cond, bytes_eq, is_some, if◌then◌else◌, Option, Some, None, IsSome, IfNone, option_map, option_and_then, MatchOption, Result, Ok, Err, IfOk, refl, sym, ap, ◌∙◌, subst, arith, append_assoc, append-nil, length-append}
use Rattle.std.proofs.lemmas.Bool.Decides.{nat_tests}
use Rattle.json.specs.Token.{Token}
use Rattle.json.specs.Token as token
use Rattle.json.specs.declared.error.Error.{Error}
use Rattle.json.specs.declared.error.Error.TheVariants as error
use Rattle.json.specs.Json as json
use Rattle.json.specs.Lex.{tokens}
use Rattle.json.specs.Json.{after_end_array, items_step, parse_map}
use Rattle.json.specs.Tree.{json_tokens, items_tokens, members_tokens, depth, items_depth, members_depth}
use Rattle.json.specs.Find as found
use Rattle.json.specs.Find.{BeginsWith, HasValue, InItems, InMembers, Finds, NextItem, NextMember}
use Rattle.json.proofs.Grammar.{closed_array}
use Rattle.json.proofs.Found.{document-BeginsWith, one_reading, not_found, Some_inj, items_close, items_go_on}
use Rattle.json.proofs.Nesting.{value-depth}
use Rattle.json.proofs.Printed.Trees.{value-json_tokens}
use Rattle.json.proofs.Unique.Spelling.{tokens-document, value-json_tokens_back}
use Rattle.serde_json.specs.Data.{Data, Items, no_items, item, no_members, member}
use Rattle.serde_json.specs.Find.{get, as_str, as_array, as_object}
use Rattle.serde_json.specs.Read.{number_of}
use Rattle.serde_json.specs.Read as serde
use Rattle.json_tree.specs.Seen.{data_of, items_of, members_of, in_range, items_in_range, members_in_range, only_of, name_of}
use Rattle.json_tree.specs.Placed.{value_or_null, placed, HasFirst, HasInner, items_or_none, placed_items, first_size, inner_size, is_fit, after_token}
use Rattle.json_tree.proofs.Seen.{if_so, of_json-seen, get-data_of, as_str-data_of, listed, from_none, objects, other_name, same_name}

-- ---- the value that tokens begin with

mutual
  depth_length : (j : json.Json) → depth j ≤ length (json_tokens j)
  depth_length json.null = omega arith
  depth_length (json.boolean b) = omega arith
  depth_length (json.number s) = omega arith
  depth_length (json.string s) = omega arith
  depth_length (json.array js) = omega (arith, items_length js)
  depth_length (json.object ms) = omega (arith, members_length ms)

  items_length : (js : json.Items) → items_depth js ≤ length (items_tokens js)
  items_length json.no_items = omega arith
  items_length (json.item j js) = omega (arith, depth_length j, items_length js, length-append (json_tokens j) (items_tokens js))

  members_length : (ms : json.Members) → members_depth ms ≤ length (members_tokens ms)
  members_length json.no_members = omega arith
  members_length (json.member k j ms) = omega (arith, depth_length j, members_length ms, length-append (json_tokens j) (members_tokens ms))

first_value : (ts : List Token) (j : json.Json) (h : BeginsWith ts j) → json.value (length ts) ts ≡ Some (j, h.1)
first_value ts j h =
    let back : ts ≡ json_tokens j ++ h.1 = value-json_tokens_back h.0 ts h.1 j h.2 in
    let long : length ts ≡ length (json_tokens j ++ h.1) = ap length back in
    let enough : depth j ≤ length ts = omega (arith, depth_length j, length-append (json_tokens j) h.1, long) in
    ap (json.value (length ts)) back ∙ value-json_tokens j (length ts) h.1 enough

pub placed_is : (ts : List Token) (j : json.Json) → BeginsWith ts j → placed ts ≡ data_of j
unfolding placed
placed_is ts j h = ap (λ o. data_of (value_or_null o)) (first_value ts j h)

pub has_first : (ts : List Token) → HasValue ts → HasFirst ts
has_first ts h = ap is_some (first_value ts h.0 h.1)

pub begins : (ts : List Token) → HasFirst ts → HasValue ts
begins ts h = go (json.value (length ts) ts) refl h
  where
    go : (o : Option (json.Json × List Token)) → json.value (length ts) ts ≡ o → IsSome o → HasValue ts
    go None e k = absurd (true≢false (sym k))
    go (Some p) e k = (p.0, (length ts, p.1, e))

-- ---- what is found

placed_found : (name : List ℕ) (ts : List Token) (h : HasValue ts) (r : Option (List Token)) → ((j : json.Json) → BeginsWith ts j → Finds r (found.get name j)) → option_map placed r ≡ get name (placed ts)
placed_found name ts h r f = go r (f h.0 h.1)
  where
    is : get name (placed ts) ≡ option_map data_of (found.get name h.0)
    is = ap (get name) (placed_is ts h.0 h.1) ∙ get-data_of name h.0

    go : (o : Option (List Token)) → Finds o (found.get name h.0) → option_map placed o ≡ get name (placed ts)
    go None e = sym (is ∙ ap (option_map data_of) e)
    go (Some us) p = ap Some (placed_is us p.0 p.2) ∙ sym (is ∙ ap (option_map data_of) p.1)

pub placed_member : (name : List ℕ) (ts : List Token) → HasFirst ts → (r : Option (List Token)) → ((j : json.Json) → BeginsWith ts j → Finds r (found.get name j)) → option_map placed r ≡ get name (placed ts)
placed_member name ts first r f = placed_found name ts (begins ts first) r f

-- a value begins where one was found
pub found_first : (name : List ℕ) (ts : List Token) → HasFirst ts → (us : List Token) → ((j : json.Json) → BeginsWith ts j → Finds (Some us) (found.get name j)) → HasFirst us
found_first name ts first us f =
    let h = begins ts first in
    let p = f h.0 h.1 in
    has_first us (p.0, p.2)

text_found : (ts : List Token) (h : HasValue ts) (r : Option (List ℕ)) → ((j : json.Json) → BeginsWith ts j → r ≡ found.as_str j) → r ≡ as_str (placed ts)
text_found ts h r f = f h.0 h.1 ∙ as_str-data_of h.0 ∙ ap as_str (sym (placed_is ts h.0 h.1))

pub placed_text : (ts : List Token) → HasFirst ts → (r : Option (List ℕ)) → ((j : json.Json) → BeginsWith ts j → r ≡ found.as_str j) → r ≡ as_str (placed ts)
placed_text ts first r f = text_found ts (begins ts first) r f

-- ---- items

abbrev item_or : json.Json → json.Items → json.Json
item_or d json.no_items = d
item_or d (json.item j js) = j

abbrev later_or : json.Items → json.Items
later_or json.no_items = json.no_items
later_or (json.item j js) = js

items_head : (j i : json.Json) (js is : json.Items) → json.item j js ≡ json.item i is → j ≡ i
items_head j i js is e = ap (item_or json.null) e

items_tail : (j i : json.Json) (js is : json.Items) → json.item j js ≡ json.item i is → js ≡ is
items_tail j i js is e = ap later_or e

pub in_items : (js : json.Items) (ts : List Token) → InItems ts js → (rest : List Token) × (ts ≡ items_tokens js ++ rest)
in_items json.no_items ts h = go (after_end_array ts) refl
  where
    go : (o : Option (List Token)) → after_end_array ts ≡ o → (rest : List Token) × (ts ≡ items_tokens json.no_items ++ rest)
    go (Some r) e = (r, closed_array ts r e)
    go None e = let f = items_go_on ts json.no_items e h in absurd cc
in_items (json.item j js) ts h = go (λ us k. in_items js us k) (after_end_array ts) refl
  where
    go : ((us : List Token) → InItems us js → (rest : List Token) × (us ≡ items_tokens js ++ rest)) → (o : Option (List Token)) → after_end_array ts ≡ o → (rest : List Token) × (ts ≡ items_tokens (json.item j js) ++ rest)
    go again (Some r) e = let never = items_close r (json.item j js) (subst (λ us. InItems us (json.item j js)) (closed_array ts r e) h) in absurd cc
    go again None e =
        let f = items_go_on ts (json.item j js) e h in
        let same : json.item j js ≡ json.item f.1 f.3 = f.5 in
        let front : ts ≡ json_tokens f.1 ++ f.2 = value-json_tokens_back f.0 ts f.2 f.1 f.4 in
        let inner : InItems f.2 js = subst (InItems f.2) (sym (items_tail j f.1 js f.3 same)) f.6 in
        let more = again f.2 inner in
        (more.0, front ∙ ap (λ (i : json.Json). json_tokens i ++ f.2) (sym (items_head j f.1 js f.3 same)) ∙ ap (λ (l : List Token). json_tokens j ++ l) more.1 ∙ sym (append_assoc (json_tokens j) (items_tokens js) more.0))

-- ---- items that are read again

not_end : (j : json.Json) (rest : List Token) → after_end_array (json_tokens j ++ rest) ≡ None
not_end json.null rest = refl
not_end (json.boolean b) rest = refl
not_end (json.number s) rest = refl
not_end (json.string s) rest = refl
not_end (json.array js) rest = refl
not_end (json.object ms) rest = refl

some_token : (j : json.Json) → 0 < length (json_tokens j)
some_token json.null = omega arith
some_token (json.boolean b) = omega arith
some_token (json.number s) = omega arith
some_token (json.string s) = omega arith
some_token (json.array js) = omega arith
some_token (json.object ms) = omega arith

items_again : (js : json.Items) (d n : ℕ) (rest : List Token) → items_depth js ≤ d → length (items_tokens js) ≤ n → json.items (json.value d) n (items_tokens js ++ rest) ≡ Some (js, rest)
unfolding json.items
items_again json.no_items d zero rest h turns = absurd (omega arith)
items_again json.no_items d (suc n) rest h turns = refl
items_again (json.item j js) d zero rest h turns = absurd (omega (arith, some_token j, length-append (json_tokens j) (items_tokens js)))
items_again (json.item j js) d (suc n) rest h turns =
    let after : List Token = items_tokens js ++ rest in
    ap (json.items (json.value d) (suc n)) (append_assoc (json_tokens j) (items_tokens js) rest)
    ∙ ap (items_step (json.value d) (json.items (json.value d) n) (json_tokens j ++ after)) (not_end j after)
    ∙ ap (option_and_then (λ p. parse_map (json.item p.0) (json.items (json.value d) n p.1))) (value-json_tokens j d after (omega arith))
    ∙ ap (parse_map (json.item j)) (items_again js d n rest (omega arith) (omega (arith, some_token j, length-append (json_tokens j) (items_tokens js))))

first_items : (ts : List Token) (js : json.Items) (h : InItems ts js) → json.items (json.value (length ts)) (length ts) ts ≡ Some (js, (in_items js ts h).0)
first_items ts js h =
    let back = in_items js ts h in
    let long : length ts ≡ length (items_tokens js ++ back.0) = ap length back.1 in
    let shallow : items_depth js ≤ length ts = omega (arith, items_length js, length-append (items_tokens js) back.0, long) in
    let turns : length (items_tokens js) ≤ length ts = omega (arith, length-append (items_tokens js) back.0, long) in
    ap (json.items (json.value (length ts)) (length ts)) back.1 ∙ items_again js (length ts) (length ts) back.0 shallow turns

pub placed_items_are : (ts : List Token) (js : json.Items) → InItems ts js → placed_items ts ≡ items_of js
unfolding placed_items
placed_items_are ts js h = ap (λ o. items_of (items_or_none o)) (first_items ts js h)

pub has_inner : (ts : List Token) (js : json.Items) → InItems ts js → HasInner ts
has_inner ts js h = ap is_some (first_items ts js h)

pub inner : (ts : List Token) → HasInner ts → (js : json.Items) × InItems ts js
inner ts h = go (json.items (json.value (length ts)) (length ts) ts) refl h
  where
    go : (o : Option (json.Items × List Token)) → json.items (json.value (length ts)) (length ts) ts ≡ o → IsSome o → (js : json.Items) × InItems ts js
    go None e k = absurd (true≢false (sym k))
    go (Some p) e k = (p.0, (length ts, length ts, p.1, e))

-- the next item, where there is one
pub next_none : (old new : List Token) (h : HasInner old) → NextItem old None new → placed_items old ≡ no_items
next_none old new h f =
    let i = inner old h in
    placed_items_are old i.0 i.1 ∙ ap items_of (f i.0 i.1)

pub next_some : (old new at : List Token) (h : HasInner old) → NextItem old (Some at) new → (placed_items old ≡ item (placed at) (placed_items new)) × (HasFirst at × HasInner new)
next_some old new at h f =
    let i = inner old h in
    let p = f i.0 i.1 in (
      placed_items_are old i.0 i.1 ∙ ap items_of p.2 ∙ sym (λ k. item (placed_is at p.0 p.3 k) (placed_items_are new p.1 p.4 k)),
      (has_first at (p.0, p.3), has_inner new p.1 p.4),
    )

-- what is left has its bracket too
pub next_inner : (old new : List Token) (r : Option (List Token)) → HasInner old → NextItem old r new → IfNone r (new ≡ old) → HasInner new
next_inner old new None h f stays = subst HasInner (sym stays) h
next_inner old new (Some at) h f stays = (next_some old new at h f).1.1

-- a list that was found
list_found : (ts : List Token) (h : HasValue ts) (r : Option (List Token)) → ((j : json.Json) → BeginsWith ts j → MatchOption r (found.as_array j ≡ None) (λ us. (js : json.Items) × (j ≡ json.array js) × InItems us js)) → option_map placed_items r ≡ as_array (placed ts)
list_found ts h r f = go r (f h.0 h.1)
  where
    go : (o : Option (List Token)) → MatchOption o (found.as_array h.0 ≡ None) (λ us. (js : json.Items) × (h.0 ≡ json.array js) × InItems us js) → option_map placed_items o ≡ as_array (placed ts)
    go None e = sym (ap as_array (placed_is ts h.0 h.1) ∙ sym (listed h.0) ∙ ap (option_map items_of) e)
    go (Some us) p = ap Some (placed_items_are us p.0 p.2) ∙ sym (ap as_array (placed_is ts h.0 h.1) ∙ ap (λ i. as_array (data_of i)) p.1)

pub placed_list : (ts : List Token) → HasFirst ts → (r : Option (List Token)) → ((j : json.Json) → BeginsWith ts j → MatchOption r (found.as_array j ≡ None) (λ us. (js : json.Items) × (j ≡ json.array js) × InItems us js)) → option_map placed_items r ≡ as_array (placed ts)
placed_list ts first r f = list_found ts (begins ts first) r f

pub list_inner : (ts : List Token) → HasFirst ts → (us : List Token) → ((j : json.Json) → BeginsWith ts j → MatchOption (Some us) (found.as_array j ≡ None) (λ vs. (js : json.Items) × (j ≡ json.array js) × InItems vs js)) → HasInner us
list_inner ts first us f =
    let h = begins ts first in
    let p = f h.0 h.1 in
    has_inner us p.0 p.2

-- ---- objects

object_found : (ts : List Token) (h : HasValue ts) (r : Option (List Token)) → ((j : json.Json) → BeginsWith ts j → MatchOption r (found.as_object j ≡ None) (λ us. (ms : json.Members) × (j ≡ json.object ms) × InMembers us ms)) → is_some r ≡ is_some (as_object (placed ts))
object_found ts h r f = go r (f h.0 h.1)
  where
    go : (o : Option (List Token)) → MatchOption o (found.as_object h.0 ≡ None) (λ us. (ms : json.Members) × (h.0 ≡ json.object ms) × InMembers us ms) → is_some o ≡ is_some (as_object (placed ts))
    go None e = sym (ap (λ d. is_some (as_object d)) (placed_is ts h.0 h.1) ∙ ap is_some (sym (objects h.0)) ∙ ap (λ o. is_some (option_map from_none o)) e)
    go (Some us) p = sym (ap (λ d. is_some (as_object d)) (placed_is ts h.0 h.1) ∙ ap (λ i. is_some (as_object (data_of i))) p.1)

pub placed_object : (ts : List Token) → HasFirst ts → (r : Option (List Token)) → ((j : json.Json) → BeginsWith ts j → MatchOption r (found.as_object j ≡ None) (λ us. (ms : json.Members) × (j ≡ json.object ms) × InMembers us ms)) → is_some r ≡ is_some (as_object (placed ts))
placed_object ts first r f = object_found ts (begins ts first) r f

-- ---- sizes

first_size_is : (ts : List Token) (j : json.Json) → BeginsWith ts j → first_size ts ≡ length (json_tokens j)
unfolding first_size
first_size_is ts j h = ap (λ o. length (json_tokens (value_or_null o))) (first_value ts j h)

inner_size_is : (ts : List Token) (js : json.Items) → InItems ts js → inner_size ts ≡ length (items_tokens js)
unfolding inner_size
inner_size_is ts js h = ap (λ o. length (items_tokens (items_or_none o))) (first_items ts js h)

-- what a text begins with is no longer than the text
pub root_small : (ts : List Token) → HasValue ts → first_size ts ≤ length ts
root_small ts h =
    let back : ts ≡ json_tokens h.0 ++ h.1.1 = value-json_tokens_back h.1.0 ts h.1.1 h.0 h.1.2 in
    let long : length ts ≡ length (json_tokens h.0 ++ h.1.1) = ap length back in
    omega (arith, first_size_is ts h.0 h.1, length-append (json_tokens h.0) h.1.1, long)

member_small : (name : List ℕ) (ms : json.Members) (i : json.Json) → found.get_member name ms ≡ Some i → length (json_tokens i) ≤ length (members_tokens ms)
member_small name json.no_members i e = absurd cc
member_small name (json.member k j ms) i e = go (λ l f. member_small name ms l f) (found.get_member name ms) refl (bytes_eq k name) e
  where
    go : ((l : json.Json) → found.get_member name ms ≡ Some l → length (json_tokens l) ≤ length (members_tokens ms)) → (o : Option json.Json) → found.get_member name ms ≡ o → (b : Bool) → found.later_or o (cond b (Some j) None) ≡ Some i → length (json_tokens i) ≤ length (members_tokens (json.member k j ms))
    go again (Some l) f b h =
        let same : l ≡ i = Some_inj l i h in
        subst (λ x. length (json_tokens x) ≤ length (members_tokens (json.member k j ms))) same (omega (arith, again l f, length-append (json_tokens j) (members_tokens ms)))
    go again None f true h =
        let same : j ≡ i = Some_inj j i h in
        subst (λ x. length (json_tokens x) ≤ length (members_tokens (json.member k j ms))) same (omega (arith, length-append (json_tokens j) (members_tokens ms)))
    go again None f false h = absurd cc

get_small : (name : List ℕ) (j i : json.Json) → found.get name j ≡ Some i → length (json_tokens i) ≤ length (json_tokens j)
get_small name json.null i e = absurd cc
get_small name (json.boolean b) i e = absurd cc
get_small name (json.number s) i e = absurd cc
get_small name (json.string s) i e = absurd cc
get_small name (json.array js) i e = absurd cc
get_small name (json.object ms) i e = omega (arith, member_small name ms i e)

pub found_small : (name : List ℕ) (ts : List Token) → HasFirst ts → (us : List Token) (most : ℕ) → first_size ts ≤ most → ((j : json.Json) → BeginsWith ts j → Finds (Some us) (found.get name j)) → first_size us ≤ most
found_small name ts first us most le f =
    let h = begins ts first in
    let p = f h.0 h.1 in
    omega (arith, le, first_size_is ts h.0 h.1, first_size_is us p.0 p.2, get_small name h.0 p.0 p.1)

array_small : (j : json.Json) (js : json.Items) → j ≡ json.array js → length (items_tokens js) ≤ length (json_tokens j)
array_small j js e = subst (λ i. length (items_tokens js) ≤ length (json_tokens i)) (sym e) (omega arith)

pub list_small : (ts : List Token) → HasFirst ts → (us : List Token) (most : ℕ) → first_size ts ≤ most → ((j : json.Json) → BeginsWith ts j → MatchOption (Some us) (found.as_array j ≡ None) (λ vs. (js : json.Items) × (j ≡ json.array js) × InItems vs js)) → 0 + inner_size us ≤ most
list_small ts first us most le f =
    let h = begins ts first in
    let p = f h.0 h.1 in
    omega (arith, le, first_size_is ts h.0 h.1, inner_size_is us p.0 p.2, array_small h.0 p.0 p.1)

item_size : (j : json.Json) (js is : json.Items) → is ≡ json.item j js → length (items_tokens is) ≡ length (json_tokens j) + length (items_tokens js)
item_size j js is e = subst (λ i. length (items_tokens i) ≡ length (json_tokens j) + length (items_tokens js)) (sym e) (length-append (json_tokens j) (items_tokens js))

-- the next item and those after it take up what there was
pub next_size : (old new at : List Token) → HasInner old → NextItem old (Some at) new → (inner_size old ≡ first_size at + inner_size new) × (0 < first_size at)
next_size old new at h f =
    let i = inner old h in
    let p = f i.0 i.1 in
    let whole : length (items_tokens i.0) ≡ length (json_tokens p.0) + length (items_tokens p.1) = item_size p.0 p.1 i.0 p.2 in
    (omega (arith, whole, inner_size_is old i.0 i.1, first_size_is at p.0 p.3, inner_size_is new p.1 p.4), omega (arith, first_size_is at p.0 p.3, some_token p.0))

pub next_stays : (old new : List Token) → new ≡ old → inner_size new ≡ inner_size old
next_stays old new e = ap inner_size e

-- ---- the one name of an object's members

abbrev name_in : json.Members → List ℕ → Data → Option (List ℕ)
name_in ms k d = name_of (only_of (Some (members_of ms (member k d no_members))))

-- behind a member of this name, the members that tokens begin with make it that name
abbrev pub Going : List Token → List ℕ → Option (List ℕ) → Type 0
Going us k g = (ms : json.Members) × (d : Data) × InMembers us ms × (name_in ms k d ≡ g)

abbrev HasMembers : List Token → Option (List Token) → Type 0
HasMembers ts r = (j : json.Json) → BeginsWith ts j → MatchOption r (found.as_object j ≡ None) (λ us. (ms : json.Members) × (j ≡ json.object ms) × InMembers us ms)

object_is : (ts : List Token) → HasFirst ts → (us : List Token) → HasMembers ts (Some us) → (ms : json.Members) × InMembers us ms × (as_object (placed ts) ≡ Some (from_none ms))
object_is ts first us f =
    let h = begins ts first in
    let p = f h.0 h.1 in
    (p.0, p.2, ap as_object (placed_is ts h.0 h.1) ∙ ap (λ i. as_object (data_of i)) p.1)

pub no_name : (ts : List Token) → HasFirst ts → HasMembers ts None → None ≡ name_of (only_of (as_object (placed ts)))
no_name ts first f =
    let h = begins ts first in
    sym (ap (λ d. name_of (only_of (as_object d))) (placed_is ts h.0 h.1) ∙ ap (λ o. name_of (only_of o)) (sym (objects h.0)) ∙ ap (λ o. name_of (only_of (option_map from_none o))) (f h.0 h.1))

pub empty_name : (ts : List Token) → HasFirst ts → (us new : List Token) → HasMembers ts (Some us) → NextMember us None new → None ≡ name_of (only_of (as_object (placed ts)))
empty_name ts first us new f next =
    let o = object_is ts first us f in
    let none : o.0 ≡ json.no_members = next o.0 o.1 in
    sym (ap (λ m. name_of (only_of m)) o.2 ∙ ap (λ ms. name_of (only_of (Some (from_none ms)))) none)

pub going_start : (ts : List Token) → HasFirst ts → (us new at : List Token) (k : List ℕ) → HasMembers ts (Some us) → NextMember us (Some (k, at)) new → Going new k (name_of (only_of (as_object (placed ts))))
going_start ts first us new at k f next =
    let o = object_is ts first us f in
    let p = next o.0 o.1 in
    (p.1, data_of p.0, p.4, sym (ap (λ m. name_of (only_of m)) o.2 ∙ ap (λ ms. name_of (only_of (Some (from_none ms)))) p.2))

pub going_other : (us new at : List Token) (k l : List ℕ) (g : Option (List ℕ)) → Going us k g → NextMember us (Some (l, at)) new → (l ≡ k → ⊥) → None ≡ g
going_other us new at k l g h next other =
    let p = next h.0 h.2 in
    sym (ap name_of (other_name k l p.0 h.1 p.1 other)) ∙ sym (ap (λ ms. name_in ms k h.1) p.2) ∙ h.3

pub going_same : (us new at : List Token) (k l : List ℕ) (g : Option (List ℕ)) → Going us k g → NextMember us (Some (l, at)) new → l ≡ k → Going new k g
going_same us new at k l g h next same =
    let p = next h.0 h.2 in
    (p.1, data_of p.0, p.4, sym (ap (λ ms. name_of (only_of (Some ms))) (same_name k l p.0 h.1 p.1 same)) ∙ sym (ap (λ ms. name_in ms k h.1) p.2) ∙ h.3)

pub going_end : (us new : List Token) (k : List ℕ) (g : Option (List ℕ)) → Going us k g → NextMember us None new → Some k ≡ g
going_end us new k g h next =
    let none : h.0 ≡ json.no_members = next h.0 h.2 in
    sym (ap (λ ms. name_in ms k h.1) none) ∙ h.3

-- ---- depth and numbers

all_of : (a b c d x m : Bool) → m ≡ (a && c) → (a && (b && (c && (d && x)))) ≡ (m && ((b && d) && x))
all_of a b c d x m e = subst (λ (k : Bool). (a && (b && (c && (d && x)))) ≡ (k && ((b && d) && x))) (sym e) (go a b c d)
  where
    go : (a b c d : Bool) → (a && (b && (c && (d && x)))) ≡ ((a && c) && ((b && d) && x))
    go false b c d = refl
    go true false false d = refl
    go true false true d = refl
    go true true false d = refl
    go true true true d = refl

within_both : (k p q : ℕ) → nat_le (k + max p q) 127 ≡ (nat_le (k + p) 127 && nat_le (k + q) 127)
within_both k p q = go (nat_le (k + p) 127) (nat_le (k + q) 127) refl refl
  where
    go : (a b : Bool) → nat_le (k + p) 127 ≡ a → nat_le (k + q) 127 ≡ b → nat_le (k + max p q) 127 ≡ (a && b)
    go false b e f = grind (arith, nat_tests)
    go true false e f = grind (arith, nat_tests)
    go true true e f = grind (arith, nat_tests)

within_one : (n : ℕ) → n ≤ 127 → nat_le (n + 0) 127 ≡ true
within_one n le = grind (arith, nat_tests)

-- one more that is open, before what is true of the rest
opens : (n d : ℕ) (x y : Bool) → (n < 127 → x ≡ (nat_le ((n + 1) + d) 127 && y)) → (nat_lt n 127 && x) ≡ (nat_le (n + suc d) 127 && y)
opens n d x y f = go (nat_lt n 127) refl
  where
    go : (b : Bool) → nat_lt n 127 ≡ b → (b && x) ≡ (nat_le (n + suc d) 127 && y)
    go true e =
        let less : n < 127 = grind (arith, nat_tests) in
        let same : (n + 1) + d ≡ n + suc d = omega arith in
        f less ∙ ap (λ k. nat_le k 127 && y) same
    go false e = let far : nat_le (n + suc d) 127 ≡ false = grind (arith, nat_tests) in sym (ap (λ (b : Bool). b && y) far)

closes : (n : ℕ) (ts : List Token) → n < 127 → is_fit ((n + 1) - 1) ts ≡ (nat_le ((n + 1) + 0) 127 && is_fit n ts)
closes n ts lt =
    let same : (n + 1) - 1 ≡ n = omega arith in
    let near : nat_le ((n + 1) + 0) 127 ≡ true = grind (arith, nat_tests) in
    ap (λ k. is_fit k ts) same ∙ sym (ap (λ (b : Bool). b && is_fit n ts) near)

mutual
  fit_value : (j : json.Json) (n : ℕ) (rest : List Token) → n ≤ 127 → is_fit n (json_tokens j ++ rest) ≡ (nat_le (n + depth j) 127 && (in_range j && is_fit n rest))
  fit_value json.null n rest le = sym (ap (λ (b : Bool). b && is_fit n rest) (within_one n le))
  fit_value (json.boolean b) n rest le = sym (ap (λ (b : Bool). b && is_fit n rest) (within_one n le))
  fit_value (json.number s) n rest le = sym (ap (λ (b : Bool). b && (is_some (number_of s) && is_fit n rest)) (within_one n le))
  fit_value (json.string s) n rest le = sym (ap (λ (b : Bool). b && is_fit n rest) (within_one n le))
  fit_value (json.array js) n rest le = opens n (items_depth js) (is_fit (n + 1) (items_tokens js ++ rest)) (items_in_range js && is_fit n rest) (fit_items js n rest)
  fit_value (json.object ms) n rest le = opens n (members_depth ms) (is_fit (n + 1) (members_tokens ms ++ rest)) (members_in_range ms && is_fit n rest) (fit_members ms n rest)

  fit_items : (js : json.Items) (n : ℕ) (rest : List Token) → n < 127 → is_fit (n + 1) (items_tokens js ++ rest) ≡ (nat_le ((n + 1) + items_depth js) 127 && (items_in_range js && is_fit n rest))
  fit_items json.no_items n rest lt = closes n rest lt
  fit_items (json.item j js) n rest lt =
      ap (is_fit (n + 1)) (append_assoc (json_tokens j) (items_tokens js) rest)
      ∙ fit_value j (n + 1) (items_tokens js ++ rest) (omega arith)
      ∙ ap (λ (b : Bool). nat_le ((n + 1) + depth j) 127 && (in_range j && b)) (fit_items js n rest lt)
      ∙ all_of (nat_le ((n + 1) + depth j) 127) (in_range j) (nat_le ((n + 1) + items_depth js) 127) (items_in_range js) (is_fit n rest) (nat_le ((n + 1) + max (depth j) (items_depth js)) 127) (within_both (n + 1) (depth j) (items_depth js))

  fit_members : (ms : json.Members) (n : ℕ) (rest : List Token) → n < 127 → is_fit (n + 1) (members_tokens ms ++ rest) ≡ (nat_le ((n + 1) + members_depth ms) 127 && (members_in_range ms && is_fit n rest))
  fit_members json.no_members n rest lt = closes n rest lt
  fit_members (json.member k j ms) n rest lt =
      ap (is_fit (n + 1)) (append_assoc (json_tokens j) (members_tokens ms) rest)
      ∙ fit_value j (n + 1) (members_tokens ms ++ rest) (omega arith)
      ∙ ap (λ (b : Bool). nat_le ((n + 1) + depth j) 127 && (in_range j && b)) (fit_members ms n rest lt)
      ∙ all_of (nat_le ((n + 1) + depth j) 127) (in_range j) (nat_le ((n + 1) + members_depth ms) 127) (members_in_range ms) (is_fit n rest) (nat_le ((n + 1) + max (depth j) (members_depth ms)) 127) (within_both (n + 1) (depth j) (members_depth ms))

-- ---- token by token

abbrev pub fit_on : Option ℕ → List Token → Bool
fit_on None ts = false
fit_on (Some n) ts = is_fit n ts

fit_if : (b : Bool) (n : ℕ) (ts : List Token) → (b && is_fit n ts) ≡ fit_on (if b then Some n else None) ts
fit_if false n ts = refl
fit_if true n ts = refl

pub fit_step : (n : ℕ) (t : Token) (ts : List Token) → is_fit n (t ∷ ts) ≡ fit_on (after_token n t) ts
fit_step n token.begin_object ts = fit_if (nat_lt n 127) (n + 1) ts
fit_step n token.end_object ts = refl
fit_step n token.begin_array ts = fit_if (nat_lt n 127) (n + 1) ts
fit_step n token.end_array ts = refl
fit_step n (token.key s) ts = refl
fit_step n (token.string s) ts = refl
fit_step n (token.number s) ts = fit_if (is_some (number_of s)) n ts
fit_step n (token.boolean b) ts = refl
fit_step n token.null ts = refl
fit_step n token.bad ts = refl

-- ---- a whole text

and_none : (a b : Bool) → (a && (b && true)) ≡ (a && b)
and_none false b = refl
and_none true false = refl
and_none true true = refl

from_zero : (n : ℕ) → 0 + n ≡ n
from_zero n = omega arith

fit_whole : (j : json.Json) → is_fit 0 (json_tokens j) ≡ (nat_le (depth j) 127 && in_range j)
fit_whole j = ap (is_fit 0) (sym (append-nil (json_tokens j))) ∙ fit_value j 0 [] (omega arith) ∙ ap (λ k. nat_le k 127 && (in_range j && true)) (from_zero (depth j)) ∙ and_none (nat_le (depth j) 127) (in_range j)

-- what the tokens of a value are read as
whole_of : (j : json.Json) → option_and_then serde.of_json (option_and_then (λ p. json.if_last p.0 p.1) (json.value 127 (json_tokens j))) ≡ if_so (nat_le (depth j) 127 && in_range j) (data_of j)
whole_of j = go (nat_le (depth j) 127) refl
  where
    whole : Option (json.Json × List Token) → Option Data
    whole o = option_and_then serde.of_json (option_and_then (λ p. json.if_last p.0 p.1) o)

    shallow : depth j ≤ 127 → json.value 127 (json_tokens j) ≡ Some (j, [])
    shallow le = ap (json.value 127) (sym (append-nil (json_tokens j))) ∙ value-json_tokens j 127 [] le

    deep : (127 < depth j) → (o : Option (json.Json × List Token)) → json.value 127 (json_tokens j) ≡ o → whole o ≡ None
    deep lt None e = refl
    deep lt (Some p) e =
        let all : json.value (depth j) (json_tokens j) ≡ Some (j, []) = ap (json.value (depth j)) (sym (append-nil (json_tokens j))) ∙ value-json_tokens j (depth j) [] (omega arith) in
        let same : p ≡ (j, []) = Some_inj _ _ (one_reading 127 (depth j) (json_tokens j) p (j, []) e all) in
        let most : depth p.0 ≤ 127 = value-depth 127 (json_tokens j) p.1 p.0 e in
        let first : p.0 ≡ j = ap (λ q. q.0) same in
        let less : depth j ≤ 127 = subst (λ i. depth i ≤ 127) first most in
        absurd (omega (arith, less, lt))

    go : (b : Bool) → nat_le (depth j) 127 ≡ b → whole (json.value 127 (json_tokens j)) ≡ if_so (b && in_range j) (data_of j)
    go true e =
        let le : depth j ≤ 127 = grind (arith, nat_tests) in
        ap whole (shallow le) ∙ of_json-seen j
    go false e =
        let lt : 127 < depth j = grind (arith, nat_tests) in
        deep lt (json.value 127 (json_tokens j)) refl

-- what `serde_json` reads in a text that has a value
pub read_placed : (text : List ℕ) (j : json.Json) → json.document text ≡ Some j → serde.read text ≡ if_so (is_fit 0 (tokens text)) (placed (tokens text))
read_placed text j e =
    let spelled : tokens text ≡ json_tokens j = tokens-document text j e in
    let fit : is_fit 0 (tokens text) ≡ (nat_le (depth j) 127 && in_range j) = ap (is_fit 0) spelled ∙ fit_whole j in
    let seen : placed (tokens text) ≡ data_of j = placed_is (tokens text) j (document-BeginsWith text j e) in
    ap (λ ts. option_and_then serde.of_json (option_and_then (λ p. json.if_last p.0 p.1) (json.value 127 ts))) spelled
    ∙ whole_of j
    ∙ sym (ap (λ b. if_so b (placed (tokens text))) fit ∙ ap (if_so (nat_le (depth j) 127 && in_range j)) seen)

-- a text that has none
pub read_no_value : (text : List ℕ) → json.document text ≡ None → serde.read text ≡ None
read_no_value text none = go (json.value 127 (tokens text)) refl
  where
    whole : Option (json.Json × List Token) → Option Data
    whole o = option_and_then serde.of_json (option_and_then (λ p. json.if_last p.0 p.1) o)

    go : (o : Option (json.Json × List Token)) → json.value 127 (tokens text) ≡ o → whole o ≡ None
    go None e = refl
    go (Some (j, t ∷ ts)) e = refl
    go (Some (j, [])) e =
        let back : tokens text ≡ json_tokens j ++ [] = value-json_tokens_back 127 (tokens text) [] j e in
        let most : depth j ≤ 127 = value-depth 127 (tokens text) [] j e in
        let read : json.value 128 (tokens text) ≡ Some (j, []) = ap (json.value 128) back ∙ value-json_tokens j 128 [] (omega (arith, most)) in
        let found : Some j ≡ None = sym (ap (λ o. option_and_then (λ p. json.if_last p.0 p.1) o) read) ∙ none in
        absurd cc

-- a text that has a value, whose tokens were looked at
pub read_some : (text : List ℕ) (ts : List Token) (b : Bool) → ts ≡ tokens text → IsSome (json.document text) → b ≡ is_fit 0 ts → serde.read text ≡ if_so b (placed ts)
read_some text ts b same some fit = go (json.document text) refl some
  where
    go : (o : Option json.Json) → json.document text ≡ o → IsSome o → serde.read text ≡ if_so b (placed ts)
    go None e h = absurd (true≢false (sym h))
    go (Some j) e h = read_placed text j e ∙ ap (λ us. if_so (is_fit 0 us) (placed us)) (sym same) ∙ ap (λ k. if_so k (placed ts)) (sym fit)

-- what is told where no value was read
pub none_read : {E : Type 0} (r : Result (Option (List Token)) E) (text : List ℕ) (why : Error) → IfOk r (λ o. (o ≡ None) × (why ≡ error.Invalid)) → (why ≡ error.Invalid → json.document text ≡ None) → IfOk r (λ o. option_map placed o ≡ serde.read text)
none_read (Ok o) text why h f = ap (option_map placed) h.0 ∙ sym (read_no_value text (f h.1))
none_read (Err e) text why h f = tt
