-- Trees of texts alone, with the members of each object in order, are read back from their text.
use Rattle.std.proofs.Common.{◌≡◌, ◌≤◌, ℕ, zero, suc, Bool, true, false, true≢false, ◌&&◌, List, [], ◌∷◌, ◌++◌, append-nil, Option, Some, option_map, Ordering, refl, sym, ap, ◌∙◌, IsUtf8, arith}
use Rattle.std.specs.Ordering.{nat_cmp, match_ordering}
use Rattle.std.specs.declared.cmp.Ordering.TheVariants.{Less, Equal, Greater}
use Rattle.std.specs.Cmp.Lexicographic.{slice_cmp}
use Rattle.std.specs.Option.{option_and_then}
use Rattle.std.specs.Str.{is_utf8}
use Rattle.std.proofs.lemmas.Bool.{and_parts}
use Rattle.std.proofs.lemmas.Str.{IsUtf8-append, IsUtf8-from_is_utf8}
use Rattle.json.specs.Tree as tree
use Rattle.json.specs.Token.{Token}
use Rattle.json.specs.Lex.{tokens}
use Rattle.json.specs.Json as json
use Rattle.json.specs.Print.{quoted}
use Rattle.json.proofs.Printed.Tokens.{tokens-print}
use Rattle.json.proofs.Printed.Trees.{value-json_tokens, ArePrintable-json_tokens}
use Rattle.json.proofs.Printed.Utf8.{are_ascii, IsUtf8-are_ascii, IsUtf8-quoted}
use Rattle.serde_json.specs.Data.{Data, null, boolean, number, string, array, object, Items, no_items, item, Members, no_members, member, put}
use Rattle.serde_json.specs.Read.{read, of_json, of_items, of_members}
use Rattle.serde_json.specs.Written.{outline, items_outline, members_outline, comma_if, compact_text, items_text, members_text}
use Rattle.serde_json.proofs.Texts.{print-outline}

-- ---- the tree of a written tree

abbrev whole : Option (json.Json × List Token) → Option Data
whole r = option_and_then of_json (option_and_then (λ p. json.if_last p.0 p.1) r)

again : (d : Data) → tree.HasNumbers (outline d) → tree.depth (outline d) ≤ 127 → of_json (outline d) ≡ Some d → read (compact_text d) ≡ Some d
again d numbers shallow o =
    let ts = tree.json_tokens (outline d) in
    let same : tokens (compact_text d) ≡ ts ++ [] = ap tokens (sym (print-outline d)) ∙ tokens-print ts (ArePrintable-json_tokens (outline d) numbers) ∙ sym (append-nil ts) in
    ap (λ l. whole (json.value 127 l)) same ∙ ap whole (value-json_tokens (outline d) 127 [] shallow) ∙ o

-- ---- trees that are well

abbrev pub is_greater : Ordering → Bool
is_greater Less = false
is_greater Equal = false
is_greater Greater = true

-- a name comes after each of these
abbrev pub after : List ℕ → Members → Bool
after k no_members = true
after k (member l e ms) = is_greater (slice_cmp nat_cmp k l) && after k ms

-- one member more, at the end
abbrev pub pushed : List ℕ → Data → Members → Members
pushed k d no_members = member k d no_members
pushed k d (member l e ms) = member l e (pushed k d ms)

abbrev pub joined : Members → Members → Members
joined no_members ms = ms
joined (member l e f) ms = member l e (joined f ms)

-- texts alone, in objects whose members are in order and lists, nested at most so deep
abbrev mutual
  pub well : ℕ → Data → Bool
  well n null = false
  well n (boolean b) = false
  well n (number x) = false
  well n (string s) = is_utf8 s
  well zero (array ds) = false
  well (suc n) (array ds) = items_well n ds
  well zero (object ms) = false
  well (suc n) (object ms) = members_well n no_members ms

  pub items_well : ℕ → Items → Bool
  items_well n no_items = true
  items_well n (item d ds) = well n d && items_well n ds

  pub members_well : ℕ → Members → Members → Bool
  members_well n found no_members = true
  members_well n found (member k d ms) = are_ascii k && (after k found && (well n d && members_well n (pushed k d found) ms))

greater : (o : Ordering) → is_greater o ≡ true → o ≡ Greater
greater Less e = absurd (true≢false (sym e))
greater Equal e = absurd (true≢false (sym e))
greater Greater e = refl

put_after : (k : List ℕ) (d : Data) (found : Members) → after k found ≡ true → put k d found ≡ pushed k d found
put_after k d no_members e = refl
put_after k d (member l x ms) e =
    let p = and_parts (is_greater (slice_cmp nat_cmp k l)) (after k ms) e in
    ap (λ (o : Ordering). match_ordering o (member k d (member l x ms)) (member l d ms) (member l x (put k d ms))) (greater (slice_cmp nat_cmp k l) p.0)
    ∙ ap (member l x) (put_after k d ms p.1)

joined_pushed : (k : List ℕ) (d : Data) (found ms : Members) → joined (pushed k d found) ms ≡ joined found (member k d ms)
joined_pushed k d no_members ms = refl
joined_pushed k d (member l x f) ms = ap (member l x) (joined_pushed k d f ms)

joined_end : (found : Members) → joined found no_members ≡ found
joined_end no_members = refl
joined_end (member l x f) = ap (member l x) (joined_end f)

-- ---- the tree of its outline

mutual
  back : (n : ℕ) (d : Data) → well n d ≡ true → of_json (outline d) ≡ Some d
  back n null e = refl
  back n (boolean b) e = refl
  back n (number x) e = absurd (true≢false (sym e))
  back n (string s) e = refl
  back zero (array ds) e = absurd (true≢false (sym e))
  back (suc n) (array ds) e = ap (option_map array) (items_back n ds e)
  back zero (object ms) e = absurd (true≢false (sym e))
  back (suc n) (object ms) e = ap (option_map object) (members_back n no_members ms e)

  items_back : (n : ℕ) (ds : Items) → items_well n ds ≡ true → of_items (items_outline ds) ≡ Some ds
  items_back n no_items e = refl
  items_back n (item d ds) e =
      let p = and_parts (well n d) (items_well n ds) e in
      rw (back n d p.0, items_back n ds p.1) refl

  members_back : (n : ℕ) (found ms : Members) → members_well n found ms ≡ true → of_members (members_outline ms) found ≡ Some (joined found ms)
  members_back n found no_members e = ap Some (sym (joined_end found))
  members_back n found (member k d ms) e =
      let p = and_parts (are_ascii k) (after k found && (well n d && members_well n (pushed k d found) ms)) e in
      let q = and_parts (after k found) (well n d && members_well n (pushed k d found) ms) p.1 in
      let r = and_parts (well n d) (members_well n (pushed k d found) ms) q.1 in
      rw (back n d r.0) (ap (of_members (members_outline ms)) (put_after k d found q.0) ∙ members_back n (pushed k d found) ms r.1 ∙ ap Some (joined_pushed k d found ms))

-- ---- it has no numbers

mutual
  numbers : (n : ℕ) (d : Data) → well n d ≡ true → tree.HasNumbers (outline d)
  numbers n null e = tt
  numbers n (boolean b) e = tt
  numbers n (number x) e = absurd (true≢false (sym e))
  numbers n (string s) e = tt
  numbers zero (array ds) e = absurd (true≢false (sym e))
  numbers (suc n) (array ds) e = items_numbers n ds e
  numbers zero (object ms) e = absurd (true≢false (sym e))
  numbers (suc n) (object ms) e = members_numbers n no_members ms e

  items_numbers : (n : ℕ) (ds : Items) → items_well n ds ≡ true → tree.ItemsHaveNumbers (items_outline ds)
  items_numbers n no_items e = tt
  items_numbers n (item d ds) e =
      let p = and_parts (well n d) (items_well n ds) e in
      (numbers n d p.0, items_numbers n ds p.1)

  members_numbers : (n : ℕ) (found ms : Members) → members_well n found ms ≡ true → tree.MembersHaveNumbers (members_outline ms)
  members_numbers n found no_members e = tt
  members_numbers n found (member k d ms) e =
      let p = and_parts (are_ascii k) (after k found && (well n d && members_well n (pushed k d found) ms)) e in
      let q = and_parts (after k found) (well n d && members_well n (pushed k d found) ms) p.1 in
      let r = and_parts (well n d) (members_well n (pushed k d found) ms) q.1 in
      (numbers n d r.0, members_numbers n (pushed k d found) ms r.1)

-- ---- it nests no deeper

mutual
  shallow : (n : ℕ) (d : Data) → well n d ≡ true → tree.depth (outline d) ≤ n
  shallow n null e = omega arith
  shallow n (boolean b) e = omega arith
  shallow n (number x) e = absurd (true≢false (sym e))
  shallow n (string s) e = omega arith
  shallow zero (array ds) e = absurd (true≢false (sym e))
  shallow (suc n) (array ds) e = omega (arith, items_shallow n ds e)
  shallow zero (object ms) e = absurd (true≢false (sym e))
  shallow (suc n) (object ms) e = omega (arith, members_shallow n no_members ms e)

  items_shallow : (n : ℕ) (ds : Items) → items_well n ds ≡ true → tree.items_depth (items_outline ds) ≤ n
  items_shallow n no_items e = omega arith
  items_shallow n (item d ds) e =
      let p = and_parts (well n d) (items_well n ds) e in
      omega (arith, shallow n d p.0, items_shallow n ds p.1)

  members_shallow : (n : ℕ) (found ms : Members) → members_well n found ms ≡ true → tree.members_depth (members_outline ms) ≤ n
  members_shallow n found no_members e = omega arith
  members_shallow n found (member k d ms) e =
      let p = and_parts (are_ascii k) (after k found && (well n d && members_well n (pushed k d found) ms)) e in
      let q = and_parts (after k found) (well n d && members_well n (pushed k d found) ms) p.1 in
      let r = and_parts (well n d) (members_well n (pushed k d found) ms) q.1 in
      omega (arith, shallow n d r.0, members_shallow n (pushed k d found) ms r.1)

-- ---- its text is UTF-8

front_utf8 : (c : ℕ) (s : List ℕ) → are_ascii (c ∷ []) ≡ true → IsUtf8 s → IsUtf8 (c ∷ s)
front_utf8 c s e u = IsUtf8-append (c ∷ []) s (IsUtf8-are_ascii (c ∷ []) e) u

comma_utf8 : (b : Bool) → IsUtf8 (comma_if b)
comma_utf8 true = IsUtf8-are_ascii (44 ∷ []) refl
comma_utf8 false = IsUtf8-are_ascii [] refl

mutual
  utf8 : (n : ℕ) (d : Data) → well n d ≡ true → IsUtf8 (compact_text d)
  utf8 n null e = absurd (true≢false (sym e))
  utf8 n (boolean b) e = absurd (true≢false (sym e))
  utf8 n (number x) e = absurd (true≢false (sym e))
  utf8 n (string s) e = IsUtf8-quoted s (IsUtf8-from_is_utf8 s e)
  utf8 zero (array ds) e = absurd (true≢false (sym e))
  utf8 (suc n) (array ds) e = front_utf8 91 (items_text false ds) refl (items_utf8 n false ds e)
  utf8 zero (object ms) e = absurd (true≢false (sym e))
  utf8 (suc n) (object ms) e = front_utf8 123 (members_text false ms) refl (members_utf8 n false no_members ms e)

  items_utf8 : (n : ℕ) (b : Bool) (ds : Items) → items_well n ds ≡ true → IsUtf8 (items_text b ds)
  items_utf8 n b no_items e = IsUtf8-are_ascii (93 ∷ []) refl
  items_utf8 n b (item d ds) e =
      let p = and_parts (well n d) (items_well n ds) e in
      IsUtf8-append (comma_if b) (compact_text d ++ items_text true ds) (comma_utf8 b) (IsUtf8-append (compact_text d) (items_text true ds) (utf8 n d p.0) (items_utf8 n true ds p.1))

  members_utf8 : (n : ℕ) (b : Bool) (found ms : Members) → members_well n found ms ≡ true → IsUtf8 (members_text b ms)
  members_utf8 n b found no_members e = IsUtf8-are_ascii (125 ∷ []) refl
  members_utf8 n b found (member k d ms) e =
      let p = and_parts (are_ascii k) (after k found && (well n d && members_well n (pushed k d found) ms)) e in
      let q = and_parts (after k found) (well n d && members_well n (pushed k d found) ms) p.1 in
      let r = and_parts (well n d) (members_well n (pushed k d found) ms) q.1 in
      IsUtf8-append (comma_if b) (quoted k ++ 58 ∷ (compact_text d ++ members_text true ms)) (comma_utf8 b)
      (IsUtf8-append (quoted k) (58 ∷ (compact_text d ++ members_text true ms)) (IsUtf8-quoted k (IsUtf8-are_ascii k p.0))
      (front_utf8 58 (compact_text d ++ members_text true ms) refl
      (IsUtf8-append (compact_text d) (members_text true ms) (utf8 n d r.0) (members_utf8 n true (pushed k d found) ms r.1))))

pub well_utf8 : (n : ℕ) (d : Data) → well n d ≡ true → IsUtf8 (compact_text d)
well_utf8 n d e = utf8 n d e

pub well_again : (n : ℕ) (d : Data) → n ≤ 127 → well n d ≡ true → read (compact_text d) ≡ Some d
well_again n d le e = again d (numbers n d e) (omega (arith, shallow n d e)) (back n d e)
