-- What a search of the tree finds.
use Rattle.std.proofs.Common.{◌≡◌, ◌≢◌, ℕ, zero, suc, ◌+◌, ◌-◌, ◌*◌, ◌<◌, ◌≤◌, min, Bool, true, false, cond, nat_le, List, [], ◌∷◌, ◌++◌, length, get_or, take, drop, slice_get, Option, Some, None, refl, sym, ap, subst, ◌∙◌, arith, inl, inr, ◌⊎◌, append_assoc}
use Rattle.std.specs.Option.{option_map_or}
use Rattle.std.specs.Map.{values_of}
use Rattle.std.proofs.Math.Nat.{mul-le-mul_left}
use Rattle.std.proofs.Math.Seq.{take-add, drop-cons, drop-nil}
use Rattle.std.proofs.lemmas.Bool.{cases_lt}
use Rattle.std.proofs.lemmas.List.{drop_all, take_all, get_or-take, get_or-drop}
use Rattle.std.proofs.Math.ListN.{length-take, length-drop}
use Rattle.std.proofs.lemmas.Option.{slice_get_within, get_or_from_slice_get, slice_get_cases}
use Rattle.std.proofs.lemmas.Bool.Decides.{nat_tests}
use Rattle.upi_base.specs.Names.{Text}
use Rattle.expiry_clock.specs.Dues.{Rows, due_rows, least_of}
use Rattle.expiry_clock.specs.Tree.{span, IsTree, Indexes, IsGrown, rows_below}
use Rattle.expiry_clock.specs.declared.tree.TheConstants.{NEVER}
use Rattle.expiry_clock.proofs.Values.{value_at, length-values}

-- ---- where nodes stand

pub span_some : (height : ℕ) → 1 ≤ span height
span_some zero = omega arith
span_some (suc height) = omega (arith, span_some height)

-- a node whose leaves are all there has two nodes below it, where it is no leaf
pub node_within : (leaves node width : ℕ) → 1 ≤ width → (node + 1) * (width + width) ≤ leaves + leaves → node < leaves
node_within leaves node width some last =
    let more : (node + 1) * 1 ≤ (node + 1) * width = mul-le-mul_left (node + 1) some in
    omega arith

pub node_is_cell : (leaves node width : ℕ) → 1 ≤ width → (node + 1) * width ≤ leaves + leaves → node < leaves + leaves
node_is_cell leaves node width some last =
    let more : (node + 1) * 1 ≤ (node + 1) * width = mul-le-mul_left (node + 1) some in
    omega arith

-- ---- what is due

pub due_rows-append : (now : ℕ) (xs ys : Rows) → due_rows now (xs ++ ys) ≡ due_rows now xs ++ due_rows now ys
due_rows-append now [] ys = refl
due_rows-append now (r ∷ xs) ys = go (nat_le r.1 now) (due_rows-append now xs ys)
  where
    go : (b : Bool) → due_rows now (xs ++ ys) ≡ due_rows now xs ++ due_rows now ys
        → cond b ((r.1, r.0) ∷ due_rows now (xs ++ ys)) (due_rows now (xs ++ ys)) ≡ cond b ((r.1, r.0) ∷ due_rows now xs) (due_rows now xs) ++ due_rows now ys
    go true e = ap (λ (l : List (ℕ × Text)). (r.1, r.0) ∷ l) e
    go false e = e

not_due : (a b : ℕ) → b < a → nat_le a b ≡ false
not_due a b h = grind (arith, nat_tests)

is_due : (a b : ℕ) → a ≤ b → nat_le a b ≡ true
is_due a b h = grind (arith, nat_tests)

-- where each row is later, nothing is due
pub nothing_due : (now : ℕ) (xs : Rows) → ((k : ℕ) → k < length xs → now < get_or (values_of xs) k 0) → due_rows now xs ≡ []
nothing_due now [] late = refl
nothing_due now (r ∷ xs) late =
    ap (λ b. cond b ((r.1, r.0) ∷ due_rows now xs) (due_rows now xs)) (not_due r.1 now (late 0 (omega arith)))
    ∙ nothing_due now xs (λ k within. late (suc k) (omega arith))

-- one row that is due
pub one_due : (now i : ℕ) (rows : Rows) (txn : Text) (due : ℕ) → slice_get rows i ≡ Some (txn, due) → due ≤ now → due_rows now (take 1 (drop i rows)) ≡ (due, txn) ∷ []
one_due now i rows txn due at low =
    let row : Text × ℕ = (txn, due) in
    let cut : drop i rows ≡ row ∷ drop (suc i) rows = drop-cons rows i row (slice_get_within rows i row at) ∙ ap (λ (r : Text × ℕ). r ∷ drop (suc i) rows) (get_or_from_slice_get rows i row row at) in
    ap (λ (l : Rows). due_rows now (take 1 l)) cut ∙ ap (λ b. cond b ((due, txn) ∷ []) []) (is_due due now low)

-- a leaf behind the rows
pub none_due : (now i : ℕ) (rows : Rows) → slice_get rows i ≡ None → due_rows now (take 1 (drop i rows)) ≡ []
none_due now i rows at =
    elim (slice_get_cases rows i).1 [
      | inl h ↦ absurd (cc (h.2))
      | inr h ↦ ap (λ (l : Rows). due_rows now (take 1 l)) (drop_all i rows h.0)
    ]

-- ---- the rows below a node are those below the two nodes below it

drop-drop : (n m : ℕ) (xs : Rows) → drop n (drop m xs) ≡ drop (m + n) xs
drop-drop n zero xs = let e : n ≡ 0 + n = omega arith in ap (λ k. drop k xs) e
drop-drop n (suc m) [] = ap (drop n) (drop-nil (suc m)) ∙ drop-nil n ∙ sym (drop-nil (suc m + n))
drop-drop n (suc m) (x ∷ xs) = let e : suc (m + n) ≡ suc m + n = omega arith in drop-drop n m xs ∙ ap (λ k. drop k (x ∷ xs)) e

pub rows_split : (leaves node height : ℕ) (rows : Rows) → leaves ≤ node * span (suc height)
    → rows_below leaves node (suc height) rows ≡ rows_below leaves (2 * node) height rows ++ rows_below leaves (2 * node + 1) height rows
rows_split leaves node height rows first =
    let w : ℕ = span height in
    let f : ℕ = node * (w + w) - leaves in
    let left : f ≡ 2 * node * w - leaves = omega arith in
    let right : f + w ≡ (2 * node + 1) * w - leaves = omega arith in
    take-add w w (drop f rows) ∙ ap (λ (l : Rows). take w (drop f rows) ++ take w l) (drop-drop w f rows)
    ∙ λ i. take w (drop (left i) rows) ++ take w (drop (right i) rows)

-- ---- a node is no later than the leaves below it

pub below_node : (leaves height node : ℕ) (cells : List ℕ) → IsTree leaves cells → 0 < node → (node + 1) * span height ≤ leaves + leaves
    → (i : ℕ) → node * span height ≤ i → i < (node + 1) * span height → get_or cells node 0 ≤ get_or cells i 0
below_node leaves zero node cells tree some last i low high =
    let same : node ≡ i = omega arith in
    let le : get_or cells i 0 ≤ get_or cells i 0 = omega arith in
    subst (λ n. get_or cells n 0 ≤ get_or cells i 0) (sym same) le
below_node leaves (suc height) node cells tree some last i low high =
    let w : ℕ = span height in
    let here = tree.nodes node some (node_within leaves node w (span_some height) last) in
    elim (cases_lt i ((2 * node + 1) * w)) [
      | inl left ↦
          let below : get_or cells (2 * node) 0 ≤ get_or cells i 0 = below_node leaves height (2 * node) cells tree (omega arith) (omega arith) i (omega arith) left in
          omega (arith, here)
      | inr right ↦
          let below : get_or cells (2 * node + 1) 0 ≤ get_or cells i 0 = below_node leaves height (2 * node + 1) cells tree (omega arith) (omega arith) i right (omega arith) in
          omega (arith, here)
    ]

-- ---- where a node is later than the moment, nothing below it is due

pub pruned : (leaves node height now : ℕ) (cells : List ℕ) (rows : Rows) → Indexes leaves cells rows → 0 < node → leaves ≤ node * span height → (node + 1) * span height ≤ leaves + leaves
    → now < get_or cells node 0 → due_rows now (rows_below leaves node height rows) ≡ []
pruned leaves node height now cells rows h some first last late =
    let f : ℕ = node * span height - leaves in
    let xs : Rows = take (span height) (drop f rows) in
    let len : length xs ≤ span height = omega (arith, length-take (span height) (drop f rows)) in
    let len_too : length xs ≤ length rows - f = omega (arith, length-take (span height) (drop f rows), length-drop f rows) in
    nothing_due now xs (λ k within.
    let d : Text × ℕ = ([], 0) in
    let value : get_or (values_of xs) k 0 ≡ get_or (values_of rows) (f + k) 0
    = value_at xs k d within ∙ ap (λ (r : Text × ℕ). r.1) (get_or-take (span height) (drop f rows) k d (omega arith) ∙ get_or-drop f rows k d) ∙ sym (value_at rows (f + k) d (omega arith)) in
    let cell = h.moments (f + k) (omega arith) in
    let below = below_node leaves height node cells h.tree some last (leaves + (f + k)) (omega arith) (omega arith) in
    omega (arith, value, cell, below))

-- ---- the whole tree

pub below_root : (leaves height : ℕ) (rows : Rows) → span height ≡ leaves → length rows ≤ leaves → rows_below leaves 1 height rows ≡ rows
below_root leaves height rows spans room =
    let none : 1 * span height - leaves ≡ 0 = omega arith in
    ap (λ n. take (span height) (drop n rows)) none ∙ take_all (span height) rows (omega arith)

-- ---- the least

-- some leaf below a node has its number
pub attained : (leaves height node : ℕ) (cells : List ℕ) → IsTree leaves cells → 0 < node → (node + 1) * span height ≤ leaves + leaves
    → (i : ℕ) × (node * span height ≤ i) × (i < (node + 1) * span height) × (get_or cells i 0 ≡ get_or cells node 0)
attained leaves zero node cells tree some last = (node, omega arith, omega arith, refl)
attained leaves (suc height) node cells tree some last =
    let w : ℕ = span height in
    let here = tree.nodes node some (node_within leaves node w (span_some height) last) in
    let left = attained leaves height (2 * node) cells tree (omega arith) (omega arith) in
    let right = attained leaves height (2 * node + 1) cells tree (omega arith) (omega arith) in
    elim (cases_lt (get_or cells (2 * node) 0) (get_or cells (2 * node + 1) 0)) [
      | inl lt ↦ (left.0, omega (arith, left.1), omega (arith, left.2), left.3 ∙ omega (arith, here))
      | inr le ↦ (right.0, omega (arith, right.1), omega (arith, right.2), right.3 ∙ omega (arith, here))
    ]

-- a number that no row is before isn't after the least
least_low : (m : ℕ) (rows : Rows) → ((k : ℕ) → k < length rows → m ≤ get_or (values_of rows) k 0) → (n : ℕ) → least_of rows ≡ Some n → m ≤ n
least_low m [] low n e = absurd cc
least_low m (r ∷ rows) low n e = go (least_of rows) (λ k f. least_low m rows (λ j within. low (suc j) (omega arith)) k f) e
  where
    go : (o : Option ℕ) → ((k : ℕ) → o ≡ Some k → m ≤ k) → Some (option_map_or (λ (k : ℕ). min r.1 k) o r.1) ≡ Some n → m ≤ n
    go None later is = let same : r.1 ≡ n = cc in omega (arith, low 0 (omega arith))
    go (Some k) later is = let same : min r.1 k ≡ n = cc in omega (arith, low 0 (omega arith), later k refl)

-- the least is a number that no row is before, and that some row has
pub least_is : (m : ℕ) (rows : Rows) → ((k : ℕ) → k < length rows → m ≤ get_or (values_of rows) k 0) → (i : ℕ) → i < length rows → get_or (values_of rows) i 0 ≡ m → least_of rows ≡ Some m
least_is m [] low i within has = absurd (omega arith)
least_is m (r ∷ rows) low zero within has = go (least_of rows) (λ k f. least_low m rows (λ j h. low (suc j) (omega arith)) k f)
  where
    go : (o : Option ℕ) → ((k : ℕ) → o ≡ Some k → m ≤ k) → Some (option_map_or (λ (k : ℕ). min r.1 k) o r.1) ≡ Some m
    go None later = ap Some has
    go (Some k) later = let same : min r.1 k ≡ m = omega (arith, later k refl, has) in ap Some same
least_is m (r ∷ rows) low (suc i) within has =
    let later = least_is m rows (λ j h. low (suc j) (omega arith)) i (omega arith) has in
    let same : min r.1 m ≡ m = omega (arith, low 0 (omega arith)) in
    ap (λ (o : Option ℕ). Some (option_map_or (λ (k : ℕ). min r.1 k) o r.1)) later ∙ ap Some same

-- no row is before the root
pub root_low : (leaves height : ℕ) (cells : List ℕ) (rows : Rows) → IsGrown leaves height cells rows → (k : ℕ) → k < length rows → get_or cells 1 0 ≤ get_or (values_of rows) k 0
root_low leaves height cells rows h k within =
    let spans : span height ≡ leaves = h.spans (omega (arith, h.indexes.room)) in
    omega (arith, h.indexes.moments k within, below_node leaves height 1 cells h.indexes.tree (omega arith) (omega (arith, spans)) (leaves + k) (omega (arith, spans)) (omega (arith, spans, h.indexes.room)))

-- the root has the least of all due moments. That the first row's is a number of 64 bits says that a leaf behind the rows is no sooner
pub least_at_root : (leaves height : ℕ) (cells : List ℕ) (rows : Rows) → IsGrown leaves height cells rows → 0 < length rows → get_or (values_of rows) 0 0 ≤ NEVER → least_of rows ≡ Some (get_or cells 1 0)
least_at_root leaves height cells rows h some fits =
    let spans : span height ≡ leaves = h.spans (omega (arith, h.indexes.room)) in
    let low = root_low leaves height cells rows h in
    let found = attained leaves height 1 cells h.indexes.tree (omega arith) (omega (arith, spans)) in
    let i : ℕ = found.0 - leaves in
    let at : get_or cells (leaves + i) 0 ≡ get_or cells 1 0 = (let e : leaves + i ≡ found.0 = omega (arith, found.1, spans) in ap (λ n. get_or cells n 0) e ∙ found.3) in
    elim (cases_lt i (length rows)) [
      | inl inside ↦ least_is (get_or cells 1 0) rows low i inside (sym (h.indexes.moments i inside) ∙ at)
      | inr behind ↦
          let never : get_or cells 1 0 ≡ NEVER = sym at ∙ h.indexes.rest i behind (omega (arith, found.2, spans)) in
          let bound = low 0 some in
          least_is (get_or cells 1 0) rows low 0 some (omega (arith, never, bound, fits))
    ]

-- ---- one step down

-- what a node that is no leaf says of the two below it
pub record Halves (leaves node height lower : ℕ) (rows : Rows) : Type 0 where
  pub fits : 2 * node + 1 < leaves + leaves
  pub left_first : leaves ≤ 2 * node * span lower
  pub left_last : (2 * node + 1) * span lower ≤ leaves + leaves
  pub right_first : leaves ≤ (2 * node + 1) * span lower
  pub right_last : (2 * node + 1 + 1) * span lower ≤ leaves + leaves
  pub split : rows_below leaves node height rows ≡ rows_below leaves (2 * node) lower rows ++ rows_below leaves (2 * node + 1) lower rows

pub halves : (leaves node height lower : ℕ) (rows : Rows) → height ≡ suc lower → leaves ≤ node * span height → (node + 1) * span height ≤ leaves + leaves → Halves leaves node height lower rows
halves leaves node height lower rows down first last =
    let w : ℕ = span lower in
    let spans : span height ≡ w + w = ap span down in
    let from : leaves ≤ node * (w + w) = subst (λ n. leaves ≤ node * n) spans first in
    let to : (node + 1) * (w + w) ≤ leaves + leaves = subst (λ n. (node + 1) * n ≤ leaves + leaves) spans last in
    let inner : node < leaves = node_within leaves node w (span_some lower) to in
    record {
      fits = omega arith;
      left_first = omega arith;
      left_last = omega arith;
      right_first = omega arith;
      right_last = omega arith;
      split = subst (λ n. rows_below leaves node n rows ≡ rows_below leaves (2 * node) lower rows ++ rows_below leaves (2 * node + 1) lower rows) (sym down) (rows_split leaves node lower rows from);
    }

-- what was found below both, behind what was found before
pub found_both : (now : ℕ) (before after_left after_right : List (ℕ × Text)) (left right whole : Rows) → after_left ≡ before ++ due_rows now left → after_right ≡ after_left ++ due_rows now right → whole ≡ left ++ right
    → after_right ≡ before ++ due_rows now whole
found_both now before after_left after_right left right whole l r w =
    r ∙ ap (λ (x : List (ℕ × Text)). x ++ due_rows now right) l ∙ append_assoc before (due_rows now left) (due_rows now right)
    ∙ ap (λ (x : List (ℕ × Text)). before ++ x) (sym (due_rows-append now left right) ∙ ap (due_rows now) (sym w))

-- what stands in a leaf of a row
pub leaf_row : (leaves now : ℕ) (cells : List ℕ) (rows : Rows) (node : ℕ) (txn : Text) (due : ℕ) → Indexes leaves cells rows → leaves ≤ node * 1 → slice_get rows (node - leaves) ≡ Some (txn, due) → get_or cells node 0 ≤ now
    → due_rows now (rows_below leaves node 0 rows) ≡ (due, txn) ∷ []
leaf_row leaves now cells rows node txn due h first at low =
    let i : ℕ = node - leaves in
    let same : node * 1 - leaves ≡ i = omega arith in
    let within : i < length rows = slice_get_within rows i (txn, due) at in
    let cell : get_or cells (leaves + i) 0 ≡ get_or cells node 0 = (let e : leaves + i ≡ node = omega arith in ap (λ n. get_or cells n 0) e) in
    let value : get_or (values_of rows) i 0 ≡ due = value_at rows i (txn, due) within ∙ ap (λ (r : Text × ℕ). r.1) (get_or_from_slice_get rows i (txn, due) (txn, due) at) in
    let moment = h.moments i within in
    ap (λ n. due_rows now (take 1 (drop n rows))) same ∙ one_due now i rows txn due at (omega (arith, cell, value, moment))

pub leaf_none : (leaves now : ℕ) (rows : Rows) (node : ℕ) → slice_get rows (node - leaves) ≡ None → due_rows now (rows_below leaves node 0 rows) ≡ []
leaf_none leaves now rows node at =
    let same : node * 1 - leaves ≡ node - leaves = omega arith in
    ap (λ n. due_rows now (take 1 (drop n rows))) same ∙ none_due now (node - leaves) rows at

pub row_value : (rows : Rows) (at : ℕ) (txn : Text) (due : ℕ) → slice_get rows at ≡ Some (txn, due) → due ≡ get_or (values_of rows) at 0
row_value rows at txn due is = sym (value_at rows at (txn, due) (slice_get_within rows at (txn, due) is) ∙ ap (λ (r : Text × ℕ). r.1) (get_or_from_slice_get rows at (txn, due) (txn, due) is))
