-- The tree that finds the least due moments: a list of cells. The leaves are its second half, and node i, from 1 on, has the nodes 2i and 2i + 1 below it.
use Rattle.std.specs.Prelude.{◌≡◌, ◌≢◌, ℕ, zero, suc, ◌+◌, ◌-◌, ◌*◌, ◌<◌, ◌≤◌, min, List, length, take, drop, slice_index}
use Rattle.std.specs.Map.{values_of}
use Rattle.expiry_clock.specs.Dues.{Rows}
use Rattle.expiry_clock.specs.declared.tree.TheConstants.{NEVER}

-- how many leaves stand below a node that is so high
abbrev pub span : ℕ → ℕ
span zero = 1
span (suc height) = span height + span height

-- each node has the lesser of the two numbers below it
pub record IsTree (leaves : ℕ) (cells : List ℕ) : Type 0 where
  pub len : length cells ≡ leaves + leaves
  pub nodes : (i : ℕ) → 0 < i → i < leaves → slice_index cells i ≡ min (slice_index cells (2 * i)) (slice_index cells (2 * i + 1))

-- one leaf is written, and the others are as they were
pub record WritesLeaf (leaves at value : ℕ) (old new : List ℕ) : Type 0 where
  pub tree : IsTree leaves new
  pub leaf : slice_index new (leaves + at) ≡ value
  pub others : (k : ℕ) → k < leaves → k ≢ at → slice_index new (leaves + k) ≡ slice_index old (leaves + k)

-- a tree over due moments: leaf k has that of row k, and the leaves behind the rows have none
pub record Indexes (leaves : ℕ) (cells : List ℕ) (rows : Rows) : Type 0 where
  pub tree : IsTree leaves cells
  pub room : length rows ≤ leaves
  pub moments : (k : ℕ) → k < length rows → slice_index cells (leaves + k) ≡ slice_index (values_of rows) k
  pub rest : (k : ℕ) → length rows ≤ k → k < leaves → slice_index cells (leaves + k) ≡ NEVER

-- a tree with no due moment in it
pub record IsPlanted (leaves height : ℕ) (cells : List ℕ) : Type 0 where
  pub tree : IsTree leaves cells
  pub spans : span height ≡ leaves
  pub empty : (k : ℕ) → k < leaves → slice_index cells (leaves + k) ≡ NEVER

-- a tree over due moments, as high as its leaves say; with no leaf it has no height yet
pub record IsGrown (leaves height : ℕ) (cells : List ℕ) (rows : Rows) : Type 0 where
  pub indexes : Indexes leaves cells rows
  pub spans : 0 < leaves → span height ≡ leaves

-- the rows whose leaves stand below a node
abbrev pub rows_below : ℕ → ℕ → ℕ → Rows → Rows
rows_below leaves node height rows = take (span height) (drop (node * span height - leaves) rows)
