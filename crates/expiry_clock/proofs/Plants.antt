-- A tree that is filled row by row.
use Rattle.std.proofs.Common.{◌≡◌, ◌≢◌, ℕ, zero, suc, ◌+◌, ◌*◌, ◌<◌, ◌≤◌, min, List, [], ◌∷◌, length, get_or, replicate, refl, sym, ap, ◌∙◌, arith, ⊎_elim}
use Rattle.std.proofs.Math.ListN.{length-replicate}
use Rattle.std.proofs.Math.Nat.{min-eq_left}
use Rattle.std.specs.Map.{values_of}
use Rattle.std.proofs.lemmas.List.{get_or-replicate}
use Rattle.std.proofs.lemmas.Bool.{cases_eq}
use Rattle.expiry_clock.specs.Dues.{Rows}
use Rattle.expiry_clock.specs.Tree.{span, IsTree, Indexes, IsPlanted, IsGrown, WritesLeaf}
use Rattle.expiry_clock.specs.declared.tree.TheConstants.{NEVER}

-- the leaves of so many rows are written, and the others have no due moment
pub record IsFilled (leaves height done : ℕ) (cells : List ℕ) (rows : Rows) : Type 0 where
  pub tree : IsTree leaves cells
  pub spans : span height ≡ leaves
  pub room : length rows ≤ leaves
  pub written : (k : ℕ) → k < done → get_or cells (leaves + k) 0 ≡ get_or (values_of rows) k 0
  pub rest : (k : ℕ) → done ≤ k → k < leaves → get_or cells (leaves + k) 0 ≡ NEVER

pub planted : (leaves height v : ℕ) → span height ≡ leaves → v ≡ NEVER → IsPlanted leaves height (replicate (2 * leaves) v)
planted leaves height v spans is = record {
  tree = record {
    len = length-replicate (2 * leaves) v ∙ omega arith;
    nodes = λ i some low. get_or-replicate (2 * leaves) i v 0 (omega arith) ∙ sym (min-eq_left le_self)
        ∙ λ j. min (sym (get_or-replicate (2 * leaves) (2 * i) v 0 (omega arith)) j) (sym (get_or-replicate (2 * leaves) (2 * i + 1) v 0 (omega arith)) j);
  };
  spans = spans;
  empty = λ k low. get_or-replicate (2 * leaves) (leaves + k) v 0 (omega arith) ∙ is;
}
  where
    le_self : v ≤ v
    le_self = omega arith

pub filled_first : (leaves height : ℕ) (cells : List ℕ) (rows : Rows) → IsPlanted leaves height cells → length rows ≤ leaves → IsFilled leaves height 0 cells rows
filled_first leaves height cells rows bare room = record {
  tree = bare.tree;
  spans = bare.spans;
  room = room;
  written = λ k none. absurd (omega arith);
  rest = λ k any low. bare.empty k low;
}

pub filled_next : (leaves height at value : ℕ) (old cells : List ℕ) (rows : Rows) → IsFilled leaves height at old rows → at < length rows → value ≡ get_or (values_of rows) at 0
    → WritesLeaf leaves at value old cells → IsFilled leaves height (at + 1) cells rows
filled_next leaves height at value old cells rows h within is w = record {
  tree = w.tree;
  spans = h.spans;
  room = h.room;
  written = λ k low. ⊎_elim
      (λ (e : k ≡ at). ap (λ j. get_or cells (leaves + j) 0) e ∙ w.leaf ∙ is ∙ ap (λ j. get_or (values_of rows) j 0) (sym e))
      (λ (ne : k ≢ at). w.others k (omega (arith, h.room)) ne ∙ h.written k (omega arith))
      (cases_eq k at);
  rest = λ k high low. let ne : k ≢ at = omega arith in w.others k low ne ∙ h.rest k (omega arith) low;
}

pub filled_last : (leaves height : ℕ) (cells : List ℕ) (rows : Rows) → IsFilled leaves height (length rows) cells rows → IsGrown leaves height cells rows
filled_last leaves height cells rows h = record {
  indexes = record { tree = h.tree; room = h.room; moments = h.written; rest = h.rest };
  spans = λ _. h.spans;
}
