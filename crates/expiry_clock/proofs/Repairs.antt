-- A leaf is written, and the nodes above it are repaired from below.
use Rattle.std.proofs.Common.{◌≡◌, ◌≢◌, ℕ, ◌+◌, ◌*◌, ◌/◌, ◌%◌, ◌<◌, ◌≤◌, min, List, length, get_or, refl, sym, ap, ◌∙◌, arith, subst, ⊎_elim}
use Rattle.std.proofs.Math.ListN.{set, length-set}
use Rattle.std.proofs.lemmas.List.{get_or-set_other, get_or-set_same}
use Rattle.std.proofs.lemmas.Bool.{cases_eq}
use Rattle.expiry_clock.specs.Tree.{IsTree, WritesLeaf}

-- a node has the lesser of the numbers below it
abbrev Fits : List ℕ → ℕ → Type 0
Fits cells i = get_or cells i 0 ≡ min (get_or cells (2 * i) 0) (get_or cells (2 * i + 1) 0)

-- all nodes but one are right, one leaf has been written, and the others are as they were
pub record IsRepaired (leaves node at value : ℕ) (old cells : List ℕ) : Type 0 where
  pub len : length cells ≡ leaves + leaves
  pub below : node < leaves
  pub nodes : (i : ℕ) → 0 < i → i < leaves → i ≢ node → Fits cells i
  pub leaf : get_or cells (leaves + at) 0 ≡ value
  pub others : (k : ℕ) → k < leaves → k ≢ at → get_or cells (leaves + k) 0 ≡ get_or old (leaves + k) 0

-- a write elsewhere leaves a node right
fits_still : (cells : List ℕ) (j v i : ℕ) → i ≢ j → 2 * i ≢ j → 2 * i + 1 ≢ j → Fits cells i → Fits (set cells j v) i
fits_still cells j v i a b c h =
    get_or-set_other cells j i v 0 a ∙ h ∙ λ k. min (sym (get_or-set_other cells j (2 * i) v 0 b) k) (sym (get_or-set_other cells j (2 * i + 1) v 0 c) k)

pub repaired_first : (leaves at value : ℕ) (old : List ℕ) → IsTree leaves old → at < leaves → IsRepaired leaves ((leaves + at) / 2) at value old (set old (leaves + at) value)
repaired_first leaves at value old tree within = record {
  len = length-set old (leaves + at) value ∙ tree.len;
  below = omega arith;
  nodes = λ i some low other.
      let a : i ≢ leaves + at = omega arith in
      let b : 2 * i ≢ leaves + at = omega arith in
      let c : 2 * i + 1 ≢ leaves + at = omega arith in
      fits_still old (leaves + at) value i a b c (tree.nodes i some low);
  leaf = get_or-set_same old (leaves + at) value 0 (omega (arith, tree.len));
  others = λ k low other. let apart : leaves + k ≢ leaves + at = omega arith in get_or-set_other old (leaves + at) (leaves + k) value 0 apart;
}

pub repaired_next : (leaves node at value : ℕ) (old cells : List ℕ) → IsRepaired leaves node at value old cells → 0 < node
    → IsRepaired leaves (node / 2) at value old (set cells node (min (get_or cells (2 * node) 0) (get_or cells (2 * node + 1) 0)))
repaired_next leaves node at value old cells h some =
    let m : ℕ = min (get_or cells (2 * node) 0) (get_or cells (2 * node + 1) 0) in
    let here : Fits (set cells node m) node =
    (let a : 2 * node ≢ node = omega arith in
    let b : 2 * node + 1 ≢ node = omega arith in
    get_or-set_same cells node m 0 (omega (arith, h.len, h.below)) ∙ λ k. min (sym (get_or-set_other cells node (2 * node) m 0 a) k) (sym (get_or-set_other cells node (2 * node + 1) m 0 b) k)) in
    record {
      len = length-set cells node m ∙ h.len;
      below = omega (arith, h.below);
      nodes = λ i positive low other.
          ⊎_elim
          (λ (e : i ≡ node). subst (Fits (set cells node m)) (sym e) here)
          (λ (ne : i ≢ node).
          let b : 2 * i ≢ node = omega arith in
          let c : 2 * i + 1 ≢ node = omega arith in
          fits_still cells node m i ne b c (h.nodes i positive low ne))
          (cases_eq i node);
      leaf = (let a : leaves + at ≢ node = omega (arith, h.below) in get_or-set_other cells node (leaves + at) m 0 a) ∙ h.leaf;
      others = λ k low other. (let a : leaves + k ≢ node = omega (arith, h.below) in get_or-set_other cells node (leaves + k) m 0 a) ∙ h.others k low other;
    }

pub repaired_last : (leaves at value : ℕ) (old cells : List ℕ) → IsRepaired leaves 0 at value old cells → WritesLeaf leaves at value old cells
repaired_last leaves at value old cells h = record {
  tree = record {
    len = h.len;
    nodes = λ i positive low. let other : i ≢ 0 = omega arith in h.nodes i positive low other;
  };
  leaf = h.leaf;
  others = h.others;
}
