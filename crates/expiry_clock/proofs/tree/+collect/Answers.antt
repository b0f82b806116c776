use Rattle.std.proofs.Common.{◌≡◌, ◌<◌, ◌≤◌, ◌-◌, ◌+◌, ◌*◌, ◌++◌, suc, ℕ, [], ◌∷◌, List, sym, ap, ◌∙◌, subst, arith, get_or}
use Rattle.std.proofs.lemmas.List.{append-nil, get_or_read}
use Rattle.upi_base.specs.Names.{Text}
use Rattle.expiry_clock.specs.Dues.{Rows, due_rows}
use Rattle.expiry_clock.specs.Tree.{span, rows_below}
use Rattle.expiry_clock.proofs.Finds.{node_is_cell, span_some, pruned, halves, found_both, leaf_row, leaf_none}
use Rattle.expiry_clock.proofs.tree.+collect.Goals as goal

pub index-requires : goal.index-requires
index-requires t c =
    let cell = node_is_cell c.args.tree.now.leaves c.args.node (span c.args.height) (span_some c.args.height) c.requires.last in
    omega (arith, cell, c.requires.indexes.tree.len, c.args.tree.now.cells.ok.0)

pub returns-then-index-now : goal.returns-then-index-now
returns-then-index-now t c =
    let tree = c.args.tree.now in
    let inside = node_is_cell tree.leaves c.args.node (span c.args.height) (span_some c.args.height) c.requires.last in
    let cell : c.index.result.now ≡ get_or tree.cells.items c.args.node 0 = get_or_read tree.cells.items _ _ (omega (arith, inside, c.requires.indexes.tree.len)) c.index.ensures 0 in
    let nothing = pruned tree.leaves c.args.node c.args.height c.args.now tree.cells.items c.args.rows.now.entries c.requires.indexes c.requires.node c.requires.first c.requires.last (omega (arith, cell)) in
    rw nothing (sym (append-nil c.args.found.now.items))

pub returns-in_ok-push : goal.returns-in_ok-push
returns-in_ok-push t c =
    let tree = c.args.tree.now in
    let rows : Rows = c.args.rows.now.entries in
    let inside = node_is_cell tree.leaves c.args.node (span c.args.height) (span_some c.args.height) c.requires.last in
    let cell : c.index.result.now ≡ get_or tree.cells.items c.args.node 0 = get_or_read tree.cells.items _ _ (omega (arith, inside, c.requires.indexes.tree.len)) c.index.ensures 0 in
    let bottom : c.args.height ≡ 0 = c.if-height-eq0.true in
    let first : tree.leaves ≤ c.args.node * 1 = subst (λ n. tree.leaves ≤ c.args.node * span n) bottom c.requires.first in
    let row = leaf_row tree.leaves c.args.now tree.cells.items rows c.args.node c.in-Some.txn.now c.in-Some.due.now c.requires.indexes first (sym c.in-Some.ensures.entry) (omega (arith, cell)) in
    c.in_ok-push.ensures.items ∙ ap (λ (x : Text). c.args.found.now.items ++ (c.in-Some.due.now, x) ∷ []) c.copy.ensures
    ∙ ap (λ (l : List (ℕ × Text)). c.args.found.now.items ++ l) (sym row) ∙ ap (λ n. c.args.found.now.items ++ due_rows c.args.now (rows_below tree.leaves c.args.node n rows)) (sym bottom)

pub overflow_mul-node : goal.overflow_mul-node
overflow_mul-node t c =
    let down : c.args.height ≡ suc (c.args.height - 1) = omega arith in
    let half = halves c.args.tree.now.leaves c.args.node c.args.height (c.args.height - 1) c.args.rows.now.entries down c.requires.first c.requires.last in
    omega (arith, half.fits, c.requires.indexes.tree.len, c.args.tree.now.cells.ok.0)

pub collect-requires : goal.collect-requires
collect-requires t c =
    let down : c.args.height ≡ suc (c.args.height - 1) = omega arith in
    let half = halves c.args.tree.now.leaves c.args.node c.args.height (c.args.height - 1) c.args.rows.now.entries down c.requires.first c.requires.last in
    (omega arith, (c.requires.indexes, (omega arith, (half.left_first, half.left_last))))

pub overflow_mul-node-2 : goal.overflow_mul-node-2
overflow_mul-node-2 t c =
    let down : c.args.height ≡ suc (c.args.height - 1) = omega arith in
    let half = halves c.args.tree.now.leaves c.args.node c.args.height (c.args.height - 1) c.args.rows.now.entries down c.requires.first c.requires.last in
    omega (arith, half.fits, c.requires.indexes.tree.len, c.args.tree.now.cells.ok.0)

pub overflow_add-node : goal.overflow_add-node
overflow_add-node t c =
    let down : c.args.height ≡ suc (c.args.height - 1) = omega arith in
    let half = halves c.args.tree.now.leaves c.args.node c.args.height (c.args.height - 1) c.args.rows.now.entries down c.requires.first c.requires.last in
    omega (arith, half.fits, c.requires.indexes.tree.len, c.args.tree.now.cells.ok.0)

pub collect-requires-2 : goal.collect-requires-2
collect-requires-2 t c =
    let down : c.args.height ≡ suc (c.args.height - 1) = omega arith in
    let half = halves c.args.tree.now.leaves c.args.node c.args.height (c.args.height - 1) c.args.rows.now.entries down c.requires.first c.requires.last in
    (omega arith, (c.requires.indexes, (omega arith, (half.right_first, half.right_last))))

pub returns : goal.returns
returns t c =
    let down : c.args.height ≡ suc (c.args.height - 1) = omega arith in
    let tree = c.args.tree.now in
    let rows : Rows = c.args.rows.now.entries in
    let half = halves tree.leaves c.args.node c.args.height (c.args.height - 1) rows down c.requires.first c.requires.last in
    found_both c.args.now c.args.found.now.items c.collect.new.found.items c.collect-2.new.found.items
    (rows_below tree.leaves (2 * c.args.node) (c.args.height - 1) rows) (rows_below tree.leaves (2 * c.args.node + 1) (c.args.height - 1) rows) (rows_below tree.leaves c.args.node c.args.height rows)
    c.in_ok-collect.ensures c.in_ok-collect-2.ensures half.split
