use Rattle.std.proofs.Common.{◌≡◌, ◌≤◌, drop, map}
use Rattle.json.specs.Tape.{node_token}
use Rattle.json_tree.specs.Placed.{is_fit}
use Rattle.json_tree.proofs.place.is_fit.Given as goal

abbrev pub invariant-nodes : goal.invariant-nodes
invariant-nodes l = record {
  rest : is_fit l.inside (map node_token (drop l.node-index l.nodes)) ≡ is_fit 0 (map node_token l.nodes);
  most : l.inside ≤ 127;
}
