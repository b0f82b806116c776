use Rattle.std.proofs.Common.{◌≡◌, ℕ, ◌≤◌, false, get_or, vec_len}
use Rattle.script_engine.proofs.pending.extend.Given as goal

abbrev pub invariant-loop-added : goal.invariant-loop-added
invariant-loop-added l = record {
  reached : l._added ≤ vec_len l.marks;
  longer : vec_len l.initial.marks ≤ vec_len l.marks;
  same : (k : ℕ) → get_or l.marks.items k false ≡ get_or l.initial.marks.items k false;
}
