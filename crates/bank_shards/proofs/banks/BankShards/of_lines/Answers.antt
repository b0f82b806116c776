use Rattle.std.proofs.Common.{◌≡◌, ℕ, List, ◌∙◌, ap, sym, subst, take, ◌+◌, [], ◌∷◌, ◌++◌, Some}
use Rattle.std.proofs.lemmas.List.{take_more}
use Rattle.upi_words.specs.Prelude.{Setup, SetupLine}
use Rattle.leg_post.specs.Posts.{Ledger}
use Rattle.account_shard.specs.Shard.{line_of}
use Rattle.bank_shards.specs.Banks.{StandAll}
use Rattle.bank_shards.proofs.Beginnings.{account_free, holding_free, line_is, no_legs, stand_beside}
use Rattle.bank_shards.proofs.Places.{get_is}
use Rattle.bank_shards.proofs.banks.BankShards.of_lines.Goals as goal
use Rattle.bank_shards.proofs.banks.BankShards.of_lines.Goals.{in-Some+in_ok-open-in-Some, in-None}

pub open-requires-clause-free : goal.open-requires-clause-free
open-requires-clause-free c =
    let line = line_is c.index-lines-at.result c.in-Some.account c.in-Some.ensures in
    let at = get_is c.args.lines.now c.loop-at.at c.index-lines-at.result c.loop-at-test.true c.index-lines-at.is in
    holding_free (take c.loop-at.at c.args.lines.now) c.loop-at.banks c.in-Some.account.ac c.loop-at.invariant
    (account_free c.args.lines.now c.loop-at.at c.in-Some.account c.requires (at ∙ ap (λ (l : SetupLine). Some l) (sym line)))

pub open-requires-clause-before : goal.open-requires-clause-before
open-requires-clause-before c = no_legs (take c.loop-at.at c.args.lines.now) c.loop-at.banks c.loop-at.invariant

pub loop-at-preserved : goal.loop-at-preserved
loop-at-preserved c =
    let taken : take c.loop-at.at c.args.lines.now ++ c.index-lines-at.result ∷ [] ≡ take (c.loop-at.at + 1) c.args.lines.now =
    ap (λ (l : SetupLine). take c.loop-at.at c.args.lines.now ++ l ∷ []) c.index-lines-at.is ∙ sym (take_more c.args.lines.now c.loop-at.at c.index-lines-at.result c.loop-at-test.true) in
    let before = take c.loop-at.at c.args.lines.now in
    subst (λ (S : Setup). StandAll S (λ (s : ℕ). []) c.match-account_in.banks) taken
    (elim c.match-account_in.branch [
      | in-Some+in_ok-open-in-Some w ↦
          subst (λ (l : SetupLine). StandAll (before ++ l ∷ []) (λ (s : ℕ). []) c.match-account_in.banks) (line_is c.index-lines-at.result w.in-Some.account w.in-Some.ensures)
          (subst (λ (ps : List Ledger). StandAll (before ++ line_of w.in-Some.account ∷ []) (λ (s : ℕ). []) ps) (sym w.banks-is) (w.in_ok-open-in-Some.ensures.stands before c.loop-at.invariant))
      | in-None w ↦
          subst (λ (ps : List Ledger). StandAll (before ++ c.index-lines-at.result ∷ []) (λ (s : ℕ). []) ps) (sym w.banks-is)
          (stand_beside before c.index-lines-at.result c.loop-at.banks w.in-None.ensures c.loop-at.invariant)
    ])
