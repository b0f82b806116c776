-- Each call keeps the queue's rule.
use Rattle.std.proofs.Common.{◌≡◌, ◌≢◌, ℕ, zero, suc, ◌+◌, ◌-◌, ◌<◌, [], ◌∷◌, ◌++◌, set, refl, ap, sym, ◌∙◌, subst, ⊎_elim, arith}
use mathlib.Core.Option.{some, some-injective, some-ne-none}
use lib.ListN.{get_elem?}
use Rattle.crossbeam_queue.specs.Fifo.{Pushes, Pops, Forks, Merges, Learns}
use Rattle.crossbeam_queue.proofs.Lists.{at_snoc}
use Rattle.worker_pool.specs.declared.hand.Hand.{Hand}
use Rattle.part_sums.specs.Totals.{total}
use Rattle.worker_pool.specs.Jobs.{SameJobs}
use Rattle.worker_pool.specs.calls.Hands.{hand, both, Balanced}
use Rattle.part_sums.proofs.Places.{each_set}
use Rattle.part_sums.proofs.Weights.{total-append, total-snoc, total_set, total_one, total_rest}

module _ {J : Type 0} where
  abbrev Idle : Hand J → Type 0
  Idle v = v.parts ≡ 0 → (v.put ≡ []) × (v.taken ≡ [])

  pub begins : Balanced {J = J} [] (hand 1024 [] [] ∷ [])
  begins = record { parts = omega arith; even = λ h. refl; idle = one }
    where
      one : (pass : ℕ) (v : Hand J) → get_elem? (hand 1024 [] [] ∷ []) pass ≡ some v → v.parts ≡ 0 → (v.put ≡ []) × (v.taken ≡ [])
      one zero v e none = let is = some-injective (hand 1024 [] []) v e in (sym (ap (λ (y : Hand J). y.put) is), sym (ap (λ (y : Hand J). y.taken) is))
      one (suc n) v e none = absurd (some-ne-none v (sym e))

  pub puts : (n pass : ℕ) (v : Hand J) (x : J) → 0 < v.parts → Pushes Balanced n pass v x (λ w. w ≡ hand v.parts (v.put ++ x ∷ []) v.taken)
  puts n pass v x some_part items views room b at =
      let w = hand v.parts (v.put ++ x ∷ []) v.taken in (
        w,
        record {
          parts = let s = total_set (λ (u : Hand J). u.parts) views pass v w at in omega (arith, s, b.parts);
          even = λ h.
              let s = total_set (λ (u : Hand J). total h u.put) views pass v w at in
              let t = total_set (λ (u : Hand J). total h u.taken) views pass v w at in
              omega (arith, s, t, b.even h, total-snoc h v.put x, total-snoc h items x);
          idle = each_set Idle views pass w (λ none. absurd (omega arith)) b.idle;
        },
        refl,
      )

  pub takes : (pass : ℕ) (v : Hand J) → 0 < v.parts → Pops Balanced pass v (λ x w. w ≡ hand v.parts v.put (v.taken ++ x ∷ []))
  takes pass v some_part x items views b at =
      let w = hand v.parts v.put (v.taken ++ x ∷ []) in (
        w,
        record {
          parts = let s = total_set (λ (u : Hand J). u.parts) views pass v w at in omega (arith, s, b.parts);
          even = λ h.
              let s = total_set (λ (u : Hand J). total h u.put) views pass v w at in
              let t = total_set (λ (u : Hand J). total h u.taken) views pass v w at in
              omega (arith, s, t, b.even h, total-snoc h v.taken x);
          idle = each_set Idle views pass w (λ none. absurd (omega arith)) b.idle;
        },
        refl,
      )

  pub forks : (pass : ℕ) (v : Hand J) → 1 < v.parts → Forks Balanced pass v (hand (v.parts - 1) v.put v.taken) (hand 1 [] [])
  forks pass v some_parts items views b at =
      let l = hand (v.parts - 1) v.put v.taken in
      let r : Hand J = hand 1 [] [] in
      let vs = set views pass l in
      record {
        parts = let s = total_set (λ (u : Hand J). u.parts) views pass v l at in omega (arith, s, b.parts, total-snoc (λ (u : Hand J). u.parts) vs r);
        even = λ h.
            let s = total_set (λ (u : Hand J). total h u.put) views pass v l at in
            let t = total_set (λ (u : Hand J). total h u.taken) views pass v l at in
            omega (arith, s, t, b.even h, total-snoc (λ (u : Hand J). total h u.put) vs r, total-snoc (λ (u : Hand J). total h u.taken) vs r);
        idle = λ j u e. ⊎_elim (λ was. each_set Idle views pass l (λ none. absurd (omega arith)) b.idle j u was) (λ (is : r ≡ u). subst Idle is (λ none. (refl, refl))) (at_snoc vs r u j e);
      }

  pub merges : (pass : ℕ) (v : Hand J) (other : ℕ) (u : Hand J) → 0 < v.parts → Merges Balanced pass v other u (both v u) (hand 0 [] [])
  merges pass v other u some_part items views b at apart there =
      let w = hand (v.parts + u.parts) (v.put ++ u.put) (v.taken ++ u.taken) in
      let none : Hand J = hand 0 [] [] in
      let vs = set views pass w in
      record {
        parts = let s = total_set (λ (y : Hand J). y.parts) views pass v w at in let t = total_set (λ (y : Hand J). y.parts) vs other u none there in omega (arith, s, t, b.parts);
        even = λ h.
            let s = total_set (λ (y : Hand J). total h y.put) views pass v w at in
            let t = total_set (λ (y : Hand J). total h y.taken) views pass v w at in
            let s' = total_set (λ (y : Hand J). total h y.put) vs other u none there in
            let t' = total_set (λ (y : Hand J). total h y.taken) vs other u none there in
            omega (arith, s, t, s', t', b.even h, total-append h v.put u.put, total-append h v.taken u.taken);
        idle = each_set Idle vs other none (λ _. (refl, refl)) (each_set Idle views pass w (λ no_part. absurd (omega arith)) b.idle);
      }

  -- the pass with every part knows the whole
  pub learns : (pass : ℕ) (v : Hand J) → Learns Balanced pass v (λ jobs. v.parts ≡ 1024 → SameJobs v.put (v.taken ++ jobs))
  learns pass v items views b at all h =
      let every : total (λ (u : Hand J). u.parts) views ≡ v.parts = b.parts ∙ sym all in
      let no_part = λ (j : ℕ) (u : Hand J) (apart : j ≢ pass) (e : get_elem? views j ≡ some u). b.idle j u e (total_rest (λ (y : Hand J). y.parts) views pass j v u at e apart every) in
      let s = total_one (λ (u : Hand J). total h u.put) views pass v (λ j u apart e. ap (λ l. total h l) (no_part j u apart e).0) at in
      let t = total_one (λ (u : Hand J). total h u.taken) views pass v (λ j u apart e. ap (λ l. total h l) (no_part j u apart e).1) at in
      omega (arith, s, t, b.even h, total-append h v.taken items)
