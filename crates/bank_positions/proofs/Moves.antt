-- Each step keeps the rule of the words.
use Rattle.std.proofs.Common.{◌≡◌, ◌≢◌, ℕ, suc, ◌+◌, ◌-◌, ◌*◌, ◌%◌, ◌^◌, ◌<◌, ◌≤◌, List, [], ◌∷◌, ◌++◌, length, set, refl, ap, sym, ◌∙◌, subst, ⊎_elim, arith}
use Rattle.std.specs.Prelude.{slice_index}
use mathlib.Core.Option.{some, none}
use mathlib.Core.Logic.{dite}
use native.Mathlib.Decide.{ℕ_discrete}
use lib.ListN.{get_elem?}
use Rattle.atomic_table.specs.Table.{State, step, keeps, Allows, Splits, Joins}
use Rattle.atomic_table.proofs.Lists.{at_set, at_snoc}
use Rattle.bank_positions.specs.declared.rule.Sums.{Sums}
use Rattle.part_sums.specs.Totals.{total}
use Rattle.bank_positions.specs.Sums.{more}
use Rattle.bank_positions.specs.calls.Rule.{sums, joined, Adds, Reads, Held}
use Rattle.part_sums.proofs.Places.{each_set, set_same}
use Rattle.part_sums.proofs.Weights.{total_set, total-snoc, total_one, total_rest}
use Rattle.bank_positions.proofs.Places.{more_here, more_else, both_at, index_here, index_else, long_set, word_same}

-- a seat has added less than 2^60 to each word for each of its parts
abbrev Small : Sums → Type 0
Small v = (i : ℕ) → slice_index v.added i ≤ v.parts * 1152921504606846975

total_small : (i : ℕ) (views : List Sums) → ((id : ℕ) (v : Sums) → get_elem? views id ≡ some v → slice_index v.added i ≤ v.parts * 1152921504606846975)
    → total (λ (v : Sums). slice_index v.added i) views ≤ total (λ (v : Sums). v.parts) views * 1152921504606846975
total_small i [] small = omega arith
total_small i (x ∷ xs) small = omega (arith, small 0 x refl, total_small i xs (λ id v e. small (suc id) v e))

pub adds : (n slots id word amount : ℕ) (v : Sums) (c : List (ℕ × Unit)) → word < n → 0 < v.parts → slice_index v.added word + amount < 2 ^ 60
    → Allows (Held n) slots id (v, c) word (λ m. (m + amount) % 2 ^ 64) (Adds (step slots word amount 0 none) (v, c))
adds n slots id word amount v c inside part room s k _ at bound =
    let w = sums v.parts (more v.added word amount) in
    let views : List Sums = set s.views id w in
    let parts = total_set (λ (u : Sums). u.parts) s.views id v w at in
    let all : total (λ (u : Sums). u.parts) views ≡ length s.homes = omega (arith, parts, k.parts) in
    let mine : Small w = λ j. dite (ℕ_discrete j word)
    (λ here. subst (λ (i : ℕ). slice_index (more v.added word amount) i ≤ v.parts * 1152921504606846975) (sym here) (omega (arith, more_here v.added word amount, part, room)))
    (λ apart. subst (λ (i : ℕ). i ≤ v.parts * 1152921504606846975) (sym (more_else v.added word j amount apart)) (k.small id v at j)) in
    let small = each_set Small s.views id w mine k.small in
    let most = total_small word views (λ j u e. small j u e word) in
    let step_sum = total_set (λ (u : Sums). slice_index u.added word) s.views id v w at in
    let now = more_here v.added word amount in
    let W : ℕ = slice_index s.words word in (
      w,
      keeps,
      tt,
      record {
        long = long_set s.words word ((W + amount) % 2 ^ 64) ∙ k.long;
        words = λ i less. dite (ℕ_discrete i word)
            (λ here.
            let was = k.words word inside in
            let fits : W + amount ≡ total (λ (u : Sums). slice_index u.added word) views = omega (arith, was, step_sum, now) in
            subst (λ (j : ℕ). slice_index (set s.words word ((W + amount) % 2 ^ 64)) j ≡ total (λ (u : Sums). slice_index u.added j) views) (sym here)
            (index_here s.words word ((W + amount) % 2 ^ 64) (omega (arith, inside, k.long)) ∙ omega (arith, fits, most, all, k.few)))
            (λ apart.
            let other = total_set (λ (u : Sums). slice_index u.added i) s.views id v w at in
            let same = more_else v.added word i amount apart in
            index_else s.words word i ((W + amount) % 2 ^ 64) apart ∙ k.words i less ∙ omega (arith, other, same));
        parts = all;
        few = k.few;
        small = small;
      },
      refl,
    )

pub reads : (n slots id word : ℕ) (v : Sums) (c : List (ℕ × Unit)) → word < n → Allows (Held n) slots id (v, c) word (λ m. m) (Reads (step slots word 0 0 none) (v, c))
reads n slots id word v c inside s k homes at bound =
    let words = word_same s.words word in
    let views = set_same s.views id v at in (
      v,
      keeps,
      tt,
      subst (λ (x : State Unit Sums). Held n x) (λ i. record { words = sym words i; homes = s.homes; views = sym views i }) k,
      (
        refl,
        λ every.
            let all : total (λ (u : Sums). u.parts) s.views ≡ v.parts = k.parts ∙ homes ∙ sym every in
            k.words word inside
            ∙ total_one
            (λ (u : Sums). slice_index u.added word)
            s.views
            id
            v
            (λ j u apart e.
            let none_left = total_rest (λ (y : Sums). y.parts) s.views id j v u at e apart all in
            let little = k.small j u e word in
            omega (arith, none_left, little))
            at,
      ),
    )

-- a seat that has added nothing yet may be cut
pub splits : (n id : ℕ) (v : Sums) → 1 < v.parts → v.added ≡ [] → Splits (Held n) id v (sums (v.parts - 1) v.added) (sums 1 [])
splits n id v some_parts none_yet s k at =
    let l = sums (v.parts - 1) v.added in
    let r : Sums = sums 1 [] in
    let vs = set s.views id l in
    let sum_at : (f : Sums → ℕ) → f l + f r ≡ f v → total f (vs ++ r ∷ []) ≡ total f s.views = λ f parts. let one = total_set f s.views id v l at in let two = total-snoc f vs r in omega (arith, one, two, parts) in
    let nothing : (i : ℕ) → slice_index v.added i ≡ 0 = λ i. ap (λ xs. slice_index xs i) none_yet in record {
      long = k.long;
      words = λ i less. k.words i less ∙ sym (sum_at (λ (u : Sums). slice_index u.added i) (omega arith));
      parts = sum_at (λ (u : Sums). u.parts) (omega (arith, some_parts)) ∙ k.parts;
      few = k.few;
      small = λ j u e.
          ⊎_elim
          (λ was. each_set Small s.views id l (λ i. omega (arith, nothing i)) k.small j u was)
          (λ (is : r ≡ u). subst Small is (λ i. omega arith))
          (at_snoc vs r u j e);
    }

pub joins : (n id other : ℕ) (v w : Sums) → Joins (Held n) id v other w (joined v w) (sums 0 [])
joins n id other v w s k at apart there =
    let b = joined v w in
    let none_left : Sums = sums 0 [] in
    let vs = set s.views id b in
    let sum_at : (f : Sums → ℕ) → f b ≡ f v + f w → f none_left ≡ 0 → total f (set vs other none_left) ≡ total f s.views = λ f adds gone.
    let one = total_set f s.views id v b at in
    let two = total_set f vs other w none_left there in
    omega (arith, one, two, adds, gone) in
    let theirs : Small w = λ i.
    ⊎_elim (λ (x : (other ≡ id) × (b ≡ w)). absurd (apart x.0)) (λ (x : (other ≢ id) × (get_elem? s.views other ≡ some w)). k.small other w x.1 i) (at_set s.views id other b w there) in
    record {
      long = k.long;
      words = λ i less. k.words i less ∙ sym (sum_at (λ (u : Sums). slice_index u.added i) (both_at v.added w.added i) refl);
      parts = sum_at (λ (u : Sums). u.parts) refl refl ∙ k.parts;
      few = k.few;
      small = each_set Small vs other none_left (λ i. omega arith) (each_set Small s.views id b (λ i. omega (arith, both_at v.added w.added i, k.small id v at i, theirs i)) k.small);
    }
