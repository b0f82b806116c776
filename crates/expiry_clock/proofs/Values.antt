-- The due moments of rows, by place.
use Rattle.std.proofs.Common.{◌≡◌, ◌≢◌, ℕ, zero, suc, ◌+◌, ◌-◌, ◌<◌, ◌≤◌, Bool, true, false, cond, not, List, [], ◌∷◌, length, get_or, take, drop, Option, Some, None, refl, sym, ap, ◌∙◌, arith}
use Rattle.std.proofs.Math.ListN.{set, length-set, length-take}
use Rattle.std.specs.Prelude.{swap_remove, position}
use Rattle.std.specs.List.{position_or_len}
use Rattle.std.specs.Map.{keys_of, values_of}
use Rattle.std.proofs.lemmas.List.{get_or-map, get_or_past, get_or-take, get_or-set_other, get_or-set_same}
use Rattle.indexmap.specs.IndexMap.{insert_entry}

module _ {K : Type 0} where
  pub length-values : (rows : List (K × ℕ)) → length (values_of rows) ≡ length rows
  length-values [] = refl
  length-values (r ∷ rows) = ap suc (length-values rows)

  -- the value at a place is that of the row there
  pub value_at : (rows : List (K × ℕ)) (k : ℕ) (d : K × ℕ) → k < length rows → get_or (values_of rows) k 0 ≡ (get_or rows k d).1
  value_at rows k d within = get_or-map (λ (r : K × ℕ). r.1) rows k d 0 within

  module _ (eq : K → K → Bool) (key : K) (value : ℕ) where
    one_more : (n : ℕ) → 1 + n ≡ suc n
    one_more n = omega arith

    -- an insert writes one place
    pub inserted_here : (rows : List (K × ℕ)) → get_or (values_of (insert_entry eq rows key value)) (position_or_len (eq key) (keys_of rows)) 0 ≡ value
    inserted_here [] = refl
    inserted_here (r ∷ rows) = go (eq key r.0) (inserted_here rows)
      where
        go : (b : Bool) → get_or (values_of (insert_entry eq rows key value)) (position_or_len (eq key) (keys_of rows)) 0 ≡ value
            → get_or (values_of (cond b ((r.0, value) ∷ rows) (r ∷ insert_entry eq rows key value))) (cond (not b) (1 + position_or_len (eq key) (keys_of rows)) 0) 0 ≡ value
        go true later = refl
        go false later = ap (λ n. get_or (r.1 ∷ values_of (insert_entry eq rows key value)) n 0) (one_more (position_or_len (eq key) (keys_of rows))) ∙ later

    -- and each other place is as it was
    pub inserted_there : (rows : List (K × ℕ)) (k : ℕ) → k ≢ position_or_len (eq key) (keys_of rows) → get_or (values_of (insert_entry eq rows key value)) k 0 ≡ get_or (values_of rows) k 0
    inserted_there [] zero other = absurd (other refl)
    inserted_there [] (suc k) other = refl
    inserted_there (r ∷ rows) k other = go (eq key r.0) k other (λ j o. inserted_there rows j o)
      where
        go : (b : Bool) (k : ℕ) → k ≢ cond (not b) (1 + position_or_len (eq key) (keys_of rows)) 0
            → ((j : ℕ) → j ≢ position_or_len (eq key) (keys_of rows) → get_or (values_of (insert_entry eq rows key value)) j 0 ≡ get_or (values_of rows) j 0)
            → get_or (values_of (cond b ((r.0, value) ∷ rows) (r ∷ insert_entry eq rows key value))) k 0 ≡ get_or (values_of (r ∷ rows)) k 0
        go true zero other later = absurd (other refl)
        go true (suc k) other later = refl
        go false zero other later = refl
        go false (suc k) other later = later k (λ e. other (omega (arith, e)))

    -- a place of the longer list that isn't the written one was a place before
    pub inserted_within : (rows : List (K × ℕ)) (k : ℕ) → k < length (insert_entry eq rows key value) → k ≢ position_or_len (eq key) (keys_of rows) → k < length rows
    inserted_within [] zero within other = absurd (other refl)
    inserted_within [] (suc k) within other = absurd (omega arith)
    inserted_within (r ∷ rows) k within other = go (eq key r.0) k within other (λ j h o. inserted_within rows j h o)
      where
        go : (b : Bool) (k : ℕ) → k < length (cond b ((r.0, value) ∷ rows) (r ∷ insert_entry eq rows key value)) → k ≢ cond (not b) (1 + position_or_len (eq key) (keys_of rows)) 0
            → ((j : ℕ) → j < length (insert_entry eq rows key value) → j ≢ position_or_len (eq key) (keys_of rows) → j < length rows) → k < suc (length rows)
        go true k within other later = within
        go false zero within other later = omega arith
        go false (suc k) within other later = let more : k < length rows = later k (omega arith) (λ e. other (omega (arith, e))) in omega arith

  -- where a row is taken out, the last row comes to its place
  taken_at : (rows : List (K × ℕ)) (at k : ℕ) (d : K × ℕ) → k < length rows - 1
      → get_or (values_of (swap_remove rows at d)) k 0 ≡ (get_or (set rows at (get_or rows (length rows - 1) d)) k d).1
  taken_at rows at k d low =
      let swapped : List (K × ℕ) = set rows at (get_or rows (length rows - 1) d) in
      let within : k < length (take (length rows - 1) swapped) = omega (arith, length-take (length rows - 1) swapped, length-set rows at (get_or rows (length rows - 1) d)) in
      value_at (take (length rows - 1) swapped) k d within ∙ ap (λ (r : K × ℕ). r.1) (get_or-take (length rows - 1) swapped k d low)

  pub removed_here : (rows : List (K × ℕ)) (at : ℕ) (d : K × ℕ) → at < length rows - 1 → get_or (values_of (swap_remove rows at d)) at 0 ≡ get_or (values_of rows) (length rows - 1) 0
  removed_here rows at d low =
      taken_at rows at at d low ∙ ap (λ (r : K × ℕ). r.1) (get_or-set_same rows at (get_or rows (length rows - 1) d) d (omega arith)) ∙ sym (value_at rows (length rows - 1) d (omega arith))

  -- and each other is as it was
  pub removed_there : (rows : List (K × ℕ)) (at k : ℕ) (d : K × ℕ) → k < length rows - 1 → k ≢ at → get_or (values_of (swap_remove rows at d)) k 0 ≡ get_or (values_of rows) k 0
  removed_there rows at k d low other =
      taken_at rows at k d low ∙ ap (λ (r : K × ℕ). r.1) (get_or-set_other rows at k (get_or rows (length rows - 1) d) d other) ∙ sym (value_at rows k d (omega arith))

  pub length-removed : (rows : List (K × ℕ)) (at : ℕ) (d : K × ℕ) → length (swap_remove rows at d) ≡ length rows - 1
  length-removed rows at d =
      let swapped : List (K × ℕ) = set rows at (get_or rows (length rows - 1) d) in
      omega (arith, length-take (length rows - 1) swapped, length-set rows at (get_or rows (length rows - 1) d))
