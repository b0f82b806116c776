-- What a set and a remove leave.
use Rattle.std.proofs.Common.{◌≡◌, ◌≢◌, ℕ, suc, ◌+◌, ◌-◌, ◌<◌, ◌≤◌, Bool, true, cond, nat_lt, List, [], ◌∷◌, length, get_or, Option, Some, None, Result, Ok, Err, OnErr, is_some, if◌then◌else◌, refl, sym, ap, ◌∙◌, arith, ⊎_elim}
use Rattle.std.specs.Prelude.{swap_remove, position, IsOk}
use Rattle.std.specs.List.{position_or_len}
use Rattle.std.specs.Map.{keys_of, values_of}
use Rattle.std.specs.Option.{option_map_or}
use Rattle.std.proofs.lemmas.Bool.{cases_eq}
use Rattle.std.proofs.lemmas.List.Quantifiers.{position-Some}
use Rattle.std.proofs.lemmas.Map.Entries.{length-keys_of}
use Rattle.indexmap.specs.IndexMap.{insert_entry, swap_remove_entry}
use Rattle.upi_base.specs.Names.{Text}
use Rattle.expiry_clock.specs.Dues.{Rows}
use Rattle.expiry_clock.specs.Tree.{IsGrown, WritesLeaf}
use Rattle.expiry_clock.specs.declared.tree.TheConstants.{NEVER}
use Rattle.expiry_clock.proofs.Values.{inserted_here, inserted_there, inserted_within, removed_here, removed_there, length-removed}

pub after_set : (leaves height at value : ℕ) (old new : List ℕ) (rows after : Rows) (eq : Text → Text → Bool) (key : Text) → IsGrown leaves height old rows
    → after ≡ insert_entry eq rows key value → at ≡ position_or_len (eq key) (keys_of rows) → at < length after → length rows ≤ length after → length after ≤ leaves → WritesLeaf leaves at value old new → IsGrown leaves height new after
after_set leaves height at value old new rows after eq key h is place within longer room w = record {
  indexes = record {
    tree = w.tree;
    room = room;
    moments = λ k inside. ⊎_elim
        (λ (e : k ≡ at). ap (λ j. get_or new (leaves + j) 0) e ∙ w.leaf ∙ sym (inserted_here eq key value rows) ∙ λ i. get_or (values_of (sym is i)) ((sym place ∙ sym e) i) 0)
        (λ (ne : k ≢ at).
        let away : k ≢ position_or_len (eq key) (keys_of rows) = λ p. ne (p ∙ sym place) in
        let before : k < length rows = inserted_within eq key value rows k (omega (arith, ap length is)) away in
        w.others k (omega (arith, h.indexes.room)) ne ∙ h.indexes.moments k before ∙ sym (inserted_there eq key value rows k away) ∙ ap (λ (l : Rows). get_or (values_of l) k 0) (sym is))
        (cases_eq k at);
    rest = λ k behind low. let ne : k ≢ at = omega arith in w.others k low ne ∙ h.indexes.rest k (omega arith) low;
  };
  spans = h.spans;
}

-- a row that is there is taken out by its place
record Taken (rows after : Rows) (at : ℕ) : Type 0 where
  within : at < length rows
  spare_row : Text × ℕ
  is : after ≡ swap_remove rows at spare_row

taken : (rows after : Rows) (at : ℕ) (test : Text → Bool) → after ≡ swap_remove_entry test rows → Some at ≡ position test (keys_of rows) → Taken rows after at
taken [] after at test is place = absurd cc
taken (r ∷ rows) after at test is place = record {
  within = omega (arith, (position-Some test (keys_of (r ∷ rows)) at [] (sym place)).0, length-keys_of (r ∷ rows));
  spare_row = r;
  is = is ∙ ap (λ (o : Option ℕ). option_map_or (λ i. swap_remove (r ∷ rows) i r) o (r ∷ rows)) (sym place);
}

pub after_remove : (leaves height at last : ℕ) (old mid new : List ℕ) (rows after : Rows) (test : Text → Bool) → IsGrown leaves height old rows
    → after ≡ swap_remove_entry test rows → Some at ≡ position test (keys_of rows) → last ≡ length after
    → WritesLeaf leaves at (get_or old (leaves + last) 0) old mid → WritesLeaf leaves last NEVER mid new → IsGrown leaves height new after
after_remove leaves height at last old mid new rows after test h is place len first second =
    let t = taken rows after at test is place in
    let fewer : last ≡ length rows - 1 = len ∙ ap length t.is ∙ length-removed rows at t.spare_row in
    let inside : at < length rows = t.within in
    let values : (k : ℕ) → get_or (values_of after) k 0 ≡ get_or (values_of (swap_remove rows at t.spare_row)) k 0 = λ k. ap (λ (l : Rows). get_or (values_of l) k 0) t.is in
    record {
      indexes = record {
        tree = second.tree;
        room = omega (arith, h.indexes.room);
        moments = λ k low.
            let away : k ≢ last = omega arith in
            second.others k (omega (arith, h.indexes.room)) away ∙ ⊎_elim
            (λ (e : k ≡ at). ap (λ j. get_or mid (leaves + j) 0) e ∙ first.leaf ∙ h.indexes.moments last (omega arith) ∙ ap (λ n. get_or (values_of rows) n 0) fewer
            ∙ sym (removed_here rows at t.spare_row (omega (arith, e))) ∙ sym (values at) ∙ ap (λ j. get_or (values_of after) j 0) (sym e))
            (λ (ne : k ≢ at). first.others k (omega (arith, h.indexes.room)) ne ∙ h.indexes.moments k (omega arith) ∙ sym (removed_there rows at k t.spare_row (omega arith) ne) ∙ sym (values k))
            (cases_eq k at);
        rest = λ k behind low. ⊎_elim
            (λ (e : k ≡ last). ap (λ j. get_or new (leaves + j) 0) e ∙ second.leaf)
            (λ (ne : k ≢ last). let away : k ≢ at = omega arith in second.others k low ne ∙ first.others k low away ∙ h.indexes.rest k (omega arith) low)
            (cases_eq k last);
      };
      spans = h.spans;
    }

-- ---- room

-- a call that can only fail where P holds, and doesn't where P holds, is Ok
pub ok_unless : {T E : Type 0} (r : Result T E) (P : Type 0) → OnErr r P → (P → IsOk r) → IsOk r
ok_unless (Ok x) P when_err unless = refl
ok_unless (Err e) P when_err unless = unless when_err

-- how many rows there are behind an insert, where there was room for a new one
pub record Roomy (len after leaves : ℕ) : Type 0 where
  pub longer : len ≤ after
  pub within : after ≤ leaves

pub roomy : {X : Type 0} (had : Option X) (len after leaves : ℕ) → after ≡ len + (if is_some had then 0 else 1) → len ≤ leaves → (had ≡ None → len < leaves) → Roomy len after leaves
roomy None len after leaves is within room = let more : len < leaves = room refl in record { longer = omega arith; within = omega arith }
roomy (Some x) len after leaves is within room = record { longer = omega arith; within = omega arith }
