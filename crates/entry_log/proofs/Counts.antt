-- Rows that count their messages: what a row has of them, and one entry more.
use Rattle.std.proofs.Common.{◌≡◌, ℕ, zero, suc, ◌+◌, ◌-◌, ◌≤◌, Bool, true, false, cond, List, [], ◌∷◌, ◌++◌, length, take, drop, Some, None, refl, sym, ap, subst, ◌∙◌, arith, length-append, eqb-true}
use Rattle.std.specs.Prelude.{◌==◌, ◌&&◌, nat_le, reverse, slice_get, slice_index_or, option_map}
use Rattle.std.proofs.lemmas.Bool.{and_parts, and_from}
use Rattle.std.proofs.lemmas.Bool.Decides.{nat_tests}
use Rattle.std.proofs.lemmas.List.{take-append-le, drop-take, reverse-append, reverse-reverse, length-reverse}
use Rattle.std.proofs.Math.Seq.{take-length, drop-append_seam}
use Rattle.upi_words.specs.Prelude.{Call, Entry, Sent, History}
use Rattle.upi_model.specs.History.{past, sent, sent_count, numbered, message_at}
use Rattle.entry_log.specs.declared.rows.Row.{Row}
use Rattle.entry_log.specs.Rows.{call_of, between, entry_in, entries_from, history_of, sent_before, row_of, is_counted, IsLog, entry_at}

-- ---- counts

-- what a test of counts says
counted_le : (from upto : ℕ) (b : Bool) → (nat_le from upto && b) ≡ true → from ≤ upto
counted_le from upto b e = grind (arith, nat_tests, (and_parts (nat_le from upto) b e).0)

counted_same : (from n : ℕ) → (from == n) ≡ true → from ≡ n
counted_same from n e = eqb-true from n e

le_test : (a b : ℕ) → a ≤ b → nat_le a b ≡ true
le_test a b e = grind (arith, nat_tests, e)

same_test : (a b : ℕ) → a ≡ b → (a == b) ≡ true
same_test a b e = grind (arith, nat_tests, e)

-- the first count is not above the last
counted_all : (from n : ℕ) (rows : List Row) → is_counted from rows n ≡ true → from ≤ n
counted_all from n [] e = let same = counted_same from n e in omega (arith, same)
counted_all from n (r ∷ rs) e =
    let here = counted_le from r.upto (is_counted r.upto rs n) e in
    let later = counted_all r.upto n rs (and_parts (nat_le from r.upto) (is_counted r.upto rs n) e).1 in
    omega (arith, here, later)

-- a row more, which counts what there is then
counted_more : (from n m : ℕ) (rows : List Row) (r : Row) → is_counted from rows n ≡ true → n ≤ m → r.upto ≡ m → is_counted from (rows ++ r ∷ []) m ≡ true
counted_more from n m [] r e le at =
    let same = counted_same from n e in
    and_from (nat_le from r.upto) (r.upto == m) (le_test from r.upto (omega (arith, same, le, at))) (same_test r.upto m at)
counted_more from n m (x ∷ rs) r e le at =
    let parts = and_parts (nat_le from x.upto) (is_counted x.upto rs n) e in
    and_from (nat_le from x.upto) (is_counted x.upto (rs ++ r ∷ []) m) parts.0 (counted_more x.upto n m rs r parts.1 le at)

-- ---- what stands at a place

-- how many messages were sent before a row is what the row before it counts
pub before_at : (rows : List Row) (place : ℕ) (d : Row) → place ≤ length rows → (place ≡ 0 → ⊥) → (slice_index_or rows (place - 1) d).upto ≡ sent_before 0 rows place
before_at rows place d le some = go 0 rows place le some
  where
    never : (i : ℕ) → suc i ≡ 0 → ⊥
    never i e = omega (arith, e)

    go : (from : ℕ) (rows : List Row) (place : ℕ) → place ≤ length rows → (place ≡ 0 → ⊥) → (slice_index_or rows (place - 1) d).upto ≡ sent_before from rows place
    go from rows zero le some = absurd (some refl)
    go from [] (suc i) le some = absurd (omega arith)
    go from (r ∷ rs) (suc zero) le some = refl
    go from (r ∷ rs) (suc (suc i)) le some =
        let here : suc (suc i) - 1 ≡ suc i = omega arith in
        let next : suc i - 1 ≡ i = omega arith in
        ap (λ (n : ℕ). (slice_index_or (r ∷ rs) n d).upto) here ∙ ap (λ (n : ℕ). (slice_index_or rs n d).upto) (sym next) ∙ go r.upto rs (suc i) (omega arith) (never i)

-- what the first so many messages leave behind the first few
pub cut : (from upto : ℕ) (messages : List Sent) → from ≤ upto → take (upto - from) (drop from messages) ≡ between from upto messages
cut from upto messages le =
    let all : from + (upto - from) ≡ upto = omega (arith, le) in
    sym (drop-take from (upto - from) messages) ∙ ap (λ (n : ℕ). drop from (take n messages)) all

-- the entry at a place is its row's
entry_got : (from : ℕ) (rows : List Row) (messages : List Sent) (i : ℕ) → slice_get (entries_from from rows messages) i ≡ option_map (entry_in (sent_before from rows i) messages) (slice_get rows i)
entry_got from [] messages i = refl
entry_got from (r ∷ rs) messages zero = refl
entry_got from (r ∷ rs) messages (suc i) = entry_got r.upto rs messages i

entries_count : (from : ℕ) (rows : List Row) (messages : List Sent) → length (entries_from from rows messages) ≡ length rows
entries_count from [] messages = refl
entries_count from (r ∷ rs) messages = ap suc (entries_count r.upto rs messages)

-- so is the one at a place of the history
entry_is : (rows : List Row) (messages : List Sent) (k : ℕ) → entry_at (history_of rows messages) k ≡ option_map (entry_in (sent_before 0 rows (k - 1)) messages) (row_of rows k)
entry_is rows messages k = go (k == 0)
  where
    go : (b : Bool) → cond b None (slice_get (past (history_of rows messages)) (k - 1)) ≡ option_map (entry_in (sent_before 0 rows (k - 1)) messages) (cond b None (slice_get rows (k - 1)))
    go true = refl
    go false = ap (λ (es : List Entry). slice_get es (k - 1)) (reverse-reverse (entries_from 0 rows messages)) ∙ entry_got 0 rows messages (k - 1)

pub length_is : (rows : List Row) (messages : List Sent) → length (history_of rows messages) ≡ length rows
length_is rows messages = length-reverse (entries_from 0 rows messages) ∙ entries_count 0 rows messages

-- the messages of a row are there, behind those before it
pub record IsThere (from n : ℕ) (rows : List Row) (i : ℕ) (r : Row) : Type 0 where
  pub order : sent_before from rows i ≤ r.upto
  pub there : r.upto ≤ n

pub row_there : (from n : ℕ) (rows : List Row) (i : ℕ) (r : Row) → is_counted from rows n ≡ true → slice_get rows i ≡ Some r → IsThere from n rows i r
row_there from n [] i r e is = absurd cc
row_there from n (x ∷ rs) zero r e is =
    let same : x.upto ≡ r.upto = ap (λ (y : Row). y.upto) (some (x) r is) in
    let here = counted_le from x.upto (is_counted x.upto rs n) e in
    let later = counted_all x.upto n rs (and_parts (nat_le from x.upto) (is_counted x.upto rs n) e).1 in
    record { order = omega (arith, same, here); there = omega (arith, same, later) }
  where
    some : (x r : Row) → Some x ≡ Some r → x ≡ r
    some x r e = cc
row_there from n (x ∷ rs) (suc i) r e is =
    let k = row_there x.upto n rs i r (and_parts (nat_le from x.upto) (is_counted x.upto rs n) e).1 is in
    record { order = k.order; there = k.there }

-- ---- messages

count_is : (h : History) → length (sent h) ≡ sent_count h
count_is [] = refl
count_is (e ∷ h) = let k = count_is h in length-append (sent h) e.sent ∙ ap (λ (n : ℕ). n + length e.sent) k

pub sent_count_is : (rows : List Row) (messages : List Sent) → IsLog rows messages → length messages ≡ sent_count (history_of rows messages)
sent_count_is rows messages log = ap length (sym log.messages_are) ∙ count_is (history_of rows messages)

-- ---- one entry more

-- further messages change no entry
entries_stay : (from : ℕ) (rows : List Row) (messages more : List Sent) → is_counted from rows (length messages) ≡ true → entries_from from rows (messages ++ more) ≡ entries_from from rows messages
entries_stay from [] messages more e = refl
entries_stay from (r ∷ rs) messages more e =
    let parts = and_parts (nat_le from r.upto) (is_counted r.upto rs (length messages)) e in
    let same : take r.upto (messages ++ more) ≡ take r.upto messages = take-append-le r.upto messages more (counted_all r.upto (length messages) rs parts.1) in
    λ i. record { call = (entry_in from messages r).call; at = r.at; caller = r.caller; reply = r.reply; sent = drop from (same i) } ∷ entries_stay r.upto rs messages more parts.1 i

entries_push : (from : ℕ) (rows : List Row) (messages : List Sent) (r : Row) (n : ℕ) → is_counted from rows n ≡ true → entries_from from (rows ++ r ∷ []) messages ≡ entries_from from rows messages ++ entry_in n messages r ∷ []
entries_push from [] messages r n e = ap (λ (k : ℕ). entry_in k messages r ∷ []) (counted_same from n e)
entries_push from (x ∷ rs) messages r n e =
    ap (λ (es : List Entry). entry_in from messages x ∷ es) (entries_push x.upto rs messages r n (and_parts (nat_le from x.upto) (is_counted x.upto rs n) e).1)

-- the messages of the last row are those that came with it
last_sent : (messages more : List Sent) (upto : ℕ) → upto ≡ length (messages ++ more) → between (length messages) upto (messages ++ more) ≡ more
last_sent messages more upto is =
    ap (λ (n : ℕ). between (length messages) n (messages ++ more)) is ∙ ap (drop (length messages)) (take-length (messages ++ more)) ∙ drop-append_seam messages more

module _ (rows : List Row) (messages more : List Sent) (r : Row) (log : IsLog rows messages) (at : r.upto ≡ length (messages ++ more)) where
  pub history_more : history_of (rows ++ r ∷ []) (messages ++ more) ≡ record (entry_in 0 [] r) { sent = more } ∷ history_of rows messages
  history_more =
      ap reverse (entries_push 0 rows (messages ++ more) r (length messages) log.counted)
      ∙ reverse-append (entries_from 0 rows (messages ++ more)) (entry_in (length messages) (messages ++ more) r ∷ [])
      ∙ (λ i. record (entry_in 0 [] r) { sent = last_sent messages more r.upto at i } ∷ reverse (entries_stay 0 rows messages more log.counted i))

  pub log_more : IsLog (rows ++ r ∷ []) (messages ++ more)
  log_more = record {
    counted = counted_more 0 (length messages) (length (messages ++ more)) rows r log.counted (omega (arith, length-append messages more)) at;
    messages_are = ap sent history_more ∙ ap (λ (ms : List Sent). ms ++ more) log.messages_are;
  }

-- the list with an entry more is its history's
module _ (h : History) (rows after : List Row) (messages told more : List Sent) (r : Row) (e : Entry) (view : history_of rows messages ≡ h) (log : IsLog rows messages) (pushed : after ≡ rows ++ r ∷ []) (sends : told ≡ messages ++ more)
    (upto : r.upto ≡ length told) where
  pub appended_log : IsLog after told
  appended_log = subst (λ (rs : List Row). IsLog rs told) (sym pushed) (subst (λ (ms : List Sent). IsLog (rows ++ r ∷ []) ms) (sym sends) (log_more rows messages more r log (upto ∙ ap length sends)))

  pub appended : more ≡ e.sent → call_of r.made ≡ e.call → r.at ≡ e.at → r.caller ≡ e.caller → r.reply ≡ e.reply → history_of after told ≡ e ∷ h
  appended its_sent its_call its_at its_caller its_reply =
      (λ i. history_of (pushed i) (sends i)) ∙ history_more rows messages more r log (upto ∙ ap length sends)
      ∙ (λ i. record { call = its_call i; at = its_at i; caller = its_caller i; reply = its_reply i; sent = its_sent i } ∷ view i)

-- ---- what is handed out

pub shown_at : (h : History) (rows : List Row) (messages : List Sent) (k : ℕ) (r : Row) (c : Call) (sends : List Sent) → history_of rows messages ≡ h → Some r ≡ row_of rows k → sends ≡ between (sent_before 0 rows (k - 1)) r.upto messages
    → c ≡ call_of r.made → Some (record { call = c; at = r.at; caller = r.caller; reply = r.reply; sent = sends }) ≡ entry_at h k
shown_at h rows messages k r c sends view is its_sends its_call =
    (λ j. Some (record { call = its_call j; at = r.at; caller = r.caller; reply = r.reply; sent = its_sends j }))
    ∙ ap (option_map (entry_in (sent_before 0 rows (k - 1)) messages)) is ∙ sym (entry_is rows messages k) ∙ ap (λ (g : History). entry_at g k) view

pub none_at : (h : History) (rows : List Row) (messages : List Sent) (k : ℕ) → history_of rows messages ≡ h → None ≡ row_of rows k → None ≡ entry_at h k
none_at h rows messages k view is = ap (option_map (entry_in (sent_before 0 rows (k - 1)) messages)) is ∙ sym (entry_is rows messages k) ∙ ap (λ (g : History). entry_at g k) view

-- the row is there, and its messages are behind those before it
pub row_is : (rows : List Row) (n k : ℕ) (r : Row) → is_counted 0 rows n ≡ true → Some r ≡ row_of rows k → (k - 1 ≤ length rows) × IsThere 0 n rows (k - 1) r
row_is rows n k r counted is = go (k == 0) is
  where
    within : (rows : List Row) (i : ℕ) → slice_get rows i ≡ Some r → i ≤ length rows
    within [] i e = absurd cc
    within (x ∷ rs) zero e = omega arith
    within (x ∷ rs) (suc i) e = let later = within rs i e in omega (arith, later)

    go : (b : Bool) → Some r ≡ cond b None (slice_get rows (k - 1)) → (k - 1 ≤ length rows) × IsThere 0 n rows (k - 1) r
    go true e = absurd cc
    go false e = (within rows (k - 1) (sym e), row_there 0 n rows (k - 1) r counted (sym e))

pub message_is : (h : History) (rows : List Row) (messages : List Sent) (n : ℕ) → history_of rows messages ≡ h → IsLog rows messages → numbered messages n ≡ message_at h n
message_is h rows messages n view log = ap (λ (ms : List Sent). numbered ms n) (sym log.messages_are ∙ ap sent view)
