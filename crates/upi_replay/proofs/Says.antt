-- Replies and messages follow from how a transaction stands by the rows before an event and with it.
use Rattle.std.proofs.Common.{◌≡◌, ℕ, Bool, true, false, List, [], ◌∷◌, ◌++◌, Option, refl, sym, ◌∙◌, ap, subst, ◌||◌, length-append}
use Rattle.std.specs.Prelude.{length, ◌+◌}
use Rattle.std.proofs.lemmas.List.{reverse-append}
use Rattle.upi_words.specs.Prelude.{Entry, Call, Reply, Sent, Event, Setup, History, Text, is_closed, event_of}
use Rattle.upi_model.specs.History.{sent, sent_count, past, put, is_close}
use Rattle.upi_model.specs.Chronicle.{Chronicle}
use Rattle.upi_model.specs.Own.{event_with}
use Rattle.upi_model.specs.Dues.{passed}
use Rattle.upi_model.specs.Standing.{standing, sendings, shard_opened, is_due_on}
use Rattle.upi_model.specs.Replies.{reply_to, order_answer, txn_of, reply_by, reply_shut}
use Rattle.upi_model.specs.Sending.{sends_by, delivered_by, sent_by}
use Rattle.upi_replay.specs.declared.rows.Row.{Row}
use Rattle.upi_replay.specs.declared.found.Found.{Found}
use Rattle.upi_replay.specs.Rows.{rows_of, rows_after, strays_of, strays_after, row_stands, look, shard_found, orders_in, is_due_in, row_then, message_in, IsFound, IsReplay}
use Rattle.upi_replay.specs.Rooms.{IsSameFound}
use Rattle.upi_replay.proofs.Looks.{looks, orders_are, due_is, shard_is}
use Rattle.upi_replay.proofs.Steps.{rows_more, then_is, found_more}

-- the message that a call delivers is one of those that were sent
pub message_is : (h : History) (c : Call) → message_in (sent h) c ≡ delivered_by h c
message_is h (Call.Deliver n) = refl
message_is h (Call.Hear p what) = refl
message_is h (Call.Lose n) = refl
message_is h (Call.Late t) = refl
message_is h Call.Close = refl

-- what a call brings, with that message
pub event_is : (h : History) (c : Call) → event_with (message_in (sent h) c) c ≡ event_of h c
event_is h (Call.Deliver n) = refl
event_is h (Call.Hear p what) = refl
event_is h (Call.Lose n) = refl
event_is h (Call.Late t) = refl
event_is h Call.Close = refl

-- the reply to an event
replied_rows : (S : Setup) (h : History) (c : Call) (now : ℕ)
    → reply_by S (shard_found (rows_of S h) (txn_of (event_of h c))) (orders_in S (rows_of S h)) (is_due_in h (rows_of S h) (event_of h c) now) (is_closed h) (look (rows_of S h) (txn_of (event_of h c))) (event_of h c) now ≡ reply_to S h c now
unfolding reply_to
replied_rows S h c now =
    let v = event_of h c in
    let t = txn_of v in
    let rows = rows_of S h in
    let due = is_due_on (is_closed h) (standing S t h) (sendings t h) now in
    let go : (b : Bool) → is_closed h ≡ b → reply_by S (shard_found rows t) (orders_in S rows) (is_due_in h rows v now) (is_closed h) (look rows t) v now ≡ reply_by S (shard_opened S t h) (order_answer S h) due (is_closed h) (standing S t h) v now
    = λ b is. elim b as (λ b. is_closed h ≡ b → reply_by S (shard_found rows t) (orders_in S rows) (is_due_in h rows v now) (is_closed h) (look rows t) v now ≡ reply_by S (shard_opened S t h) (order_answer S h) due (is_closed h) (standing S t h) v now) [
      | true ↦ λ shut. (λ i. reply_by S (shard_found rows t) (orders_in S rows) (is_due_in h rows v now) (shut i) (look rows t) v now) ∙ (ap (λ s. reply_shut s v) (looks S h t) ∙ sym (λ i. reply_by S (shard_opened S t h) (order_answer S h) due (shut i) (standing S t h) v now))
      | false ↦ λ run. λ i. reply_by S (shard_is S h t i) (orders_are S h i) (passed now (due_is S h t run i)) (is_closed h) (looks S h t i) v now
    ] is in
    go (is_closed h) refl

pub replied : (S : Setup) (h : History) (f : Found) (c : Call) (e : Event) (now : ℕ) → IsFound S h f → e ≡ event_of h c
    → reply_by S (shard_found f.rows.items (txn_of e)) (orders_in S f.rows.items) (is_due_in h f.rows.items e now) f.closed (look f.rows.items (txn_of e)) e now ≡ reply_to S h c now
replied S h f c e now is event_is =
    (λ i. reply_by S (shard_found (is.rows i) (txn_of (event_is i))) (orders_in S (is.rows i)) (is_due_in h (is.rows i) (event_is i) now) (is.closed i) (look (is.rows i) (txn_of (event_is i))) (event_is i) now)
    ∙ replied_rows S h c now

-- the entry with which `put` goes on
asked : Call → ℕ → Entry
asked c now = record { call = c; at = now; caller = 0; reply = Reply.Told; sent = [] }

rows_then : (S : Setup) (h : History) (c : Call) (now : ℕ) → rows_of S (put h c now) ≡ rows_after S (rows_of S h) (strays_of S h) (is_closed h) (event_of h c) now
unfolding asked
rows_then S h c now = rows_more S (asked c now) h

-- how a transaction stands with an event
stands_then : (S : Setup) (h : History) (c : Call) (now : ℕ) (t : Text) → row_stands (row_then S (rows_of S h) (strays_of S h) (is_closed h) (event_of h c) now t) ≡ standing S t (put h c now)
stands_then S h c now t =
    ap row_stands (then_is S (rows_of S h) (strays_of S h) (is_closed h) (event_of h c) now t)
    ∙ (ap (λ (rows : List Row). look rows t) (sym (rows_then S h c now)) ∙ looks S (put h c now) t)

-- the messages of an event
sent_rows : (S : Setup) (h : History) (c : Call) (now : ℕ)
    → sends_by S (orders_in S (rows_of S h)) (is_due_in h (rows_of S h) (event_of h c) now) (delivered_by h c) (is_closed h) (look (rows_of S h) (txn_of (event_of h c))) (row_stands (row_then S (rows_of S h) (strays_of S h) (is_closed h) (event_of h c) now (txn_of (event_of h c)))) (event_of h c) ≡ sent_by S h c now
unfolding sent_by
sent_rows S h c now =
    let v = event_of h c in
    let t = txn_of v in
    let rows = rows_of S h in
    let m = delivered_by h c in
    let due = is_due_on (is_closed h) (standing S t h) (sendings t h) now in
    let after = row_stands (row_then S rows (strays_of S h) (is_closed h) v now t) in
    let go : (b : Bool) → is_closed h ≡ b → sends_by S (orders_in S rows) (is_due_in h rows v now) m (is_closed h) (look rows t) after v ≡ sends_by S (order_answer S h) due m (is_closed h) (standing S t h) (standing S t (put h c now)) v
    = λ b is. elim b as (λ b. is_closed h ≡ b → sends_by S (orders_in S rows) (is_due_in h rows v now) m (is_closed h) (look rows t) after v ≡ sends_by S (order_answer S h) due m (is_closed h) (standing S t h) (standing S t (put h c now)) v) [
      | true ↦ λ shut. (λ i. sends_by S (orders_in S rows) (is_due_in h rows v now) m (shut i) (look rows t) after v) ∙ sym (λ i. sends_by S (order_answer S h) due m (shut i) (standing S t h) (standing S t (put h c now)) v)
      | false ↦ λ run. λ i. sends_by S (orders_are S h i) (passed now (due_is S h t run i)) m (is_closed h) (looks S h t i) (stands_then S h c now t i) v
    ] is in
    go (is_closed h) refl

pub messages_are : (S : Setup) (h : History) (f : Found) (c : Call) (e : Event) (now : ℕ) (m : Option Sent) → IsFound S h f → e ≡ event_of h c → m ≡ delivered_by h c
    → sends_by S (orders_in S f.rows.items) (is_due_in h f.rows.items e now) m f.closed (look f.rows.items (txn_of e)) (row_stands (row_then S f.rows.items f.strays.items f.closed e now (txn_of e))) e ≡ sent_by S h c now
messages_are S h f c e now m is event_is message_is =
    (λ i. sends_by S (orders_in S (is.rows i)) (is_due_in h (is.rows i) (event_is i) now) (message_is i) (is.closed i) (look (is.rows i) (txn_of (event_is i))) (row_stands (row_then S (is.rows i) (is.strays i) (is.closed i) (event_is i) now (txn_of (event_is i)))) (event_is i))
    ∙ sent_rows S h c now

-- the sent messages, counted
pub count_is : (h : History) → length (sent h) ≡ sent_count h
count_is [] = refl
count_is (e ∷ h) = length-append (sent h) e.sent ∙ ap (λ n. n + length e.sent) (count_is h)

-- a reply by what a switch keeps
pub replied_at : (k : Chronicle) (S S' : Setup) (E E' : List Entry) (f : Found) (c : Call) (e : Event) (now : ℕ) → ◌≡◌ {A = Chronicle} (record { setup = S; history = past E }) k → S' ≡ S → E' ≡ E
    → IsFound S (past E) f → e ≡ event_of k.history c
    → reply_by S' (shard_found f.rows.items (txn_of e)) (orders_in S' f.rows.items) (is_due_in (past E') f.rows.items e now) f.closed (look f.rows.items (txn_of e)) e now ≡ reply_to k.setup k.history c now
replied_at k S S' E E' f c e now view setup entries is event_is =
    (λ i. reply_by (setup i) (shard_found f.rows.items (txn_of e)) (orders_in (setup i) f.rows.items) (is_due_in (past (entries i)) f.rows.items e now) f.closed (look f.rows.items (txn_of e)) e now)
    ∙ (replied S (past E) f c e now is (event_is ∙ ap (λ (k : Chronicle). event_of k.history c) (sym view))
    ∙ ap (λ (k : Chronicle). reply_to k.setup k.history c now) view)

-- messages by what a switch keeps
pub messages_at : (k : Chronicle) (S S' : Setup) (E E' : List Entry) (M M' : List Sent) (f : Found) (c : Call) (e : Event) (now : ℕ) (m : Option Sent) → ◌≡◌ {A = Chronicle} (record { setup = S; history = past E }) k → S' ≡ S → E' ≡ E → M' ≡ M
    → IsReplay S (past E) M f → e ≡ event_of k.history c → m ≡ message_in M' c
    → sends_by S' (orders_in S' f.rows.items) (is_due_in (past E') f.rows.items e now) m f.closed (look f.rows.items (txn_of e)) (row_stands (row_then S' f.rows.items f.strays.items f.closed e now (txn_of e))) e ≡ sent_by k.setup k.history c now
messages_at k S S' E E' M M' f c e now m view setup entries messages is event_is found =
    (λ i. sends_by (setup i) (orders_in (setup i) f.rows.items) (is_due_in (past (entries i)) f.rows.items e now) m f.closed (look f.rows.items (txn_of e)) (row_stands (row_then (setup i) f.rows.items f.strays.items f.closed e now (txn_of e))) e)
    ∙ (messages_are S (past E) f c e now m is.found (event_is ∙ ap (λ (k : Chronicle). event_of k.history c) (sym view)) (found ∙ (ap (λ l. message_in l c) (messages ∙ is.messages_are) ∙ message_is (past E) c))
    ∙ ap (λ (k : Chronicle). sent_by k.setup k.history c now) view)

-- what a switch keeps with one more entry
pub replay_more : (k : Chronicle) (S S' : Setup) (E E' : List Entry) (M M' : List Sent) (f f' g : Found) (e : Entry) (event : Event) → ◌≡◌ {A = Chronicle} (record { setup = S; history = past E }) k → S' ≡ S
    → E' ≡ E ++ e ∷ [] → M' ≡ M ++ e.sent → IsReplay S (past E) M f → IsSameFound f f' → event ≡ event_of k.history e.call
    → g.rows.items ≡ rows_after S' f'.rows.items f'.strays.items f'.closed event e.at
    → g.strays.items ≡ strays_after f'.rows.items f'.strays.items f'.closed event
    → g.closed ≡ (is_close e.call || f'.closed)
    → IsReplay S (past E') M' g
replay_more k S S' E E' M M' f f' g e event view setup entries messages is same event_is r s c =
    let is_event = event_is ∙ ap (λ (k : Chronicle). event_of k.history e.call) (sym view) in
    let longer : past E' ≡ e ∷ past E = ap past entries ∙ reverse-append E (e ∷ []) in
    subst (λ (h : History). IsReplay S h M' g) (sym longer) (record {
      messages_are = messages ∙ ap (λ l. l ++ e.sent) is.messages_are;
      found = found_more S (past E) e f g is.found
          (r ∙ (λ i. rows_after (setup i) (same.rows i) (same.strays i) (same.closed i) (is_event i) e.at))
          (s ∙ (λ i. strays_after (same.rows i) (same.strays i) (same.closed i) (is_event i)))
          (c ∙ ap (λ (b : Bool). is_close e.call || b) same.closed);
    })

-- and what contracts see of it
pub seen_more : (k : Chronicle) (S : Setup) (E E' : List Entry) (e : Entry) → ◌≡◌ {A = Chronicle} (record { setup = S; history = past E }) k → E' ≡ E ++ e ∷ []
    → ◌≡◌ {A = Chronicle} (record { setup = S; history = past E' }) (record k { history = e ∷ k.history })
seen_more k S E E' e view entries =
    (λ i. record { setup = S; history = (ap past entries ∙ reverse-append E (e ∷ [])) i })
    ∙ ap (λ (k : Chronicle). record k { history = e ∷ k.history }) view
