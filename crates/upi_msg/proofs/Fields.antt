-- The members of a written message are read back.
use Rattle.std.proofs.Common.{◌≡◌, ℕ, ◌+◌, ◌<◌, ◌≤◌, ◌^◌, ◌==◌, nat_le, Bool, true, false, true≢false, List, [], ◌∷◌, ◌++◌, length, take, codes, Option, Some, None, Ok, option_map, is_some, decimal, refl, sym, ap, ◌∙◌, subst, length-append, arith}
use Rattle.std.specs.List.{list_all, prefix_len}
use Rattle.std.specs.Char.{is_ascii_digit, is_ascii_alphanumeric, is_ascii_uppercase}
use Rattle.std.specs.Int.{IsInRange}
use Rattle.std.specs.Str.Parse.{AllDigits}
use Rattle.std.proofs.Math.Seq.{take-append_seam}
use Rattle.std.proofs.lemmas.Bool.{and_parts, and_from, le-leb}
use Rattle.std.proofs.lemmas.Bool.Decides.{nat_tests}
use Rattle.std.proofs.Math.Seq.{take-length}
use Rattle.std.proofs.lemmas.List.Folds.{list_all-append}
use Rattle.std.proofs.lemmas.Fmt.{decimal_is_IsNumeral, decimal_nonempty, length-decimal-le}
use Rattle.std.proofs.lemmas.Str.Parse.{digit_from_value}
use Rattle.serde_json.specs.Data.{Data, string, object, Members, no_members, member}
use Rattle.serde_json.specs.Find.{get}
use Rattle.upi_base.specs.Texts.{is_msg_id, is_org_id, is_txn_id, is_addr, is_note_text, is_bank_code, is_bank}
use Rattle.upi_base.specs.Versions.{is_two}
use Rattle.upi_base.specs.Money.{paise_text, max_paise}
use Rattle.upi_base.specs.Time.{moment_text, max_moment}
use Rattle.upi_base.proofs.Again.{paise_again, moment_again}
use Rattle.upi_msg.specs.Types.{Text, Kind, Ver, Extra, Head, AccountRef, PayReq, AuthResp, Chk, ConfResp, Message, Api}
use Rattle.upi_msg.specs.Places.{name_text}
use Rattle.upi_msg.specs.Members.{text_of, object_of, list_of, member_at, text_at, object_in, list_in, small_in, moment_in}
use Rattle.upi_msg.specs.Named.{named_item, only_named}
use Rattle.upi_msg.specs.Heads.{ver_named, ver_in, head_of}
use Rattle.upi_msg.specs.Parties.{value_in, amount_of, amount_in, bank_of_ifsc, account_of_items, account_of_parts, account_of, ac_of, account_in, payee_of}
use Rattle.upi_msg.specs.Payments.{kind_named, kind_in, note_of, note_in, minutes_of, minutes_in, rules_of, rules_in, no_digits, digits_in, terms_of, payer_of, payee_in, extra_by, extra_by_version, request, pay_of}
use Rattle.upi_msg.specs.Answering.{result_named, result_in, txn_in, payees_of, payees_in, answer_of, check_of, confirmed_of}
use Rattle.upi_msg.specs.Read.{root_named, body_of, parts_of, message_of}
use Rattle.upi_msg.specs.Tree.{only, ver_text, kind_text, result_text, api_text, head_tree_of, head_tree, amount_tree, account_tree, rules_tree, mode_tree, purpose_tree, payer_tree, payee_tree, payees_tree, txn_tree, parties_tree, pay_tree, answer_payer_tree, resp_tree, account_payees_tree, answer_body, answer_tree, id_tree, check_tree, confirmed_tree, message_tree}
use Rattle.upi_msg.specs.Typed.{IsTypedHead, IsTypedAccount, IsTypedAc, IsTypedNote, IsTypedMinutes, IsTypedExtra, IsTypedPay, IsTypedAnswer, IsTypedMessage}
use Rattle.upi_msg.specs.declared.place.{Root.Root, Who.Who, Part.Part, Name.Name, Place.Place}
use Rattle.upi_msg.specs.declared.pay.{Terms.Terms}
use Rattle.upi_msg.proofs.Requests as requests
use Rattle.upi_msg.proofs.Lookups.{txn_rules, txn_id, txn_mode, txn_note, txn_purpose, txn_type, payer_ac, payer_amount, payer_addr, payee_ac, payee_amount, payee_addr, answer_payer_ac, answer_payer_amount, answer_head, answer_payees, answer_payer, answer_resp, answer_txn}

-- ---- a member

text_back : (p : Place) (n : Name) (d : Data) (s : Text) → get (name_text n) d ≡ Some (string s) → text_at p n d ≡ Ok s
unfolding text_at member_at text_of
text_back p n d s e = rw e refl

object_back : (p : Part) (n : Name) (d : Data) (ms : Members) → get (name_text n) d ≡ Some (object ms) → object_in p n d ≡ Ok (object ms)
unfolding object_in member_at object_of
object_back p n d ms e = rw e refl

small_back : (is : Text → Bool) (p : Part) (n : Name) (d : Data) (s : Text) → get (name_text n) d ≡ Some (string s) → is s ≡ true → small_in is p n d ≡ Ok s
unfolding small_in
small_back is p n d s e t = rw (text_back (Place.Member p n) n d s e, t) refl

moment_back : (p : Part) (n : Name) (d : Data) (v : ℕ) → get (name_text n) d ≡ Some (string (moment_text v)) → v ≤ max_moment → moment_in p n d ≡ Ok v
unfolding moment_in
moment_back p n d v e le = rw (text_back (Place.Member p n) n d (moment_text v) e, moment_again v le) refl

-- ---- `Head`

ver_named_back : (v : Ver) → ver_named (ver_text v) ≡ Some v
ver_named_back Ver.One = refl
ver_named_back Ver.Two = refl

ver_back : (p : Part) (d : Data) (v : Ver) → get (codes "ver") d ≡ Some (string (ver_text v)) → ver_in p d ≡ Ok v
unfolding ver_in
ver_back p d v e = rw (text_back (Place.Member p Name.Ver) Name.Ver d (ver_text v) e, ver_named_back v) refl

abbrev head_members : Head → Members
head_members h = member (codes "msgId") (string h.msg_id) (member (codes "orgId") (string h.org) (member (codes "ts") (string (moment_text h.ts)) (member (codes "ver") (string (ver_text h.ver)) no_members)))

head_back : (r : Root) (h : Head) (d : Data) → get (codes "Head") d ≡ Some (head_tree h) → IsTypedHead h → head_of r d ≡ Ok h
unfolding head_of head_tree_of
head_back r h d e t =
    rw (
      object_back (Part.Root r) Name.Head d (head_members h) e,
      small_back is_msg_id (Part.Head r) Name.MsgId (object (head_members h)) h.msg_id refl t.msg_id,
      small_back is_org_id (Part.Head r) Name.OrgId (object (head_members h)) h.org refl t.org,
      moment_back (Part.Head r) Name.Ts (object (head_members h)) h.ts refl t.ts,
      ver_back (Part.Head r) (object (head_members h)) h.ver refl,
    ) refl

-- ---- `Amount`

abbrev amount_members : ℕ → Members
amount_members v = member (codes "curr") (string (codes "INR")) (member (codes "value") (string (paise_text v)) no_members)

amount_back : (r : Root) (w : Who) (d : Data) (v : ℕ) → get (codes "Amount") d ≡ Some (amount_tree v) → v ≤ max_paise → amount_in r w d ≡ Ok v
unfolding amount_in amount_of value_in amount_tree
amount_back r w d v e le =
    rw (
      object_back (Part.Party r w) Name.Amount d (amount_members v) e,
      text_back (Place.Member (Part.Amount r w) Name.Curr) Name.Curr (object (amount_members v)) (codes "INR") refl,
      text_back (Place.Member (Part.Amount r w) Name.Value) Name.Value (object (amount_members v)) (paise_text v) refl,
      paise_again v le,
    ) refl

-- ---- `Ac`

upper_letter : (c : ℕ) → is_ascii_uppercase c ≡ true → is_ascii_alphanumeric c ≡ true
upper_letter c e = grind (arith, nat_tests)

all_letters : (s : List ℕ) → list_all is_ascii_uppercase s ≡ true → list_all is_ascii_alphanumeric s ≡ true
all_letters [] e = refl
all_letters (c ∷ cs) e =
    let p = and_parts (is_ascii_uppercase c) (list_all is_ascii_uppercase cs) e in
    rw (upper_letter c p.0) (all_letters cs p.1)

eq_number : (a b : ℕ) → (a == b) ≡ true → a ≡ b
eq_number a b e = grind (arith, nat_tests)

front_back : (b z : List ℕ) (n : ℕ) → length b ≡ n → take n (b ++ z) ≡ b
front_back b z n e = subst (λ (k : ℕ). take k (b ++ z) ≡ b) e (take-append_seam b z)

ifsc_back : (b : Text) → is_bank_code b ≡ true → bank_of_ifsc (b ++ codes "0000000") ≡ Some b
unfolding bank_of_ifsc
ifsc_back b t =
    let bank : is_bank b ≡ true = (and_parts (nat_le (length b) 4) (is_bank b) t).1 in
    let p = and_parts (length b == 4) (list_all is_ascii_uppercase b) bank in
    let four : length b ≡ 4 = eq_number (length b) 4 p.0 in
    let whole : length (b ++ codes "0000000") ≡ 11 = length-append b (codes "0000000") ∙ ap (λ (n : ℕ). n + 7) four in
    let letters : list_all is_ascii_alphanumeric (b ++ codes "0000000") ≡ true = list_all-append is_ascii_alphanumeric b (codes "0000000") ∙ rw (all_letters b p.1) refl in
    rw (whole, letters, front_back b (codes "0000000") 4 four, t) refl

account_some : (r : Root) (w : Who) (d : Data) (a : AccountRef) → get (codes "Ac") d ≡ Some (account_tree a) → IsTypedAccount a → account_in r w d ≡ Ok (Some a)
unfolding account_in ac_of object_of account_of list_in member_at list_of named_item text_at text_of account_of_items account_of_parts only_named account_tree
account_some r w d a e t = rw (e, ifsc_back a.bank t.bank, t.num) refl

account_back : (r : Root) (w : Who) (d : Data) (ac : Option AccountRef) → get (codes "Ac") d ≡ option_map account_tree ac → IsTypedAc ac → account_in r w d ≡ Ok ac
unfolding account_in
account_back r w d None e t = rw e refl
account_back r w d (Some a) e t = account_some r w d a e t

-- ---- `Txn`

kind_named_back : (k : Kind) → kind_named (kind_text k) ≡ Some k
kind_named_back Kind.Pay = refl
kind_named_back Kind.Collect = refl

kind_back : (p : Part) (d : Data) (k : Kind) → get (codes "type") d ≡ Some (string (kind_text k)) → kind_in p d ≡ Ok k
unfolding kind_in
kind_back p d k e = rw (text_back (Place.Member p Name.Type) Name.Type d (kind_text k) e, kind_named_back k) refl

note_of_back : (p : Place) (n : Text) → is_note_text n ≡ true → note_of p n ≡ Ok (Some n)
note_of_back p [] t = absurd (true≢false (sym t))
note_of_back p (c ∷ cs) t = rw t refl

note_back : (p : Part) (d : Data) (note : Option Text) → get (codes "note") d ≡ option_map string note → IsTypedNote note → note_in p d ≡ Ok note
unfolding note_in text_of
note_back p d None e t = rw e refl
note_back p d (Some n) e t = rw e (note_of_back (Place.Member p Name.Note) n t)

digit_by_range : (c : ℕ) → IsInRange 48 57 c → is_ascii_digit c ≡ true
digit_by_range c h = and_from (nat_le 48 c) (nat_le c 57) (le-leb 48 c h.0) (le-leb c 57 h.1)

run_all : (ds : List ℕ) → AllDigits 10 ds → prefix_len is_ascii_digit ds ≡ length ds
run_all [] h = refl
run_all (c ∷ cs) h = rw (digit_by_range c (digit_from_value c h.0)) (omega (arith, run_all cs h.1))

eq_yes : (n : ℕ) → (n == n) ≡ true
eq_yes n = grind (arith, nat_tests)

minutes_back : (m : ℕ) → 1 ≤ m → m ≤ 64_800 → minutes_of (decimal m) ≡ Some m
unfolding minutes_of
minutes_back m low high =
    let wide : m < 2 ^ 64 = omega arith in
    let numeral = decimal_is_IsNumeral m wide in
    rw (
      run_all (decimal m) numeral.0.1,
      le-leb 1 (length (decimal m)) (decimal_nonempty m wide),
      le-leb (length (decimal m)) 5 (length-decimal-le 5 m (omega arith) (omega arith) wide),
      eq_yes (length (decimal m)),
      take-length (decimal m),
      numeral.1,
      le-leb 1 m low,
      le-leb m 64_800 high,
    ) refl

rules_back : (r : Root) (d : Data) (expire : Option ℕ) → get (codes "Rules") d ≡ option_map rules_tree expire → IsTypedMinutes expire → rules_in r d ≡ Ok expire
unfolding object_of rules_of list_in member_at list_of named_item text_at text_of minutes_in rules_tree
rules_back r d None e t = rw e refl
rules_back r d (Some m) e t = rw (e, minutes_back m t.0 t.1) refl

abbrev mode_of : Option Extra → Text
mode_of None = no_digits
mode_of (Some x) = x.mode

abbrev purpose_of : Option Extra → Text
purpose_of None = no_digits
purpose_of (Some x) = x.purpose

mode_back : (v : Ver) (p : Place) (d : Option Data) (x : Option Extra) → d ≡ option_map mode_tree x → is_some x ≡ is_two v → IsTypedExtra x → digits_in v p d ≡ Ok (mode_of x)
unfolding text_of
mode_back Ver.One p d None e h t = refl
mode_back Ver.One p d (Some x) e h t = absurd (true≢false h)
mode_back Ver.Two p d None e h t = absurd (true≢false (sym h))
mode_back Ver.Two p d (Some x) e h t = rw (e, t.0) refl

purpose_back : (v : Ver) (p : Place) (d : Option Data) (x : Option Extra) → d ≡ option_map purpose_tree x → is_some x ≡ is_two v → IsTypedExtra x → digits_in v p d ≡ Ok (purpose_of x)
unfolding text_of
purpose_back Ver.One p d None e h t = refl
purpose_back Ver.One p d (Some x) e h t = absurd (true≢false h)
purpose_back Ver.Two p d None e h t = absurd (true≢false (sym h))
purpose_back Ver.Two p d (Some x) e h t = rw (e, t.1) refl

extra_back : (v : Ver) (x : Option Extra) → is_some x ≡ is_two v → extra_by v (mode_of x) (purpose_of x) ≡ x
extra_back Ver.One None h = refl
extra_back Ver.One (Some x) h = absurd (true≢false h)
extra_back Ver.Two None h = absurd (true≢false (sym h))
extra_back Ver.Two (Some x) h = refl

abbrev terms : PayReq → Terms
terms r = record { txn = r.txn; kind = r.kind; note = r.note; expire = r.expire; mode = mode_of r.extra; purpose = purpose_of r.extra }

abbrev payment : PayReq → Data
payment r = txn_tree r.expire r.txn r.extra r.note (kind_text r.kind)

txn_object : (p : Part) (n : Name) (d : Data) (r : PayReq) → get (name_text n) d ≡ Some (payment r) → object_in p n d ≡ Ok (payment r)
unfolding txn_tree
txn_object p n d r e = object_back p n d _ e

terms_back : (d : Data) (r : PayReq) → get (codes "Txn") d ≡ Some (payment r) → IsTypedPay r → terms_of Root.ReqPay r.head.ver d ≡ Ok (terms r)
unfolding terms_of
terms_back d r e t =
    let p : Part = Part.Txn Root.ReqPay in
    rw (
      txn_object (Part.Root Root.ReqPay) Name.Txn d r e,
      small_back is_txn_id p Name.Id (payment r) r.txn (txn_id r.expire r.txn r.extra r.note (kind_text r.kind)) t.txn,
      kind_back p (payment r) r.kind (txn_type r.expire r.txn r.extra r.note (kind_text r.kind)),
      note_back p (payment r) r.note (txn_note r.expire r.txn r.extra r.note (kind_text r.kind)) t.note,
      rules_back Root.ReqPay (payment r) r.expire (txn_rules r.expire r.txn r.extra r.note (kind_text r.kind)) t.expire,
      mode_back r.head.ver (Place.Member p Name.InitiationMode) (get (codes "initiationMode") (payment r)) r.extra (txn_mode r.expire r.txn r.extra r.note (kind_text r.kind)) r.by_version t.extra,
      purpose_back r.head.ver (Place.Member p Name.Purpose) (get (codes "purpose") (payment r)) r.extra (txn_purpose r.expire r.txn r.extra r.note (kind_text r.kind)) r.by_version t.extra,
    ) refl

-- ---- parties

payer_object : (p : Part) (n : Name) (d : Data) (ac : Option AccountRef) (v : ℕ) (addr : Text) → get (name_text n) d ≡ Some (payer_tree ac v addr) → object_in p n d ≡ Ok (payer_tree ac v addr)
unfolding payer_tree
payer_object p n d ac v addr e = object_back p n d _ e

payer_back : (d : Data) (r : PayReq) → get (codes "Payer") d ≡ Some (payer_tree r.payer_ac r.amount r.payer) → IsTypedPay r → payer_of Root.ReqPay d ≡ Ok (record { addr = r.payer; amount = r.amount; ac = r.payer_ac })
unfolding payer_of
payer_back d r e t =
    let tree : Data = payer_tree r.payer_ac r.amount r.payer in
    rw (
      payer_object (Part.Root Root.ReqPay) Name.Payer d r.payer_ac r.amount r.payer e,
      small_back is_addr (Part.Party Root.ReqPay Who.Payer) Name.Addr tree r.payer (payer_addr r.payer_ac r.amount r.payer) t.payer,
      amount_back Root.ReqPay Who.Payer tree r.amount (payer_amount r.payer_ac r.amount r.payer) t.amount,
      account_back Root.ReqPay Who.Payer tree r.payer_ac (payer_ac r.payer_ac r.amount r.payer) t.payer_ac,
    ) refl

payees_object : (p : Part) (n : Name) (d one : Data) → get (name_text n) d ≡ Some (payees_tree one) → object_in p n d ≡ Ok (payees_tree one)
payees_object p n d one e = object_back p n d _ e

one_back : (r : Root) (ms : Members) → payee_of r (payees_tree (object ms)) ≡ Ok (object ms)
unfolding payee_of list_in member_at list_of object_of
one_back r ms = refl

payee_one : (r : Root) (ac : Option AccountRef) (addr : Text) → payee_of r (payees_tree (payee_tree ac addr)) ≡ Ok (payee_tree ac addr)
unfolding payee_tree
payee_one r ac addr = one_back r _

payee_back : (d : Data) (r : PayReq) (v : ℕ) → get (codes "Payees") d ≡ Some (payees_tree (payee_tree r.payee_ac r.payee)) → IsTypedPay r → payee_in Root.ReqPay v d ≡ Ok (record { addr = r.payee; ac = r.payee_ac })
unfolding payee_in
payee_back d r v e t =
    let tree : Data = payee_tree r.payee_ac r.payee in
    rw (
      payees_object (Part.Root Root.ReqPay) Name.Payees d tree e,
      payee_one Root.ReqPay r.payee_ac r.payee,
      small_back is_addr (Part.Party Root.ReqPay Who.Payee) Name.Addr tree r.payee (payee_addr r.payee_ac r.payee) t.payee,
      payee_amount r.payee_ac r.payee,
      account_back Root.ReqPay Who.Payee tree r.payee_ac (payee_ac r.payee_ac r.payee) t.payee_ac,
    ) refl

-- ---- `ReqPay`

same_extra : (h : Head) (k : Kind) (txn : List ℕ) (note : Option (List ℕ)) (expire : Option ℕ) (payer payee : List ℕ) (v : ℕ) (a b : Option AccountRef) (e d : Option Extra) (p : is_some e ≡ is_two h.ver) (q : is_some d ≡ is_two h.ver) → e ≡ d
    → requests.request h k txn note expire payer payee v a b e p ≡ requests.request h k txn note expire payer payee v a b d q
same_extra h k txn note expire payer payee v a b e d p q same =
    let P : Option Extra → Type 0 = λ x. (s : is_some x ≡ is_two h.ver) → requests.request h k txn note expire payer payee v a b e p ≡ requests.request h k txn note expire payer payee v a b x s in
    subst P same (λ s. requests.same_request h k txn note expire payer payee v a b e p s) q

request_back : (r : PayReq) → request r.head (terms r) (record { addr = r.payer; amount = r.amount; ac = r.payer_ac }) (record { addr = r.payee; ac = r.payee_ac }) ≡ r
request_back r =
    same_extra r.head r.kind r.txn r.note r.expire r.payer r.payee r.amount r.payer_ac r.payee_ac (extra_by r.head.ver (mode_of r.extra) (purpose_of r.extra)) r.extra (extra_by_version r.head.ver (mode_of r.extra) (purpose_of r.extra)) r.by_version (extra_back r.head.ver r.extra r.by_version)

pay_back : (r : PayReq) → IsTypedPay r → pay_of (pay_tree r) ≡ Ok r
unfolding pay_of parties_tree
pay_back r t =
    let d : Data = pay_tree r in
    rw (
      head_back Root.ReqPay r.head d refl t.head,
      terms_back d r refl t,
      payer_back d r refl t,
      payee_back d r r.amount refl t,
    ) (ap (λ (x : PayReq). Ok x) (request_back r))

-- ---- answers and questions

result_named_back : (b : Bool) → result_named (result_text b) ≡ Some b
result_named_back true = refl
result_named_back false = refl

result_back : (p : Part) (d : Data) (b : Bool) → get (codes "result") d ≡ Some (string (result_text b)) → result_in p d ≡ Ok b
unfolding result_in
result_back p d b e = rw (text_back (Place.Member p Name.Result) Name.Result d (result_text b) e, result_named_back b) refl

txn_back : (r : Root) (d : Data) (txn : Text) → get (codes "Txn") d ≡ Some (id_tree txn) → is_txn_id txn ≡ true → txn_in r d ≡ Ok txn
unfolding txn_in
txn_back r d txn e t =
    rw (
      object_back (Part.Root r) Name.Txn d (member (codes "id") (string txn) no_members) e,
      small_back is_txn_id (Part.Txn r) Name.Id (id_tree txn) txn refl t,
    ) refl

payees_back : (r : Root) (d : Data) (ac : Option AccountRef) → get (codes "Payees") d ≡ option_map account_payees_tree ac → IsTypedAc ac → payees_in r d ≡ Ok ac
unfolding payees_of object_of account_payees_tree
payees_back r d None e t = rw e refl
payees_back r d (Some a) e t =
    rw (e, one_back r (member (codes "Ac") (account_tree a) no_members), account_some r Who.Payee (only (codes "Ac") (account_tree a)) a refl t) refl

resp_object : (p : Part) (n : Name) (d : Data) (code : Option Text) (req word : Text) → get (name_text n) d ≡ Some (resp_tree code req word) → object_in p n d ≡ Ok (resp_tree code req word)
unfolding resp_tree
resp_object p n d code req word e = object_back p n d _ e

resp_req : (req word : Text) → get (codes "reqMsgId") (resp_tree None req word) ≡ Some (string req)
unfolding resp_tree
resp_req req word = refl

resp_result : (req word : Text) → get (codes "result") (resp_tree None req word) ≡ Some (string word)
unfolding resp_tree
resp_result req word = refl

answer_payer_object : (p : Part) (n : Name) (d : Data) (ac : Option AccountRef) (v : ℕ) → get (name_text n) d ≡ Some (answer_payer_tree ac v) → object_in p n d ≡ Ok (answer_payer_tree ac v)
unfolding answer_payer_tree
answer_payer_object p n d ac v e = object_back p n d _ e

answer_back : (a : AuthResp) → IsTypedAnswer a → answer_of (answer_tree a) ≡ Ok a
unfolding answer_of
answer_back a t =
    let d : Data = answer_tree a in
    let root : Root = Root.RespAuthDetails in
    let resp : Data = resp_tree None a.req_msg (result_text a.yes) in
    let payer : Data = answer_payer_tree a.payer_ac a.amount in
    rw (
      head_back root a.head d (answer_head (head_tree a.head) a.payee_ac payer resp a.txn) t.head,
      resp_object (Part.Root root) Name.Resp d None a.req_msg (result_text a.yes) (answer_resp (head_tree a.head) a.payee_ac payer resp a.txn),
      small_back is_msg_id (Part.Resp root) Name.ReqMsgId resp a.req_msg (resp_req a.req_msg (result_text a.yes)) t.req_msg,
      result_back (Part.Resp root) resp a.yes (resp_result a.req_msg (result_text a.yes)),
      txn_back root d a.txn (answer_txn (head_tree a.head) a.payee_ac payer resp a.txn) t.txn,
      answer_payer_object (Part.Root root) Name.Payer d a.payer_ac a.amount (answer_payer (head_tree a.head) a.payee_ac payer resp a.txn),
      amount_back root Who.Payer payer a.amount (answer_payer_amount a.payer_ac a.amount) t.amount,
      account_back root Who.Payer payer a.payer_ac (answer_payer_ac a.payer_ac a.amount) t.payer_ac,
      payees_back root d a.payee_ac (answer_payees (head_tree a.head) a.payee_ac payer resp a.txn) t.payee_ac,
    ) refl

check_back : (k : Chk) → IsTypedHead k.head → is_txn_id k.txn ≡ true → check_of (check_tree k) ≡ Ok k
unfolding check_of check_tree
check_back k h t = rw (head_back Root.ReqChkTxn k.head (check_tree k) refl h, txn_back Root.ReqChkTxn (check_tree k) k.txn refl t) refl

confirmed_back : (k : ConfResp) → IsTypedHead k.head → is_msg_id k.req_msg ≡ true → is_txn_id k.txn ≡ true → confirmed_of (confirmed_tree k) ≡ Ok k
unfolding confirmed_of confirmed_tree
confirmed_back k h m t =
    rw (
      head_back Root.RespTxnConfirmation k.head (confirmed_tree k) refl h,
      object_back (Part.Root Root.RespTxnConfirmation) Name.Resp (confirmed_tree k) (member (codes "reqMsgId") (string k.req_msg) no_members) refl,
      small_back is_msg_id (Part.Resp Root.RespTxnConfirmation) Name.ReqMsgId (only (codes "reqMsgId") (string k.req_msg)) k.req_msg refl m,
      txn_back Root.RespTxnConfirmation (confirmed_tree k) k.txn refl t,
    ) refl

-- ---- whole messages

body_object : (r : Root) (k : Text) (ms : Members) → root_named k ≡ Some r → message_of (only k (object ms)) ≡ body_of r (object ms)
unfolding message_of parts_of object_of
body_object r k ms e = rw e refl

foreign_back : (api : Api) (h : Head) → IsTypedHead h → message_of (only (api_text api) (only (codes "Head") (head_tree h))) ≡ Ok (Message.Foreign api h)
foreign_back api h t = body_object (Root.Foreign api) (api_text api) (member (codes "Head") (head_tree h) no_members) (named api) ∙ rw (head_back (Root.Foreign api) h (only (codes "Head") (head_tree h)) refl t) refl
  where
    named : (a : Api) → root_named (api_text a) ≡ Some (Root.Foreign a)
    named Api.RespPay = refl
    named Api.ReqAuthDetails = refl
    named Api.RespChkTxn = refl
    named Api.ReqTxnConfirmation = refl

pay_object : (r : PayReq) → message_of (only (codes "ReqPay") (pay_tree r)) ≡ body_of Root.ReqPay (pay_tree r)
unfolding parties_tree
pay_object r = body_object Root.ReqPay (codes "ReqPay") _ refl

answer_object : (a : AuthResp) → message_of (only (codes "RespAuthDetails") (answer_tree a)) ≡ body_of Root.RespAuthDetails (answer_tree a)
unfolding answer_body
answer_object a = body_object Root.RespAuthDetails (codes "RespAuthDetails") _ refl

check_object : (k : Chk) → message_of (only (codes "ReqChkTxn") (check_tree k)) ≡ body_of Root.ReqChkTxn (check_tree k)
unfolding check_tree
check_object k = body_object Root.ReqChkTxn (codes "ReqChkTxn") _ refl

confirmed_object : (k : ConfResp) → message_of (only (codes "RespTxnConfirmation") (confirmed_tree k)) ≡ body_of Root.RespTxnConfirmation (confirmed_tree k)
unfolding confirmed_tree
confirmed_object k = body_object Root.RespTxnConfirmation (codes "RespTxnConfirmation") _ refl

pub message_back : (m : Message) → IsTypedMessage m → message_of (message_tree m) ≡ Ok m
message_back (Message.Pay r) t = pay_object r ∙ rw (pay_back r t) refl
message_back (Message.AuthAnswer a) t = answer_object a ∙ rw (answer_back a t) refl
message_back (Message.Check k) t = check_object k ∙ rw (check_back k t.0 t.1) refl
message_back (Message.Confirmed k) t = confirmed_object k ∙ rw (confirmed_back k t.0 t.1 t.2) refl
message_back (Message.Foreign api h) t = foreign_back api h t
