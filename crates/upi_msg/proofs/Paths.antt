-- The path to a place is within the grammar of paths.
use Rattle.std.proofs.Common.{◌≡◌, ◌≤◌, ◌<◌, ◌+◌, ◌^◌, ◌&&◌, nat_le, ℕ, Bool, true, false, true≢false, List, [], ◌∷◌, ◌++◌, length, length-append, codes, decimal, refl, sym, ap, ◌∙◌, arith}
use Rattle.std.specs.Int.{IsInRange}
use Rattle.std.specs.List.{list_all}
use Rattle.std.specs.Str.Parse.{AllDigits}
use Rattle.std.proofs.lemmas.Bool.{le-leb}
use Rattle.std.proofs.lemmas.Bool.Decides.{nat_tests}
use Rattle.std.proofs.lemmas.List.Folds.{list_all-append}
use Rattle.std.proofs.lemmas.Fmt.{decimal_is_IsNumeral, length-decimal-le}
use Rattle.std.proofs.lemmas.Str.Parse.{digit_from_value}
use Rattle.upi_base.specs.Texts.{fits, is_path, is_path_byte}
use Rattle.upi_msg.specs.Types.{Api}
use Rattle.upi_msg.specs.Places.{root_text, who_text, part_text, name_text, member_text, item_text, in_item_text, place_text, IsPathText}
use Rattle.upi_msg.specs.declared.place.{Root.Root, Who.Who, Part.Part, Name.Name, Place.Place}

and_true : (a b : Bool) → a ≡ true → b ≡ true → (a && b) ≡ true
and_true a b p q = rw p q

joined : (m n : ℕ) (s t : List ℕ) → IsPathText m s → IsPathText n t → IsPathText (m + n) (s ++ t)
joined m n s t a b = record {
  all = list_all-append is_path_byte s t ∙ and_true (list_all is_path_byte s) (list_all is_path_byte t) a.all b.all;
  short = omega (arith, length-append s t, a.short, b.short);
}

wider : (m n : ℕ) (s : List ℕ) → m ≤ n → IsPathText m s → IsPathText n s
wider m n s le a = record { all = a.all; short = omega (arith, a.short) }

known : (n : ℕ) (s : List ℕ) → list_all is_path_byte s ≡ true → nat_le (length s) n ≡ true → IsPathText n s
known n s a b = record { all = a; short = grind (arith, nat_tests) }

root_path : (r : Root) → IsPathText 19 (root_text r)
unfolding is_path_byte
root_path Root.ReqPay = known 19 (codes "ReqPay") refl refl
root_path Root.RespAuthDetails = known 19 (codes "RespAuthDetails") refl refl
root_path Root.ReqChkTxn = known 19 (codes "ReqChkTxn") refl refl
root_path Root.RespTxnConfirmation = known 19 (codes "RespTxnConfirmation") refl refl
root_path (Root.Foreign Api.RespPay) = known 19 (codes "RespPay") refl refl
root_path (Root.Foreign Api.ReqAuthDetails) = known 19 (codes "ReqAuthDetails") refl refl
root_path (Root.Foreign Api.RespChkTxn) = known 19 (codes "RespChkTxn") refl refl
root_path (Root.Foreign Api.ReqTxnConfirmation) = known 19 (codes "ReqTxnConfirmation") refl refl

who_path : (w : Who) → IsPathText 16 (who_text w)
unfolding is_path_byte
who_path Who.Payer = known 16 (codes ".Payer") refl refl
who_path Who.Payee = known 16 (codes ".Payees.Payee[0]") refl refl

name_path : (n : Name) → IsPathText 14 (name_text n)
unfolding is_path_byte
name_path Name.Ac = known 14 (name_text Name.Ac) refl refl
name_path Name.Addr = known 14 (name_text Name.Addr) refl refl
name_path Name.AddrType = known 14 (name_text Name.AddrType) refl refl
name_path Name.Amount = known 14 (name_text Name.Amount) refl refl
name_path Name.Curr = known 14 (name_text Name.Curr) refl refl
name_path Name.Detail = known 14 (name_text Name.Detail) refl refl
name_path Name.Head = known 14 (name_text Name.Head) refl refl
name_path Name.Id = known 14 (name_text Name.Id) refl refl
name_path Name.InitiationMode = known 14 (name_text Name.InitiationMode) refl refl
name_path Name.MsgId = known 14 (name_text Name.MsgId) refl refl
name_path Name.Name = known 14 (name_text Name.Name) refl refl
name_path Name.Note = known 14 (name_text Name.Note) refl refl
name_path Name.OrgId = known 14 (name_text Name.OrgId) refl refl
name_path Name.Payee = known 14 (name_text Name.Payee) refl refl
name_path Name.Payees = known 14 (name_text Name.Payees) refl refl
name_path Name.Payer = known 14 (name_text Name.Payer) refl refl
name_path Name.Purpose = known 14 (name_text Name.Purpose) refl refl
name_path Name.ReqMsgId = known 14 (name_text Name.ReqMsgId) refl refl
name_path Name.Resp = known 14 (name_text Name.Resp) refl refl
name_path Name.Result = known 14 (name_text Name.Result) refl refl
name_path Name.Rule = known 14 (name_text Name.Rule) refl refl
name_path Name.Rules = known 14 (name_text Name.Rules) refl refl
name_path Name.Ts = known 14 (name_text Name.Ts) refl refl
name_path Name.Txn = known 14 (name_text Name.Txn) refl refl
name_path Name.Type = known 14 (name_text Name.Type) refl refl
name_path Name.Value = known 14 (name_text Name.Value) refl refl
name_path Name.Ver = known 14 (name_text Name.Ver) refl refl

two : (r : Root) (s : List ℕ) → list_all is_path_byte s ≡ true → nat_le (length s) 23 ≡ true → IsPathText 42 (root_text r ++ s)
two r s a b = joined 19 23 (root_text r) s (root_path r) (known 23 s a b)

three : (r : Root) (w : Who) (s : List ℕ) → list_all is_path_byte s ≡ true → nat_le (length s) 7 ≡ true → IsPathText 42 (root_text r ++ (who_text w ++ s))
three r w s a b = joined 19 23 (root_text r) (who_text w ++ s) (root_path r) (joined 16 7 (who_text w) s (who_path w) (known 7 s a b))

part_path : (p : Part) → IsPathText 42 (part_text p)
unfolding is_path_byte
part_path (Part.Root r) = two r [] refl refl
part_path (Part.Head r) = two r (codes ".Head") refl refl
part_path (Part.Txn r) = two r (codes ".Txn") refl refl
part_path (Part.Rules r) = two r (codes ".Txn.Rules") refl refl
part_path (Part.Resp r) = two r (codes ".Resp") refl refl
part_path (Part.Payees r) = two r (codes ".Payees") refl refl
part_path (Part.Party r w) = three r w [] refl refl
part_path (Part.Amount r w) = three r w (codes ".Amount") refl refl
part_path (Part.Ac r w) = three r w (codes ".Ac") refl refl

after_dot : (m : ℕ) (s : List ℕ) (n : Name) → IsPathText m s → IsPathText (m + 15) (s ++ 46 ∷ name_text n)
unfolding is_path_byte
after_dot m s n a = joined m 15 s (46 ∷ name_text n) a (joined 1 14 (46 ∷ []) (name_text n) (known 1 (46 ∷ []) refl refl) (name_path n))

member_path : (p : Part) (n : Name) → IsPathText 57 (member_text p n)
unfolding member_text
member_path p n = after_dot 42 (part_text p) n (part_path p)

digit_path : (c : ℕ) → IsInRange 48 57 c → is_path_byte c ≡ true
unfolding is_path_byte
digit_path c h =
    let low : 48 ≤ c = h.0 in
    let high : c ≤ 57 = h.1 in
    grind (arith, nat_tests)

digits_path : (ds : List ℕ) → AllDigits 10 ds → list_all is_path_byte ds ≡ true
digits_path [] h = refl
digits_path (c ∷ cs) h = rw (digit_path c (digit_from_value c h.0)) (digits_path cs h.1)

pub item_path : (p : Part) (n : Name) (i : ℕ) → i < 2 ^ 64 → IsPathText 79 (item_text p n i)
unfolding item_text is_path_byte
item_path p n i lt =
    let number : IsPathText 20 (decimal i) = record { all = digits_path (decimal i) (decimal_is_IsNumeral i lt).0.1; short = length-decimal-le 20 i (omega arith) (omega arith) lt } in
    joined 57 22 (member_text p n) (91 ∷ (decimal i ++ 93 ∷ [])) (member_path p n)
    (joined 1 21 (91 ∷ []) (decimal i ++ 93 ∷ []) (known 1 (91 ∷ []) refl refl) (joined 20 1 (decimal i) (93 ∷ []) number (known 1 (93 ∷ []) refl refl)))

pub in_item_path : (p : Part) (n : Name) (i : ℕ) (m : Name) → IsPathText 79 (item_text p n i) → IsPathText 94 (in_item_text p n i m)
unfolding in_item_text
in_item_path p n i m a = after_dot 79 (item_text p n i) m a

-- within the grammar
fitting : (s : List ℕ) → IsPathText 100 s → 1 ≤ length s → fits 100 is_path s ≡ true
fitting s a some = rw (le-leb (length s) 100 a.short, le-leb 1 (length s) some, a.all) refl

some_after : (s : List ℕ) (c : ℕ) (t : List ℕ) → 1 ≤ length (s ++ c ∷ t)
some_after s c t = omega (arith, length-append s (c ∷ t))

root_some : (r : Root) (s : List ℕ) → 1 ≤ length (root_text r ++ s)
root_some Root.ReqPay s = omega arith
root_some Root.RespAuthDetails s = omega arith
root_some Root.ReqChkTxn s = omega arith
root_some Root.RespTxnConfirmation s = omega arith
root_some (Root.Foreign Api.RespPay) s = omega arith
root_some (Root.Foreign Api.ReqAuthDetails) s = omega arith
root_some (Root.Foreign Api.RespChkTxn) s = omega arith
root_some (Root.Foreign Api.ReqTxnConfirmation) s = omega arith

part_some : (p : Part) → 1 ≤ length (part_text p)
part_some (Part.Root r) = root_some r []
part_some (Part.Head r) = root_some r (codes ".Head")
part_some (Part.Txn r) = root_some r (codes ".Txn")
part_some (Part.Rules r) = root_some r (codes ".Txn.Rules")
part_some (Part.Resp r) = root_some r (codes ".Resp")
part_some (Part.Payees r) = root_some r (codes ".Payees")
part_some (Part.Party r w) = root_some r (who_text w ++ [])
part_some (Part.Amount r w) = root_some r (who_text w ++ codes ".Amount")
part_some (Part.Ac r w) = root_some r (who_text w ++ codes ".Ac")

pub text_fits : fits 100 is_path (place_text Place.Text) ≡ true
unfolding place_text is_path_byte
text_fits = refl

pub part_fits : (p : Part) → fits 100 is_path (place_text (Place.Part p)) ≡ true
unfolding place_text
part_fits p = fitting (part_text p) (wider 42 100 (part_text p) (omega arith) (part_path p)) (part_some p)

pub member_fits : (p : Part) (n : Name) → fits 100 is_path (place_text (Place.Member p n)) ≡ true
unfolding place_text member_text
member_fits p n = fitting (member_text p n) (wider 57 100 (member_text p n) (omega arith) (member_path p n)) (some_after (part_text p) 46 (name_text n))

pub item_fits : (p : Part) (n : Name) (i : ℕ) → IsPathText 79 (item_text p n i) → fits 100 is_path (place_text (Place.Item p n i)) ≡ true
unfolding place_text item_text
item_fits p n i a = fitting (item_text p n i) (wider 79 100 (item_text p n i) (omega arith) a) (some_after (member_text p n) 91 (decimal i ++ 93 ∷ []))

pub in_item_fits : (p : Part) (n : Name) (i : ℕ) (m : Name) → IsPathText 94 (in_item_text p n i m) → fits 100 is_path (place_text (Place.InItem p n i m)) ≡ true
unfolding place_text in_item_text
in_item_fits p n i m a = fitting (in_item_text p n i m) (wider 94 100 (in_item_text p n i m) (omega arith) a) (some_after (item_text p n i) 46 (name_text m))

pub no_other : (p : Place) (written : List ℕ) → fits 100 is_path (place_text p) ≡ true → written ≡ place_text p → fits 100 is_path written ≡ false → ⊥
no_other p written yes_fits same none = true≢false (sym yes_fits ∙ ap (fits 100 is_path) (sym same) ∙ none)
