-- Payments are the same where their members are.
use Rattle.std.proofs.Common.{◌≡◌, ℕ, List, Option, is_some, ap}
use Rattle.std.proofs.Math.Bool.{Bool-set}
use Rattle.upi_base.specs.Versions.{is_two}
use Rattle.upi_base.specs.declared.code.Kind.{Kind}
use Rattle.upi_base.specs.declared.setup.AccountRef.{AccountRef}
use Rattle.upi_base.specs.declared.message.Head.{Head}
use Rattle.upi_base.specs.declared.message.Extra.{Extra}
use Rattle.upi_base.specs.declared.message.PayReq.{PayReq}

-- a payment with these members
abbrev pub request : (h : Head) (k : Kind) (txn : List ℕ) (note : Option (List ℕ)) (expire : Option ℕ) (payer payee : List ℕ) (v : ℕ) (a b : Option AccountRef) (e : Option Extra) → is_some e ≡ is_two h.ver → PayReq
request h k txn note expire payer payee v a b e p = record { head = h; kind = k; txn = txn; note = note; expire = expire; payer = payer; payee = payee; amount = v; payer_ac = a; payee_ac = b; extra = e; by_version = p }

-- whatever shows that it has what its version asks for
pub same_request : (h : Head) (k : Kind) (txn : List ℕ) (note : Option (List ℕ)) (expire : Option ℕ) (payer payee : List ℕ) (v : ℕ) (a b : Option AccountRef) (e : Option Extra) (p q : is_some e ≡ is_two h.ver)
    → request h k txn note expire payer payee v a b e p ≡ request h k txn note expire payer payee v a b e q
same_request h k txn note expire payer payee v a b e p q = ap (request h k txn note expire payer payee v a b e) (Bool-set (is_some e) (is_two h.ver) p q)
