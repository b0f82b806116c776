-- The members of the groups of a written message.
use Rattle.std.proofs.Common.{◌≡◌, ℕ, List, codes, Option, Some, None, option_map, refl}
use Rattle.serde_json.specs.Data.{Data, string}
use Rattle.serde_json.specs.Find.{get}
use Rattle.upi_msg.specs.Types.{Extra, AccountRef}
use Rattle.upi_msg.specs.Tree.{account_tree, rules_tree, mode_tree, purpose_tree, amount_tree, account_payees_tree, payer_tree, payee_tree, txn_tree, answer_payer_tree, answer_body, id_tree}

pub txn_rules : (expire : Option ℕ) (id : List ℕ) (extra : Option Extra) (note : Option (List ℕ)) (word : List ℕ) → get (codes "Rules") (txn_tree expire id extra note word) ≡ option_map rules_tree expire
unfolding txn_tree
txn_rules None id None None word = refl
txn_rules None id None (Some m) word = refl
txn_rules None id (Some x) None word = refl
txn_rules None id (Some x) (Some m) word = refl
txn_rules (Some w) id None None word = refl
txn_rules (Some w) id None (Some m) word = refl
txn_rules (Some w) id (Some x) None word = refl
txn_rules (Some w) id (Some x) (Some m) word = refl

pub txn_id : (expire : Option ℕ) (id : List ℕ) (extra : Option Extra) (note : Option (List ℕ)) (word : List ℕ) → get (codes "id") (txn_tree expire id extra note word) ≡ Some (string id)
unfolding txn_tree
txn_id None id None None word = refl
txn_id None id None (Some m) word = refl
txn_id None id (Some x) None word = refl
txn_id None id (Some x) (Some m) word = refl
txn_id (Some w) id None None word = refl
txn_id (Some w) id None (Some m) word = refl
txn_id (Some w) id (Some x) None word = refl
txn_id (Some w) id (Some x) (Some m) word = refl

pub txn_mode : (expire : Option ℕ) (id : List ℕ) (extra : Option Extra) (note : Option (List ℕ)) (word : List ℕ) → get (codes "initiationMode") (txn_tree expire id extra note word) ≡ option_map mode_tree extra
unfolding txn_tree
txn_mode None id None None word = refl
txn_mode None id None (Some m) word = refl
txn_mode None id (Some x) None word = refl
txn_mode None id (Some x) (Some m) word = refl
txn_mode (Some w) id None None word = refl
txn_mode (Some w) id None (Some m) word = refl
txn_mode (Some w) id (Some x) None word = refl
txn_mode (Some w) id (Some x) (Some m) word = refl

pub txn_note : (expire : Option ℕ) (id : List ℕ) (extra : Option Extra) (note : Option (List ℕ)) (word : List ℕ) → get (codes "note") (txn_tree expire id extra note word) ≡ option_map string note
unfolding txn_tree
txn_note None id None None word = refl
txn_note None id None (Some m) word = refl
txn_note None id (Some x) None word = refl
txn_note None id (Some x) (Some m) word = refl
txn_note (Some w) id None None word = refl
txn_note (Some w) id None (Some m) word = refl
txn_note (Some w) id (Some x) None word = refl
txn_note (Some w) id (Some x) (Some m) word = refl

pub txn_purpose : (expire : Option ℕ) (id : List ℕ) (extra : Option Extra) (note : Option (List ℕ)) (word : List ℕ) → get (codes "purpose") (txn_tree expire id extra note word) ≡ option_map purpose_tree extra
unfolding txn_tree
txn_purpose None id None None word = refl
txn_purpose None id None (Some m) word = refl
txn_purpose None id (Some x) None word = refl
txn_purpose None id (Some x) (Some m) word = refl
txn_purpose (Some w) id None None word = refl
txn_purpose (Some w) id None (Some m) word = refl
txn_purpose (Some w) id (Some x) None word = refl
txn_purpose (Some w) id (Some x) (Some m) word = refl

pub txn_type : (expire : Option ℕ) (id : List ℕ) (extra : Option Extra) (note : Option (List ℕ)) (word : List ℕ) → get (codes "type") (txn_tree expire id extra note word) ≡ Some (string word)
unfolding txn_tree
txn_type None id None None word = refl
txn_type None id None (Some m) word = refl
txn_type None id (Some x) None word = refl
txn_type None id (Some x) (Some m) word = refl
txn_type (Some w) id None None word = refl
txn_type (Some w) id None (Some m) word = refl
txn_type (Some w) id (Some x) None word = refl
txn_type (Some w) id (Some x) (Some m) word = refl

pub payer_ac : (ac : Option AccountRef) (v : ℕ) (addr : List ℕ) → get (codes "Ac") (payer_tree ac v addr) ≡ option_map account_tree ac
unfolding payer_tree
payer_ac None v addr = refl
payer_ac (Some a) v addr = refl

pub payer_amount : (ac : Option AccountRef) (v : ℕ) (addr : List ℕ) → get (codes "Amount") (payer_tree ac v addr) ≡ Some (amount_tree v)
unfolding payer_tree
payer_amount None v addr = refl
payer_amount (Some a) v addr = refl

pub payer_addr : (ac : Option AccountRef) (v : ℕ) (addr : List ℕ) → get (codes "addr") (payer_tree ac v addr) ≡ Some (string addr)
unfolding payer_tree
payer_addr None v addr = refl
payer_addr (Some a) v addr = refl

pub payee_ac : (ac : Option AccountRef) (addr : List ℕ) → get (codes "Ac") (payee_tree ac addr) ≡ option_map account_tree ac
unfolding payee_tree
payee_ac None addr = refl
payee_ac (Some a) addr = refl

pub payee_amount : (ac : Option AccountRef) (addr : List ℕ) → get (codes "Amount") (payee_tree ac addr) ≡ None
unfolding payee_tree
payee_amount None addr = refl
payee_amount (Some a) addr = refl

pub payee_addr : (ac : Option AccountRef) (addr : List ℕ) → get (codes "addr") (payee_tree ac addr) ≡ Some (string addr)
unfolding payee_tree
payee_addr None addr = refl
payee_addr (Some a) addr = refl

pub answer_payer_ac : (ac : Option AccountRef) (v : ℕ) → get (codes "Ac") (answer_payer_tree ac v) ≡ option_map account_tree ac
unfolding answer_payer_tree
answer_payer_ac None v = refl
answer_payer_ac (Some a) v = refl

pub answer_payer_amount : (ac : Option AccountRef) (v : ℕ) → get (codes "Amount") (answer_payer_tree ac v) ≡ Some (amount_tree v)
unfolding answer_payer_tree
answer_payer_amount None v = refl
answer_payer_amount (Some a) v = refl

pub answer_head : (head : Data) (ac : Option AccountRef) (payer resp : Data) (txn : List ℕ) → get (codes "Head") (answer_body head (option_map account_payees_tree ac) payer resp txn) ≡ Some head
unfolding answer_body
answer_head head None payer resp txn = refl
answer_head head (Some a) payer resp txn = refl

pub answer_payees : (head : Data) (ac : Option AccountRef) (payer resp : Data) (txn : List ℕ) → get (codes "Payees") (answer_body head (option_map account_payees_tree ac) payer resp txn) ≡ option_map account_payees_tree ac
unfolding answer_body
answer_payees head None payer resp txn = refl
answer_payees head (Some a) payer resp txn = refl

pub answer_payer : (head : Data) (ac : Option AccountRef) (payer resp : Data) (txn : List ℕ) → get (codes "Payer") (answer_body head (option_map account_payees_tree ac) payer resp txn) ≡ Some payer
unfolding answer_body
answer_payer head None payer resp txn = refl
answer_payer head (Some a) payer resp txn = refl

pub answer_resp : (head : Data) (ac : Option AccountRef) (payer resp : Data) (txn : List ℕ) → get (codes "Resp") (answer_body head (option_map account_payees_tree ac) payer resp txn) ≡ Some resp
unfolding answer_body
answer_resp head None payer resp txn = refl
answer_resp head (Some a) payer resp txn = refl

pub answer_txn : (head : Data) (ac : Option AccountRef) (payer resp : Data) (txn : List ℕ) → get (codes "Txn") (answer_body head (option_map account_payees_tree ac) payer resp txn) ≡ Some (id_tree txn)
unfolding answer_body
answer_txn head None payer resp txn = refl
answer_txn head (Some a) payer resp txn = refl
