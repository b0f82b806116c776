-- The parts of what a message has behind its `Head`, and that they make its text.
use Rattle.std.proofs.Common.{codes, option_map, ◌≡◌, ℕ, List, [], ◌∷◌, ◌++◌, Option, None, true, refl, sym, ap, ◌∙◌, append_assoc}
use Rattle.json.specs.Print.{escape_byte, escape, quoted}
use Rattle.serde_json.specs.Data.{Data, string, Members, member, no_members}
use Rattle.serde_json.specs.Written.{compact_text, members_text}
use Rattle.upi_base.specs.Words.{code_text}
use Rattle.upi_msg.specs.Types.{AccountRef, AuthQuestion, Extra, Code}
use Rattle.upi_msg.specs.Tree.{kind_text, payer_tree, payee_tree, txn_tree, id_tree, answer_payer_tree, resp_tree, outcome_tree}
use Rattle.upi_msg.specs.Pieces.{later_text, opening_text}
use Rattle.upi_msg.specs.Sending.{question_members, word_members, credit_members, debit_members, result_members, confirm_members, told_members, rooted, ack_tree}
use Rattle.upi_msg.proofs.Pieces.{glue, later}

payees_join : (e rest : List ℕ) → e ++ (93 ∷ 125 ∷ rest) ≡ ((e ++ 93 ∷ []) ++ 125 ∷ []) ++ rest
payees_join e rest = simp append_assoc refl

abbrev pub question_parts : AuthQuestion → List (List ℕ)
question_parts q = codes ",\"Payees\":{\"Payee\":[" ∷ compact_text (payee_tree None q.payee) ∷ codes "]},\"Payer\":" ∷ compact_text (payer_tree None q.amount q.payer) ∷ codes ",\"Txn\":" ∷ compact_text (txn_tree None q.txn q.extra q.note (kind_text q.kind)) ∷ codes "}" ∷ []

pub question_text : (q : AuthQuestion) → glue (question_parts q) ≡ members_text true (question_members q)
unfolding escape_byte question_members
question_text q =
    ap (λ (l : List ℕ). codes ",\"Payees\":{\"Payee\":[" ++ l) (payees_join (compact_text (payee_tree None q.payee)) (codes ",\"Payer\":" ++ (compact_text (payer_tree None q.amount q.payer) ++ (codes ",\"Txn\":" ++ (compact_text (txn_tree None q.txn q.extra q.note (kind_text q.kind)) ++ codes "}")))))

abbrev pub word_parts : List ℕ → List ℕ → ℕ → List ℕ → List (List ℕ)
word_parts req txn v word = codes ",\"Payer\":" ∷ compact_text (answer_payer_tree None v) ∷ codes ",\"Resp\":" ∷ compact_text (resp_tree None req word) ∷ codes ",\"Txn\":" ∷ compact_text (id_tree txn) ∷ codes "}" ∷ []

pub word_text : (req txn : List ℕ) (v : ℕ) (word : List ℕ) → glue (word_parts req txn v word) ≡ members_text true (word_members req txn v word)
unfolding escape_byte word_members
word_text req txn v word = refl

abbrev pub credit_parts : List ℕ → List ℕ → Option Extra → Option AccountRef → ℕ → List ℕ → List (List ℕ)
credit_parts txn word extra ac v addr = codes ",\"Payees\":{\"Payee\":[" ∷ compact_text (payer_tree ac v addr) ∷ codes "]},\"Txn\":" ∷ compact_text (txn_tree None txn extra None word) ∷ codes "}" ∷ []

pub credit_text : (txn word : List ℕ) (extra : Option Extra) (ac : Option AccountRef) (v : ℕ) (addr : List ℕ) → glue (credit_parts txn word extra ac v addr) ≡ members_text true (credit_members txn word extra ac v addr)
unfolding escape_byte credit_members
credit_text txn word extra ac v addr =
    ap (λ (l : List ℕ). codes ",\"Payees\":{\"Payee\":[" ++ l) (payees_join (compact_text (payer_tree ac v addr)) (codes ",\"Txn\":" ++ (compact_text (txn_tree None txn extra None word) ++ codes "}")))

abbrev pub debit_parts : List ℕ → List ℕ → Option Extra → Option AccountRef → ℕ → List ℕ → List (List ℕ)
debit_parts txn word extra ac v addr = codes ",\"Payer\":" ∷ compact_text (payer_tree ac v addr) ∷ codes ",\"Txn\":" ∷ compact_text (txn_tree None txn extra None word) ∷ codes "}" ∷ []

pub debit_text : (txn word : List ℕ) (extra : Option Extra) (ac : Option AccountRef) (v : ℕ) (addr : List ℕ) → glue (debit_parts txn word extra ac v addr) ≡ members_text true (debit_members txn word extra ac v addr)
unfolding escape_byte debit_members
debit_text txn word extra ac v addr = refl

abbrev pub result_parts : Option Code → List ℕ → List ℕ → List ℕ → List ℕ → List (List ℕ)
result_parts code req result txn word = codes ",\"Resp\":" ∷ compact_text (resp_tree (option_map code_text code) req result) ∷ codes ",\"Txn\":" ∷ compact_text (txn_tree None txn None None word) ∷ codes "}" ∷ []

pub result_text : (code : Option Code) (req result txn word : List ℕ) → glue (result_parts code req result txn word) ≡ members_text true (result_members code req result txn word)
unfolding escape_byte result_members
result_text code req result txn word = refl

abbrev pub confirm_parts : Option Code → List ℕ → List ℕ → List ℕ → List (List ℕ)
confirm_parts code result txn word = codes ",\"Resp\":" ∷ compact_text (outcome_tree (option_map code_text code) result) ∷ codes ",\"Txn\":" ∷ compact_text (txn_tree None txn None None word) ∷ codes "}" ∷ []

pub confirm_text : (code : Option Code) (result txn word : List ℕ) → glue (confirm_parts code result txn word) ≡ members_text true (confirm_members code result txn word)
unfolding escape_byte confirm_members
confirm_text code result txn word = refl

abbrev pub told_parts : List ℕ → List ℕ → List (List ℕ)
told_parts req txn = codes ",\"Resp\":" ∷ compact_text (resp_tree None req (codes "SUCCESS")) ∷ codes ",\"Txn\":" ∷ compact_text (id_tree txn) ∷ codes "}" ∷ []

pub told_text : (req txn : List ℕ) → glue (told_parts req txn) ≡ members_text true (told_members req txn)
unfolding escape_byte told_members
told_text req txn = refl

abbrev pub rooted_parts : List ℕ → Data → Members → List (List ℕ)
rooted_parts name head ms = opening_text name ∷ compact_text head ∷ members_text true ms ∷ codes "}" ∷ []

rooted_join : (n k h m : List ℕ) → ((n ++ 34 ∷ []) ++ k) ++ (h ++ (m ++ 125 ∷ [])) ≡ (n ++ 34 ∷ []) ++ (k ++ ((h ++ m) ++ 125 ∷ []))
rooted_join n k h m = simp append_assoc refl

pub rooted_text : (name : List ℕ) (head : Data) (ms : Members) → glue (rooted_parts name head ms) ≡ compact_text (rooted name head ms)
unfolding escape_byte rooted opening_text
rooted_text name head ms = ap (λ (l : List ℕ). 123 ∷ 34 ∷ l) (rooted_join (escape name) (codes ":{\"Head\":") (compact_text head) (members_text true ms))

abbrev pub ack_parts : List ℕ → Option Code → List ℕ → List (List ℕ)
ack_parts name code req = (codes "{\"Ack\":{\"api\":" ++ quoted name) ∷ later_text (codes "err") (option_map string (option_map code_text code)) ∷ (codes ",\"reqMsgId\":" ++ quoted req) ∷ codes "}}" ∷ []

ack_join : (n e q r : List ℕ) → (n ++ 34 ∷ []) ++ (e ++ ((q ++ (r ++ 34 ∷ [])) ++ 125 ∷ 125 ∷ [])) ≡ ((n ++ 34 ∷ []) ++ (e ++ (q ++ ((r ++ 34 ∷ []) ++ 125 ∷ [])))) ++ 125 ∷ []
ack_join n e q r = simp append_assoc refl

pub ack_text : (name : List ℕ) (code : Option Code) (req : List ℕ) → glue (ack_parts name code req) ≡ compact_text (ack_tree name code req)
unfolding escape_byte ack_tree
ack_text name code req =
    let errs : Option Data = option_map string (option_map code_text code) in
    let rest : Members = member (codes "reqMsgId") (string req) no_members in
    ap (λ (l : List ℕ). codes "{\"Ack\":{\"api\":\"" ++ l) (ack_join (escape name) (later_text (codes "err") errs) (codes ",\"reqMsgId\":\"") (escape req))
    ∙ ap (λ (l : List ℕ). codes "{\"Ack\":{\"api\":" ++ ((quoted name ++ l) ++ 125 ∷ [])) (sym (later (codes "err") errs rest))
