-- The parts of each written group, and that they make its text.
use Rattle.std.proofs.Common.{Option, Some, None, codes, option_map, decimal, ◌≡◌, ℕ, List, [], ◌∷◌, ◌++◌, refl, sym, ap, ◌∙◌, append_assoc}
use Rattle.std.proofs.lemmas.List.Concat.{flat_map-append}
use Rattle.json.specs.Print.{escape_byte, escape, quoted}
use Rattle.serde_json.specs.Data.{Data, string, Members, member, no_members}
use Rattle.serde_json.specs.Written.{compact_text}
use Rattle.upi_base.specs.Money.{paise_text}
use Rattle.upi_base.specs.Time.{moment_text}
use Rattle.upi_base.specs.declared.setup.AccountRef.{AccountRef}
use Rattle.upi_base.specs.declared.message.Head.{Head}
use Rattle.upi_base.specs.declared.code.Ver.{Ver}
use Rattle.upi_base.specs.declared.code.Ver.TheVariants as ver
use Rattle.upi_base.specs.declared.message.Extra.{Extra}
use Rattle.upi_base.specs.declared.message.Chk.{Chk}
use Rattle.upi_base.specs.declared.message.ConfResp.{ConfResp}
use Rattle.upi_msg.specs.Tree.{maybe, only, head_tree, head_tree_of, amount_tree, account_tree, rules_tree, mode_tree, purpose_tree, payer_tree, payee_tree, txn_tree, parties_tree, account_payees_tree, answer_payer_tree, resp_tree, outcome_tree, id_tree, answer_body, check_tree, confirmed_tree}
use Rattle.upi_msg.specs.Pieces.{front_text, later_text, open_text, mode_text, purpose_text, account_between, party_front, terms_text, ver_end}
use Rattle.upi_msg.proofs.Pieces.{glue, front, later}

abbrev pub head_parts : List ℕ → List ℕ → ℕ → Ver → List (List ℕ)
head_parts msg org ts v = (codes "{\"msgId\":\"" ++ escape msg) ∷ (codes "\",\"orgId\":\"" ++ escape org) ∷ (codes "\",\"ts\":\"") ∷ (escape (moment_text ts)) ∷ (ver_end v) ∷ []

abbrev pub account_parts : AccountRef → List (List ℕ)
account_parts a = (codes "{\"Detail\":[{\"name\":\"IFSC\",\"value\":\"" ++ escape a.bank) ∷ (codes "0000000\"},{\"name\":\"ACNUM\",\"value\":\"" ++ escape a.num) ∷ (codes "\"}],\"addrType\":\"ACCOUNT\"}") ∷ []

abbrev pub rules_parts : ℕ → List (List ℕ)
rules_parts n = (codes "\"Rules\":{\"Rule\":[{\"name\":\"EXPIREAFTER\",\"value\":\"" ++ escape (decimal n)) ∷ (codes "\"}]},") ∷ []

abbrev pub payer_parts : Option AccountRef → ℕ → List ℕ → List (List ℕ)
payer_parts ac v addr = (party_front ac (codes "{\"Amount\":{\"curr\":\"INR\",\"value\":\"") (codes "\"}],\"addrType\":\"ACCOUNT\"},\"Amount\":{\"curr\":\"INR\",\"value\":\"")) ∷ (escape (paise_text v)) ∷ (codes "\"},\"addr\":\"" ++ escape addr) ∷ (codes "\"}") ∷ []

abbrev pub payee_parts : Option AccountRef → List ℕ → List (List ℕ)
payee_parts ac addr = (party_front ac (codes "{\"addr\":\"") (codes "\"}],\"addrType\":\"ACCOUNT\"},\"addr\":\"")) ∷ (escape addr) ∷ (codes "\"}") ∷ []

abbrev pub txn_parts : Option ℕ → List ℕ → Option Extra → Option (List ℕ) → List ℕ → List (List ℕ)
txn_parts expire id extra note word = (terms_text expire id extra note) ∷ (codes "\",\"type\":\"" ++ escape word) ∷ (codes "\"}") ∷ []

abbrev pub terms_parts : Option ℕ → List ℕ → Option Extra → Option (List ℕ) → List (List ℕ)
terms_parts expire id extra note = (codes "{") ∷ (front_text (codes "Rules") (option_map rules_tree expire)) ∷ (codes "\"id\":\"" ++ escape id) ∷ (open_text (codes "initiationMode") (option_map mode_text extra)) ∷ (open_text (codes "note") note) ∷ (open_text (codes "purpose") (option_map purpose_text extra)) ∷ []

abbrev pub between_parts : List ℕ → AccountRef → List ℕ → List (List ℕ)
between_parts front a end = (front ++ escape a.bank) ∷ (codes "0000000\"},{\"name\":\"ACNUM\",\"value\":\"" ++ escape a.num) ∷ end ∷ []

abbrev pub parties_parts : List ℕ → Data → Data → Data → Data → List (List ℕ)
parties_parts name head payee payer txn = (123 ∷ (quoted name ++ codes ":{\"Head\":")) ∷ (compact_text head) ∷ (codes ",\"Payees\":{\"Payee\":[") ∷ (compact_text payee) ∷ (codes "]},\"Payer\":") ∷ (compact_text payer) ∷ (codes ",\"Txn\":") ∷ (compact_text txn) ∷ (codes "}}") ∷ []

abbrev pub answer_payer_parts : Option AccountRef → ℕ → List (List ℕ)
answer_payer_parts ac v = (party_front ac (codes "{\"Amount\":{\"curr\":\"INR\",\"value\":\"") (codes "\"}],\"addrType\":\"ACCOUNT\"},\"Amount\":{\"curr\":\"INR\",\"value\":\"")) ∷ (escape (paise_text v)) ∷ (codes "\"}}") ∷ []

abbrev pub resp_parts : Option (List ℕ) → List ℕ → List ℕ → List (List ℕ)
resp_parts code req result = (codes "{") ∷ (front_text (codes "errCode") (option_map string code)) ∷ (codes "\"reqMsgId\":" ++ quoted req) ∷ (codes ",\"result\":" ++ quoted result) ∷ (codes "}") ∷ []

abbrev pub outcome_parts : Option (List ℕ) → List ℕ → List (List ℕ)
outcome_parts code result = (codes "{") ∷ (front_text (codes "errCode") (option_map string code)) ∷ (codes "\"result\":" ++ quoted result) ∷ (codes "}") ∷ []

abbrev pub answer_parts : Data → Option Data → Data → Data → List ℕ → List (List ℕ)
answer_parts head payees payer resp txn = (codes "{\"RespAuthDetails\":{\"Head\":") ∷ (compact_text head) ∷ (later_text (codes "Payees") payees) ∷ (codes ",\"Payer\":") ∷ (compact_text payer) ∷ (codes ",\"Resp\":") ∷ (compact_text resp) ∷ (codes ",\"Txn\":{\"id\":" ++ quoted txn) ∷ (codes "}}}") ∷ []

abbrev pub check_parts : Chk → List (List ℕ)
check_parts k = (codes "{\"ReqChkTxn\":{\"Head\":") ∷ (compact_text (head_tree k.head)) ∷ (codes ",\"Txn\":{\"id\":" ++ quoted k.txn) ∷ (codes "}}}") ∷ []

abbrev pub confirmed_parts : ConfResp → List (List ℕ)
confirmed_parts k = (codes "{\"RespTxnConfirmation\":{\"Head\":") ∷ (compact_text (head_tree k.head)) ∷ (codes ",\"Resp\":{\"reqMsgId\":" ++ quoted k.req_msg) ∷ (codes "},\"Txn\":{\"id\":" ++ quoted k.txn) ∷ (codes "}}}") ∷ []

abbrev pub foreign_parts : List ℕ → Head → List (List ℕ)
foreign_parts name h = (codes "{" ++ quoted name) ∷ (codes ":{\"Head\":") ∷ (compact_text (head_tree h)) ∷ (codes "}}") ∷ []

-- a quotation mark between two texts closes the first
shut : (s t : List ℕ) → s ++ 34 ∷ t ≡ (s ++ 34 ∷ []) ++ t
shut s t = sym (append_assoc s (34 ∷ []) t)

-- the text of a head, joined otherwise
head_joins : (m o t a b e : List ℕ) → m ++ ((34 ∷ a) ++ (o ++ ((34 ∷ b) ++ (t ++ 34 ∷ e)))) ≡ (m ++ 34 ∷ []) ++ (a ++ ((o ++ 34 ∷ []) ++ (b ++ ((t ++ 34 ∷ []) ++ e))))
head_joins m o t a b e = simp append_assoc refl

head_by : (msg org : List ℕ) (ts : ℕ) (e : List ℕ) → codes "{\"msgId\":\"" ++ (escape msg ++ (codes "\",\"orgId\":\"" ++ (escape org ++ (codes "\",\"ts\":\"" ++ (escape (moment_text ts) ++ 34 ∷ e)))))
    ≡ codes "{\"msgId\":\"" ++ ((escape msg ++ 34 ∷ []) ++ (codes ",\"orgId\":\"" ++ ((escape org ++ 34 ∷ []) ++ (codes ",\"ts\":\"" ++ ((escape (moment_text ts) ++ 34 ∷ []) ++ e)))))
head_by msg org ts e = ap (λ (l : List ℕ). codes "{\"msgId\":\"" ++ l) (head_joins (escape msg) (escape org) (escape (moment_text ts)) (codes ",\"orgId\":\"") (codes ",\"ts\":\"") e)

pub head_text : (msg org : List ℕ) (ts : ℕ) (v : Ver) → glue (head_parts msg org ts v) ≡ compact_text (head_tree_of msg org ts v)
unfolding escape_byte head_tree_of
head_text msg org ts ver.One = head_by msg org ts (codes ",\"ver\":\"1.0\"}")
head_text msg org ts ver.Two = head_by msg org ts (codes ",\"ver\":\"2.0\"}")

-- the text of an account, joined otherwise
account_joins : (b n m t : List ℕ) → b ++ ((48 ∷ 48 ∷ 48 ∷ 48 ∷ 48 ∷ 48 ∷ 48 ∷ 34 ∷ 125 ∷ m) ++ (n ++ 34 ∷ 125 ∷ 93 ∷ t))
    ≡ ((((b ++ 48 ∷ 48 ∷ 48 ∷ 48 ∷ 48 ∷ 48 ∷ 48 ∷ []) ++ 34 ∷ []) ++ 125 ∷ []) ++ (m ++ (((n ++ 34 ∷ []) ++ 125 ∷ []) ++ 93 ∷ []))) ++ t
account_joins b n m t = simp append_assoc refl

pub account_text : (a : AccountRef) → glue (account_parts a) ≡ compact_text (account_tree a)
unfolding escape_byte account_tree
account_text a =
    let before : List ℕ = codes "{\"Detail\":[{\"name\":\"IFSC\",\"value\":\"" in
    let between : List ℕ = codes ",{\"name\":\"ACNUM\",\"value\":\"" in
    let behind : List ℕ = codes ",\"addrType\":\"ACCOUNT\"}" in
    ap (λ (l : List ℕ). before ++ l) (account_joins (escape a.bank) (escape a.num) between behind)
    ∙ ap (λ (l : List ℕ). before ++ ((((l ++ 34 ∷ []) ++ 125 ∷ []) ++ (between ++ (((escape a.num ++ 34 ∷ []) ++ 125 ∷ []) ++ 93 ∷ []))) ++ behind)) (sym (flat_map-append escape_byte a.bank (codes "0000000")))

between_joins : (f b k n e : List ℕ) → (f ++ b) ++ ((k ++ n) ++ e) ≡ f ++ (b ++ (k ++ (n ++ e)))
between_joins f b k n e = simp append_assoc refl

pub between_text : (front : List ℕ) (a : AccountRef) (end : List ℕ) → glue (between_parts front a end) ≡ account_between front a end
between_text front a end = between_joins front (escape a.bank) (codes "0000000\"},{\"name\":\"ACNUM\",\"value\":\"") (escape a.num) end

around_joins : (f g b k n e t : List ℕ) → (f ++ g) ++ (b ++ (k ++ (n ++ (e ++ t)))) ≡ f ++ (((g ++ b) ++ ((k ++ n) ++ e)) ++ t)
around_joins f g b k n e t = simp append_assoc refl

-- an account between two texts is its tree's text between them
around : (f t : List ℕ) (a : AccountRef) → account_between (f ++ codes "{\"Detail\":[{\"name\":\"IFSC\",\"value\":\"") a (codes "\"}],\"addrType\":\"ACCOUNT\"}" ++ t) ≡ f ++ (compact_text (account_tree a) ++ t)
around f t a =
    around_joins f (codes "{\"Detail\":[{\"name\":\"IFSC\",\"value\":\"") (escape a.bank) (codes "0000000\"},{\"name\":\"ACNUM\",\"value\":\"") (escape a.num) (codes "\"}],\"addrType\":\"ACCOUNT\"}") t
    ∙ ap (λ (l : List ℕ). f ++ (l ++ t)) (account_text a)

-- a party begins with its account, if it has one, and goes on
party_text : (ac : Option AccountRef) (next : List ℕ) → party_front ac (123 ∷ next) (codes "\"}],\"addrType\":\"ACCOUNT\"}," ++ next) ≡ 123 ∷ (front_text (codes "Ac") (option_map account_tree ac) ++ next)
unfolding escape_byte
party_text None next = refl
party_text (Some a) next =
    around (codes "{\"Ac\":") (44 ∷ next) a
    ∙ ap (λ (l : List ℕ). codes "{\"Ac\":" ++ l) (sym (append_assoc (compact_text (account_tree a)) (44 ∷ []) next))

-- the same before more
party_more : (ac : Option AccountRef) (next more : List ℕ) → party_front ac (123 ∷ next) (codes "\"}],\"addrType\":\"ACCOUNT\"}," ++ next) ++ more ≡ 123 ∷ (front_text (codes "Ac") (option_map account_tree ac) ++ (next ++ more))
party_more ac next more =
    ap (λ (l : List ℕ). l ++ more) (party_text ac next)
    ∙ ap (λ (l : List ℕ). 123 ∷ l) (append_assoc (front_text (codes "Ac") (option_map account_tree ac)) next more)

-- the text of rules, joined otherwise
rules_joins : (e : List ℕ) → e ++ 34 ∷ 125 ∷ 93 ∷ 125 ∷ 44 ∷ [] ≡ ((((e ++ 34 ∷ []) ++ 125 ∷ []) ++ 93 ∷ []) ++ 125 ∷ []) ++ 44 ∷ []
rules_joins e = simp append_assoc refl

pub rules_text : (n : ℕ) → glue (rules_parts n) ≡ codes "\"Rules\":" ++ (compact_text (rules_tree n) ++ 44 ∷ [])
unfolding escape_byte rules_tree
rules_text n = ap (λ (l : List ℕ). codes "\"Rules\":{\"Rule\":[{\"name\":\"EXPIREAFTER\",\"value\":\"" ++ l) (rules_joins (escape (decimal n)))

-- the text of a payer, joined otherwise
payer_joins : (p d a : List ℕ) → p ++ ((34 ∷ 125 ∷ a) ++ (d ++ 34 ∷ 125 ∷ [])) ≡ ((p ++ 34 ∷ []) ++ 125 ∷ []) ++ (a ++ ((d ++ 34 ∷ []) ++ 125 ∷ []))
payer_joins p d a = simp append_assoc refl

pub payer_text : (ac : Option AccountRef) (v : ℕ) (addr : List ℕ) → glue (payer_parts ac v addr) ≡ compact_text (payer_tree ac v addr)
unfolding escape_byte payer_tree amount_tree
payer_text ac v addr =
    party_more ac (codes "\"Amount\":{\"curr\":\"INR\",\"value\":\"") (escape (paise_text v) ++ (codes "\"},\"addr\":\"" ++ (escape addr ++ codes "\"}")))
    ∙ ap (λ (l : List ℕ). 123 ∷ (front_text (codes "Ac") (option_map account_tree ac) ++ (codes "\"Amount\":{\"curr\":\"INR\",\"value\":\"" ++ l))) (payer_joins (escape (paise_text v)) (escape addr) (codes ",\"addr\":\""))
    ∙ ap (λ (l : List ℕ). 123 ∷ l) (sym (front (codes "Ac") (option_map account_tree ac) (codes "Amount") (amount_tree v) (member (codes "addr") (string addr) no_members)))

pub payee_text : (ac : Option AccountRef) (addr : List ℕ) → glue (payee_parts ac addr) ≡ compact_text (payee_tree ac addr)
unfolding escape_byte payee_tree
payee_text ac addr =
    party_more ac (codes "\"addr\":\"") (escape addr ++ codes "\"}")
    ∙ ap (λ (l : List ℕ). 123 ∷ (front_text (codes "Ac") (option_map account_tree ac) ++ (codes "\"addr\":\"" ++ l))) (shut (escape addr) (codes "}"))
    ∙ ap (λ (l : List ℕ). 123 ∷ l) (sym (front (codes "Ac") (option_map account_tree ac) (codes "addr") (string addr) no_members))

-- a text that isn't closed, and the quotation mark behind it
opened : (k : List ℕ) (o : Option (List ℕ)) (t : List ℕ) → open_text k o ++ 34 ∷ t ≡ 34 ∷ (later_text k (option_map string o) ++ t)
opened k None t = refl
opened k (Some s) t = ap (λ (l : List ℕ). 34 ∷ 44 ∷ l) (opened_joins (quoted k) (escape s) t)
  where
    opened_joins : (q e t : List ℕ) → (q ++ 58 ∷ 34 ∷ e) ++ 34 ∷ t ≡ (q ++ 58 ∷ 34 ∷ (e ++ 34 ∷ [])) ++ t
    opened_joins q e t = simp append_assoc refl

modes : (e : Option Extra) → option_map string (option_map mode_text e) ≡ option_map mode_tree e
modes None = refl
modes (Some e) = refl

purposes_of : (e : Option Extra) → option_map string (option_map purpose_text e) ≡ option_map purpose_tree e
purposes_of None = refl
purposes_of (Some e) = refl

opened_mode : (e : Option Extra) (t : List ℕ) → open_text (codes "initiationMode") (option_map mode_text e) ++ 34 ∷ t ≡ 34 ∷ (later_text (codes "initiationMode") (option_map mode_tree e) ++ t)
opened_mode e t = opened (codes "initiationMode") (option_map mode_text e) t ∙ ap (λ (o : Option Data). 34 ∷ (later_text (codes "initiationMode") o ++ t)) (modes e)

opened_purpose : (e : Option Extra) (t : List ℕ) → open_text (codes "purpose") (option_map purpose_text e) ++ 34 ∷ t ≡ 34 ∷ (later_text (codes "purpose") (option_map purpose_tree e) ++ t)
opened_purpose e t = opened (codes "purpose") (option_map purpose_text e) t ∙ ap (λ (o : Option Data). 34 ∷ (later_text (codes "purpose") o ++ t)) (purposes_of e)

terms_joins : (r k i m n p x : List ℕ) → (r ++ (k ++ (i ++ (m ++ (n ++ p))))) ++ x ≡ r ++ (k ++ (i ++ (m ++ (n ++ (p ++ x)))))
terms_joins r k i m n p x = simp append_assoc refl

pub txn_text : (expire : Option ℕ) (id : List ℕ) (extra : Option Extra) (note : Option (List ℕ)) (word : List ℕ) → glue (txn_parts expire id extra note word) ≡ compact_text (txn_tree expire id extra note word)
unfolding escape_byte txn_tree
txn_text expire id extra note word =
    let types : Members = member (codes "type") (string word) no_members in
    let purposes : Members = maybe (codes "purpose") (option_map purpose_tree extra) types in
    let notes : Members = maybe (codes "note") (option_map string note) purposes in
    let rest : Members = maybe (codes "initiationMode") (option_map mode_tree extra) notes in
    let before : List ℕ = front_text (codes "Rules") (option_map rules_tree expire) in
    let word_end : List ℕ = codes ",\"type\":\"" ++ ((escape word ++ 34 ∷ []) ++ 125 ∷ []) in
    let purpose_end : List ℕ = later_text (codes "purpose") (option_map purpose_tree extra) ++ word_end in
    let note_end : List ℕ = later_text (codes "note") (option_map string note) ++ purpose_end in
    let mode_end : List ℕ = later_text (codes "initiationMode") (option_map mode_tree extra) ++ note_end in
    let mode : List ℕ = open_text (codes "initiationMode") (option_map mode_text extra) in
    let text : List ℕ = open_text (codes "note") note in
    let purpose : List ℕ = open_text (codes "purpose") (option_map purpose_text extra) in
    ap (λ (l : List ℕ). 123 ∷ l) (terms_joins before (codes "\"id\":\"") (escape id) mode text purpose (codes "\",\"type\":\"" ++ (escape word ++ codes "\"}")))
    ∙ ap (λ (l : List ℕ). 123 ∷ (before ++ (codes "\"id\":\"" ++ (escape id ++ (mode ++ (text ++ (purpose ++ (codes "\",\"type\":\"" ++ l)))))))) (shut (escape word) (codes "}"))
    ∙ ap (λ (l : List ℕ). 123 ∷ (before ++ (codes "\"id\":\"" ++ (escape id ++ (mode ++ (text ++ l)))))) (opened_purpose extra word_end)
    ∙ ap (λ (l : List ℕ). 123 ∷ (before ++ (codes "\"id\":\"" ++ (escape id ++ (mode ++ l))))) (opened (codes "note") note purpose_end)
    ∙ ap (λ (l : List ℕ). 123 ∷ (before ++ (codes "\"id\":\"" ++ (escape id ++ l)))) (opened_mode extra note_end)
    ∙ ap (λ (l : List ℕ). 123 ∷ (before ++ (codes "\"id\":\"" ++ l))) (shut (escape id) mode_end)
    ∙ ap (λ (l : List ℕ). 123 ∷ (before ++ (codes "\"id\":" ++ (quoted id ++ (later_text (codes "initiationMode") (option_map mode_tree extra) ++ (later_text (codes "note") (option_map string note) ++ l)))))) (sym (later (codes "purpose") (option_map purpose_tree extra) types))
    ∙ ap (λ (l : List ℕ). 123 ∷ (before ++ (codes "\"id\":" ++ (quoted id ++ (later_text (codes "initiationMode") (option_map mode_tree extra) ++ l))))) (sym (later (codes "note") (option_map string note) purposes))
    ∙ ap (λ (l : List ℕ). 123 ∷ (before ++ (codes "\"id\":" ++ (quoted id ++ l)))) (sym (later (codes "initiationMode") (option_map mode_tree extra) notes))
    ∙ ap (λ (l : List ℕ). 123 ∷ l) (sym (front (codes "Rules") (option_map rules_tree expire) (codes "id") (string id) rest))

-- the text of a message with both parties, joined otherwise
parties_joins : (n h e p m a b d k : List ℕ) → ((n ++ 34 ∷ []) ++ k) ++ (h ++ (a ++ (e ++ ((93 ∷ 125 ∷ b) ++ (p ++ (d ++ (m ++ 125 ∷ 125 ∷ [])))))))
    ≡ (n ++ 34 ∷ []) ++ (k ++ ((h ++ (a ++ (((e ++ 93 ∷ []) ++ 125 ∷ []) ++ (b ++ (p ++ (d ++ (m ++ 125 ∷ []))))))) ++ 125 ∷ []))
parties_joins n h e p m a b d k = simp append_assoc refl

pub parties_text : (name : List ℕ) (head payee payer txn : Data) → glue (parties_parts name head payee payer txn) ≡ compact_text (only name (parties_tree head payee payer txn))
unfolding escape_byte parties_tree
parties_text name head payee payer txn =
    ap (λ (l : List ℕ). 123 ∷ 34 ∷ l) (parties_joins (escape name) (compact_text head) (compact_text payee) (compact_text payer) (compact_text txn) (codes ",\"Payees\":{\"Payee\":[") (codes ",\"Payer\":") (codes ",\"Txn\":") (codes ":{\"Head\":"))

payees_joins : (a : List ℕ) → a ++ 125 ∷ 93 ∷ 125 ∷ [] ≡ ((a ++ 125 ∷ []) ++ 93 ∷ []) ++ 125 ∷ []
payees_joins a = simp append_assoc refl

pub payees_text : (a : AccountRef) → account_between (codes ",\"Payees\":{\"Payee\":[{\"Ac\":{\"Detail\":[{\"name\":\"IFSC\",\"value\":\"") a (codes "\"}],\"addrType\":\"ACCOUNT\"}}]}") ≡ 44 ∷ (quoted (codes "Payees") ++ 58 ∷ compact_text (account_payees_tree a))
unfolding escape_byte account_payees_tree
payees_text a =
    around (codes ",\"Payees\":{\"Payee\":[{\"Ac\":") (codes "}]}") a
    ∙ ap (λ (l : List ℕ). codes ",\"Payees\":{\"Payee\":[{\"Ac\":" ++ l) (payees_joins (compact_text (account_tree a)))

answer_payer_joins : (p : List ℕ) → p ++ 34 ∷ 125 ∷ 125 ∷ [] ≡ ((p ++ 34 ∷ []) ++ 125 ∷ []) ++ 125 ∷ []
answer_payer_joins p = simp append_assoc refl

pub answer_payer_text : (ac : Option AccountRef) (v : ℕ) → glue (answer_payer_parts ac v) ≡ compact_text (answer_payer_tree ac v)
unfolding escape_byte answer_payer_tree amount_tree
answer_payer_text ac v =
    party_more ac (codes "\"Amount\":{\"curr\":\"INR\",\"value\":\"") (escape (paise_text v) ++ codes "\"}}")
    ∙ ap (λ (l : List ℕ). 123 ∷ (front_text (codes "Ac") (option_map account_tree ac) ++ (codes "\"Amount\":{\"curr\":\"INR\",\"value\":\"" ++ l))) (answer_payer_joins (escape (paise_text v)))
    ∙ ap (λ (l : List ℕ). 123 ∷ l) (sym (front (codes "Ac") (option_map account_tree ac) (codes "Amount") (amount_tree v) no_members))

pub resp_text : (code : Option (List ℕ)) (req result : List ℕ) → glue (resp_parts code req result) ≡ compact_text (resp_tree code req result)
unfolding escape_byte resp_tree
resp_text code req result = ap (λ (l : List ℕ). 123 ∷ l) (sym (front (codes "errCode") (option_map string code) (codes "reqMsgId") (string req) (member (codes "result") (string result) no_members)))

pub outcome_text : (code : Option (List ℕ)) (result : List ℕ) → glue (outcome_parts code result) ≡ compact_text (outcome_tree code result)
unfolding escape_byte outcome_tree
outcome_text code result = ap (λ (l : List ℕ). 123 ∷ l) (sym (front (codes "errCode") (option_map string code) (codes "result") (string result) no_members))

answer_joins : (h q p r t a b d : List ℕ) → h ++ (q ++ (a ++ (p ++ (b ++ (r ++ ((d ++ (t ++ 34 ∷ [])) ++ 125 ∷ 125 ∷ 125 ∷ []))))))
    ≡ (h ++ (q ++ (a ++ (p ++ (b ++ (r ++ (d ++ (((t ++ 34 ∷ []) ++ 125 ∷ []) ++ 125 ∷ [])))))))) ++ 125 ∷ []
answer_joins h q p r t a b d = simp append_assoc refl

pub answer_text : (head : Data) (payees : Option Data) (payer resp : Data) (txn : List ℕ) → glue (answer_parts head payees payer resp txn) ≡ compact_text (only (codes "RespAuthDetails") (answer_body head payees payer resp txn))
unfolding escape_byte answer_body
answer_text head payees payer resp txn =
    let h : List ℕ = compact_text head in
    let rest : Members = member (codes "Payer") payer (member (codes "Resp") resp (member (codes "Txn") (id_tree txn) no_members)) in
    ap (λ (l : List ℕ). codes "{\"RespAuthDetails\":{\"Head\":" ++ l) (answer_joins h (later_text (codes "Payees") payees) (compact_text payer) (compact_text resp) (escape txn) (codes ",\"Payer\":") (codes ",\"Resp\":") (codes ",\"Txn\":{\"id\":\""))
    ∙ ap (λ (l : List ℕ). codes "{\"RespAuthDetails\":{\"Head\":" ++ ((h ++ l) ++ 125 ∷ [])) (sym (later (codes "Payees") payees rest))

check_joins : (h t a : List ℕ) → h ++ ((a ++ (t ++ 34 ∷ [])) ++ 125 ∷ 125 ∷ 125 ∷ []) ≡ (h ++ (a ++ (((t ++ 34 ∷ []) ++ 125 ∷ []) ++ 125 ∷ []))) ++ 125 ∷ []
check_joins h t a = simp append_assoc refl

pub check_text : (k : Chk) → glue (check_parts k) ≡ compact_text (only (codes "ReqChkTxn") (check_tree k))
unfolding escape_byte check_tree
check_text k = ap (λ (l : List ℕ). codes "{\"ReqChkTxn\":{\"Head\":" ++ l) (check_joins (compact_text (head_tree k.head)) (escape k.txn) (codes ",\"Txn\":{\"id\":\""))

confirmed_joins : (h r t a b : List ℕ) → h ++ ((a ++ (r ++ 34 ∷ [])) ++ (((125 ∷ b) ++ (t ++ 34 ∷ [])) ++ 125 ∷ 125 ∷ 125 ∷ []))
    ≡ (h ++ (a ++ (((r ++ 34 ∷ []) ++ 125 ∷ []) ++ (b ++ (((t ++ 34 ∷ []) ++ 125 ∷ []) ++ 125 ∷ []))))) ++ 125 ∷ []
confirmed_joins h r t a b = simp append_assoc refl

pub confirmed_text : (k : ConfResp) → glue (confirmed_parts k) ≡ compact_text (only (codes "RespTxnConfirmation") (confirmed_tree k))
unfolding escape_byte confirmed_tree
confirmed_text k =
    ap (λ (l : List ℕ). codes "{\"RespTxnConfirmation\":{\"Head\":" ++ l) (confirmed_joins (compact_text (head_tree k.head)) (escape k.req_msg) (escape k.txn) (codes ",\"Resp\":{\"reqMsgId\":\"") (codes ",\"Txn\":{\"id\":\""))

foreign_joins : (n h a : List ℕ) → (n ++ 34 ∷ []) ++ ((58 ∷ a) ++ (h ++ 125 ∷ 125 ∷ [])) ≡ (n ++ 34 ∷ []) ++ 58 ∷ ((a ++ (h ++ 125 ∷ [])) ++ 125 ∷ [])
foreign_joins n h a = simp append_assoc refl

pub foreign_text : (name : List ℕ) (h : Head) → glue (foreign_parts name h) ≡ compact_text (only name (only (codes "Head") (head_tree h)))
unfolding escape_byte
foreign_text name h = ap (λ (l : List ℕ). 123 ∷ 34 ∷ l) (foreign_joins (escape name) (compact_text (head_tree h)) (codes "{\"Head\":"))
