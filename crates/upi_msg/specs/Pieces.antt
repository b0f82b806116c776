-- Parts of a written message: a member that may be absent, with the comma between it and the next.
use Rattle.std.specs.Prelude.{ℕ, Bool, not, nat_le, ◌&&◌, ◌==◌, List, [], ◌∷◌, ◌++◌, codes, Option, Some, None, option_map}
use Rattle.json.specs.Print.{escape, quoted}
use Rattle.serde_json.specs.Data.{Data}
use Rattle.serde_json.specs.Written.{compact_text}
use Rattle.upi_base.specs.declared.code.Ver.{Ver}
use Rattle.upi_base.specs.declared.code.Ver.TheVariants as ver
use Rattle.upi_base.specs.declared.message.Extra.{Extra}
use Rattle.upi_base.specs.declared.setup.AccountRef.{AccountRef}
use Rattle.upi_msg.specs.Tree.{rules_tree}

-- before the other members
abbrev pub front_text : List ℕ → Option Data → List ℕ
front_text name None = []
front_text name (Some d) = quoted name ++ 58 ∷ (compact_text d ++ 44 ∷ [])

-- behind other members
abbrev pub later_text : List ℕ → Option Data → List ℕ
later_text name None = []
later_text name (Some d) = 44 ∷ (quoted name ++ 58 ∷ compact_text d)

-- a text behind a text: it closes that one, and isn't closed itself
abbrev pub open_text : List ℕ → Option (List ℕ) → List ℕ
open_text name None = []
open_text name (Some s) = 34 ∷ 44 ∷ (quoted name ++ 58 ∷ 34 ∷ escape s)

-- the `initiationMode` of a payment of version 2.0
abbrev pub mode_text : Extra → List ℕ
mode_text e = e.mode

-- the `purpose` of a payment of version 2.0
abbrev pub purpose_text : Extra → List ℕ
purpose_text e = e.purpose

-- an account between two texts, of which the first ends before the bank's code and the second begins behind the number
abbrev pub account_between : List ℕ → AccountRef → List ℕ → List ℕ
account_between front a end = front ++ (escape a.bank ++ (codes "0000000\"},{\"name\":\"ACNUM\",\"value\":\"" ++ (escape a.num ++ end)))

-- how a party begins: `bare`, or its account and `end`
abbrev pub party_front : Option AccountRef → List ℕ → List ℕ → List ℕ
party_front None bare end = bare
party_front (Some a) bare end = account_between (codes "{\"Ac\":{\"Detail\":[{\"name\":\"IFSC\",\"value\":\"") a end

-- a `Txn` up to its type, the text before which isn't closed
abbrev pub terms_text : Option ℕ → List ℕ → Option Extra → Option (List ℕ) → List ℕ
terms_text expire id extra note = 123 ∷ (front_text (codes "Rules") (option_map rules_tree expire) ++ (codes "\"id\":\"" ++ (escape id ++ (open_text (codes "initiationMode") (option_map mode_text extra) ++ (open_text (codes "note") note ++ open_text (codes "purpose") (option_map purpose_text extra))))))

-- how a `Head` ends: the quotation mark behind its moment, and its version
abbrev pub ver_end : Ver → List ℕ
ver_end ver.One = codes "\",\"ver\":\"1.0\"}"
ver_end ver.Two = codes "\",\"ver\":\"2.0\"}"

-- how a message begins, up to its `Head`
unfoldable pub opening_text : List ℕ → List ℕ
opening_text name = 123 ∷ (quoted name ++ codes ":{\"Head\":")

-- a byte stands in a string as it is
unfoldable pub is_bare : ℕ → Bool
is_bare c = nat_le 32 c && not (c == 34) && not (c == 92)
