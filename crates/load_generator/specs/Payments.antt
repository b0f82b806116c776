-- A generated payment, drawn from a state, and the SEND line that asks for it.
use Rattle.std.specs.Prelude.{ℕ, ◌+◌, ◌/◌, ◌%◌, ◌==◌, Bool, if◌then◌else◌, [], ◌∷◌, ◌++◌, codes}
use Rattle.upi_words.specs.Prelude.{Text}
use Rattle.upi_base.specs.Money.{paise_text}
use Rattle.load_generator.specs.Draws.{next_state, drawn}
use Rattle.load_generator.specs.Users.{psp_name, address}
use Rattle.load_generator.specs.declared.payment.Payment.{Payment}

-- the state after the four draws of a payment
unfoldable pub state_after : ℕ → ℕ
state_after x = next_state (next_state (next_state (next_state x)))

-- a payee who isn't the payer
abbrev pub payee_from : ℕ → ℕ → ℕ
payee_from payer b = (payer + 1 + b % 39) % 40

-- the payment that four draws from a state give: its payer, its payee, its amount in paise, and whether it is a COLLECT
unfoldable pub payment_from : ℕ → Payment
payment_from x =
    let a = next_state x in
    let b = next_state a in
    let c = next_state b in
    let d = next_state c in
    record {
      payer = drawn a % 40;
      payee = payee_from (drawn a % 40) (drawn b);
      amount = 1 + drawn c % 20000;
      is_collect = drawn d % 4 == 0;
    }

-- the PSP of the side that asks: the payee's for a COLLECT, the payer's for a PAY
abbrev pub asking : Payment → Text
asking p = psp_name (if p.is_collect then p.payee else p.payer)

-- the digit of a number at a place with this weight
abbrev pub digit_at : ℕ → ℕ → ℕ
digit_at weight n = 48 + n / weight % 10

-- a number in six digits
unfoldable pub six_digits : ℕ → Text
six_digits n = digit_at 100000 n ∷ digit_at 10000 n ∷ digit_at 1000 n ∷ digit_at 100 n ∷ digit_at 10 n ∷ digit_at 1 n ∷ []

-- the type of a payment
abbrev pub type_word : Bool → Text
type_word is_collect = if is_collect then codes "COLLECT" else codes "PAY"

-- how a message begins, up to the number in its name
unfoldable pub head_front : Text
head_front = codes "{\"ReqPay\":{\"Head\":{\"msgId\":\"G"

-- the head of a payment's message: its name, by the payment's number
unfoldable pub head_name : ℕ → Text
head_name j = head_front ++ six_digits j

-- the rest of the head: the asking PSP, the moment and the version
unfoldable pub head_rest : Text → Text
head_rest psp = codes "\",\"orgId\":\"" ++ psp ++ codes "\",\"ts\":\"2024-01-01T05:30:00+05:30\",\"ver\":\"1.0\"}"

-- what stands before the payee's address
unfoldable pub payee_front : Text
payee_front = codes ",\"Payees\":{\"Payee\":[{\"addr\":\""

-- its payee
unfoldable pub payee_text : ℕ → Text
payee_text payee = payee_front ++ address payee ++ codes "\"}]}"

-- what stands before the amount
unfoldable pub amount_front : Text
amount_front = codes ",\"Payer\":{\"Amount\":{\"curr\":\"INR\",\"value\":\""

-- its amount
unfoldable pub amount_text : ℕ → Text
amount_text amount = amount_front ++ paise_text amount ++ codes "\"}"

-- its payer
unfoldable pub payer_text : ℕ → Text
payer_text payer = codes ",\"addr\":\"" ++ address payer ++ codes "\"}"

-- the payment's name
unfoldable pub name_text : ℕ → Text
name_text j = codes ",\"Txn\":{\"id\":\"L" ++ six_digits j

-- the payment's type, and the end
unfoldable pub type_text : Bool → Text
type_text is_collect = codes "\",\"type\":\"" ++ type_word is_collect ++ codes "\"}}}"

-- the message that asks for a payment
unfoldable pub message_text : ℕ → Payment → Text
message_text j p = head_name j ++ head_rest (asking p) ++ payee_text p.payee ++ amount_text p.amount ++ payer_text p.payer ++ name_text j ++ type_text p.is_collect

-- the line in which the asking PSP sends the payment of a number
unfoldable pub send_line : ℕ → Payment → Text
send_line j p = codes "SEND " ++ asking p ++ codes " " ++ message_text j p
