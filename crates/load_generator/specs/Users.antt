-- Who takes part in a generated load: four banks, four PSPs, and forty users, each with an account and an address. All are counted from 0.
use Rattle.std.specs.Prelude.{ℕ, ◌+◌, ◌%◌, ◌-◌, ◌==◌, nat_lt, if◌then◌else◌, ◌++◌, codes, decimal}
use Rattle.upi_words.specs.Prelude.{Text}

-- the bank of a number, by its rest after division by four
unfoldable pub bank_name : ℕ → Text
bank_name i =
    if i % 4 == 0 then codes "AAAA"
    else if i % 4 == 1 then codes "BBBB"
    else if i % 4 == 2 then codes "CCCC"
    else codes "DDDD"

-- the PSP of a number, by its rest after division by four
unfoldable pub psp_name : ℕ → Text
psp_name i =
    if i % 4 == 0 then codes "alpha"
    else if i % 4 == 1 then codes "beta"
    else if i % 4 == 2 then codes "gamma"
    else codes "delta"

-- the account of a user
unfoldable pub account_name : ℕ → Text
account_name i = bank_name i ++ codes "/" ++ decimal (i + 1)

-- the address of a user
unfoldable pub address : ℕ → Text
address i = codes "u" ++ decimal (i + 1) ++ codes "@" ++ psp_name i

-- a user's account, with 1000.00; the eighth takes no credits
unfoldable pub account_line : ℕ → Text
account_line i = codes "ACCOUNT " ++ account_name i ++ codes " 1000.00" ++ (if i == 7 then codes " NOCREDIT" else codes "")

-- a user's address; each tenth user's PSP says no
unfoldable pub address_line : ℕ → Text
address_line i = codes "ADDR " ++ address i ++ codes " " ++ account_name i ++ (if i % 10 == 9 then codes " NO" else codes " YES")

-- how many lines the setup has
abbrev pub setup_len : ℕ
setup_len = 90

-- a line of the setup, counted from 0: START, four banks, four PSPs, forty accounts, forty addresses, OPEN
unfoldable pub setup_line : ℕ → Text
setup_line k =
    if k == 0 then codes "START 2024-01-01T05:30:00+05:30"
    else if nat_lt k 5 then codes "BANK " ++ bank_name (k - 1)
    else if nat_lt k 9 then codes "PSP " ++ psp_name (k - 5)
    else if nat_lt k 49 then account_line (k - 9)
    else if nat_lt k 89 then address_line (k - 49)
    else codes "OPEN"
