-- Accounts, as texts.
use Rattle.std.specs.Prelude.{ℕ, ◌&&◌, ◌==◌, nat_le, List, length, take, drop, slice_index, Option}
use Rattle.upi_base.specs.declared.setup.AccountRef.{AccountRef}
use Rattle.upi_base.specs.Lists.{when}
use Rattle.upi_base.specs.Texts.{is_bank_code, is_ac_num}

-- the code of a bank, `/`, and the number of an account
abbrev pub account_of : List ℕ → Option AccountRef
account_of text =
    when (nat_le 5 (length text) && (slice_index text 4 == 47) && is_bank_code (take 4 text) && is_ac_num (drop 5 text))
    (record { bank = take 4 text; num = drop 5 text })
