-- What accounts hold.
use Rattle.std.specs.Prelude.{ℕ, List, map, Option, option_map}
use Rattle.upi_base.specs.Setup.{account_named}
use Rattle.upi_words.specs.Prelude.{Account, AccountRef, Setup, History, balance}

-- these accounts, and what each holds
abbrev pub held_by : Setup → History → List Account → List (AccountRef × ℕ)
held_by S h as' = map (λ (a : Account). (a.ac, balance S a h)) as'

-- what the account of a name holds, if the setup has it
abbrev pub balance_at : Setup → History → AccountRef → Option ℕ
balance_at S h ac = option_map (λ (a : Account). balance S a h) (account_named S ac)
