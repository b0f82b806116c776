-- Versions of messages.
use Rattle.std.specs.Prelude.{Bool, true, false}
use Rattle.upi_base.specs.declared.code.Ver.{Ver}
use Rattle.upi_base.specs.declared.code.Ver.TheVariants as ver

-- the version is 2.0
abbrev pub is_two : Ver → Bool
is_two ver.One = false
is_two ver.Two = true
