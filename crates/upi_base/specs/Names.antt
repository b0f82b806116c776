-- Short names for the lists of which most definitions speak.
use Rattle.std.specs.Prelude.{ℕ, List}
use Rattle.upi_base.specs.declared.setup.SetupLine.{SetupLine}
use Rattle.upi_base.specs.declared.entry.Entry.{Entry}

-- a text: its bytes
abbrev pub Text : Type 0
Text = List ℕ

-- the lines of a setup, in their order
abbrev pub Setup : Type 0
Setup = List SetupLine

-- the entries of a history, the latest first: what stands after an entry in the list is the prefix before it
abbrev pub History : Type 0
History = List Entry
