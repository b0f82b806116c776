use Rattle.std.proofs.Common.{◌≡◌, drop}
use Rattle.std.specs.List.{list_all}
use Rattle.upi_msg.specs.Pieces.{is_bare}
use Rattle.upi_msg.proofs.quote.are_bare.Given as goal

abbrev pub invariant-bytes : goal.invariant-bytes
invariant-bytes l = list_all is_bare l.text ≡ list_all is_bare (drop l.c-index l.text)
