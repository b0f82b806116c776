use Rattle.std.proofs.Common.{◌≡◌, drop}
use Rattle.upi_base.specs.Setup.{listing_at}
use Rattle.upi_base.proofs.directory.listing_at.Given as goal

abbrev pub invariant-loop-line : goal.invariant-loop-line
invariant-loop-line l = listing_at (drop l.line-index l.lines) l.wanted ≡ listing_at l.lines l.wanted
