use Rattle.std.specs.Io.KnownBytes.{Keeps}
use Rattle.upi_io.proofs.standard.read_once.Given as goal

abbrev pub invariant-tries : goal.invariant-tries
invariant-tries g l = Keeps (g.R.Read.remaining l.initial.inner) (g.R.Read.remaining l.inner)
