use Rattle.std.specs.Io.KnownBytes.{Keeps}
use Rattle.std.specs.Io.Buffered.{writer_contents}
use Rattle.upi_io.proofs.standard.flush.Given as goal

abbrev pub invariant-tries : goal.invariant-tries
invariant-tries g l = Keeps (writer_contents g.W.Write.contents l.initial.inner) (writer_contents g.W.Write.contents l.inner)
