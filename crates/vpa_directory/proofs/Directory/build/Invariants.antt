use Rattle.vpa_directory.proofs.Builds.{IsBuilt}
use Rattle.vpa_directory.proofs.Directory.build.Given as goal

abbrev pub invariant-lines : goal.invariant-lines
invariant-lines l = IsBuilt l.fn.setup l.directory l.yielded l.line-iterator.rest.items l.at
