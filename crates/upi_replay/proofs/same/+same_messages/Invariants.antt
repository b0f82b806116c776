use Rattle.std.proofs.Common.{length}
use Rattle.upi_replay.proofs.same.+same_messages.Given as goal

abbrev pub decreases-same_messages : goal.decreases-same_messages
decreases-same_messages l = length l.a.now
