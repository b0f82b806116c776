-- What is said after a Close.
use Rattle.upi_words.specs.Prelude.{Event, Reply, Setup, History}
use Rattle.upi_model.specs.Replies.{reply_shut, txn_of}
use Rattle.upi_model.specs.Standing.{standing}

-- the reply to an event after a Close, by how its transaction stands
abbrev pub shut_reply : Setup → History → Event → Reply
shut_reply S h e = reply_shut (standing S (txn_of e) h) e
