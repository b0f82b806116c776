-- An entry as it is handed out, without memory.
use Rattle.upi_words.specs.Prelude.{Call, Entry}
use Rattle.entry_log.specs.declared.view.CallView.{CallView}
use Rattle.entry_log.specs.declared.view.EntryView.{EntryView}

-- the call that a view shows
abbrev pub shown_call : CallView → Call
shown_call (CallView.Whole c) = c.now
shown_call (CallView.Deliver n) = Call.Deliver n
shown_call (CallView.Lose n) = Call.Lose n
shown_call CallView.Close = Call.Close

-- the entry that a view shows
abbrev pub shown : EntryView → Entry
shown v = record { call = shown_call v.call; at = v.at; caller = v.caller; reply = v.reply; sent = v.sent.now }
