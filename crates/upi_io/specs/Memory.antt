-- Sources and sinks over memory: what a call of one answers, and what it makes of it.
use Rattle.std.specs.Prelude.{ℕ, ◌-◌, ◌==◌, ◌||◌, Bool, true, false, nat_eq, nat_le, min, if◌then◌else◌, List, [], ◌∷◌, ◌++◌, length, take, drop}
use Rattle.std.specs.List.{list_any}
use Rattle.upi_io.specs.Faults.{next_count}
use Rattle.upi_io.specs.declared.source.ReadAnswer.{ReadAnswer}
use Rattle.upi_io.specs.declared.source.ReadAnswer.TheVariants as read
use Rattle.upi_io.specs.declared.sink.WriteAnswer.{WriteAnswer}
use Rattle.upi_io.specs.declared.sink.WriteAnswer.TheVariants as write

-- a source: the bytes left, the most bytes of a read, the calls that fail, and the calls and faults so far
pub record SourceState : Type 0 where
  pub left : List ℕ
  pub piece : ℕ
  pub fail_at : List ℕ
  pub calls : ℕ
  pub faults : ℕ
  pub ended : Bool

-- a sink: the bytes taken, the most that it takes in all and of a write, the calls that fail, and the calls and faults so far
pub record SinkState : Type 0 where
  pub taken : List ℕ
  pub room : ℕ
  pub piece : ℕ
  pub fail_at : List ℕ
  pub calls : ℕ
  pub faults : ℕ

-- a call is one of those listed
abbrev pub is_listed : List ℕ → ℕ → Bool
is_listed fail_at call = list_any (λ listed. nat_eq listed call) fail_at

-- where no call is listed, none fails, now or later
abbrev pub is_none_listed : List ℕ → Bool
is_none_listed [] = true
is_none_listed (call ∷ calls) = false

-- a source that can't fail from here on
abbrev pub is_sure : SourceState → Bool
is_sure s = is_none_listed s.fail_at

-- how many bytes more a sink takes for sure
abbrev pub sure_room : SinkState → ℕ
sure_room k = if is_none_listed k.fail_at then k.room - length k.taken else 0

-- Calls are counted from 1: this is the number of the next one.
-- A read into so much room fails at a listed call; else it gives as much as is left, fits, and a piece may have.
abbrev pub read_answer : SourceState → ℕ → ReadAnswer
read_answer s room =
    if is_listed s.fail_at (next_count s.calls) then read.Failed
    else (if length s.left == 0 then read.End else read.Got (min (min (length s.left) s.piece) room))

abbrev pub after_read : SourceState → ReadAnswer → SourceState
after_read s (read.Got n) = record s { left = drop n s.left; calls = next_count s.calls }
after_read s read.End = record s { calls = next_count s.calls; ended = true }
after_read s read.Failed = record s { calls = next_count s.calls; faults = next_count s.faults }

-- A write fails at a listed call or where there is no room; else it takes as much as is there, fits, and a piece may have.
abbrev pub write_answer : SinkState → List ℕ → WriteAnswer
write_answer k bytes =
    if is_listed k.fail_at (next_count k.calls) || nat_le k.room (length k.taken) then write.Failed
    else write.Took (min (min (length bytes) k.piece) (k.room - length k.taken))

abbrev pub after_write : SinkState → List ℕ → WriteAnswer → SinkState
after_write k bytes (write.Took n) = record k { taken = k.taken ++ take n bytes; calls = next_count k.calls }
after_write k bytes write.Failed = record k { calls = next_count k.calls; faults = next_count k.faults }
