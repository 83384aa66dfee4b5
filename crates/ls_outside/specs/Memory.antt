-- What objects in memory hold, and how their calls go.
use Rattle.std.specs.Prelude.{◌≡◌, ℕ, ◌+◌, ◌-◌, ◌^◌, min, max, List, [], ◌∷◌, ◌++◌, length, take, drop, nat_lt, ◌==◌}
use Rattle.std.specs.Prelude.{if◌then◌else◌, ⊤}
use Rattle.ls_outside.specs.Causes.{one_more}
use Rattle.ls_outside.specs.declared.call.Call.{Call}
use Rattle.ls_outside.specs.declared.call.Call.TheVariants as call
use Rattle.ls_outside.specs.declared.source.Got.{Got}
use Rattle.ls_outside.specs.declared.source.Got.TheVariants as got
use Rattle.ls_outside.specs.declared.sink.Put.{Put}
use Rattle.ls_outside.specs.declared.sink.Put.TheVariants as put

-- bytes in memory that are read: those that aren't read yet, the place of the next one, and the cuts that were not
-- passed
pub record Supply : Type 0 where
  pub unread : List ℕ
  pub place : ℕ
  pub cuts : List ℕ

-- a source in memory: its bytes, how the calls to come go, and the counts of faults and idle calls
pub record SourceState : Type 0 where
  pub supply : Supply
  pub calls : List Call
  pub faults : ℕ
  pub idles : ℕ

-- a sink in memory: the bytes that it holds, how the calls to come go, and the count of faults
pub record SinkState : Type 0 where
  pub held : List ℕ
  pub calls : List Call
  pub faults : ℕ

-- the counts of a pipe of which nothing else is told
pub record Counts : Type 0 where
  pub read_faults : ℕ
  pub idles : ℕ
  pub write_faults : ℕ

-- how the next call goes
abbrev pub next_call : List Call → Call
next_call [] = call.Go
next_call (c ∷ cs) = c

-- the cuts from the first that lies beyond a place
abbrev pub beyond : ℕ → List ℕ → List ℕ
beyond place [] = []
beyond place (cut ∷ cuts) = if nat_lt place cut then cut ∷ cuts else beyond place cuts

-- the way from a place to the first cut that lies beyond it, where there is one
abbrev pub way_to : ℕ → List ℕ → ℕ
way_to place [] = 2 ^ 64 - 1
way_to place (cut ∷ cuts) = cut - place

-- how many bytes a read gives for a piece of this length, at most up to a limit
abbrev pub read_count : Supply → ℕ → ℕ → ℕ
read_count s limit room = min (min limit (way_to s.place (beyond s.place s.cuts))) (min (length s.unread) room)

-- the answer of a read for a piece of this length, at most up to a limit
abbrev pub answer_within : Supply → ℕ → ℕ → Got
answer_within s limit room = if length s.unread == 0 then got.End else got.Bytes (read_count s limit room)

-- how many bytes move at most in a call that goes so
abbrev pub limit_of : Call → ℕ
limit_of (call.Part limit) = max limit 1
limit_of c = 2 ^ 64 - 1

-- the answer of a read for a piece of this length, whose call goes so
abbrev pub answer_by : Call → Supply → ℕ → Got
answer_by call.Fail s room = got.Failed
answer_by call.Idle s room = got.NotYet
answer_by c s room = answer_within s (limit_of c) room

-- the bytes after an answer
abbrev pub supply_after : Supply → Got → Supply
supply_after s (got.Bytes count) = record {
  unread = drop count s.unread;
  place = s.place + count;
  cuts =
      beyond s.place s.cuts;
}
supply_after s answer = s

-- a source in memory after an answer
abbrev pub source_after : SourceState → Got → SourceState
source_after s (got.Bytes count) = record s { supply = supply_after s.supply (got.Bytes count); calls = drop 1 s.calls }
source_after s got.End = record s { calls = drop 1 s.calls }
source_after s got.NotYet = record s { calls = drop 1 s.calls; idles = one_more s.idles }
source_after s got.Failed = record s { calls = drop 1 s.calls; faults = one_more s.faults }

-- how many bytes of a piece are taken in a call that goes so; none is taken where it fails
abbrev pub TakesBy : Call → ℕ → ℕ → Type 0
TakesBy call.Go len count = count ≡ len
TakesBy call.Idle len count = count ≡ len
TakesBy (call.Part limit) len count = count ≡ min len (max limit 1)
TakesBy call.Fail len count = ⊥

-- the answer of a write whose call goes so; want of memory lets any call fail
abbrev pub IsWriteBy : Call → List ℕ → Put → Type 0
IsWriteBy c piece (put.Taken count) = TakesBy c (length piece) count
IsWriteBy c piece put.Failed = ⊤

-- a sink in memory after an answer
abbrev pub sink_after : SinkState → List ℕ → Put → SinkState
sink_after s piece (put.Taken count) = record s { held = s.held ++ take count piece; calls = drop 1 s.calls }
sink_after s piece put.Failed = record s { calls = drop 1 s.calls; faults = one_more s.faults }
