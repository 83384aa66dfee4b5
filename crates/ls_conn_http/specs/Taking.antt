-- Bytes that are read one piece after another.
use Rattle.std.specs.Prelude.{◌≡◌, ◌≤◌, ℕ, List, ◌++◌, Option}
use Rattle.std.specs.Io.KnownBytes.{Consumes, IsAtEnd}
use Rattle.ls_outside.specs.Causes.{Rose, RoseBy}
use Rattle.ls_conn.specs.declared.ended.TheConstants.{MOST_IDLES}
use Rattle.ls_conn.specs.declared.ended.ConnEnd.{ConnEnd}
use Rattle.ls_conn.specs.declared.ended.ConnEnd.TheVariants as end

-- bytes were read, and are kept behind those that were
pub record Reads (left left2 : Option (List ℕ)) (old new : List ℕ) : Type 0 where
  pub gained : List ℕ
  pub consumes : Consumes left left2 gained
  pub are : new ≡ old ++ gained

-- the reads that found no byte were counted, and no count fell
pub record Counts (old new waits waits2 failed failed2 : ℕ) : Type 0 where
  pub later : waits ≤ waits2
  pub faults : failed ≤ failed2
  pub rises : old ≤ new
  pub counted : (before : ℕ) → RoseBy old before waits → RoseBy new before waits2

-- why no more is read; a refusal has its cause in the bytes
abbrev pub StopsReading : ConnEnd → ℕ → Option (List ℕ) → ℕ → ℕ → ℕ → ℕ → Type 0
StopsReading end.Served idles left faults faults2 until tick = ⊥
StopsReading (end.Refused status) idles left faults faults2 until tick = Unit {0}
StopsReading end.PeerLeft idles left faults faults2 until tick = IsAtEnd left
StopsReading end.TooSlow idles left faults faults2 until tick = idles ≡ MOST_IDLES
StopsReading end.ReadFault idles left faults faults2 until tick = Rose faults faults2
StopsReading end.WriteFault idles left faults faults2 until tick = ⊥
StopsReading end.Stopped idles left faults faults2 until tick = until ≤ tick
StopsReading end.NoMemory idles left faults faults2 until tick = Unit {0}
