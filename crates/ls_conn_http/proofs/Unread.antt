-- Why a request isn't whole.
use Rattle.std.proofs.Common.{◌≡◌, ◌<◌, ◌+◌, ℕ, List, Bool, inr, length, Option, Some, refl, sym}
use Rattle.ls_chron.proofs.Beginnings.{prefix_self}
use Rattle.ls_http.specs.declared.head.Head.{Head}
use Rattle.ls_http.specs.Reading.{IsFound}
use Rattle.ls_conn.specs.declared.ended.ConnEnd.{ConnEnd}
use Rattle.ls_conn.specs.declared.ended.ConnEnd.TheVariants as end
use Rattle.ls_conn_http.specs.Taking.{Reads, StopsReading}
use Rattle.ls_conn_http.specs.Reading.{BeginsWith, HasHead, IsShort, Unserved}

-- a head that was found stands there in more bytes
pub head_there : (left left2 : Option (List ℕ)) (old new : List ℕ) (h : Head) (len : ℕ) → Reads left left2 old new → IsFound old (Some (h, len)) → BeginsWith new h len
head_there left left2 old new h len r found = record { first = old; begins = (r.gained, sym r.are); found = found }

pub head_here : (read : List ℕ) (h : Head) (len : ℕ) → IsFound read (Some (h, len)) → BeginsWith read h len
head_here read h len found = record { first = read; begins = prefix_self read; found = found }

pub short_there : (read name : List ℕ) (version : Bool) (len size : ℕ) → HasHead read name version len size → length read < len + size → IsShort read
short_there read name version len size has less = inr (name, version, len, size, has, less)

pub unserved : (e : ConnEnd) (read : List ℕ) (idles : ℕ) (left : Option (List ℕ)) (f g until tick : ℕ) → StopsReading e idles left f g until tick
    → ((status : ℕ) → e ≡ end.Refused status → ⊥) → IsShort read → Unserved e read
unserved end.Served read idles left f g until tick stops other short = stops
unserved (end.Refused status) read idles left f g until tick stops other short = absurd (other status refl)
unserved end.PeerLeft read idles left f g until tick stops other short = short
unserved end.TooSlow read idles left f g until tick stops other short = short
unserved end.ReadFault read idles left f g until tick stops other short = short
unserved end.WriteFault read idles left f g until tick stops other short = stops
unserved end.Stopped read idles left f g until tick stops other short = short
unserved end.NoMemory read idles left f g until tick stops other short = tt
