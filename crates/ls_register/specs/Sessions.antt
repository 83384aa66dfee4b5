-- What a register says of the sessions and of the slots of a server (this project's profile).
use Rattle.std.specs.Prelude.{◌≡◌, ◌==◌, ◌≤◌, ◌<◌, ℕ, ◌+◌, ◌-◌, List, [], ◌∷◌, length, Bool, false, not, ◌||◌, ◌&&◌}
use Rattle.std.specs.Prelude.{Some, nat_le, nat_lt, slice_get}
use Rattle.std.specs.List.{filter}
use Rattle.atomic_table.specs.Seated.{TableId}
use Rattle.ls_chron.specs.declared.chron.TheConstants.{MOST_ENTRIES}
use Rattle.ls_value.specs.Each.{Each}
use Rattle.ls_value.specs.declared.limits.TheConstants.{GREATEST_NUMBER}
use Rattle.ls_event.specs.declared.limits.TheConstants.{MOST_SLOTS}
use Rattle.ls_register.specs.declared.made.Made.{Made}
use Rattle.ls_register.specs.declared.made.Made.TheVariants.{Item, Session, Slot, Gone, Claimed, Freed}
use Rattle.ls_register.specs.Places.{Placed}

-- the sessions that were made, in order
abbrev pub sessions_of : List Made → List ℕ
sessions_of [] = []
sessions_of (Item item fields kind table ∷ ms) = sessions_of ms
sessions_of (Session session table ∷ ms) = session ∷ sessions_of ms
sessions_of (Slot item slot table ∷ ms) = sessions_of ms
sessions_of (Gone session ∷ ms) = sessions_of ms
sessions_of (Claimed slots ∷ ms) = sessions_of ms
sessions_of (Freed slots ∷ ms) = sessions_of ms

-- whether a session is gone
abbrev pub is_gone : List Made → ℕ → Bool
is_gone [] n = false
is_gone (Item item fields kind table ∷ ms) n = is_gone ms n
is_gone (Session session table ∷ ms) n = is_gone ms n
is_gone (Slot item slot table ∷ ms) n = is_gone ms n
is_gone (Gone session ∷ ms) n = (session == n) || is_gone ms n
is_gone (Claimed slots ∷ ms) n = is_gone ms n
is_gone (Freed slots ∷ ms) n = is_gone ms n

-- the sessions that live: they were made, and none of them is gone
abbrev pub live_of : List Made → List ℕ
live_of ms = filter (λ n. not (is_gone ms n)) (sessions_of ms)

-- whether a number is among numbers
abbrev pub is_among : ℕ → List ℕ → Bool
is_among n [] = false
is_among n (m ∷ ms) = (m == n) || is_among n ms

abbrev pub is_live : List Made → ℕ → Bool
is_live ms n = is_among n (live_of ms)

-- for how many slots room was taken, and given back
abbrev pub claims_of : List Made → ℕ
claims_of [] = 0
claims_of (Item item fields kind table ∷ ms) = claims_of ms
claims_of (Session session table ∷ ms) = claims_of ms
claims_of (Slot item slot table ∷ ms) = claims_of ms
claims_of (Gone session ∷ ms) = claims_of ms
claims_of (Claimed slots ∷ ms) = slots + claims_of ms
claims_of (Freed slots ∷ ms) = claims_of ms

abbrev pub frees_of : List Made → ℕ
frees_of [] = 0
frees_of (Item item fields kind table ∷ ms) = frees_of ms
frees_of (Session session table ∷ ms) = frees_of ms
frees_of (Slot item slot table ∷ ms) = frees_of ms
frees_of (Gone session ∷ ms) = frees_of ms
frees_of (Claimed slots ∷ ms) = frees_of ms
frees_of (Freed slots ∷ ms) = slots + frees_of ms

-- the slots that are claimed
abbrev pub claimed_of : List Made → ℕ
claimed_of ms = claims_of ms - frees_of ms

-- how many slots may still be claimed
abbrev pub free_in : List Made → ℕ
free_in ms = MOST_SLOTS - claimed_of ms

-- room for so many slots can be given back: so many are claimed, and a shared history takes the entry
abbrev pub keeps_freed : List Made → ℕ → Bool
keeps_freed ms slots = nat_le slots (claimed_of ms) && nat_lt (length ms) MOST_ENTRIES

-- and so with the end of the session that claimed it, which is a second entry
abbrev pub keeps_gone : List Made → ℕ → Bool
keeps_gone ms slots = nat_le slots (claimed_of ms) && nat_lt (length ms + 1) MOST_ENTRIES

-- a history takes no more entries that a request adds
abbrev pub is_spent : {A : Type 0} → List A → Bool
is_spent es = nat_le GREATEST_NUMBER (length es)

-- no session can be made: no number is left, or the register is spent
abbrev pub are_spent : List Made → Bool
are_spent ms = nat_le GREATEST_NUMBER (length (sessions_of ms)) || is_spent ms

-- the place shows the session of this number, whose history stands on this table
abbrev pub ShowsSession : Placed → ℕ → TableId → Type 0
ShowsSession p session table = slice_get p.list p.at ≡ Some (Session session table)

-- a register has gained an entry
abbrev pub Gains : Made → List Made → List Made → Type 0
Gains m old new = (k : ℕ) × (length old ≤ k) × (slice_get new k ≡ Some m)

-- a number is greater than each before it
abbrev pub AreRising : List ℕ → Type 0
AreRising [] = Unit {0}
AreRising (n ∷ ns) = Each (λ m. n < m) ns × AreRising ns

-- what is counted of a register, and the numbers of its live sessions
pub record IsCounted (made claimed entries : ℕ) (live : List ℕ) (ms : List Made) : Type 0 where
  pub live_is : live ≡ live_of ms
  pub below : Each (λ n. n ≤ made) (sessions_of ms)
  pub made_is : made ≡ length (sessions_of ms)
  pub gone : (n : ℕ) → made < n → is_gone ms n ≡ false
  pub claims : claims_of ms ≡ frees_of ms + claimed
  pub few : claimed ≤ MOST_SLOTS
  pub entries_is : entries ≡ length ms
