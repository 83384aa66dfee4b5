-- What is kept of a session's subscriptions stands for its round of slots and for its numbered lines (TLCP 2.1,
-- subscriptions and notifications).
use Rattle.std.specs.Prelude.{◌≡◌, ℕ, ◌+◌, List, [], ◌∷◌, ◌++◌, take, drop, true, Option, None}
use Rattle.std.specs.Prelude.{Some, slice_get}
use Rattle.ls_budget.specs.Kept.{StandsFrequency}
use Rattle.ls_event.specs.declared.event.Mode.{Mode}
use Rattle.ls_event.specs.declared.event.Mode.TheVariants as mode
use Rattle.ls_event.specs.declared.event.Taken.{Taken}
use Rattle.ls_event.specs.declared.event.Taken.TheVariants as taken
use Rattle.ls_event.specs.Joining.{is_mode_of}
use Rattle.ls_event.specs.Slots.{passed}
use Rattle.ls_mirror.specs.Client.{What}
use Rattle.ls_record.specs.Came.{came_by}
use Rattle.ls_record.specs.Light.{IsNarrow}
use Rattle.ls_record.specs.Lines.{Line, Tells, came, last_row, updated}
use Rattle.ls_record.specs.Cutting.{what_of_cut}
use Rattle.ls_record.specs.Records.{LiveSlot, change, live_at, is_used}
use Rattle.ls_record.specs.Acting.{subscriptions}
use Rattle.ls_turns.specs.declared.slot_ref.SlotRef.{SlotRef}
use Rattle.ls_subs.specs.declared.plan.PlanItem.{PlanItem}
use Rattle.ls_subs.specs.declared.subs.Subs.{Subs}
use Rattle.ls_record.specs.Apart.{Apart}
use Rattle.ls_subs.specs.Subscription.{StandsSubscribed, Appended, Appends, item_line}
use Rattle.ls_subs.specs.Kept.{kept_at, has_sub, count_of}

-- a slot of a round as it is named: its subscription, its place in it, the item, and the slot's number on the item
abbrev pub ref_of : LiveSlot → SlotRef
ref_of v = record { sub = v.sub; place = v.rank; item = v.item; slot = v.number }

-- what is kept of an item of a subscription stands for a slot and for what came to its client; the mode is allowed on
-- the item, and the schema shows a field once
pub record StandsKept (k : PlanItem) (lines : List Line) (v : LiveSlot) : Type 0 where
  pub sub : k.followed.sub ≡ v.sub
  pub rank : k.followed.rank ≡ v.rank
  pub item : k.item ≡ v.item
  pub number : k.slot ≡ v.number
  pub mode : k.mode ≡ v.slot.plan.mode
  pub allowed : is_mode_of v.slot.plan.mode v.slot.plan.shape.kind ≡ true
  pub frequency : StandsFrequency k.frequency v.frequency (updated v.sub v.rank lines)
  pub narrow : IsNarrow v.wanted.places
  pub client : StandsSubscribed k.followed v.wanted v.slot (came v.sub v.rank lines)

-- it does where there is such a slot, and else nothing is kept
abbrev pub StandsKeptAt : Option PlanItem → List Line → Option LiveSlot → Type 0
StandsKeptAt None lines None = Unit {0}
StandsKeptAt None lines (Some v) = ⊥
StandsKeptAt (Some k) lines None = ⊥
StandsKeptAt (Some k) lines (Some v) = StandsKept k lines v

-- what is kept stands for each slot of a round, by all numbered lines; no two slots are of one rank in one subscription
pub record StandsSubs (k : Subs) (lines : List Line) (round : List LiveSlot) : Type 0 where
  pub apart : Apart round
  pub at : (sub rank : ℕ) → StandsKeptAt (kept_at k sub rank) lines (live_at sub rank round)
  pub used : (sub : ℕ) → has_sub k sub ≡ is_used sub round
  pub count : count_of k ≡ subscriptions round

-- a row comes in each mode but MERGE, a change in mode MERGE alone, a key in mode COMMAND alone
abbrev pub Suits : Mode → Taken → Type 0
Suits m (taken.Row row upto) = m ≡ mode.Merge → ⊥
Suits m (taken.Lost count upto) = Unit {0}
Suits m (taken.Change cells upto) = m ≡ mode.Merge
Suits m (taken.Key key row upto) = m ≡ mode.Command
Suits m (taken.Cleared upto) = Unit {0}
Suits m taken.EndOfSnapshot = Unit {0}

-- the line that a slot's cut makes, if any
abbrev pub what_of : List Line → LiveSlot → Taken → Option What
what_of lines v t = what_of_cut v.wanted v.slot (came v.sub v.rank lines) t

-- a slot that was moved past a cut
abbrev pub passed_live : Taken → LiveSlot → LiveSlot
passed_live t v = record v { slot = passed v.slot t }

-- a round whose slot of a place was moved past a cut; it stays there, or goes to the back
abbrev pub passed_at : ℕ → Taken → List LiveSlot → List LiveSlot
passed_at n t round = change n (passed_live t) round

abbrev pub passed_back : ℕ → LiveSlot → Taken → List LiveSlot → List LiveSlot
passed_back n v t round = (take n round ++ drop (n + 1) round) ++ passed_live t v ∷ []

-- the numbered lines with the one that tells at a tick what came by a cut
abbrev pub told_of : LiveSlot → ℕ → Taken → What → List Line → List Line
told_of v now t what lines = Tells v.sub v.rank now (came_by v.slot t what) ∷ lines

-- a slot of a round that was asked at a tick: the numbered lines, the round, the slot's place in it from 0, the slot,
-- and the tick
pub record AskedSlot : Type 0 where
  pub lines : List Line
  pub round : List LiveSlot
  pub place : ℕ
  pub live : LiveSlot
  pub now : ℕ

-- it is there
abbrev pub IsAsked : AskedSlot → Type 0
IsAsked q = slice_get q.round q.place ≡ Some q.live

-- its cut was accepted: it makes no line, and the slot stays at its place; or the line that tells what comes was
-- appended, and the slot goes to the back
abbrev pub AcceptedAs : Option What → Subs → AskedSlot → Taken → Appended → Type 0
AcceptedAs None k q t a = Appends a None × StandsSubs k q.lines (passed_at q.place t q.round)
AcceptedAs (Some what) k q t a =
    Appends a (Some (item_line (last_row (came q.live.sub q.live.rank q.lines)) q.live.sub q.live.rank what))
    × StandsSubs k (told_of q.live q.now t what q.lines) (passed_back q.place q.live t q.round)
