-- What is kept of the live subscriptions of a session, by their numbers and by the places in them.
use Rattle.std.specs.Prelude.{◌≡◌, ℕ, zero, suc, List, [], ◌∷◌, Bool, Option, None, Some, is_some, nat_eq, slice_get}
use Rattle.std.specs.Prelude.{option_map, if◌then◌else◌}
use Rattle.std.specs.Prelude.{option_and_then}
use Rattle.indexmap.specs.IndexMap.{get, spare, index_map_len}
use Rattle.ls_event.specs.declared.event.Taken.{Taken}
use Rattle.ls_budget.specs.Kept.{KeptFrequency}
use Rattle.ls_mirror.specs.Client.{What}
use Rattle.ls_record.specs.Lines.{is_update}
use Rattle.ls_record.specs.Records.{change}
use Rattle.ls_subs.specs.Subscription.{what_comes, after_line, line_if, ItemLine}
use Rattle.ls_subs.specs.declared.plan.PlanItem.{PlanItem}
use Rattle.ls_turns.specs.declared.slot_ref.SlotRef.{SlotRef}
use Rattle.ls_subs.specs.declared.subs.Subs.{Subs}

-- the items of a live subscription
abbrev pub items_of : Subs → ℕ → Option (List PlanItem)
items_of k sub = option_map (λ items. items.items) (get nat_eq k.items sub)

-- the item at a place, from 1
abbrev pub item_at : List PlanItem → ℕ → Option PlanItem
item_at items zero = None
item_at items (suc n) = slice_get items n

-- what is kept of the item at a place of a subscription
abbrev pub kept_at : Subs → ℕ → ℕ → Option PlanItem
kept_at k sub place = option_and_then (λ items. item_at items place) (items_of k sub)

-- whether a subscription is live, how many are, and for how many more there is room
abbrev pub has_sub : Subs → ℕ → Bool
has_sub k sub = is_some (items_of k sub)

abbrev pub count_of : Subs → ℕ
count_of k = index_map_len k.items

abbrev pub room_of : Subs → ℕ
room_of k = spare k.items

-- the same is kept of each subscription
abbrev pub AreAlike : Subs → Subs → Type 0
AreAlike k k' = ((sub : ℕ) → items_of k' sub ≡ items_of k sub) × (count_of k' ≡ count_of k)

-- the slot of an item as it is named
abbrev pub named : PlanItem → SlotRef
named p = record { sub = p.followed.sub; place = p.followed.rank; item = p.item; slot = p.slot }

-- items with these slots
abbrev pub with_slots : List PlanItem → List ℕ → List PlanItem
with_slots [] slots = []
with_slots (p ∷ items) [] = p ∷ items
with_slots (p ∷ items) (n ∷ slots) = record p { slot = n } ∷ with_slots items slots

-- a frequency after what was told at a tick: an update is the last one; by another line, or none, it stays
abbrev pub spent_by : ℕ → Option What → KeptFrequency → KeptFrequency
spent_by now None k = k
spent_by now (Some what) k = if is_update what then record k { last = Some now } else k

-- an item after a cut at a tick
abbrev pub heard : ℕ → Taken → PlanItem → PlanItem
heard now t p =
    record p {
      frequency = spent_by now (what_comes p.followed t) p.frequency;
      followed = after_line p.followed (what_comes p.followed t);
    }

-- items, the one at a place after it
abbrev pub heard_at : ℕ → ℕ → Taken → List PlanItem → List PlanItem
heard_at zero now t items = items
heard_at (suc n) now t items = change n (heard now t) items

-- an item with this greatest frequency
abbrev pub limited : Option ℕ → PlanItem → PlanItem
limited frequency p = record p { frequency = record p.frequency { frequency = frequency } }

-- the line that a cut makes of an item, if there is one
abbrev pub line_of : Option PlanItem → Taken → Option ItemLine
line_of p t = option_and_then (λ x. line_if x.followed (what_comes x.followed t)) p
