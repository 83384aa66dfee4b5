-- What a request for a new subscription asks of a session's subscriptions: why it is refused, and what joins (TLCP 2.1,
-- control with LS_op add).
use Rattle.std.specs.Prelude.{◌≡◌, ◌<◌, ◌≤◌, ℕ, ◌+◌, List, [], ◌∷◌, length, Bool, true, not, Option, None}
use Rattle.std.specs.Prelude.{option_and_then}
use Rattle.std.specs.FinMap as finite
use Rattle.ls_budget.specs.Kept.{StandsFrequency}
use Rattle.ls_event.specs.declared.item.ItemDef.{ItemDef}
use Rattle.ls_event.specs.Joining.{rows_asked, is_mode_of}
use Rattle.ls_event.specs.declared.limits.TheConstants.{MOST_BUFFER_SIZE}
use Rattle.ls_mirror.specs.declared.command.KeyPlaces.{KeyPlaces}
use Rattle.ls_request.specs.declared.request.Add.{Add}
use Rattle.ls_record.specs.Cases.{first_code}
use Rattle.ls_record.specs.Cutting.{Ask}
use Rattle.ls_record.specs.Light.{IsNarrow}
use Rattle.ls_record.specs.Lines.{Begins, Configures, line_text}
use Rattle.ls_record.specs.Tables.{keys_shown_at}
use Rattle.ls_record.specs.Records.{LiveSlot, shape_in, first_of, keys_in, are_filtered, frequency_of}
use Rattle.ls_record.specs.Acting.{is_group, group_of, is_allowed, is_schema, asks_of}
use Rattle.ls_subs.specs.declared.plan.AddPlan.{AddPlan}
use Rattle.ls_subs.specs.declared.plan.PlanItem.{PlanItem}
use Rattle.ls_subs.specs.declared.subs.Subs.{Subs}
use Rattle.ls_subs.specs.Kept.{has_sub}
use Rattle.ls_subs.specs.Subscribed.{Subscribed}
use Rattle.ls_subs.specs.Subscription.{StandsSubscribed}

-- what an add is refused for by its own parts: a group, a mode on each of its items, and a schema, each code beside its
-- condition, in their order
abbrev pub form_refusals : List ItemDef → Add → List (ℕ × Bool)
form_refusals defs a =
    (21, not (is_group defs a.group))
    ∷ (24, not (is_allowed defs a.mode (group_of defs a.group)))
    ∷ (23, not (is_schema defs a.mode (group_of defs a.group) a.schema))
    ∷ []

abbrev pub form_code : List ItemDef → Add → Option ℕ
form_code defs a = first_code (form_refusals defs a)

-- before them a number that a live subscription has
abbrev pub refusal_of : Subs → List ItemDef → Add → Option ℕ
refusal_of k defs a = first_code ((72, has_sub k a.sub) ∷ form_refusals defs a)

-- the places of the key and the command in the schema of what is asked of an item, in mode COMMAND
abbrev pub keys_of_ask : List ItemDef → Ask → Option KeyPlaces
keys_of_ask defs a = keys_in a.mode (keys_shown_at (shape_in defs a.item) a.wanted.places)

-- those of a subscription, by what is asked of its first item
abbrev pub keys_of_asks : List ItemDef → List Ask → Option KeyPlaces
keys_of_asks defs asks = option_and_then (keys_of_ask defs) (first_of asks)

-- what is kept of an item of a subscription of which nothing came
abbrev pub followed_of : List ItemDef → ℕ → ℕ → Ask → Subscribed
followed_of defs sub rank a =
    record {
      sub = sub;
      rank = rank;
      places = a.wanted.places;
      keys = keys_of_ask defs a;
      row = None;
      table = finite.empty;
    }

-- an item of a plan is what is asked of an item
pub record IsPlanItem (defs : List ItemDef) (sub rank : ℕ) (a : Ask) (p : PlanItem) : Type 0 where
  pub item : p.item ≡ a.item
  pub mode : p.mode ≡ a.mode
  pub size : p.n ≡ a.size
  pub snapshot : rows_asked p.snapshot ≡ a.wanted.snapshot
  pub frequency : StandsFrequency p.frequency a.frequency None
  pub followed : p.followed ≡ followed_of defs sub rank a

-- so is each, and their ranks count on
abbrev pub ArePlanItems : List ItemDef → ℕ → ℕ → List Ask → List PlanItem → Type 0
ArePlanItems defs sub rank [] [] = Unit {0}
ArePlanItems defs sub rank [] (p ∷ ps) = ⊥
ArePlanItems defs sub rank (a ∷ asks) [] = ⊥
ArePlanItems defs sub rank (a ∷ asks) (p ∷ ps) = IsPlanItem defs sub rank a p × ArePlanItems defs sub (rank + 1) asks ps

-- the places of the key and the command in the schema, by the first item
abbrev pub first_keys : List PlanItem → Option KeyPlaces
first_keys [] = None
first_keys (p ∷ items) = p.followed.keys

-- a plan is what an add asks for: the items that it asks of, and the lines with which its subscription begins
pub record IsPlan (defs : List ItemDef) (a : Add) (p : AddPlan) : Type 0 where
  pub sub : p.sub ≡ a.sub
  pub items : ArePlanItems defs a.sub 1 (asks_of defs a) p.items.items
  pub begins : p.begins ≡ line_text [] (Begins a.sub (length (asks_of defs a)) (length a.schema)
      (keys_of_asks defs (asks_of defs a)))
  pub configures : p.configures ≡ line_text [] (Configures a.sub (frequency_of (asks_of defs a))
      (are_filtered (asks_of defs a)))

-- an item of a plan may join: it is declared, the mode is allowed on it, the size is one of a buffer, and its schema
-- shows a field once
pub record MayJoin (defs : List ItemDef) (p : PlanItem) : Type 0 where
  pub declared : p.item < length defs
  pub allowed : is_mode_of p.mode (shape_in defs p.item).kind ≡ true
  pub some : 0 < p.n
  pub most : p.n ≤ MOST_BUFFER_SIZE
  pub narrow : IsNarrow p.followed.places

-- items are of a subscription, and their ranks count on
abbrev pub AreRanked : ℕ → ℕ → List PlanItem → Type 0
AreRanked sub rank [] = Unit {0}
AreRanked sub rank (p ∷ ps) = (p.followed.sub ≡ sub) × (p.followed.rank ≡ rank) × AreRanked sub (rank + 1) ps

-- what is ready to be live: at least one item, all of the subscription, ranked from 1 on
pub record IsReady (sub : ℕ) (items : List PlanItem) : Type 0 where
  pub some : 1 ≤ length items
  pub ranked : AreRanked sub 1 items

-- a slot joined as an item of a plan asks, with a number; the mode is allowed on the item, and the schema shows a field
-- once
pub record JoinsAs (p : PlanItem) (n : ℕ) (v : LiveSlot) : Type 0 where
  pub sub : v.sub ≡ p.followed.sub
  pub rank : v.rank ≡ p.followed.rank
  pub item : v.item ≡ p.item
  pub number : v.number ≡ n
  pub mode : p.mode ≡ v.slot.plan.mode
  pub allowed : is_mode_of v.slot.plan.mode v.slot.plan.shape.kind ≡ true
  pub frequency : StandsFrequency p.frequency v.frequency None
  pub narrow : IsNarrow v.wanted.places
  pub client : StandsSubscribed p.followed v.wanted v.slot []

-- each item's slot did
abbrev pub JoinAll : List PlanItem → List ℕ → List LiveSlot → Type 0
JoinAll [] [] [] = Unit {0}
JoinAll [] [] (v ∷ vs) = ⊥
JoinAll [] (n ∷ ns) vs = ⊥
JoinAll (p ∷ ps) [] vs = ⊥
JoinAll (p ∷ ps) (n ∷ ns) [] = ⊥
JoinAll (p ∷ ps) (n ∷ ns) (v ∷ vs) = JoinsAs p n v × JoinAll ps ns vs
