-- A slot that joined as an item of a plan asks.
use Rattle.std.proofs.Common.{◌≡◌, ℕ, List, [], refl, sym, ◌∙◌, ap, subst, Option, Some, None}
use Rattle.std.specs.FinMap as finite
use Rattle.std.specs.FinMap.{get-empty}
use Rattle.ls_event.specs.declared.event.Entry.{Entry}
use Rattle.ls_event.specs.declared.event.Mode.{Mode}
use Rattle.ls_event.specs.declared.event.Mode.TheVariants as mode
use Rattle.ls_event.specs.Joining.{plan_of, joined, is_mode_of}
use Rattle.ls_event.specs.Shapes.{Shape}
use Rattle.ls_event.specs.Slots.{Plan}
use Rattle.ls_mirror.specs.declared.command.KeyPlaces.{KeyPlaces}
use Rattle.ls_record.specs.Cutting.{Ask, schema_of}
use Rattle.ls_record.specs.Light.{IsNarrow}
use Rattle.ls_record.specs.Records.{Item, definitions, shape_at, history_of, joined_slot, keys_in}
use Rattle.ls_subs.specs.declared.plan.PlanItem.{PlanItem}
use Rattle.ls_subs.specs.Plans.{IsPlanItem, MayJoin, JoinsAs, followed_of, keys_of_ask}
use Rattle.ls_subs.specs.Subscription.{StandsSubscribed, HasStarted, HoldsKeys}
use Rattle.ls_subs.specs.Subscribed.{Subscribed}

-- a fresh slot has told nothing, and its plan is of its mode
started_none : (m : Mode) (p : Shape) (h : List Entry) (n : ℕ) (asked : Option ℕ) → HasStarted (joined (plan_of p h m n) h asked).plan.mode
    (joined (plan_of p h m n) h asked).has_started None
started_none mode.Raw p h n asked = tt
started_none mode.Merge p h n asked = refl
started_none mode.Distinct p h n None = tt
started_none mode.Distinct p h n (Some k) = tt
started_none mode.Command p h n None = tt
started_none mode.Command p h n (Some k) = tt

plan_same : (m : Mode) (p : Shape) (h : List Entry) (n : ℕ) (asked : Option ℕ) → (joined (plan_of p h m n) h asked).plan ≡ plan_of p h m n
plan_same mode.Raw p h n asked = refl
plan_same mode.Merge p h n asked = refl
plan_same mode.Distinct p h n None = refl
plan_same mode.Distinct p h n (Some k) = refl
plan_same mode.Command p h n None = refl
plan_same mode.Command p h n (Some k) = refl

-- a table of no keys
holds_none : (keys : Option KeyPlaces) → HoldsKeys keys finite.empty []
holds_none None = tt
holds_none (Some at) = λ k. get-empty _ k

-- what is kept of an item of which nothing came stands for its slot
followed_stands : (items : List Item) (sub rank : ℕ) (q : Ask) → StandsSubscribed (followed_of (definitions items) sub rank q) q.wanted (joined_slot items q) []
followed_stands items sub rank q =
    record {
      places = refl;
      keys = ap (λ (p : Plan). keys_in p.mode (schema_of q.wanted p))
          (sym (plan_same q.mode (shape_at items q.item) (history_of items q.item) q.size q.wanted.snapshot));
      row = refl;
      wide = tt;
      has_started = started_none q.mode (shape_at items q.item) (history_of items q.item) q.size q.wanted.snapshot;
      table = holds_none (keys_of_ask (definitions items) q);
    }

pub joins_plan : (items : List Item) (sub rank number : ℕ) (q : Ask) (p : PlanItem) → IsPlanItem (definitions items) sub rank q p
    → MayJoin (definitions items) p
    → JoinsAs p number (record {
      sub = sub;
      rank = rank;
      item = q.item;
      number = number;
      frequency = q.frequency;
      wanted = q.wanted;
      slot = joined_slot items q;
    })
joins_plan items sub rank number q p i may =
    let plan : (joined_slot items q).plan ≡ plan_of (shape_at items q.item) (history_of items q.item) q.mode q.size =
    plan_same q.mode (shape_at items q.item) (history_of items q.item) q.size q.wanted.snapshot in
    record {
      sub = ap (λ (u : Subscribed). u.sub) (sym i.followed);
      rank = ap (λ (u : Subscribed). u.rank) (sym i.followed);
      item = sym i.item;
      number = refl;
      mode = i.mode ∙ ap (λ (x : Plan). x.mode) (sym plan);
      allowed = ap (λ (x : Plan). is_mode_of x.mode x.shape.kind) plan
          ∙ ap (λ m. is_mode_of m (shape_at items q.item).kind) (sym i.mode)
          ∙ ap (λ n. is_mode_of p.mode (shape_at items n).kind) (sym i.item) ∙ may.allowed;
      frequency = i.frequency;
      narrow = subst (λ (u : Subscribed). IsNarrow u.places) i.followed may.narrow;
      client = subst (λ (u : Subscribed). StandsSubscribed u q.wanted (joined_slot items q) []) (sym i.followed) (followed_stands items sub rank q);
    }
