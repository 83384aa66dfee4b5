-- What is kept stands for the round as a slot takes its item's next event: it moves no client.
use Rattle.std.proofs.Common.{ℕ, List, length, map, refl, cond, Bool, true, false, Option, Some, None, nat_lt, option_map}
use Rattle.ls_event.specs.Slots.{enqueued}
use Rattle.ls_record.specs.Lines.{Line}
use Rattle.ls_record.specs.Records.{Item, LiveSlot, history_of, is_at, live_at, enqueue_at}
use Rattle.ls_subs.specs.declared.plan.PlanItem.{PlanItem}
use Rattle.ls_subs.specs.declared.subs.Subs.{Subs}
use Rattle.ls_subs.specs.Kept.{kept_at}
use Rattle.ls_subs.specs.Standing.{StandsKept, StandsKeptAt, StandsSubs}
use Rattle.ls_subs.proofs.Mapped.{SameName, mapped_stands}

-- a slot that an enqueue may have moved
record Alike (v w : LiveSlot) : Type 0 where
  name : SameName v w
  stands : (p : PlanItem) (lines : List Line) → StandsKept p lines v → StandsKept p lines w

same_slot : (v : LiveSlot) → Alike v v
same_slot v = record { name = record { sub = refl; rank = refl }; stands = λ p lines s. s }

next_slot : (v : LiveSlot) → Alike v (record v { slot = enqueued v.slot })
next_slot v =
    record {
      name = record { sub = refl; rank = refl };
      stands = λ p lines s.
          record {
            sub = s.sub;
            rank = s.rank;
            item = s.item;
            number = s.number;
            mode = s.mode;
            allowed = s.allowed;
            frequency = s.frequency;
            narrow = s.narrow;
            client = record {
              places = s.client.places;
              keys = s.client.keys;
              row = s.client.row;
              wide = s.client.wide;
              has_started = s.client.has_started;
              table = s.client.table;
            };
          };
    }

alike : (items : List Item) (sub rank : ℕ) (v : LiveSlot) → Alike v (enqueue_at items sub rank v)
alike items sub rank v = by_test (is_at sub rank v) (nat_lt v.slot.last (length (history_of items v.item)))
  where
    by_test : (b c : Bool) → Alike v (cond b (cond c (record v { slot = enqueued v.slot }) v) v)
    by_test true true = next_slot v
    by_test true false = same_slot v
    by_test false c = same_slot v

kept_alike : (f : LiveSlot → LiveSlot) → ((v : LiveSlot) → Alike v (f v)) → (o : Option PlanItem) (lines : List Line) (w : Option LiveSlot) → StandsKeptAt o lines w
    → StandsKeptAt o lines (option_map f w)
kept_alike f like None lines None s = s
kept_alike f like None lines (Some v) s = absurd s
kept_alike f like (Some p) lines None s = absurd s
kept_alike f like (Some p) lines (Some v) s = (like v).stands p lines s

pub enqueue_stands : (items : List Item) (sub rank : ℕ) (k : Subs) (lines : List Line) (round : List LiveSlot) → StandsSubs k lines round
    → StandsSubs k lines (map (enqueue_at items sub rank) round)
enqueue_stands items sub rank k lines round s =
    mapped_stands (enqueue_at items sub rank) (λ v. (alike items sub rank v).name) k k lines lines round (λ q. refl) refl
    (λ q r. kept_alike (enqueue_at items sub rank) (alike items sub rank) (kept_at k q r) lines (live_at q r round)) s
