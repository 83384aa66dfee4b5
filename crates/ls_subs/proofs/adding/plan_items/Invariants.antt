use Rattle.std.proofs.Common.{◌+◌, ◌++◌, List, drop, map}
use Rattle.ls_record.specs.Acting.{ask_of, places_among}
use Rattle.ls_record.specs.Records.{fields_in}
use Rattle.ls_subs.specs.declared.plan.PlanItem.{PlanItem}
use Rattle.ls_subs.specs.Plans.{ArePlanItems}
use Rattle.ls_subs.proofs.adding.plan_items.Given as goal

-- with what is asked of the items left, those so far are all
abbrev pub invariant-loop-i : goal.invariant-loop-i
invariant-loop-i l =
    (rest : List PlanItem) → ArePlanItems l.defs l.add.sub (l.i + 1)
    (map (λ n. ask_of l.add n (places_among (fields_in l.defs n) l.add.schema)) (drop l.i l.group)) rest
    → ArePlanItems l.defs l.add.sub 1 (map (λ n. ask_of l.add n (places_among (fields_in l.defs n) l.add.schema)) l.group) (l.items.items ++ rest)
