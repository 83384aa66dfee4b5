-- What a plan says of the items that join.
use Rattle.std.proofs.Common.{◌≡◌, ℕ, ◌+◌, ◌≤◌, ◌<◌, List, [], ◌∷◌, length, map, refl, sym, ◌∙◌, ap, arith, subst, Bool, true, false, not, Option, Some, None}
use Rattle.std.proofs.Common.{IfSome}
use Rattle.ls_event.specs.declared.item.ItemDef.{ItemDef}
use Rattle.ls_event.specs.declared.event.Mode.{Mode}
use Rattle.ls_event.specs.declared.event.Mode.TheVariants as mode
use Rattle.ls_event.specs.Joining.{is_mode_of, buffer_size, size_or}
use Rattle.ls_request.specs.declared.request.Add.{Add}
use Rattle.ls_request.specs.Ranges.{AddFits, IsOrdinal}
use Rattle.std.specs.List.{list_all}
use Rattle.ls_value.specs.Values.{are_distinct}
use Rattle.ls_record.specs.Acting.{are_among, is_group, group_of, is_allowed, is_schema, asks_of}
use Rattle.ls_record.specs.Cases.{first_code}
use Rattle.ls_value.specs.Each.{Each}
use Rattle.ls_record.specs.Light.{IsNarrow}
use Rattle.ls_record.specs.Records.{shape_in, fields_in}
use Rattle.ls_subs.specs.declared.plan.PlanItem.{PlanItem}
use Rattle.ls_subs.specs.Plans.{form_code, ArePlanItems, AreRanked, IsReady, MayJoin}
use Rattle.ls_subs.proofs.Rounds.{and_true}
use Rattle.ls_subs.specs.Subscribed.{Subscribed}
use Rattle.ls_subs.proofs.Asks.{ask_at, group_within, group_some, schema_few, schema_distinct}
use Rattle.ls_subs.proofs.Narrow.{places_narrow}

-- what isn't refused
none_then : (code : ℕ) (b : Bool) (rows : List (ℕ × Bool)) → first_code ((code, not b) ∷ rows) ≡ None → (b ≡ true) × (first_code rows ≡ None)
none_then code true rows e = (refl, e)
none_then code false rows e = absurd (let x : Some code ≡ None = e in cc)

form_parts : (defs : List ItemDef) (a : Add) → form_code defs a ≡ None → (is_group defs a.group ≡ true)
    × (is_allowed defs a.mode (group_of defs a.group) ≡ true) × (is_schema defs a.mode (group_of defs a.group) a.schema ≡ true)
form_parts defs a e =
    let schema = (23, not (is_schema defs a.mode (group_of defs a.group) a.schema)) ∷ [] in
    let one = none_then 21 (is_group defs a.group) ((24, not (is_allowed defs a.mode (group_of defs a.group))) ∷ schema) e in
    let two = none_then 24 (is_allowed defs a.mode (group_of defs a.group)) schema one.1 in
    (one.0, two.0, (none_then 23 (is_schema defs a.mode (group_of defs a.group) a.schema) [] two.1).0)

-- a buffer's size
size_fits : (size : ℕ) (asked : Option ℕ) → 0 < size → size ≤ 256 → IfSome asked IsOrdinal → (0 < size_or size asked) × (size_or size asked ≤ 256)
size_fits size None some most fits = (some, most)
size_fits size (Some n) some most fits = (omega (arith, fits.0), omega arith)

buffer_fits : (m : Mode) (asked : Option ℕ) → IfSome asked IsOrdinal → (0 < buffer_size m asked) × (buffer_size m asked ≤ 256)
buffer_fits mode.Merge asked fits = size_fits 1 asked (omega arith) (omega arith) fits
buffer_fits mode.Distinct asked fits = size_fits 256 asked (omega arith) (omega arith) fits
buffer_fits mode.Raw asked fits = (omega arith, omega arith)
buffer_fits mode.Command asked fits = (omega arith, omega arith)

-- each item may join
may_join : (defs : List ItemDef) (a : Add) (rank : ℕ) (group : List ℕ) (items : List PlanItem) → AddFits a → Each (λ n. n < length defs) group
    → is_allowed defs a.mode group ≡ true → length a.schema ≤ 64 → are_distinct a.schema ≡ true
    → list_all (λ n. are_among (fields_in defs n) a.schema) group ≡ true
    → ArePlanItems defs a.sub rank (map (ask_at defs a) group) items → Each (MayJoin defs) items
may_join defs a rank [] [] fits within allowed few distinct among are = tt
may_join defs a rank [] (p ∷ items) fits within allowed few distinct among are = absurd are
may_join defs a rank (n ∷ group) [] fits within allowed few distinct among are = absurd are
may_join defs a rank (n ∷ group) (p ∷ items) fits within allowed few distinct among are =
    let both = and_true (is_mode_of a.mode (shape_in defs n).kind) (is_allowed defs a.mode group) allowed in
    let shown = and_true (are_among (fields_in defs n) a.schema) (list_all (λ i. are_among (fields_in defs i) a.schema) group) among in
    let size = buffer_fits a.mode a.size fits.size in (
      record {
        declared = subst (λ i. i < length defs) (sym are.0.item) within.0;
        allowed = ap (λ m. is_mode_of m (shape_in defs p.item).kind) are.0.mode ∙ ap (λ i. is_mode_of a.mode (shape_in defs i).kind) are.0.item ∙ both.0;
        some = subst (λ i. 0 < i) (sym are.0.size) size.0;
        most = subst (λ i. i ≤ 256) (sym are.0.size) size.1;
        narrow = subst (λ (u : Subscribed). IsNarrow u.places) (sym are.0.followed) (places_narrow (fields_in defs n) a.schema few distinct shown.0);
      },
      may_join defs a (rank + 1) group items fits within.1 both.1 few distinct shown.1 are.1,
    )

pub plan_joins : (defs : List ItemDef) (a : Add) (items : List PlanItem) → AddFits a → form_code defs a ≡ None
    → ArePlanItems defs a.sub 1 (asks_of defs a) items
    → Each (MayJoin defs) items
plan_joins defs a items fits free are =
    let parts = form_parts defs a free in
    let schema = schema_distinct defs a.mode (group_of defs a.group) a.schema parts.2 in
    may_join defs a 1 (group_of defs a.group) items fits (group_within defs a.group parts.0) parts.1
    (schema_few defs a.mode (group_of defs a.group) a.schema parts.2) schema.0 schema.1 are

-- and together they are ready
plan_ranked : (defs : List ItemDef) (a : Add) (rank : ℕ) (group : List ℕ) (items : List PlanItem)
    → ArePlanItems defs a.sub rank (map (ask_at defs a) group) items → AreRanked a.sub rank items × (length items ≡ length group)
plan_ranked defs a rank [] [] are = (tt, refl)
plan_ranked defs a rank [] (p ∷ items) are = absurd are
plan_ranked defs a rank (n ∷ group) [] are = absurd are
plan_ranked defs a rank (n ∷ group) (p ∷ items) are =
    let rest = plan_ranked defs a (rank + 1) group items are.1 in
    let more : length items ≡ length group = rest.1 in
    ((ap (λ u. u.sub) are.0.followed, ap (λ u. u.rank) are.0.followed, rest.0), omega (arith, more))

pub plan_ready : (defs : List ItemDef) (a : Add) (items : List PlanItem) → form_code defs a ≡ None → ArePlanItems defs a.sub 1 (asks_of defs a) items
    → IsReady a.sub items
plan_ready defs a items free are =
    let parts = form_parts defs a free in
    let ranked = plan_ranked defs a 1 (group_of defs a.group) items are in
    let long : length items ≡ length (group_of defs a.group) = ranked.1 in
    let some = group_some defs a.group parts.0 in
    record { some = omega (arith, long, some); ranked = ranked.0 }
