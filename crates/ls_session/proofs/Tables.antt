-- Tables of refusals, one behind another.
use Rattle.std.proofs.Common.{◌≡◌, ◌≤◌, ◌<◌, ◌+◌, ◌++◌, ◌&&◌, ◌||◌, not, ℕ, Bool, Option, List, [], ◌∷◌, length, true, false, None, Some, refl, sym, ◌∙◌, ap}
use Rattle.std.proofs.Common.{cond, arith, nat_le, nat_lt, min, ◌-◌, ◌^◌}
use Rattle.std.proofs.lemmas.Bool.{leb-true, leb-false, ltb-true, ltb-false}
use Rattle.std.proofs.lemmas.List.{length-map}
use Rattle.ls_event.specs.declared.item.ItemDef.{ItemDef}
use Rattle.ls_request.specs.declared.request.Add.{Add}
use Rattle.ls_record.specs.Cases.{first_code}
use Rattle.ls_record.specs.Cutting.{Ask}
use Rattle.ls_record.specs.Records.{Session, is_used}
use Rattle.ls_record.specs.Acting.{is_group, group_of, is_allowed, is_schema, are_names, add_refusals, asks_of}
use Rattle.ls_record.specs.Acting.{are_too_many, are_spent, is_full}
use Rattle.ls_record.specs.declared.TheConstants.{MOST_GROUP_ITEMS}
use Rattle.ls_subs.specs.declared.plan.AddPlan.{AddPlan}
use Rattle.ls_subs.specs.declared.plan.PlanItem.{PlanItem}
use Rattle.ls_subs.specs.declared.subs.Subs.{Subs}
use Rattle.ls_subs.specs.Kept.{has_sub}
use Rattle.ls_subs.specs.Plans.{refusal_of, IsPlan, ArePlanItems}

-- where no row of the first holds, the second tells
behind : (xs ys : List (ℕ × Bool)) → first_code xs ≡ None → first_code (xs ++ ys) ≡ first_code ys
behind [] ys none = refl
behind (x ∷ xs) ys none = by_test x.1 none (behind xs ys)
  where
    by_test : (b : Bool) → cond b (Some x.0) (first_code xs) ≡ None → (first_code xs ≡ None → first_code (xs ++ ys) ≡ first_code ys)
        → cond b (Some x.0) (first_code (xs ++ ys)) ≡ first_code ys
    by_test true e more = absurd (let y : Some x.0 ≡ None = e in cc)
    by_test false e more = more e

-- behind an add's own causes there are those of room
pub room_tells : (k : Subs) (defs : List ItemDef) (free : ℕ) (s : Session) (a : Add)
    → first_code ((72, is_used a.sub s.board.round) ∷ (70, are_too_many s 2) ∷ []) ≡ None → has_sub k a.sub ≡ false → refusal_of k defs a ≡ None
    → first_code (add_refusals defs free s a) ≡ first_code ((71, is_full free s a.group) ∷ (74, are_spent s 2) ∷ [])
room_tells k defs free s a early new form =
    behind ((72, is_used a.sub s.board.round) ∷ (70, are_too_many s 2) ∷ [])
    ((21, not (is_group defs a.group)) ∷ (24, not (is_allowed defs a.mode (group_of defs a.group)))
    ∷ (23, not (is_schema defs a.mode (group_of defs a.group) a.schema)) ∷ (71, is_full free s a.group) ∷ (74, are_spent s 2) ∷ []) early
    ∙ behind ((21, not (is_group defs a.group)) ∷ (24, not (is_allowed defs a.mode (group_of defs a.group)))
    ∷ (23, not (is_schema defs a.mode (group_of defs a.group) a.schema)) ∷ []) ((71, is_full free s a.group) ∷ (74, are_spent s 2) ∷ [])
    (ap (λ b. cond b (Some 72) (first_code ((21, not (is_group defs a.group)) ∷ (24, not (is_allowed defs a.mode (group_of defs a.group)))
    ∷ (23, not (is_schema defs a.mode (group_of defs a.group) a.schema)) ∷ []))) (sym new) ∙ form)

-- a group that isn't refused has no more items than it may have
pub and_first : (a b : Bool) → (a && b) ≡ true → a ≡ true
and_first true b e = refl
and_first false b e = e

pub and_second : (a b : Bool) → (a && b) ≡ true → b ≡ true
and_second true b e = e
and_second false b e = absurd (let x : false ≡ true = e in cc)

is_a_group : (new group : Bool) (rest : Option ℕ) → cond new (Some 72) (cond (not group) (Some 21) rest) ≡ None → group ≡ true
is_a_group true group rest e = absurd (let x : Some 72 ≡ None = e in cc)
is_a_group false true rest e = refl
is_a_group false false rest e = absurd (let x : Some 21 ≡ None = e in cc)

pub plan_length : (defs : List ItemDef) (sub rank : ℕ) (asks : List Ask) (items : List PlanItem) → ArePlanItems defs sub rank asks items
    → length items ≡ length asks
plan_length defs sub rank [] [] are = refl
plan_length defs sub rank [] (p ∷ ps) are = absurd are
plan_length defs sub rank (a ∷ asks) [] are = absurd are
plan_length defs sub rank (a ∷ asks) (p ∷ ps) are = omega (arith, plan_length defs sub (rank + 1) asks ps are.1)

pub few_items : (k : Subs) (defs : List ItemDef) (a : Add) (p : AddPlan) → refusal_of k defs a ≡ None → IsPlan defs a p
    → length p.items.items ≤ MOST_GROUP_ITEMS
few_items k defs a p form is =
    let group : is_group defs a.group ≡ true = is_a_group (has_sub k a.sub) (is_group defs a.group) _ form in
    let names : are_names MOST_GROUP_ITEMS a.group ≡ true = and_first (are_names MOST_GROUP_ITEMS a.group) _ group in
    let most : nat_le (length a.group) MOST_GROUP_ITEMS ≡ true = and_second (nat_le 1 (length a.group)) _
    (and_first (nat_le 1 (length a.group) && nat_le (length a.group) MOST_GROUP_ITEMS) _ names) in
    let same : length p.items.items ≡ length a.group = plan_length defs a.sub 1 (asks_of defs a) p.items.items is.items
    ∙ length-map (group_of defs a.group) _ ∙ length-map a.group _ in
    omega (arith, same, leb-true (length a.group) MOST_GROUP_ITEMS most)

-- one of two causes
pub full_is : (m n : ℕ) (b : Bool) → m ≤ n → true ≡ (nat_le m n || b)
full_is m n b high = by_test (nat_le m n) refl
  where
    by_test : (v : Bool) → nat_le m n ≡ v → true ≡ (v || b)
    by_test true e = refl
    by_test false e = absurd (omega (arith, high, leb-false m n e))

pub full_or : (m n : ℕ) (b : Bool) → n < m → b ≡ (nat_le m n || b)
full_or m n b low = by_test (nat_le m n) refl
  where
    by_test : (v : Bool) → nat_le m n ≡ v → b ≡ (v || b)
    by_test false e = refl
    by_test true e = absurd (omega (arith, low, leb-true m n e))

-- too many lines wait, also where the sum ends at the greatest number of 64 bits
pub waits_is : (n unsent more all : ℕ) → n ≡ unsent → all ≡ min (n + more) (2 ^ 64 - 1) → more ≤ 2 → nat_lt 512 all ≡ nat_lt 512 (unsent + more)
waits_is n unsent more all is sum few = by_tests (nat_lt 512 all) (nat_lt 512 (unsent + more)) refl refl
  where
    by_tests : (a b : Bool) → nat_lt 512 all ≡ a → nat_lt 512 (unsent + more) ≡ b → a ≡ b
    by_tests true true e f = refl
    by_tests false false e f = refl
    by_tests true false e f = absurd (omega (arith, is, sum, ltb-true 512 all e, ltb-false 512 (unsent + more) f))
    by_tests false true e f = absurd (omega (arith, is, sum, ltb-false 512 all e, ltb-true 512 (unsent + more) f))
