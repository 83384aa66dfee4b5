-- Lines that are short.
use Rattle.std.proofs.Common.{◌≡◌, ◌==◌, ◌≤◌, ◌<◌, ◌+◌, ◌^◌, ◌&&◌, not, ℕ, Bool, Option, None, Some, List, [], ◌∷◌, length, map, true, false}
use Rattle.std.proofs.Common.{refl, sym}
use Rattle.std.proofs.Common.{subst, cond, arith, codes, decimal, nat_le}
use Rattle.std.specs.Option.{ForSome, IfSome}
use Rattle.std.proofs.lemmas.Bool.{leb-true}
use Rattle.std.proofs.lemmas.List.{length-map}
use Rattle.ls_event.specs.declared.event.Mode.{Mode}
use Rattle.ls_event.specs.declared.event.Mode.TheVariants as mode
use Rattle.ls_event.specs.declared.item.ItemDef.{ItemDef}
use Rattle.ls_event.specs.declared.limits.TheConstants.{MOST_FIELDS}
use Rattle.ls_mirror.specs.declared.command.KeyPlaces.{KeyPlaces}
use Rattle.ls_request.specs.declared.request.Add.{Add}
use Rattle.ls_request.specs.Ranges.{AddFits, IsRate}
use Rattle.ls_record.specs.Acting.{is_group, group_of, is_allowed, is_schema, are_names, asks_of, ask_of}
use Rattle.ls_record.specs.Acting.{places_among, shows_keys}
use Rattle.ls_record.specs.Lines.{Begins, Ends, Configures, line_text, limit_text}
use Rattle.ls_record.specs.Tables.{place_of_field, keys_shown_at}
use Rattle.ls_record.specs.Records.{frequency_of, frequency_in, are_filtered, fields_in, shape_in, keys_in}
use Rattle.ls_subs.specs.declared.plan.AddPlan.{AddPlan}
use Rattle.ls_subs.specs.declared.subs.Subs.{Subs}
use Rattle.ls_subs.specs.Kept.{has_sub}
use Rattle.ls_subs.specs.Plans.{refusal_of, IsPlan, keys_of_asks}
use Rattle.ls_record.specs.declared.TheConstants.{MOST_GROUP_ITEMS}
use Rattle.ls_stream.proofs.Lengths.{decimal_few, limit_few, then_length}
use Rattle.ls_stream.specs.Standing.{IsShort}
use Rattle.ls_session.proofs.Tables.{and_first, and_second, few_items, plan_length}

pub unsub_short : (sub : ℕ) → sub < 2 ^ 64 → IsShort (line_text [] (Ends sub))
unsub_short sub low = omega (arith, then_length (codes "UNSUB") (decimal sub ∷ []), decimal_few sub low)

word_few : (filtered : Bool) → length (cond filtered (codes "filtered") (codes "unfiltered")) ≤ 10
word_few true = omega arith
word_few false = omega arith

pub conf_short : (sub : ℕ) (frequency : Option ℕ) (filtered : Bool) → sub < 2 ^ 64 → ForSome frequency (λ n. n < 2 ^ 64)
    → IsShort (line_text [] (Configures sub frequency filtered))
conf_short sub frequency filtered low few =
    omega (
      arith,
      then_length (codes "CONF") (decimal sub ∷ limit_text frequency ∷ cond filtered (codes "filtered") (codes "unfiltered") ∷ []),
      decimal_few sub low,
      limit_few frequency few,
      word_few filtered,
    )

begins_short : (sub items fields : ℕ) (keys : Option KeyPlaces) → sub < 2 ^ 64 → items < 2 ^ 64 → fields < 2 ^ 64
    → ForSome keys (λ k. (k.key ≤ fields) × (k.command ≤ fields)) → fields + 1 < 2 ^ 64 → IsShort (line_text [] (Begins sub items fields keys))
begins_short sub items fields None a b c at d =
    omega (
      arith,
      then_length (codes "SUBOK") (decimal sub ∷ decimal items ∷ decimal fields ∷ []),
      decimal_few sub a,
      decimal_few items b,
      decimal_few fields c,
    )
begins_short sub items fields (Some k) a b c at d =
    let few : (k.key ≤ fields) × (k.command ≤ fields) = at k refl in
    omega (
      arith,
      then_length (codes "SUBCMD") (decimal sub ∷ decimal items ∷ decimal fields ∷ decimal (k.key + 1) ∷ decimal (k.command + 1) ∷ []),
      decimal_few sub a,
      decimal_few items b,
      decimal_few fields c,
      decimal_few (k.key + 1) (omega (arith, few.0, d)),
      decimal_few (k.command + 1) (omega (arith, few.1, d)),
    )

-- the places of a key and a command are of the schema
place_few : (f : ℕ) (places : List ℕ) → place_of_field f places ≤ length places
place_few f [] = omega arith
place_few f (p ∷ places) = by_test (p == f) (place_few f places)
  where
    by_test : (b : Bool) → place_of_field f places ≤ length places → cond b 0 (place_of_field f places + 1) ≤ length (p ∷ places)
    by_test true e = omega arith
    by_test false e = omega (arith, e)

shown_few : (m : Mode) (at : KeyPlaces) (fields : ℕ) → at.key ≤ fields → at.command ≤ fields
    → ForSome (keys_in m at) (λ k. (k.key ≤ fields) × (k.command ≤ fields))
shown_few mode.Command at fields a b = λ k e. let x : Some at ≡ Some k = e in let same : at ≡ k = cc in
    subst (λ (y : KeyPlaces). (y.key ≤ fields) × (y.command ≤ fields)) same (a, b)
shown_few mode.Raw at fields a b = λ k e. absurd (let x : None ≡ Some k = e in cc)
shown_few mode.Merge at fields a b = λ k e. absurd (let x : None ≡ Some k = e in cc)
shown_few mode.Distinct at fields a b = λ k e. absurd (let x : None ≡ Some k = e in cc)

keys_few : (defs : List ItemDef) (a : Add) (group : List ℕ)
    → ForSome (keys_of_asks defs (map (λ n. ask_of a n (places_among (fields_in defs n) a.schema)) group))
    (λ k. (k.key ≤ length a.schema) × (k.command ≤ length a.schema))
keys_few defs a [] = λ k e. absurd (let x : None ≡ Some k = e in cc)
keys_few defs a (n ∷ group) =
    let places : List ℕ = places_among (fields_in defs n) a.schema in
    let same : length places ≡ length a.schema = length-map a.schema _ in
    shown_few a.mode (keys_shown_at (shape_in defs n) places) (length a.schema)
    (omega (arith, same, place_few (shape_in defs n).key places)) (omega (arith, same, place_few (shape_in defs n).command places))

-- the schema of an add that isn't refused has no more fields than it may have
is_a_schema : (new group allowed schema : Bool)
    → cond {A = Option ℕ} new (Some 72) (cond {A = Option ℕ} (not group) (Some 21)
    (cond {A = Option ℕ} (not allowed) (Some 24) (cond {A = Option ℕ} (not schema) (Some 23) None))) ≡ None → schema ≡ true
is_a_schema true group allowed schema e = absurd (let x : Some 72 ≡ None = e in cc)
is_a_schema false false allowed schema e = absurd (let x : Some 21 ≡ None = e in cc)
is_a_schema false true false schema e = absurd (let x : Some 24 ≡ None = e in cc)
is_a_schema false true true true e = refl
is_a_schema false true true false e = absurd (let x : Some 23 ≡ None = e in cc)

few_fields : (k : Subs) (defs : List ItemDef) (a : Add) → refusal_of k defs a ≡ None → length a.schema ≤ MOST_FIELDS
few_fields k defs a form =
    let schema : is_schema defs a.mode (group_of defs a.group) a.schema ≡ true =
    is_a_schema (has_sub k a.sub) (is_group defs a.group) (is_allowed defs a.mode (group_of defs a.group))
    (is_schema defs a.mode (group_of defs a.group) a.schema) form in
    let names : are_names MOST_FIELDS a.schema ≡ true =
    and_first (are_names MOST_FIELDS a.schema) _ (and_first (are_names MOST_FIELDS a.schema && shows_keys a.mode a.schema) _ schema) in
    let most : nat_le (length a.schema) MOST_FIELDS ≡ true = and_second (nat_le 1 (length a.schema)) _
    (and_first (nat_le 1 (length a.schema) && nat_le (length a.schema) MOST_FIELDS) _ names) in
    leb-true (length a.schema) MOST_FIELDS most

-- so the lines of a plan are short
pub plan_begins_short : (k : Subs) (defs : List ItemDef) (a : Add) (p : AddPlan) → refusal_of k defs a ≡ None → IsPlan defs a p → AddFits a
    → IsShort p.begins
plan_begins_short k defs a p form is fits =
    let fields : length a.schema ≤ MOST_FIELDS = few_fields k defs a form in
    let items : length p.items.items ≤ MOST_GROUP_ITEMS = few_items k defs a p form is in
    let same : length p.items.items ≡ length (asks_of defs a) = plan_length defs a.sub 1 (asks_of defs a) p.items.items is.items in
    subst (λ (t : List ℕ). IsShort t) (sym is.begins)
    (begins_short a.sub (length (asks_of defs a)) (length a.schema) (keys_of_asks defs (asks_of defs a)) (omega (arith, fits.sub.1))
    (omega (arith, items, same)) (omega (arith, fields)) (keys_few defs a (group_of defs a.group)) (omega (arith, fields)))

rate_of : (o : Option ℕ) → IfSome o IsRate → ForSome o (λ n. n < 2 ^ 64)
rate_of None e = λ n f. absurd (let x : None ≡ Some n = f in cc)
rate_of (Some m) e = λ n f. let x : Some m ≡ Some n = f in let same : m ≡ n = cc in omega (arith, e.1, same)

rate_in : (m : Mode) (frequency : Option ℕ) → IfSome frequency IsRate → ForSome (frequency_in m frequency) (λ n. n < 2 ^ 64)
rate_in mode.Raw frequency fits = λ n e. absurd (let x : None ≡ Some n = e in cc)
rate_in mode.Merge frequency fits = rate_of frequency fits
rate_in mode.Distinct frequency fits = rate_of frequency fits
rate_in mode.Command frequency fits = rate_of frequency fits

first_rate : (defs : List ItemDef) (a : Add) (group : List ℕ) → IfSome a.frequency IsRate
    → ForSome (frequency_of (map (λ n. ask_of a n (places_among (fields_in defs n) a.schema)) group)) (λ n. n < 2 ^ 64)
first_rate defs a [] fits = λ n e. absurd (let x : None ≡ Some n = e in cc)
first_rate defs a (g ∷ group) fits = rate_in a.mode a.frequency fits

pub plan_configures_short : (defs : List ItemDef) (a : Add) (p : AddPlan) → IsPlan defs a p → AddFits a → IsShort p.configures
plan_configures_short defs a p is fits =
    subst (λ (t : List ℕ). IsShort t) (sym is.configures)
    (conf_short a.sub (frequency_of (asks_of defs a)) (are_filtered (asks_of defs a)) (omega (arith, fits.sub.1))
    (first_rate defs a (group_of defs a.group) fits.frequency))
