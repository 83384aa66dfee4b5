-- What an add asks of the items of its group, item by item.
use Rattle.std.proofs.Common.{◌≡◌, ◌==◌, ℕ, zero, suc, ◌+◌, ◌≤◌, ◌<◌, List, [], ◌∷◌, ◌++◌, length, map, drop, refl, sym, ◌∙◌, ap, arith, subst, cond, Bool}
use Rattle.std.proofs.Common.{true, false}
use Rattle.std.proofs.Common.{◌&&◌, Option, Some, None, is_some, IfSome, slice_get, unwrap_or, nat_le, append-nil, append_assoc}
use Rattle.std.specs.FinMap as finite
use Rattle.std.specs.List.{list_all}
use Rattle.std.proofs.lemmas.List.{length-map}
use Rattle.std.proofs.lemmas.Bool.{leb-true}
use Rattle.std.proofs.Math.Dec.{eqb-suc-zero}
use Rattle.std.proofs.Math.Seq.{drop-length}
use Rattle.ls_value.specs.Values.{place_of, are_distinct}
use Rattle.ls_value.proofs.Rows.{place_of_within}
use Rattle.ls_event.specs.declared.item.ItemDef.{ItemDef}
use Rattle.ls_event.specs.declared.item.Kind.TheVariants as kind
use Rattle.ls_event.specs.declared.event.Mode.{Mode}
use Rattle.ls_event.specs.declared.event.Mode.TheVariants as mode
use Rattle.ls_event.specs.Shapes.{shape_of}
use Rattle.ls_mirror.specs.declared.command.KeyPlaces.{KeyPlaces}
use Rattle.ls_request.specs.declared.request.Add.{Add}
use Rattle.ls_record.specs.Acting.{are_among, places_among, are_names, names_of, is_group, group_of, is_schema}
use Rattle.ls_record.specs.Acting.{shows_keys, ask_of, asks_of}
use Rattle.ls_record.specs.Cutting.{Ask}
use Rattle.ls_record.specs.Lines.{Begins, Configures, line_text}
use Rattle.ls_value.specs.Each.{Each}
use Rattle.ls_record.specs.Tables.{place_of_field, keys_shown_at}
use Rattle.std.specs.Option.{ForSome}
use Rattle.ls_record.specs.Records.{shape_in, fields_in, keys_in, is_filtered, are_filtered, frequency_in}
use Rattle.ls_record.specs.Records.{frequency_of}
use Rattle.ls_subs.specs.declared.plan.PlanItem.{PlanItem}
use Rattle.ls_subs.specs.Subscribed.{Subscribed}
use Rattle.ls_subs.specs.Plans.{followed_of, IsPlanItem, ArePlanItems, first_keys, keys_of_asks}
use Rattle.ls_subs.proofs.Rounds.{and_true}

-- an item by its number
pub shape_past : (defs : List ItemDef) (n : ℕ) → length defs ≤ n → kind.Merge ≡ (shape_in defs n).kind
shape_past [] n l = refl
shape_past (d ∷ defs) zero l = absurd (omega (arith, l))
shape_past (d ∷ defs) (suc n) l = shape_past defs n (omega (arith, l))

pub shape_found : (defs : List ItemDef) (n : ℕ) (d : ItemDef) → slice_get defs n ≡ Some d → shape_of d ≡ shape_in defs n
shape_found [] n d e = absurd (let x : None ≡ Some d = e in cc)
shape_found (f ∷ defs) zero d e = let same : f ≡ d = cc in ap shape_of (sym same)
shape_found (f ∷ defs) (suc n) d e = shape_found defs n d e

pub fields_past : (defs : List ItemDef) (n : ℕ) → length defs ≤ n → fields_in defs n ≡ []
fields_past [] n l = refl
fields_past (d ∷ defs) zero l = absurd (omega (arith, l))
fields_past (d ∷ defs) (suc n) l = fields_past defs n (omega (arith, l))

pub fields_found : (defs : List ItemDef) (n : ℕ) (d : ItemDef) → slice_get defs n ≡ Some d → d.fields ≡ fields_in defs n
fields_found [] n d e = absurd (let x : None ≡ Some d = e in cc)
fields_found (f ∷ defs) zero d e = let same : f ≡ d = cc in ap (λ (x : ItemDef). x.fields) (sym same)
fields_found (f ∷ defs) (suc n) d e = fields_found defs n d e

pub among_none : (names : List (List ℕ)) → (length names == 0) ≡ are_among [] names
among_none [] = refl
among_none (t ∷ names) = eqb-suc-zero (length names)

-- what is kept of it
pub followed_is : (defs : List ItemDef) (a : Add) (n rank : ℕ) (d : ItemDef) (places : List ℕ) (keys : Option KeyPlaces) → slice_get defs n ≡ Some d
    → places ≡ places_among d.fields a.schema
    → ((e : ItemDef) → e.fields ≡ d.fields → keys ≡ keys_in a.mode (keys_shown_at (shape_of e) places))
    → record { sub = a.sub; rank = rank; places = places; keys = keys; row = None; table = finite.empty }
    ≡ followed_of defs a.sub rank (ask_of a n (places_among (fields_in defs n) a.schema))
followed_is defs a n rank d places keys found are shown =
    let at : List ℕ = places_among (fields_in defs n) a.schema in
    let same : places ≡ at = are ∙ ap (λ fs. places_among fs a.schema) (fields_found defs n d found) in
    let keys_are : keys ≡ keys_in a.mode (keys_shown_at (shape_in defs n) at) =
    shown d refl ∙ ap (λ s. keys_in a.mode (keys_shown_at s places)) (shape_found defs n d found)
    ∙ ap (λ ps. keys_in a.mode (keys_shown_at (shape_in defs n) ps)) same in
    ap (λ ps. the_followed a.sub rank ps keys) same ∙ ap (λ ks. the_followed a.sub rank at ks) keys_are
  where
    the_followed : ℕ → ℕ → List ℕ → Option KeyPlaces → Subscribed
    the_followed sub r ps ks = record { sub = sub; rank = r; places = ps; keys = ks; row = None; table = finite.empty }

-- what is asked of an item
abbrev pub ask_at : List ItemDef → Add → ℕ → Ask
ask_at defs a n = ask_of a n (places_among (fields_in defs n) a.schema)

-- items so far, with which those left are all
abbrev pub SoFar : List ItemDef → Add → List ℕ → ℕ → List PlanItem → Type 0
SoFar defs a group i items = (rest : List PlanItem) → ArePlanItems defs a.sub (i + 1) (map (ask_at defs a) (drop i group)) rest
    → ArePlanItems defs a.sub 1 (map (ask_at defs a) group) (items ++ rest)

drop_next : {A : Type 0} (i : ℕ) (xs : List A) (x : A) → slice_get xs i ≡ Some x → drop i xs ≡ x ∷ drop (i + 1) xs
drop_next i [] x e = absurd (let y : None ≡ Some x = e in cc)
drop_next zero (y ∷ xs) x e = let same : y ≡ x = cc in ap (λ z. z ∷ xs) same
drop_next (suc i) (y ∷ xs) x e =
    let next : suc (i + 1) ≡ suc i + 1 = omega arith in
    subst (λ n. drop i xs ≡ x ∷ drop n (y ∷ xs)) next (drop_next i xs x e)

pub more_items : (defs : List ItemDef) (a : Add) (group : List ℕ) (i n : ℕ) (items : List PlanItem) (p : PlanItem) → slice_get group i ≡ Some n
    → IsPlanItem defs a.sub (i + 1) (ask_at defs a n) p → SoFar defs a group i items → SoFar defs a group (i + 1) (items ++ p ∷ [])
more_items defs a group i n items p found is so rest asked =
    subst (λ xs. ArePlanItems defs a.sub 1 (map (ask_at defs a) group) xs) (sym (append_assoc items (p ∷ []) rest))
    (so (p ∷ rest) (subst (λ ns. ArePlanItems defs a.sub (i + 1) (map (ask_at defs a) ns) (p ∷ rest)) (sym (drop_next i group n found)) (is, asked)))

pub all_items : (defs : List ItemDef) (a : Add) (group : List ℕ) (items : List PlanItem) → SoFar defs a group (length group) items
    → ArePlanItems defs a.sub 1 (map (ask_at defs a) group) items
all_items defs a group items so =
    subst (λ xs. ArePlanItems defs a.sub 1 (map (ask_at defs a) group) xs) (append-nil items)
    (so [] (subst (λ ns. ArePlanItems defs a.sub (length group + 1) (map (ask_at defs a) ns) []) (sym (drop-length group)) tt))

-- the items of a group are declared
found_within : (o : Option ℕ) (m : ℕ) → is_some o ≡ true → IfSome o (λ i. i < m) → unwrap_or o 0 < m
found_within None m some l = absurd (let x : false ≡ true = some in cc)
found_within (Some i) m some l = l

among_within : (names others : List (List ℕ)) → are_among names others ≡ true → Each (λ n. n < length names) (places_among names others)
among_within names [] h = tt
among_within names (t ∷ others) h =
    let both = and_true (is_some (place_of names t)) (are_among names others) h in
    (found_within (place_of names t) (length names) both.0 (place_of_within names t), among_within names others both.1)

pub group_parts : (defs : List ItemDef) (group : List (List ℕ)) → is_group defs group ≡ true → (1 ≤ length group) × (length group ≤ 64)
    × (are_among (names_of defs) group ≡ true)
group_parts defs group h =
    let both = and_true (are_names 64 group) (are_among (names_of defs) group) h in
    let names = and_true (nat_le 1 (length group) && nat_le (length group) 64) (are_distinct group) both.0 in
    let few = and_true (nat_le 1 (length group)) (nat_le (length group) 64) names.0 in
    (leb-true 1 (length group) few.0, leb-true (length group) 64 few.1, both.1)

pub group_within : (defs : List ItemDef) (group : List (List ℕ)) → is_group defs group ≡ true → Each (λ n. n < length defs) (group_of defs group)
group_within defs group h =
    subst (λ m. Each (λ n. n < m) (group_of defs group)) (length-map defs (λ d. d.name)) (among_within (names_of defs) group (group_parts defs group h).2)

-- the key and the command of a subscription
place_most : (f : ℕ) (places : List ℕ) → place_of_field f places ≤ length places
place_most f [] = omega arith
place_most f (p ∷ places) = by_test (p == f) (place_most f places)
  where
    by_test : (b : Bool) → place_of_field f places ≤ length places → cond b 0 (place_of_field f places + 1) ≤ length (p ∷ places)
    by_test true l = omega arith
    by_test false l = omega (arith, l)

keys_most : (m : Mode) (at k : KeyPlaces) → keys_in m at ≡ Some k → at ≡ k
keys_most mode.Command at k e = cc
keys_most mode.Merge at k e = absurd (let x : None ≡ Some k = e in cc)
keys_most mode.Raw at k e = absurd (let x : None ≡ Some k = e in cc)
keys_most mode.Distinct at k e = absurd (let x : None ≡ Some k = e in cc)

pub first_few : (defs : List ItemDef) (a : Add) (group : List ℕ) (items : List PlanItem) → length a.schema ≤ 64
    → ArePlanItems defs a.sub 1 (map (ask_at defs a) group) items → (k : KeyPlaces) → first_keys items ≡ Some k → (k.key ≤ 64) × (k.command ≤ 64)
first_few defs a group [] few are k is = absurd (let x : None ≡ Some k = is in cc)
first_few defs a [] (p ∷ items) few are k is = absurd are
first_few defs a (n ∷ group) (p ∷ items) few are k is =
    let at : KeyPlaces = keys_shown_at (shape_in defs n) (places_among (fields_in defs n) a.schema) in
    let shown : at ≡ k = keys_most a.mode at k (sym (ap (λ u. u.keys) are.0.followed) ∙ is) in
    let long : length (places_among (fields_in defs n) a.schema) ≡ length a.schema =
    length-map a.schema (λ t. unwrap_or (place_of (fields_in defs n) t) 0) in
    let key : at.key ≤ length (places_among (fields_in defs n) a.schema) = place_most (shape_in defs n).key (places_among (fields_in defs n) a.schema) in
    let command : at.command ≤ length (places_among (fields_in defs n) a.schema) =
    place_most (shape_in defs n).command (places_among (fields_in defs n) a.schema) in
    subst (λ (x : KeyPlaces). (x.key ≤ 64) × (x.command ≤ 64)) shown (omega (arith, few, long, key), omega (arith, few, long, command))

pub first_keys_are : (defs : List ItemDef) (a : Add) (group : List ℕ) (items : List PlanItem)
    → ArePlanItems defs a.sub 1 (map (ask_at defs a) group) items → first_keys items ≡ keys_of_asks defs (map (ask_at defs a) group)
first_keys_are defs a [] [] are = refl
first_keys_are defs a [] (p ∷ items) are = absurd are
first_keys_are defs a (n ∷ group) [] are = absurd are
first_keys_are defs a (n ∷ group) (p ∷ items) are = ap (λ u. u.keys) are.0.followed

pub filtered_are : (defs : List ItemDef) (a : Add) (group : List ℕ) → 1 ≤ length group → is_filtered a.mode ≡ are_filtered (map (ask_at defs a) group)
filtered_are defs a [] some = absurd (omega (arith, some))
filtered_are defs a (n ∷ group) some = refl

frequency_are : (defs : List ItemDef) (a : Add) (group : List ℕ) → 1 ≤ length group
    → frequency_in a.mode a.frequency ≡ frequency_of (map (ask_at defs a) group)
frequency_are defs a [] some = absurd (omega (arith, some))
frequency_are defs a (n ∷ group) some = refl

-- a frequency that is asked for is above 0
pub frequency_some : (m : Mode) (f : Option ℕ) → ForSome f (λ n. 0 < n) → ForSome (frequency_in m f) (λ n. 0 < n)
frequency_some mode.Merge f some = some
frequency_some mode.Raw f some = λ n e. absurd (let x : None ≡ Some n = e in cc)
frequency_some mode.Distinct f some = some
frequency_some mode.Command f some = some

-- a schema is short enough
pub schema_few : (defs : List ItemDef) (m : Mode) (group : List ℕ) (schema : List (List ℕ)) → is_schema defs m group schema ≡ true → length schema ≤ 64
schema_few defs m group schema h =
    let both = and_true (are_names 64 schema && shows_keys m schema) (list_all (λ n. are_among (fields_in defs n) schema) group) h in
    let names = and_true (are_names 64 schema) (shows_keys m schema) both.0 in
    let sizes = and_true (nat_le 1 (length schema) && nat_le (length schema) 64) (are_distinct schema) names.0 in
    leb-true (length schema) 64 (and_true (nat_le 1 (length schema)) (nat_le (length schema) 64) sizes.0).1

-- its names are distinct, and each item has them
pub schema_distinct : (defs : List ItemDef) (m : Mode) (group : List ℕ) (schema : List (List ℕ)) → is_schema defs m group schema ≡ true
    → (are_distinct schema ≡ true) × (list_all (λ n. are_among (fields_in defs n) schema) group ≡ true)
schema_distinct defs m group schema h =
    let both = and_true (are_names 64 schema && shows_keys m schema) (list_all (λ n. are_among (fields_in defs n) schema) group) h in
    let names = and_true (are_names 64 schema) (shows_keys m schema) both.0 in
    ((and_true (nat_le 1 (length schema) && nat_le (length schema) 64) (are_distinct schema) names.0).1, both.1)

-- the lines with which a subscription begins
pub begins_are : (defs : List ItemDef) (a : Add) (group : List ℕ) (items : List PlanItem) (n m : ℕ) (keys : Option KeyPlaces) → group ≡ group_of defs a.group
    → n ≡ length group → m ≡ length a.schema → keys ≡ first_keys items → ArePlanItems defs a.sub 1 (map (ask_at defs a) group) items
    → line_text [] (Begins a.sub n m keys) ≡ line_text [] (Begins a.sub (length (asks_of defs a)) (length a.schema) (keys_of_asks defs (asks_of defs a)))
begins_are defs a group items n m keys is items_are fields keys_are are =
    let count : n ≡ length (asks_of defs a) = items_are ∙ ap length is ∙ sym (length-map (group_of defs a.group) (ask_at defs a)) in
    let shown : keys ≡ keys_of_asks defs (asks_of defs a) =
    keys_are ∙ first_keys_are defs a group items are ∙ ap (λ ns. keys_of_asks defs (map (ask_at defs a) ns)) is in
    ap (λ x. line_text [] (Begins a.sub x m keys)) count
    ∙ ap (λ x. line_text [] (Begins a.sub (length (asks_of defs a)) x keys)) fields
    ∙ ap (λ x. line_text [] (Begins a.sub (length (asks_of defs a)) (length a.schema) x)) shown

pub configures_are : (defs : List ItemDef) (a : Add) (group : List ℕ) (frequency : Option ℕ) (filtered : Bool) → group ≡ group_of defs a.group
    → 1 ≤ length group → frequency ≡ frequency_in a.mode a.frequency → filtered ≡ is_filtered a.mode
    → line_text [] (Configures a.sub frequency filtered) ≡ line_text [] (Configures a.sub (frequency_of (asks_of defs a)) (are_filtered (asks_of defs a)))
configures_are defs a group frequency filtered is some limits filters =
    ap (λ x. line_text [] (Configures a.sub x filtered))
    (limits ∙ frequency_are defs a group some ∙ ap (λ ns. frequency_of (map (ask_at defs a) ns)) is)
    ∙ ap (λ x. line_text [] (Configures a.sub (frequency_of (asks_of defs a)) x))
    (filters ∙ filtered_are defs a group some ∙ ap (λ ns. are_filtered (map (ask_at defs a) ns)) is)

pub group_some : (defs : List ItemDef) (group : List (List ℕ)) → is_group defs group ≡ true → 1 ≤ length (group_of defs group)
group_some defs group h =
    let long : length (group_of defs group) ≡ length group = length-map group (λ t. unwrap_or (place_of (names_of defs) t) 0) in
    let some = (group_parts defs group h).0 in
    omega (arith, long, some)
