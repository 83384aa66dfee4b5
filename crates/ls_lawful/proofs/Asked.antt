-- What an add that is accepted says of what it asks for.
use Rattle.std.proofs.Common.{◌≡◌, ◌==◌, ℕ, zero, suc, ◌+◌, ◌<◌, ◌≤◌, List, [], ◌∷◌, length, map, refl, sym, ◌∙◌, ap}
use Rattle.std.proofs.Common.{arith, subst, cond, Bool, true, false, ◌&&◌, Option, Some, None, IfSome, nat_lt, nat_le}
use Rattle.std.proofs.Common.{slice_get, codes, option_map}
use Rattle.std.specs.Prelude.{unwrap_or, is_some}
use Rattle.std.specs.List.{list_all}
use Rattle.std.proofs.lemmas.Option.{slice_get_within}
use Rattle.std.proofs.lemmas.Bool.{eq-eqb}
use Rattle.std.proofs.lemmas.Bool.Decides.{nat_tests}
use Rattle.std.proofs.lemmas.List.{length-map}
use Rattle.ls_value.specs.Values.{text_eq, place_of}
use Rattle.ls_value.proofs.Rows.{and_left, and_right, text_eq_true, place_of_within}
use Rattle.ls_event.specs.declared.item.ItemDef.{ItemDef}
use Rattle.ls_event.specs.declared.event.Mode.{Mode}
use Rattle.ls_event.specs.declared.item.Kind.{Kind}
use Rattle.ls_event.specs.Shapes.{Shape, shape_of}
use Rattle.ls_event.specs.Joining.{buffer_size, is_mode_of}
use Rattle.ls_request.specs.declared.request.Add.{Add}
use Rattle.ls_mirror.specs.declared.command.KeyPlaces.{KeyPlaces}
use Rattle.ls_record.specs.Tables.{place_of_field, keys_shown_at}
use Rattle.ls_record.specs.Cutting.{Ask}
use Rattle.ls_record.specs.Records.{Item, Session, definitions, is_used, shape_at, fields_in}
use Rattle.ls_record.specs.declared.TheConstants.{MOST_GROUP_ITEMS, MOST_SUBSCRIPTIONS, MOST_UNSENT}
use Rattle.ls_event.specs.declared.limits.TheConstants.{MOST_FIELDS, MOST_BUFFER_SIZE}
use Rattle.ls_value.specs.declared.limits.TheConstants.{GREATEST_NUMBER}
use Rattle.ls_record.specs.Acting.{are_among, places_among, are_names, names_of, is_group, group_of, is_allowed}
use Rattle.ls_record.specs.Acting.{shows_keys, is_schema, snapshot_asked, ask_of, asks_of, subscriptions, unsent}
use Rattle.ls_record.specs.Acting.{add_refusals}
use Rattle.ls_value.specs.Each.{Each}
use Rattle.ls_record.specs.Cases.{first_code}
use Rattle.ls_record.proofs.Naming.{Passes, passes, place_is, name_differs, not_or, not_false}
use Rattle.ls_event.specs.declared.event.Mode.TheVariants as mode
use Rattle.ls_event.specs.declared.item.Kind.TheVariants as kind

-- an item of kind COMMAND, whose key and command a schema shows
pub record ShowsKeys (p : Shape) (places : List ℕ) : Type 0 where
  pub kind : p.kind ≡ kind.Command
  pub key : place_of_field p.key places < length places
  pub command : place_of_field p.command places < length places

-- the places of the key and the command among the names of a schema
abbrev pub schema_keys : List (List ℕ) → KeyPlaces
schema_keys schema = record { key = unwrap_or (place_of schema (codes "key")) 0; command = unwrap_or (place_of schema (codes "command")) 0 }

-- what is asked of one item
pub record IsAsk (items : List Item) (a : Add) (ask : Ask) : Type 0 where
  pub keys : a.mode ≡ mode.Command → ShowsKeys (shape_at items ask.item) ask.wanted.places
  pub named : a.mode ≡ mode.Command → keys_shown_at (shape_at items ask.item) ask.wanted.places ≡ schema_keys a.schema
  pub declared : ask.item < length items
  pub mode : ask.mode ≡ a.mode
  pub allowed : is_mode_of a.mode (shape_at items ask.item).kind ≡ true
  pub size : ask.size ≡ buffer_size a.mode a.size
  pub schema : length ask.wanted.places ≡ length a.schema
  pub within : Each (λ p. p < (shape_at items ask.item).fields) ask.wanted.places
  pub snapshot : ask.wanted.snapshot ≡ snapshot_asked a.mode a.snapshot

-- what an add that is accepted says
pub record IsAsked (items : List Item) (free : ℕ) (s : Session) (a : Add) : Type 0 where
  pub new : is_used a.sub s.board.round ≡ false
  pub room : unsent s + 2 ≤ MOST_UNSENT
  pub some : 1 ≤ length (asks_of (definitions items) a)
  pub most : length (asks_of (definitions items) a) ≤ MOST_GROUP_ITEMS
  pub some_fields : 1 ≤ length a.schema
  pub most_fields : length a.schema ≤ MOST_FIELDS
  pub each : Each (IsAsk items a) (asks_of (definitions items) a)
  pub few : length (asks_of (definitions items) a) ≤ free
  pub unspent : length s.board.lines + 2 ≤ GREATEST_NUMBER

-- a size that is asked for is at least 1
pub size_some : (m : Mode) (asked : Option ℕ) → IfSome asked (λ n. 1 ≤ n) → 1 ≤ buffer_size m asked
size_some mode.Merge None h = omega arith
size_some mode.Merge (Some n) h = omega (arith, h)
size_some mode.Distinct None h = omega arith
size_some mode.Distinct (Some n) h = omega (arith, h)
size_some mode.Raw asked h = omega arith
size_some mode.Command asked h = omega arith

-- and a buffer's at most 256
pub size_most : (m : Mode) (asked : Option ℕ) → buffer_size m asked ≤ MOST_BUFFER_SIZE
size_most mode.Merge None = omega arith
size_most mode.Merge (Some n) = omega arith
size_most mode.Distinct None = omega arith
size_most mode.Distinct (Some n) = omega arith
size_most mode.Raw asked = omega arith
size_most mode.Command asked = omega arith

-- only an item of kind COMMAND has mode COMMAND
command_kind : (k : Kind) → is_mode_of mode.Command k ≡ true → k ≡ kind.Command
command_kind kind.Merge h = cc
command_kind kind.Distinct h = cc
command_kind kind.Command h = refl

-- the n-th item's shape and fields
pub shape_found : (items : List Item) (n : ℕ) (i : Item) → slice_get items n ≡ Some i → shape_at items n ≡ shape_of i.definition
shape_found [] n i is = absurd (let e : None ≡ Some i = is in cc)
shape_found (j ∷ items) zero i is = let e : j ≡ i = cc in ap (λ (x : Item). shape_of x.definition) e
shape_found (j ∷ items) (suc n) i is = shape_found items n i is

fields_found : (items : List Item) (n : ℕ) (i : Item) → slice_get items n ≡ Some i → fields_in (definitions items) n ≡ i.definition.fields
fields_found [] n i is = absurd (let e : None ≡ Some i = is in cc)
fields_found (j ∷ items) zero i is = let e : j ≡ i = cc in ap (λ (x : Item). x.definition.fields) e
fields_found (j ∷ items) (suc n) i is = fields_found items n i is

pub element_found : {A : Type 0} (xs : List A) (n : ℕ) → n < length xs → (x : A) × (slice_get xs n ≡ Some x)
element_found [] n within = absurd (omega (arith, within))
element_found (x ∷ xs) zero within = (x, refl)
element_found (x ∷ xs) (suc n) within = element_found xs n (omega (arith, within))

-- places among names

pub places_length : (names schema : List (List ℕ)) → length (places_among names schema) ≡ length schema
places_length names schema = length-map schema (λ t. unwrap_or (place_of names t) 0)

found_within : (names : List (List ℕ)) (name : List ℕ) (p : ℕ) → place_of names name ≡ Some p → p < length names
found_within names name p is = subst (λ (o : Option ℕ). IfSome o (λ i. i < length names)) is (place_of_within names name)

pub places_within : (names schema : List (List ℕ)) → are_among names schema ≡ true → Each (λ p. p < length names) (places_among names schema)
places_within names [] among = tt
places_within names (t ∷ ts) among =
    (found_within names t (unwrap_or (place_of names t) 0) (place_is names t (and_left _ _ among)), places_within names ts (and_right _ _ among))

-- a name that a schema shows has a place in it
pub shown_in : (names schema : List (List ℕ)) (name : List ℕ) → are_among names schema ≡ true → is_some (place_of schema name) ≡ true
    → place_of_field (unwrap_or (place_of names name) 0) (places_among names schema) < length (places_among names schema)
shown_in names [] name among shown = cc
shown_in names (t ∷ ts) name among shown =
    by_name (unwrap_or (place_of names t) 0) (places_among names ts) (place_is names t (and_left _ _ among))
    (λ later. shown_in names ts name (and_right _ _ among) later) (text_eq t name) refl (place_of ts name) refl shown
  where
    by_place : (p k : ℕ) (ps : List ℕ) (v : Bool) → place_of_field k ps < length ps → cond v 0 (place_of_field k ps + 1) < suc (length ps)
    by_place p k ps true h = omega arith
    by_place p k ps false h = omega (arith, h)

    found : (p k : ℕ) (ps : List ℕ) (v : Bool) → (p == k) ≡ v → p ≡ k → cond v 0 (place_of_field k ps + 1) < suc (length ps)
    found p k ps true is e = omega arith
    found p k ps false is e = absurd (let t : (p == k) ≡ true = eq-eqb p k e in cc)

    by_name : (p : ℕ) (ps : List ℕ) → place_of names t ≡ Some p → (is_some (place_of ts name) ≡ true
        → place_of_field (unwrap_or (place_of names name) 0) ps < length ps)
        → (v : Bool) → text_eq t name ≡ v → (o : Option ℕ) → place_of ts name ≡ o
        → is_some (cond v (Some 0) (option_map (λ i. i + 1) o)) ≡ true → place_of_field (unwrap_or (place_of names name) 0) (p ∷ ps) < suc (length ps)
    by_name p ps at more true same o later shown =
        let e : place_of names name ≡ Some p = subst (λ (n : List ℕ). place_of names n ≡ Some p) (text_eq_true t name same) at in
        found p (unwrap_or (place_of names name) 0) ps (p == unwrap_or (place_of names name) 0) refl (sym (ap (λ o. unwrap_or o 0) e))
    by_name p ps at more false same None later shown = cc
    by_name p ps at more false same (Some j) later shown =
        by_place p (unwrap_or (place_of names name) 0) ps (p == unwrap_or (place_of names name) 0) (more (ap is_some later))

-- it is the place of the name itself
shown_as_named : (names schema : List (List ℕ)) (name : List ℕ) → are_among names schema ≡ true → is_some (place_of schema name) ≡ true
    → (q : ℕ) × (place_of names name ≡ Some q) × (place_of_field q (places_among names schema) ≡ unwrap_or (place_of schema name) 0)
shown_as_named names [] name among shown = cc
shown_as_named names (t ∷ ts) name among shown =
    by_name (unwrap_or (place_of names t) 0) (places_among names ts) (place_is names t (and_left _ _ among))
    (λ later. shown_as_named names ts name (and_right _ _ among) later) (text_eq t name) refl (place_of ts name) refl shown
  where
    by_name : (p : ℕ) (ps : List ℕ) → place_of names t ≡ Some p → (is_some (place_of ts name) ≡ true
        → (q : ℕ) × (place_of names name ≡ Some q) × (place_of_field q ps ≡ unwrap_or (place_of ts name) 0)) → (v : Bool) → text_eq t name ≡ v
        → (o : Option ℕ) → place_of ts name ≡ o → is_some (cond v (Some 0) (option_map (λ i. i + 1) o)) ≡ true
        → (q : ℕ) × (place_of names name ≡ Some q) × (place_of_field q (p ∷ ps) ≡ unwrap_or (cond v (Some 0) (option_map (λ i. i + 1) o)) 0)
    by_name p ps at more true same o later shown = (
      p,
      subst (λ (n : List ℕ). place_of names n ≡ Some p) (text_eq_true t name same) at,
      ap (λ (b : Bool). cond b 0 (place_of_field p ps + 1))
          (eq-eqb p p refl),
    )
    by_name p ps at more false same None later shown = cc
    by_name p ps at more false same (Some j) later shown =
        let m = more (ap is_some later) in (
          m.0,
          m.1,
          ap (λ (b : Bool). cond b 0 (place_of_field m.0 ps + 1)) (name_differs names t name p m.0 same at m.1)
              ∙ ap (λ n. n + 1) (m.2 ∙ ap (λ o. unwrap_or o 0) later),
        )

named_in : (names schema : List (List ℕ)) (name : List ℕ) → are_among names schema ≡ true → is_some (place_of schema name) ≡ true
    → place_of_field (unwrap_or (place_of names name) 0) (places_among names schema) ≡ unwrap_or (place_of schema name) 0
named_in names schema name among shown =
    let m = shown_as_named names schema name among shown in
    ap (λ o. place_of_field (unwrap_or o 0) (places_among names schema)) m.1 ∙ m.2

-- the group's items are declared, in the order of its names
pub group_declared : (items : List Item) (names : List (List ℕ)) → are_among (names_of (definitions items)) names ≡ true
    → Each (λ n. n < length items) (group_of (definitions items) names)
group_declared items names among =
    subst (λ (k : ℕ). Each (λ n. n < k) (group_of (definitions items) names))
    (length-map (definitions items) (λ d. d.name) ∙ length-map items (λ i. i.definition))
    (places_within (names_of (definitions items)) names among)

names_bounds : (most : ℕ) (names : List (List ℕ)) → are_names most names ≡ true → (1 ≤ length names) × (length names ≤ most)
names_bounds most names h = bounds (length names) (and_left _ _ (and_left _ _ h)) (and_right _ _ (and_left _ _ h))
  where
    bounds : (n : ℕ) → nat_le 1 n ≡ true → nat_le n most ≡ true → (1 ≤ n) × (n ≤ most)
    bounds n h j = (grind (arith, nat_tests), grind (arith, nat_tests))

-- one ask
ask_is : (items : List Item) (a : Add) (n : ℕ) (i : Item) → slice_get items n ≡ Some i → is_mode_of a.mode (shape_at items n).kind ≡ true
    → are_among (fields_in (definitions items) n) a.schema ≡ true → shows_keys a.mode a.schema ≡ true
    → IsAsk items a (ask_of a n (places_among (fields_in (definitions items) n) a.schema))
ask_is items a n i at allowed among shown =
    let shape : shape_at items n ≡ shape_of i.definition = shape_found items n i at in
    let fields : fields_in (definitions items) n ≡ i.definition.fields = fields_found items n i at in
    let own : are_among i.definition.fields a.schema ≡ true = subst (λ (fs : List (List ℕ)). are_among fs a.schema ≡ true) fields among in
    record {
      declared = slice_get_within items n i at;
      mode = refl;
      allowed = allowed;
      size = refl;
      schema = places_length (fields_in (definitions items) n) a.schema;
      within = rw (shape, fields) (places_within i.definition.fields a.schema own);
      snapshot = refl;
      keys = λ command. rw (shape, fields) (by_command own (subst (λ (p : Shape). is_mode_of a.mode p.kind ≡ true) shape allowed) command);
      named = λ command. rw (shape, fields) (as_named own (shows a.mode command shown));
    }
  where
    key_shown : (is_some (place_of a.schema (codes "key")) && is_some (place_of a.schema (codes "command"))) ≡ true
        → is_some (place_of a.schema (codes "key")) ≡ true
    key_shown h = and_left (is_some (place_of a.schema (codes "key"))) (is_some (place_of a.schema (codes "command"))) h

    command_shown : (is_some (place_of a.schema (codes "key")) && is_some (place_of a.schema (codes "command"))) ≡ true
        → is_some (place_of a.schema (codes "command")) ≡ true
    command_shown h = and_right (is_some (place_of a.schema (codes "key"))) (is_some (place_of a.schema (codes "command"))) h

    same_keys : (k l m n : ℕ) → k ≡ m → l ≡ n → ◌≡◌ {A = KeyPlaces} (record { key = k; command = l }) (record { key = m; command = n })
    same_keys k l m n e f i = record { key = e i; command = f i }

    as_named : are_among i.definition.fields a.schema ≡ true → (is_some (place_of a.schema (codes "key")) && is_some (place_of a.schema (codes "command")))
        ≡ true
        → keys_shown_at (shape_of i.definition) (places_among i.definition.fields a.schema) ≡ schema_keys a.schema
    as_named own h =
        let places : List ℕ = places_among i.definition.fields a.schema in
        same_keys (place_of_field (shape_of i.definition).key places) (place_of_field (shape_of i.definition).command places) (schema_keys a.schema).key
        (schema_keys a.schema).command
        (named_in i.definition.fields a.schema (codes "key") own (key_shown h)) (named_in i.definition.fields a.schema (codes "command") own (command_shown h))

    shows : (m : Mode) → m ≡ mode.Command → shows_keys m a.schema ≡ true → (is_some (place_of a.schema (codes "key"))
        && is_some (place_of a.schema (codes "command"))) ≡ true
    shows m e h = subst (λ (x : Mode). shows_keys x a.schema ≡ true) e h

    by_command : are_among i.definition.fields a.schema ≡ true → is_mode_of a.mode i.definition.kind ≡ true → a.mode ≡ mode.Command
        → ShowsKeys (shape_of i.definition) (places_among i.definition.fields a.schema)
    by_command own mine command =
        let h = shows a.mode command shown in
        record {
          kind = command_kind i.definition.kind (subst (λ (x : Mode). is_mode_of x i.definition.kind ≡ true) command mine);
          key = shown_in i.definition.fields a.schema (codes "key") own (key_shown h);
          command = shown_in i.definition.fields a.schema (codes "command") own (command_shown h);
        }

-- all asks
asks_are : (items : List Item) (a : Add) (group : List ℕ) → Each (λ n. n < length items) group → is_allowed (definitions items) a.mode group ≡ true
    → list_all (λ n. are_among (fields_in (definitions items) n) a.schema) group ≡ true → shows_keys a.mode a.schema ≡ true
    → Each (IsAsk items a) (map (λ n. ask_of a n (places_among (fields_in (definitions items) n) a.schema)) group)
asks_are items a [] declared allowed among shown = tt
asks_are items a (n ∷ group) declared allowed among shown =
    let i = element_found items n declared.0 in (
      ask_is items a n i.0 i.1 (and_left _ _ allowed) (and_left _ _ among) shown,
      asks_are items a group declared.1 (and_right _ _ allowed) (and_right _ _ among) shown,
    )

pub asks_length : (defs : List ItemDef) (a : Add) → length (asks_of defs a) ≡ length a.group
asks_length defs a = length-map (group_of defs a.group) (λ n. ask_of a n (places_among (fields_in defs n) a.schema))
    ∙ places_length (names_of defs) a.group

-- an add that is accepted
pub asked_is : (items : List Item) (free : ℕ) (s : Session) (a : Add) → first_code (add_refusals (definitions items) free s a) ≡ None
    → IsAsked items free s a
asked_is items free s a is =
    let defs : List ItemDef = definitions items in
    let p : Passes (add_refusals defs free s a) = passes (add_refusals defs free s a) is in
    let group : is_group defs a.group ≡ true = not_false _ p.1.1.0 in
    let allowed : is_allowed defs a.mode (group_of defs a.group) ≡ true = not_false _ p.1.1.1.0 in
    let schema : is_schema defs a.mode (group_of defs a.group) a.schema ≡ true = not_false _ p.1.1.1.1.0 in
    let total : nat_lt free (length a.group) ≡ false =
    (not_or (nat_le MOST_SUBSCRIPTIONS (subscriptions s.board.round)) (nat_lt free (length a.group)) p.1.1.1.1.1.0).1 in
    let names : (1 ≤ length a.group) × (length a.group ≤ MOST_GROUP_ITEMS) = names_bounds MOST_GROUP_ITEMS a.group (and_left _ _ group) in
    let fields : (1 ≤ length a.schema) × (length a.schema ≤ MOST_FIELDS) = names_bounds MOST_FIELDS a.schema (and_left _ _ (and_left _ _ schema)) in
    let many : length (asks_of defs a) ≡ length a.group = asks_length defs a in
    record {
      new = p.0;
      room = at_most MOST_UNSENT (unsent s + 2) p.1.0;
      some = omega (arith, many, names.0);
      most = omega (arith, many, names.1);
      some_fields = fields.0;
      most_fields = fields.1;
      each = asks_are items a (group_of defs a.group) (group_declared items a.group (and_right _ _ group)) allowed (and_right _ _ schema)
          (and_right _ _ (and_left _ _ schema));
      few = omega (arith, many, names.0, at_most free (length a.group) total);
      unspent = at_most GREATEST_NUMBER (length s.board.lines + 2) p.1.1.1.1.1.1.0;
    }
  where
    at_most : (n m : ℕ) → nat_lt n m ≡ false → m ≤ n
    at_most n m h = grind (arith, nat_tests)
