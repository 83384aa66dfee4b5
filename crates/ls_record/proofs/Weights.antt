-- What a cut of an item's history tells is light.
use Rattle.std.proofs.Common.{◌≡◌, ◌==◌, ℕ, zero, suc, ◌+◌, ◌-◌, ◌≤◌, ◌&&◌, List, [], ◌∷◌, ◌++◌, length, map, set}
use Rattle.std.proofs.Common.{get_or, take, refl, sym, ◌∙◌, ap, subst, arith, Bool, true, false, not, cond, Option}
use Rattle.std.proofs.Common.{Some, None, is_some, option_map, slice_get, nat_lt, sum_by, get_or-set_other, eq-eqb}
use Rattle.std.proofs.Common.{take_all, length-append, length-drop, length-take, ltb-true, ltb-false}
use Rattle.std.proofs.lemmas.List.{get_or_past, set_past}
use Rattle.std.proofs.lemmas.Bool.{or_parts}
use Rattle.std.proofs.lemmas.List.Sums.{sum_by-cons, sum_by-set}
use Rattle.std.specs.List.{list_any}
use Rattle.std.specs.Option.{option_map_or, option_or}
use Rattle.ls_value.specs.declared.row.Value.{Value}
use Rattle.ls_value.specs.declared.row.Cell.{Cell}
use Rattle.ls_value.specs.Values.{nulls, projected, projected_cells, cell_at, text_eq, weight_of, weight_of_value}
use Rattle.ls_value.specs.Values.{weight_of_cell}
use Rattle.ls_value.specs.declared.limits.TheConstants.{GREATEST_NUMBER}
use Rattle.ls_event.specs.declared.event.Event.{Event}
use Rattle.ls_event.specs.declared.event.Event.TheVariants.{Update, Clear}
use Rattle.ls_event.specs.declared.event.Entry.{Entry}
use Rattle.ls_event.specs.declared.event.Mode.{Mode}
use Rattle.ls_event.specs.declared.event.Taken.{Taken}
use Rattle.ls_event.specs.declared.item.Kind.{Kind}
use Rattle.ls_event.specs.declared.limits.TheConstants.{MOST_WEIGHT, RAW_KEEPS}
use Rattle.ls_event.specs.declared.snapshot.KeyedRow.{KeyedRow}
use Rattle.ls_event.specs.declared.snapshot.Snapshot.{Snapshot}
use Rattle.ls_event.specs.declared.updates.OwnRow.{OwnRow}
use Rattle.ls_event.specs.Shapes.{Shape}
use Rattle.ls_event.specs.History.{row_after, row_after_all, merged, between, weight_of_event}
use Rattle.ls_event.specs.States.{state_in, state_at, row_made, weight_made, weight_refusal, order_refusal}
use Rattle.ls_event.specs.States.{keys_refusal, push_refusal}
use Rattle.ls_event.specs.Publishes.{EachFollows, IsHistory}
use Rattle.ls_event.specs.Slots.{Slot}
use Rattle.ls_event.specs.Updates.{own_value, own_row, own_of, own_from, updates_between, last_clear, clear_or}
use Rattle.ls_event.specs.Updates.{last_of, recent_rows}
use Rattle.ls_event.specs.Keyed.{text_of_cell, key_of, deletes, row_at, with_row, without, row_with, keyed_after}
use Rattle.ls_event.specs.Keyed.{keyed_after_all, keyed}
use Rattle.ls_event.specs.OwnCuts.{first_of_last, raw_taken, raw_cut, row_taken, clear_cut, snapshot_cut}
use Rattle.ls_event.specs.OwnCuts.{distinct_cut_by, distinct_cut}
use Rattle.ls_event.specs.CommandCuts.{has_key, key_cursor, queue_touched, queue_after, queue_from, owed_keys}
use Rattle.ls_event.specs.CommandCuts.{command_queue, key_taken, command_cut_by, command_cut}
use Rattle.ls_event.specs.Cuts.{cell_saying, flagged_cells, flags_to, next_cursor, merge_cut, cut_of, cut}
use Rattle.ls_event.specs.Joining.{is_mode_of}
use Rattle.ls_event.proofs.Merged.{row_after_all-append}
use Rattle.ls_record.specs.Light.{AreOnce, IsNarrow, IsLightRow, IsLight}
use Rattle.ls_value.specs.Each.{Each}
use Rattle.ls_value.proofs.Each.{each_append}
use Rattle.ls_record.proofs.Each.{each_at, each_take, each_drop}
use Rattle.ls_record.proofs.EachKey.{EachKey, each_with, each_without}
use Rattle.ls_record.proofs.Short.{nulls_weight}
use Rattle.ls_record.proofs.Cuts.{merge_cut_is, no_cut}
use Rattle.ls_value.specs.declared.row.Value.TheVariants as value
use Rattle.ls_value.specs.declared.row.Cell.TheVariants as cell
use Rattle.ls_event.specs.declared.event.Mode.TheVariants as mode
use Rattle.ls_event.specs.declared.event.PushRefused.TheVariants as refused
use Rattle.ls_event.specs.declared.event.Taken.TheVariants as taken
use Rattle.ls_event.specs.declared.item.Kind.TheVariants as kind
use Rattle.ls_event.specs.declared.snapshot.Snapshot.TheVariants as state

differs : (p q : ℕ) → (p == q) ≡ false → p ≡ q → ⊥
differs p q apart is =
    let same : (p == q) ≡ true = eq-eqb p q is in
    cc

-- distinct places of a list hold no more than the whole list, where what stands in for the rest counts nothing
module _ {X : Type 0} (f : X → ℕ) (d : X) (none : f d ≡ 0) where
  same_places : (xs : List X) (p : ℕ) (places : List ℕ) → list_any (λ q. p == q) places ≡ false
      → map (λ q. get_or (set xs p d) q d) places ≡ map (λ q. get_or xs q d) places
  same_places xs p [] apart = refl
  same_places xs p (q ∷ places) apart =
      let parts = or_parts (p == q) (list_any (λ r. p == r) places) apart in
      let e = same_places xs p places parts.1 in
      let g : get_or (set xs p d) q d ≡ get_or xs q d = get_or-set_other xs p q d d (λ is. differs p q parts.0 (sym is)) in
      cc

  set_none : (xs : List X) (p : ℕ) → sum_by f (set xs p d) + f (get_or xs p d) ≡ sum_by f xs
  set_none xs p = by_test (nat_lt p (length xs)) refl
    where
      by_test : (v : Bool) → nat_lt p (length xs) ≡ v → sum_by f (set xs p d) + f (get_or xs p d) ≡ sum_by f xs
      by_test true t = omega (arith, ltb-true p (length xs) t, sum_by-set f xs p d d (ltb-true p (length xs) t), none)
      by_test false t =
          let far : length xs ≤ p = ltb-false p (length xs) t in
          let e : get_or xs p d ≡ d = get_or_past xs p d far in
          let g : set xs p d ≡ xs = set_past xs p d far in
          rw (e, g) (omega (arith, none))

  once_within : (places : List ℕ) → AreOnce places → (xs : List X) → sum_by f (map (λ q. get_or xs q d) places) ≤ sum_by f xs
  once_within [] once xs = omega arith
  once_within (p ∷ places) once xs =
      omega (
        arith,
        sum_by-cons f (get_or xs p d) (map (λ q. get_or xs q d) places),
        set_none xs p,
        once_within places once.1 (set xs p d),
        ap (sum_by f) (same_places xs p places once.0),
      )

-- a row and cells at the places of a schema
row_within : (places : List ℕ) → AreOnce places → (row : List Value) → weight_of (projected row places) ≤ weight_of row
row_within places once row = once_within weight_of_value value.Null refl places once row

cells_within : (places : List ℕ) → AreOnce places → (cells : List Cell) → sum_by weight_of_cell (projected_cells cells places) ≤ sum_by weight_of_cell cells
cells_within places once cells = once_within weight_of_cell cell.Same refl places once cells

-- the texts of an event that was accepted, and the row that it made, weigh no more than they may

abbrev IsSmall : Option (List Value) → Type 0
IsSmall None = Unit {0}
IsSmall (Some row) = weight_of row ≤ MOST_WEIGHT

small_row : (row : Option (List Value)) → option_map_or weight_of row 0 ≤ MOST_WEIGHT → IsSmall row
small_row None small = tt
small_row (Some row) small = small

or_none : {A : Type 0} (a b : Option A) → option_or a b ≡ None → b ≡ None
or_none None b h = h
or_none (Some x) b h = absurd (let is : Some x ≡ None = h in cc)

or_first : {A : Type 0} (a b : Option A) → option_or a b ≡ None → a ≡ None
or_first None b h = refl
or_first (Some x) b h = h

weighs : (bytes : ℕ) → weight_refusal bytes ≡ None → bytes ≤ MOST_WEIGHT
weighs bytes none = by_test (nat_lt MOST_WEIGHT bytes) refl none
  where
    by_test : (v : Bool) → nat_lt MOST_WEIGHT bytes ≡ v → cond v (Some (refused.TooLong bytes)) None ≡ None → bytes ≤ MOST_WEIGHT
    by_test true t h = absurd (let is : Some (refused.TooLong bytes) ≡ None = h in cc)
    by_test false t h = ltb-false MOST_WEIGHT bytes t

record IsLightStep (event : Event) (row : Option (List Value)) : Type 0 where
  event_weight : weight_of_event event ≤ MOST_WEIGHT
  row_weight : IsSmall row

light_step : (p : Shape) (s : Snapshot) (event : Event) → push_refusal p s event ≡ None → IsLightStep event (row_made p s event)
light_step p s event none =
    let rest = or_none (order_refusal p s event) _ none in
    let few : weight_made event (row_made p s event) ≤ MOST_WEIGHT =
    weighs (weight_made event (row_made p s event)) (or_first (weight_refusal (weight_made event (row_made p s event))) (keys_refusal p s event) rest) in
    record { event_weight = omega (arith, few); row_weight = small_row (row_made p s event) (omega (arith, few)) }

-- each event of a history

abbrev LightEntry : Entry → Type 0
LightEntry e = weight_of_event e.event ≤ MOST_WEIGHT

light_entries : (p : Shape) (before es : List Entry) → EachFollows p before es → Each LightEntry es
light_entries p before [] each = tt
light_entries p before (e ∷ es) each =
    ((light_step p (state_at p before (length before)) e.event (each.0).admitted).event_weight, light_entries p (before ++ e ∷ []) es each.1)

light_between : (p : Shape) (h : List Entry) (from to : ℕ) → IsHistory p h → Each LightEntry (between h from to)
light_between p h from to is = each_drop LightEntry from (take to h) (each_take LightEntry to h (light_entries p [] h is.each))

-- the own row of an update, and so each that is told by itself

own_cell_weight : (c : Cell) → weight_of_value (own_value c) ≤ weight_of_cell c
own_cell_weight cell.Same = omega arith
own_cell_weight cell.Null = omega arith
own_cell_weight (cell.Text t) = omega arith

own_weight : (cells : List Cell) → weight_of (own_row cells) ≤ sum_by weight_of_cell cells
own_weight [] = omega arith
own_weight (c ∷ cells) =
    omega
    (arith, own_weight cells, own_cell_weight c, sum_by-cons weight_of_cell c cells, sum_by-cons weight_of_value (own_value c) (own_row cells))

abbrev LightOwn : OwnRow → Type 0
LightOwn u = weight_of u.row ≤ MOST_WEIGHT

light_own_of : (n : ℕ) (event : Event) → weight_of_event event ≤ MOST_WEIGHT → Each LightOwn (own_of n event)
light_own_of n (Update cells) light = (omega (arith, own_weight cells), tt)
light_own_of n Clear light = tt

light_own_from : (n : ℕ) (es : List Entry) → Each LightEntry es → Each LightOwn (own_from n es)
light_own_from n [] light = tt
light_own_from n (e ∷ es) light =
    each_append LightOwn (own_of (n + 1) e.event) (own_from (n + 1) es) (light_own_of (n + 1) e.event light.0) (light_own_from (n + 1) es light.1)

light_updates : (p : Shape) (h : List Entry) (from to : ℕ) → IsHistory p h → Each LightOwn (updates_between h from to)
light_updates p h from to is = light_own_from from (between h from to) (light_between p h from to is)

-- there are no more of them than entries

own_of_count : (n : ℕ) (event : Event) → length (own_of n event) ≤ 1
own_of_count n (Update cells) = omega arith
own_of_count n Clear = omega arith

own_count : (n : ℕ) (es : List Entry) → length (own_from n es) ≤ length es
own_count n [] = omega arith
own_count n (e ∷ es) =
    omega (arith, own_of_count (n + 1) e.event, own_count (n + 1) es, length-append (own_of (n + 1) e.event) (own_from (n + 1) es))

updates_count : (h : List Entry) (from to : ℕ) → length (updates_between h from to) ≤ length h
updates_count h from to = omega (arith, own_count from (between h from to), length-drop from (take to h), length-take to h)

-- the merged state

merged_from : (p : Shape) (before es : List Entry) (i : ℕ) → p.kind ≡ kind.Merge → EachFollows p before es
    → weight_of (row_after_all (nulls p.fields) before) ≤ MOST_WEIGHT
    → weight_of (row_after_all (row_after_all (nulls p.fields) before) (take i es)) ≤ MOST_WEIGHT
merged_from p before es zero merge each light = light
merged_from p before [] (suc i) merge each light = light
merged_from p before (e ∷ es) (suc i) merge each light =
    let row : List Value = row_after_all (nulls p.fields) before in
    let whole : take (length before) before ≡ before = take_all (length before) before (omega arith) in
    let at : state_at p before (length before) ≡ state.Merge row =
    ap (λ k. state_in k p before (length before)) merge ∙ ap (λ xs. state.Merge (row_after_all (nulls p.fields) xs)) whole in
    let step = light_step p (state.Merge row) e.event (ap (λ s. push_refusal p s e.event) (sym at) ∙ (each.0).admitted) in
    let one : row_after_all (nulls p.fields) (before ++ e ∷ []) ≡ row_after row e.event = row_after_all-append (nulls p.fields) before (e ∷ []) in
    subst (λ r. weight_of (row_after_all r (take i es)) ≤ MOST_WEIGHT) one
    (merged_from p (before ++ e ∷ []) es i merge each.1 (subst (λ r. weight_of r ≤ MOST_WEIGHT) (sym one) step.row_weight))

merged_weight : (p : Shape) (h : List Entry) (i : ℕ) → p.kind ≡ kind.Merge → IsHistory p h → weight_of (merged p.fields h i) ≤ MOST_WEIGHT
merged_weight p h i merge is = merged_from p [] h i merge is.each (omega (arith, nulls_weight p.fields))

saying_weight : (v : Value) → weight_of_cell (cell_saying v) ≡ weight_of_value v
saying_weight value.Null = refl
saying_weight (value.Text t) = refl

flagged_weight : (flags : List Bool) (row : List Value) → sum_by weight_of_cell (flagged_cells flags row) ≤ weight_of row
flagged_weight [] row = omega arith
flagged_weight (t ∷ flags) [] = omega arith
flagged_weight (true ∷ flags) (v ∷ row) =
    omega (
      arith,
      flagged_weight flags row,
      saying_weight v,
      sum_by-cons weight_of_value v row,
      sum_by-cons weight_of_cell (cell_saying v) (flagged_cells flags row),
    )
flagged_weight (false ∷ flags) (v ∷ row) =
    omega (arith, flagged_weight flags row, sum_by-cons weight_of_value v row, sum_by-cons weight_of_cell cell.Same (flagged_cells flags row))

-- the rows by key

abbrev LightKey : List ℕ → List Value → Type 0
LightKey key row = (length key ≤ MOST_WEIGHT) × (weight_of row ≤ MOST_WEIGHT)

cell_within : (cells : List Cell) (p : ℕ) → weight_of_cell (cell_at cells p) ≤ sum_by weight_of_cell cells
cell_within [] p = omega arith
cell_within (c ∷ cells) zero = omega (arith, sum_by-cons weight_of_cell c cells)
cell_within (c ∷ cells) (suc p) = omega (arith, sum_by-cons weight_of_cell c cells, cell_within cells p)

text_weight : (c : Cell) → length (text_of_cell c) ≡ weight_of_cell c
text_weight cell.Same = refl
text_weight cell.Null = refl
text_weight (cell.Text t) = refl

key_weight : (p : Shape) (cells : List Cell) → length (key_of p cells) ≤ sum_by weight_of_cell cells
key_weight p cells = omega (arith, text_weight (cell_at cells p.key), cell_within cells p.key)

keyed_step : (p : Shape) (ks : List KeyedRow) (event : Event) → IsLightStep event (row_made p (state.Command ks) event) → EachKey LightKey ks
    → EachKey LightKey (keyed_after p ks event)
keyed_step p ks Clear step light = tt
keyed_step p ks (Update cells) step light = by_test (deletes p cells) step.row_weight
  where
    by_test : (v : Bool) → IsSmall (cond v None (Some (row_with p (row_at (key_of p cells) ks) cells)))
        → EachKey LightKey
        (cond v (without (key_of p cells) ks) (with_row (key_of p cells) (row_with p (row_at (key_of p cells) ks) cells) ks))
    by_test true small = each_without LightKey (key_of p cells) ks light
    by_test false small =
        each_with LightKey (key_of p cells) (row_with p (row_at (key_of p cells) ks) cells) ks
        (omega (arith, key_weight p cells, step.event_weight), small) light

keyed_after_all-append : (p : Shape) (ks : List KeyedRow) (xs ys : List Entry)
    → keyed_after_all p ks (xs ++ ys) ≡ keyed_after_all p (keyed_after_all p ks xs) ys
keyed_after_all-append p ks [] ys = refl
keyed_after_all-append p ks (x ∷ xs) ys = keyed_after_all-append p (keyed_after p ks x.event) xs ys

keyed_from : (p : Shape) (before es : List Entry) (i : ℕ) → p.kind ≡ kind.Command → EachFollows p before es
    → EachKey LightKey (keyed_after_all p [] before) → EachKey LightKey (keyed_after_all p (keyed_after_all p [] before) (take i es))
keyed_from p before es zero command each light = light
keyed_from p before [] (suc i) command each light = light
keyed_from p before (e ∷ es) (suc i) command each light =
    let ks : List KeyedRow = keyed_after_all p [] before in
    let whole : take (length before) before ≡ before = take_all (length before) before (omega arith) in
    let at : state_at p before (length before) ≡ state.Command ks =
    ap (λ k. state_in k p before (length before)) command ∙ ap (λ xs. state.Command (keyed_after_all p [] xs)) whole in
    let step = light_step p (state.Command ks) e.event (ap (λ s. push_refusal p s e.event) (sym at) ∙ (each.0).admitted) in
    let one : keyed_after_all p [] (before ++ e ∷ []) ≡ keyed_after p ks e.event = keyed_after_all-append p [] before (e ∷ []) in
    subst (λ xs. EachKey LightKey (keyed_after_all p xs (take i es))) one
    (keyed_from p (before ++ e ∷ []) es i command each.1 (subst (EachKey LightKey) (sym one) (keyed_step p ks e.event step light)))

keyed_light : (p : Shape) (h : List Entry) (i : ℕ) → p.kind ≡ kind.Command → IsHistory p h → EachKey LightKey (keyed p h i)
keyed_light p h i command is = keyed_from p [] h i command is.each tt

-- the keys that have a turn

abbrev ShortKey : List ℕ → Type 0
ShortKey key = length key ≤ MOST_WEIGHT

touched_short : (s : Slot) (queue : List (List ℕ)) (n : ℕ) (key : List ℕ) → ShortKey key → Each ShortKey queue → Each ShortKey (queue_touched s queue n key)
touched_short s queue n key short light = by_test (nat_lt (key_cursor s.key_cursors s.cursor key) n && not (has_key queue key))
  where
    by_test : (v : Bool) → Each ShortKey (cond v (queue ++ key ∷ []) queue)
    by_test true = each_append ShortKey queue (key ∷ []) light (short, tt)
    by_test false = light

queue_short : (s : Slot) (queue : List (List ℕ)) (n : ℕ) (event : Event) → weight_of_event event ≤ MOST_WEIGHT → Each ShortKey queue
    → Each ShortKey (queue_after s queue n event)
queue_short s queue n (Update cells) few light =
    touched_short s queue n (key_of s.plan.shape cells) (omega (arith, key_weight s.plan.shape cells)) light
queue_short s queue n Clear few light = light

queue_from_short : (s : Slot) (queue : List (List ℕ)) (n : ℕ) (es : List Entry) → Each LightEntry es → Each ShortKey queue
    → Each ShortKey (queue_from s queue n es)
queue_from_short s queue n [] few light = light
queue_from_short s queue n (e ∷ es) few light =
    queue_from_short s (queue_after s queue (n + 1) e.event) (n + 1) es few.1 (queue_short s queue (n + 1) e.event few.0 light)

keys_short : (ks : List KeyedRow) → EachKey LightKey ks → Each ShortKey (map (λ k. k.key) ks)
keys_short [] light = tt
keys_short (k ∷ ks) light = ((light.0).0, keys_short ks light.1)

owed_short : (h : List Entry) (s : Slot) → s.plan.shape.kind ≡ kind.Command → IsHistory s.plan.shape h → Each ShortKey (owed_keys h s)
owed_short h s command is = by_test (is_some (last_clear h s.cursor s.last))
  where
    by_test : (v : Bool) → Each ShortKey (cond v [] (last_of s.owed (map (λ (k : KeyedRow). k.key) (keyed s.plan.shape h s.plan.base))))
    by_test true = tt
    by_test false =
        each_drop ShortKey (length (map (λ (k : KeyedRow). k.key) (keyed s.plan.shape h s.plan.base)) - s.owed)
        (map (λ (k : KeyedRow). k.key) (keyed s.plan.shape h s.plan.base))
        (keys_short (keyed s.plan.shape h s.plan.base) (keyed_light s.plan.shape h s.plan.base command is))

command_queue_short : (h : List Entry) (s : Slot) → s.plan.shape.kind ≡ kind.Command → IsHistory s.plan.shape h → Each ShortKey (command_queue h s)
command_queue_short h s command is =
    queue_from_short s (owed_keys h s) (clear_or h s.cursor s.last) (between h (clear_or h s.cursor s.last) s.last)
    (light_between s.plan.shape h (clear_or h s.cursor s.last) s.last is) (owed_short h s command is)

-- the cuts of each mode

light_row : (places : List ℕ) → IsNarrow places → (row : Option (List Value)) → IsSmall row → IsLightRow places row
light_row places narrow None small = tt
light_row places narrow (Some row) small = omega (arith, row_within places narrow.once row)

known : (places : List ℕ) (x t : Taken) → Some x ≡ Some t → IsLight places x → IsLight places t
known places x t e light =
    let same : x ≡ t = cc in
    subst (IsLight places) same light

merge_light : (h : List Entry) (s : Slot) (places : List ℕ) (t : Taken) → s.plan.shape.kind ≡ kind.Merge → IsHistory s.plan.shape h → IsNarrow places
    → merge_cut h s ≡ Some t → IsLight places t
merge_light h s places t merge is narrow e =
    let row : List Value = merged s.plan.shape.fields h (next_cursor s) in
    let cells : List Cell = flagged_cells (flags_to h s (next_cursor s)) row in
    subst (IsLight places) (sym (merge_cut_is h s t e).taken)
    (omega (
      arith,
      cells_within places narrow.once cells,
      flagged_weight (flags_to h s (next_cursor s)) row,
      merged_weight s.plan.shape h (next_cursor s) merge is,
    ))

own_light : (places : List ℕ) → IsNarrow places → (u : OwnRow) → LightOwn u → IsLight places (row_taken u)
own_light places narrow u light = light_row places narrow (Some u.row) light

raw_light : (h : List Entry) (s : Slot) (places : List ℕ) (t : Taken) → IsHistory s.plan.shape h → IsNarrow places → raw_cut h s ≡ Some t → IsLight places t
raw_light h s places t is narrow e = by_first (first_of_last RAW_KEEPS (updates_between h s.cursor s.last)) refl e
  where
    by_test : (lost : ℕ) (u : OwnRow) (v : Bool) → lost ≤ GREATEST_NUMBER → LightOwn u → Some (cond v (taken.Lost lost (u.no - 1)) (row_taken u)) ≡ Some t
        → IsLight places t
    by_test lost u true few light e = known places (taken.Lost lost (u.no - 1)) t e few
    by_test lost u false few light e = known places (row_taken u) t e (own_light places narrow u light)

    by_first : (o : Option OwnRow) → first_of_last RAW_KEEPS (updates_between h s.cursor s.last) ≡ o
        → option_map (raw_taken (length (updates_between h s.cursor s.last) - RAW_KEEPS)) o ≡ Some t → IsLight places t
    by_first None at e = no_cut t e
    by_first (Some u) at e =
        let us : List OwnRow = updates_between h s.cursor s.last in
        by_test (length us - RAW_KEEPS) u (nat_lt 0 (length us - RAW_KEEPS)) (omega (arith, updates_count h s.cursor s.last, is.few))
        (each_at LightOwn (length us - RAW_KEEPS) u us at (light_updates s.plan.shape h s.cursor s.last is)) e

clear_light : (s : Slot) (places : List ℕ) (n : ℕ) (t : Taken) → clear_cut s n ≡ Some t → IsLight places t
clear_light s places n t e = by_ends s.ends e
  where
    by_ends : (b : Bool) → cond b (Some taken.EndOfSnapshot) (Some (taken.Cleared n)) ≡ Some t → IsLight places t
    by_ends true e = known places taken.EndOfSnapshot t e tt
    by_ends false e = known places (taken.Cleared n) t e tt

abbrev LightRow : List Value → Type 0
LightRow row = weight_of row ≤ MOST_WEIGHT

rows_light : (us : List OwnRow) → Each LightOwn us → Each LightRow (map (λ u. u.row) us)
rows_light [] light = tt
rows_light (u ∷ us) light = (light.0, rows_light us light.1)

recent_light : (p : Shape) (h : List Entry) (i : ℕ) → IsHistory p h → Each LightRow (recent_rows h i)
recent_light p h i is =
    each_drop LightRow _ (map (λ u. u.row) (updates_between h (clear_or h 0 i) i))
    (rows_light (updates_between h (clear_or h 0 i) i) (light_updates p h (clear_or h 0 i) i is))

distinct_light : (h : List Entry) (s : Slot) (places : List ℕ) (t : Taken) → IsHistory s.plan.shape h → IsNarrow places → distinct_cut h s ≡ Some t
    → IsLight places t
distinct_light h s places t is narrow e = by_clear (last_clear h s.cursor s.last) e
  where
    by_row : (o : Option (List Value)) → first_of_last s.owed (recent_rows h s.plan.base) ≡ o → option_map (λ row. taken.Row row s.plan.base) o ≡ Some t
        → IsLight places t
    by_row None at e = no_cut t e
    by_row (Some r) at e =
        known places (taken.Row r s.plan.base) t e
        (light_row places narrow (Some r)
        (each_at LightRow (length (recent_rows h s.plan.base) - s.owed) r (recent_rows h s.plan.base) at (recent_light s.plan.shape h s.plan.base is)))

    by_update : (o : Option OwnRow) → first_of_last s.plan.size (updates_between h s.cursor s.last) ≡ o → option_map row_taken o ≡ Some t → IsLight places t
    by_update None at e = no_cut t e
    by_update (Some u) at e =
        known places (row_taken u) t e
        (own_light places narrow u
        (each_at LightOwn (length (updates_between h s.cursor s.last) - s.plan.size) u (updates_between h s.cursor s.last) at
        (light_updates s.plan.shape h s.cursor s.last is)))

    by_end : (b : Bool) → cond b (Some taken.EndOfSnapshot) (option_map row_taken (first_of_last s.plan.size (updates_between h s.cursor s.last))) ≡ Some t
        → IsLight places t
    by_end true e = known places taken.EndOfSnapshot t e tt
    by_end false e = by_update (first_of_last s.plan.size (updates_between h s.cursor s.last)) refl e

    by_owed : (b : Bool)
        → cond b (snapshot_cut h s)
        (cond s.ends (Some taken.EndOfSnapshot) (option_map row_taken (first_of_last s.plan.size (updates_between h s.cursor s.last)))) ≡ Some t
        → IsLight places t
    by_owed true e = by_row (first_of_last s.owed (recent_rows h s.plan.base)) refl e
    by_owed false e = by_end s.ends e

    by_clear : (o : Option ℕ) → distinct_cut_by h s o ≡ Some t → IsLight places t
    by_clear (Some n) e = clear_light s places n t e
    by_clear None e = by_owed (nat_lt 0 s.owed) e

keyed_row_small : (key : List ℕ) (ks : List KeyedRow) → EachKey LightKey ks → IsSmall (row_at key ks)
keyed_row_small key [] light = tt
keyed_row_small key (k ∷ ks) light = by_test (text_eq k.key key) (keyed_row_small key ks light.1)
  where
    by_test : (v : Bool) → IsSmall (row_at key ks) → IsSmall (cond v (Some k.row) (row_at key ks))
    by_test true more = (light.0).1
    by_test false more = more

command_light : (h : List Entry) (s : Slot) (places : List ℕ) (t : Taken) → s.plan.shape.kind ≡ kind.Command → IsHistory s.plan.shape h → IsNarrow places
    → command_cut h s ≡ Some t → IsLight places t
command_light h s places t command is narrow e = by_clear (last_clear h s.cursor s.last) e
  where
    by_key : (o : Option (List ℕ)) → slice_get (command_queue h s) 0 ≡ o → option_map (key_taken h s) o ≡ Some t → IsLight places t
    by_key None at e = no_cut t e
    by_key (Some k) at e =
        known places (key_taken h s k) t e (
          each_at ShortKey 0 k (command_queue h s) at (command_queue_short h s command is),
          light_row places narrow (row_at k (keyed s.plan.shape h s.last))
              (keyed_row_small k (keyed s.plan.shape h s.last) (keyed_light s.plan.shape h s.last command is)),
        )

    by_end : (b : Bool) → cond b (Some taken.EndOfSnapshot) (option_map (key_taken h s) (slice_get (command_queue h s) 0)) ≡ Some t → IsLight places t
    by_end true e = known places taken.EndOfSnapshot t e tt
    by_end false e = by_key (slice_get (command_queue h s) 0) refl e

    by_clear : (o : Option ℕ) → command_cut_by h s o ≡ Some t → IsLight places t
    by_clear (Some n) e = clear_light s places n t e
    by_clear None e = by_end (s.ends && (s.owed == 0)) e

merge_kind : (k : Kind) → is_mode_of mode.Merge k ≡ true → k ≡ kind.Merge
merge_kind kind.Merge is = refl
merge_kind kind.Distinct is = cc
merge_kind kind.Command is = cc

command_kind : (k : Kind) → is_mode_of mode.Command k ≡ true → k ≡ kind.Command
command_kind kind.Merge is = cc
command_kind kind.Distinct is = cc
command_kind kind.Command is = refl

-- the next cut of a slot is light, at the places of a schema that shows each field once
pub cut_is_light : (p : Shape) (h : List Entry) (s : Slot) (places : List ℕ) (t : Taken) → IsHistory p h → s.plan.shape ≡ p
    → is_mode_of s.plan.mode p.kind ≡ true → IsNarrow places → cut h s ≡ Some t → IsLight places t
cut_is_light p h s places t history shape allowed narrow e =
    by_mode s.plan.mode (subst (λ q. IsHistory q h) (sym shape) history) (subst (λ q. is_mode_of s.plan.mode q.kind ≡ true) (sym shape) allowed) e
  where
    by_mode : (m : Mode) → IsHistory s.plan.shape h → is_mode_of m s.plan.shape.kind ≡ true → cut_of m h s ≡ Some t → IsLight places t
    by_mode mode.Merge is may e = merge_light h s places t (merge_kind s.plan.shape.kind may) is narrow e
    by_mode mode.Raw is may e = raw_light h s places t is narrow e
    by_mode mode.Distinct is may e = distinct_light h s places t is narrow e
    by_mode mode.Command is may e = command_light h s places t (command_kind s.plan.shape.kind may) is narrow e
