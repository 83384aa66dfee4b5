-- A queue with one more key.
use Rattle.std.proofs.Common.{◌≡◌, ◌==◌, ℕ, suc, zero, ◌+◌, ◌<◌, List, [], ◌∷◌, ◌++◌, length, map, set, get_or, refl, sym, ◌∙◌, ap, arith, cond, Bool, true, false, ◌||◌}
use Rattle.std.proofs.Common.{Option, Some, None, is_some, subst, nat_eq, inl, inr}
use Rattle.std.specs.Prelude.{slice_get, ◌⊎◌}
use Rattle.std.specs.Cmp.Lexicographic.{pointwise}
use Rattle.std.specs.Map.{lookup}
use Rattle.std.proofs.lemmas.List.{append-nil, append_assoc, length_push, length-map, length-set, map-append, get_or_append_left, get_or_push}
use Rattle.ls_value.specs.Values.{text_eq}
use Rattle.ls_event.specs.CommandCuts.{has_key}
use Rattle.ls_links.specs.Chains.{Link, In}
use Rattle.std.proofs.lemmas.Bool.{eqb-true, eq-eqb}
use Rattle.ls_links.proofs.Members.{nothing_there, differs, map_agree_in, append_in_left, in_push, in_map, last_at}
use Rattle.ls_command.specs.declared.kept.Kept.{Kept}
use Rattle.ls_command.specs.declared.kept.Queued.{Queued}
use Rattle.ls_value.specs.declared.row.Value.{Value}
use Rattle.ls_event.specs.declared.snapshot.KeyedRow.{KeyedRow}
use Rattle.ls_command.specs.Command.{nodes_of, keys_of, with_queued, is_touched, values_with, owed_key}
use Rattle.ls_command.specs.Entries.{IsKept, IsOwn, IsAdded, linked_keys, entry_at, queued_of, queued_at, keys_touched, keys_owed}
use Rattle.ls_command.proofs.Placing.{same_keys, all_first}
use Rattle.ls_command.proofs.Keys.{text_eq-sym}
use Rattle.ls_command.proofs.Owed.{goes_last}
use Rattle.ls_command.proofs.Renewing.{same_bytes}

-- what isn't found
pub not_found : (o : Option Kept) → false ≡ is_some o → o ≡ None
not_found None h = refl
not_found (Some w) h = cc

-- of a key that is no entry's the queue has none
absent_there : (es : List (List ℕ × Kept)) (key : List ℕ) → lookup (pointwise nat_eq key) es ≡ None → (v : ℕ) → v < length es
    → text_eq (entry_at es v).0 key ≡ false
absent_there [] key none v w = absurd (omega (arith, w))
absent_there (e ∷ es) key none v w = by_test (pointwise nat_eq key e.0) refl none v w (absent_there es key)
  where
    by_test : (t : Bool) → pointwise nat_eq key e.0 ≡ t → cond t (Some e.1) (lookup (pointwise nat_eq key) es) ≡ None → (v : ℕ)
        → v < suc (length es) → (lookup (pointwise nat_eq key) es ≡ None → (v : ℕ) → v < length es → text_eq (entry_at es v).0 key ≡ false)
        → text_eq (entry_at (e ∷ es) v).0 key ≡ false
    by_test true t none v w rec = absurd (nothing_there e.1 (Some e.1) none refl)
    by_test false t none zero w rec = text_eq-sym e.0 key ∙ sym (same_bytes key e.0) ∙ t
    by_test false t none (suc v) w rec = rec none v (omega (arith, w))

none_told : (qs : List Queued) (key : List ℕ) → ((q : Queued) → In qs q → text_eq q.key key ≡ false)
    → (has_key (keys_of qs) key ≡ false) × (is_touched qs key ≡ false)
none_told [] key none = (refl, refl)
none_told (q ∷ qs) key none =
    let k : text_eq q.key key ≡ false = none q (zero, refl) in
    let r = none_told qs key (λ x m. none x (suc m.0, m.1)) in
    (ap (λ (t : Bool). t || has_key (keys_of qs) key) k ∙ r.0, ap (λ (t : Bool). cond t q.touched (is_touched qs key)) k ∙ r.1)

keys_absent : (es : List (List ℕ × Kept)) (ls : List (List Link)) (key : List ℕ) → IsKept es ls → lookup (pointwise nat_eq key) es ≡ None
    → (q : Queued) → In (linked_keys es ls).keys q → text_eq q.key key ≡ false
keys_absent es ls key kept none q m =
    let l = in_map (queued_at es) (nodes_of ls) m.0 q m.1 in
    ap (λ (x : Queued). text_eq x.key key) (sym l.2) ∙ absent_there es key none l.0.value (kept.own l.0 (m.0, l.1)).within

-- what a key that has no entry is to the queue
pub stands_nowhere : (es : List (List ℕ × Kept)) (ls : List (List Link)) (key : List ℕ) → IsKept es ls
    → lookup (pointwise nat_eq key) es ≡ None
    → (has_key (keys_of (linked_keys es ls).keys) key ≡ false) × (is_touched (linked_keys es ls).keys key ≡ false)
stands_nowhere es ls key kept none = none_told (linked_keys es ls).keys key (keys_absent es ls key kept none)

-- the nodes with one more: after those of list 1, or of list 0 where list 1 is empty
abbrev pub MayAdd : ℕ → List (List Link) → Type 0
MayAdd list ls = (list ≡ 1) ⊎ ((list ≡ 0) × (get_or ls 1 [] ≡ []))

nodes_added : (list : ℕ) (l : Link) (ls : List (List Link)) → length ls ≡ 2 → MayAdd list ls
    → nodes_of (set ls list (get_or ls list [] ++ l ∷ [])) ≡ nodes_of ls ++ l ∷ []
nodes_added list l [] two may = absurd (omega (arith, two))
nodes_added list l (a ∷ []) two may = absurd (omega (arith, two))
nodes_added list l (a ∷ b ∷ c ∷ ls) two may = absurd (omega (arith, two))
nodes_added list l (a ∷ b ∷ []) two (inl is) =
    ap (λ (n : ℕ). nodes_of (set (a ∷ b ∷ []) n (get_or (a ∷ b ∷ []) n [] ++ l ∷ []))) is ∙ sym (append_assoc a b (l ∷ []))
nodes_added list l (a ∷ b ∷ []) two (inr may) =
    ap (λ (n : ℕ). nodes_of (set (a ∷ b ∷ []) n (get_or (a ∷ b ∷ []) n [] ++ l ∷ []))) may.0
    ∙ ap (λ (ls : List Link). (a ++ l ∷ []) ++ ls) may.1 ∙ append-nil (a ++ l ∷ []) ∙ ap (λ (ls : List Link). ls ++ l ∷ []) (sym (append-nil a))
    ∙ ap (λ (ls : List Link). (a ++ ls) ++ l ∷ []) (sym may.1)

-- what is kept and seen after a key was added
pub record Adds (list : ℕ) (new : Queued) (es : List (List ℕ × Kept)) (ls : List (List Link)) (es' : List (List ℕ × Kept))
    (ls' : List (List Link)) : Type 0 where
  pub kept : IsKept es' ls'
  pub keys : (linked_keys es' ls').keys ≡ with_queued (linked_keys es ls).keys new
  pub values : (linked_keys es' ls').values ≡ values_with (linked_keys es ls).keys (linked_keys es ls).values new.key

pub adds : (list : ℕ) (new : Queued) (es : List (List ℕ × Kept)) (ls : List (List Link)) (es' : List (List ℕ × Kept)) (ls' : List (List Link))
    → IsKept es ls → MayAdd list ls → lookup (pointwise nat_eq new.key) es ≡ None → IsAdded list new es ls es' ls' → Adds list new es ls es' ls'
adds list new es ls es' ls' kept may none a =
    record {
      kept = record { lists = ap length a.lists ∙ length-set ls list _ ∙ kept.lists; apart = a.apart; own = own; told = told; count = count };
      keys = keys;
      values = values;
    }
  where
    e : List ℕ × Kept
    e = (new.key, record { node = a.node; row = new.row; touched = new.touched })

    l : Link
    l = record { node = a.node; value = length es }

    ns : List Link
    ns = nodes_of ls

    nodes : nodes_of ls' ≡ ns ++ l ∷ []
    nodes = ap nodes_of a.lists ∙ nodes_added list l ls kept.lists may

    long : length es' ≡ length es + 1
    long = ap length a.entries ∙ length_push es e

    old : (v : ℕ) → v < length es → entry_at es' v ≡ entry_at es v
    old v w = ap (λ (xs : List (List ℕ × Kept)). entry_at xs v) a.entries ∙ get_or_append_left es (e ∷ []) _ v w

    last : entry_at es' (length es) ≡ e
    last = ap (λ (xs : List (List ℕ × Kept)). entry_at xs (length es)) a.entries ∙ get_or_push es e _ (length es) refl

    own : (m : Link) → In (nodes_of ls') m → IsOwn es' m
    own m i = by_case (in_push ns l i.0 m (subst (λ (xs : List Link). slice_get xs i.0 ≡ Some m) nodes i.1))
      where
        by_case : (slice_get ns i.0 ≡ Some m) ⊎ ((i.0 ≡ length ns) × (l ≡ m)) → IsOwn es' m
        by_case (inl h) =
            let o : IsOwn es m = kept.own m (i.0, h) in
            record { within = omega (arith, o.within, long); node = ap (λ (x : List ℕ × Kept). x.1.node) (old m.value o.within) ∙ o.node }
        by_case (inr h) =
            subst (IsOwn es') h.1 (record { within = omega (arith, long); node = ap (λ (x : List ℕ × Kept). x.1.node) last })

    told : (v : ℕ) → v < length es' → In (nodes_of ls') (record { node = (entry_at es' v).1.node; value = v })
    told v w = by_test (v == length es) refl
      where
        by_test : (t : Bool) → (v == length es) ≡ t → In (nodes_of ls') (record { node = (entry_at es' v).1.node; value = v })
        by_test true q =
            let s : v ≡ length es = eqb-true v (length es) q in
            subst (λ (n : ℕ). In (nodes_of ls') (record { node = (entry_at es' n).1.node; value = n })) (sym s) (
              length ns,
              subst (λ (xs : List Link). slice_get xs (length ns) ≡ Some (record { node = (entry_at es' (length es)).1.node; value = length es }))
                  (sym nodes)
                  (last_at ns l ∙ ap (λ (x : List ℕ × Kept). Some (record { node = x.1.node; value = length es })) (sym last)),
            )
        by_test false q =
            let b : v < length es = omega (arith, w, long, (λ (s : v ≡ length es). differs (v == length es) (eq-eqb v (length es) s) q)) in
            let m = kept.told v b in (
              m.0,
              subst (λ (xs : List Link). slice_get xs m.0 ≡ Some (record { node = (entry_at es' v).1.node; value = v })) (sym nodes)
                  (append_in_left ns (l ∷ []) m.0 _ m.1 ∙ ap (λ (x : List ℕ × Kept). Some (record { node = x.1.node; value = v })) (sym (old v b))),
            )

    count : length (nodes_of ls') ≡ length es'
    count = ap length nodes ∙ length_push ns l ∙ ap (λ (n : ℕ). n + 1) kept.count ∙ sym long

    same : (m : Link) → In ns m → queued_at es' m ≡ queued_at es m
    same m i = ap queued_of (old m.value (kept.own m i).within)

    keys : (linked_keys es' ls').keys ≡ with_queued (linked_keys es ls).keys new
    keys =
        ap (map (queued_at es')) nodes ∙ map-append (queued_at es') ns (l ∷ [])
        ∙ ap (λ (qs : List Queued). qs ++ queued_at es' l ∷ []) (map_agree_in (queued_at es') (queued_at es) ns same)
        ∙ ap (λ (x : List ℕ × Kept). map (queued_at es) ns ++ queued_of x ∷ []) last
        ∙ sym (goes_last (linked_keys es ls).keys new (stands_nowhere es ls new.key kept none).0)

    values : (linked_keys es' ls').values ≡ values_with (linked_keys es ls).keys (linked_keys es ls).values new.key
    values =
        ap (map (λ m. m.value)) nodes ∙ map-append (λ m. m.value) ns (l ∷ [])
        ∙ ap (λ (n : ℕ). map (λ m. m.value) ns ++ n ∷ []) (sym kept.count ∙ sym (length-map ns (queued_at es)))
        ∙ sym (ap (λ (t : Bool). cond t (linked_keys es ls).values ((linked_keys es ls).values ++ length (linked_keys es ls).keys ∷ []))
        (stands_nowhere es ls new.key kept none).0)

-- how many of the keys list 0 has
first_set : (l : Link) (ls : List (List Link)) → length ls ≡ 2 → length (get_or (set ls 1 (get_or ls 1 [] ++ l ∷ [])) 0 []) ≡ length (get_or ls 0 [])
first_set l [] two = absurd (omega (arith, two))
first_set l (a ∷ []) two = absurd (omega (arith, two))
first_set l (a ∷ b ∷ c ∷ ls) two = absurd (omega (arith, two))
first_set l (a ∷ b ∷ []) two = refl

pub touched_owed : (new : Queued) (es : List (List ℕ × Kept)) (ls : List (List Link)) (es' : List (List ℕ × Kept)) (ls' : List (List Link))
    → IsKept es ls → IsAdded 1 new es ls es' ls' → (linked_keys es' ls').owed ≡ (linked_keys es ls).owed
touched_owed new es ls es' ls' kept a = ap (λ (xs : List (List Link)). length (get_or xs 0 [])) a.lists ∙ first_set (record { node = a.node; value = length es }) ls kept.lists

-- list 1 is as before where list 0 has one more
second_set : (l : Link) (ls : List (List Link)) → length ls ≡ 2 → get_or (set ls 0 (get_or ls 0 [] ++ l ∷ [])) 1 [] ≡ get_or ls 1 []
second_set l [] two = absurd (omega (arith, two))
second_set l (a ∷ []) two = absurd (omega (arith, two))
second_set l (a ∷ b ∷ c ∷ ls) two = absurd (omega (arith, two))
second_set l (a ∷ b ∷ []) two = refl

pub owed_second : (new : Queued) (es : List (List ℕ × Kept)) (ls : List (List Link)) (es' : List (List ℕ × Kept)) (ls' : List (List Link))
    → IsKept es ls → IsAdded 0 new es ls es' ls' → get_or ls' 1 [] ≡ get_or ls 1 []
owed_second new es ls es' ls' kept a = ap (λ (xs : List (List Link)). get_or xs 1 []) a.lists ∙ second_set (record { node = a.node; value = length es }) ls kept.lists

-- the queue after a key that doesn't stand there was touched
pub record Touched (key : List ℕ) (row : Option (List Value)) (es : List (List ℕ × Kept)) (ls : List (List Link)) (es' : List (List ℕ × Kept))
    (ls' : List (List Link)) : Type 0 where
  pub kept : IsKept es' ls'
  pub keys : linked_keys es' ls' ≡ keys_touched (linked_keys es ls) key row
  pub touched : is_touched (linked_keys es ls).keys key ≡ false

pub added_touched : (key : List ℕ) (row : Option (List Value)) (es : List (List ℕ × Kept)) (ls : List (List Link)) (es' : List (List ℕ × Kept))
    (ls' : List (List Link)) → IsKept es ls → lookup (pointwise nat_eq key) es ≡ None
    → IsAdded 1 (record { key = key; row = row; touched = true }) es ls es' ls' → Touched key row es ls es' ls'
added_touched key row es ls es' ls' kept none a =
    let x : Adds 1 (record { key = key; row = row; touched = true }) es ls es' ls' =
    adds 1 (record { key = key; row = row; touched = true }) es ls es' ls' kept (inl refl) none a in
    record {
      kept = x.kept;
      keys = same_keys _ _ _ _ _ _ x.keys x.values (touched_owed (record { key = key; row = row; touched = true }) es ls es' ls' kept a);
      touched = (stands_nowhere es ls key kept none).1;
    }

-- and after a key of a snapshot came first
pub record Owes (new : KeyedRow) (es : List (List ℕ × Kept)) (ls : List (List Link)) (es' : List (List ℕ × Kept)) (ls' : List (List Link)) : Type 0 where
  pub kept : IsKept es' ls'
  pub keys : linked_keys es' ls' ≡ keys_owed (linked_keys es ls) new

pub added_owed : (new : KeyedRow) (es : List (List ℕ × Kept)) (ls : List (List Link)) (es' : List (List ℕ × Kept)) (ls' : List (List Link))
    → IsKept es ls → get_or ls 1 [] ≡ [] → lookup (pointwise nat_eq new.key) es ≡ None → IsAdded 0 (owed_key new) es ls es' ls'
    → Owes new es ls es' ls'
added_owed new es ls es' ls' kept first none a =
    let x : Adds 0 (owed_key new) es ls es' ls' = adds 0 (owed_key new) es ls es' ls' kept (inr (refl, first)) none a in
    record {
      kept = x.kept;
      keys = same_keys _ _ _ _ _ _ x.keys x.values
          (all_first es' ls' (owed_second (owed_key new) es ls es' ls' kept a ∙ first) ∙ ap (λ (qs : List Queued). length qs) x.keys);
    }
