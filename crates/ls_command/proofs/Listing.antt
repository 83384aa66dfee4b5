-- The links of a queue, read by the values of its nodes.
use Rattle.std.proofs.Common.{◌≡◌, ◌==◌, ℕ, suc, zero, ◌<◌, List, [], ◌∷◌, length, map, refl, sym, ◌∙◌, ap, arith, cond, Bool, true, false, ◌||◌}
use Rattle.std.proofs.Common.{Option, Some, None, subst, is_some, IsSome}
use Rattle.std.specs.Prelude.{slice_get}
use Rattle.std.proofs.lemmas.Bool.{eqb-true, eq-eqb}
use Rattle.std.proofs.lemmas.List.{length-map}
use Rattle.std.proofs.lemmas.Option.{get_or_from_slice_get, slice_get_within, slice_get-get_or}
use Rattle.ls_event.specs.declared.event.Entry.{Entry}
use Rattle.ls_event.specs.Slots.{Slot}
use Rattle.ls_event.specs.Updates.{last_clear}
use Rattle.ls_event.specs.CommandCuts.{command_queue}
use Rattle.ls_links.specs.Chains.{Link, Chains, In, list_of}
use Rattle.ls_links.proofs.Members.{nothing_there, differs, map_agree_in, map_in}
use Rattle.ls_command.specs.declared.kept.Kept.{Kept}
use Rattle.ls_command.specs.declared.kept.Queued.{Queued}
use Rattle.ls_command.specs.Command.{Command, StandsCommand, TellsQueue, nodes_of, key_valued, key_of_value}
use Rattle.ls_command.specs.Entries.{IsKept, LinkedKeys, linked_keys, HasValues, AreOnce, has_value, entry_at, queued_at}
use Rattle.ls_command.proofs.Placing.{maps_both, unlike, in_value, once_values, value_within, keys_by_value, key_at, no_links}

-- by values of which no two are the same each key is read
reads : (vs : List ℕ) (qs : List Queued) → AreOnce vs → length vs ≡ length qs → map (key_valued vs qs) vs ≡ map (λ q. Some q.key) qs
reads [] [] once long = refl
reads [] (q ∷ qs) once long = absurd (omega (arith, long))
reads (v ∷ vs) [] once long = absurd (omega (arith, long))
reads (v ∷ vs) (q ∷ qs) once long =
    ap (λ (t : Bool). cond t (Some q.key) (key_valued vs qs v) ∷ map (key_valued (v ∷ vs) (q ∷ qs)) vs) (eq-eqb v v refl)
    ∙ ap (λ (ks : List (Option (List ℕ))). Some q.key ∷ ks)
    (map_agree_in (key_valued (v ∷ vs) (q ∷ qs)) (key_valued vs qs) vs
    (λ w m. ap (λ (t : Bool). cond t (Some q.key) (key_valued vs qs w)) (other w m)) ∙ reads vs qs once.1 (omega (arith, long)))
  where
    other : (w : ℕ) → In vs w → (v == w) ≡ false
    other w m = unlike v w (λ e. differs (has_value vs v) (in_value vs v (subst (In vs) (sym e) m)) once.0)

pub links_read : (q : LinkedKeys) (c : Chains) → HasValues q c
    → map (λ l. key_valued q.values q.keys l.value) (nodes_of c.lists) ≡ map (λ k. Some k.key) q.keys
links_read q c h =
    sym (maps_both (key_valued q.values q.keys) (λ l. l.value) (nodes_of c.lists)) ∙ ap (map (key_valued q.values q.keys)) h.values
    ∙ reads q.values q.keys h.once h.each

-- the links of what is kept
pub has_values : (es : List (List ℕ × Kept)) (c : Chains) → IsKept es c.lists → HasValues (linked_keys es c.lists) c
has_values es c kept =
    record {
      lists = kept.lists;
      values = refl;
      once = once_values es c.lists kept;
      each = length-map (nodes_of c.lists) _ ∙ sym (length-map (nodes_of c.lists) (queued_at es));
      owed = refl;
    }

-- the key of a value is that of the entry at this place
value_told : (f : ℕ → Queued) (v : ℕ) (vs : List ℕ) → has_value vs v ≡ true → key_valued vs (map f vs) v ≡ Some (f v).key
value_told f v [] h = absurd (differs false h refl)
value_told f v (w ∷ vs) h = by_test (w == v) refl h (value_told f v vs)
  where
    by_test : (t : Bool) → (w == v) ≡ t → (t || has_value vs v) ≡ true → (has_value vs v ≡ true → key_valued vs (map f vs) v ≡ Some (f v).key)
        → cond t (Some (f w).key) (key_valued vs (map f vs) v) ≡ Some (f v).key
    by_test true e h rec = ap (λ (n : ℕ). Some (f n).key) (eqb-true w v e)
    by_test false e h rec = rec h

value_lacks : (qs : List Queued) (v : ℕ) (vs : List ℕ) → (In vs v → ⊥) → key_valued vs qs v ≡ None
value_lacks qs v [] h = refl
value_lacks [] v (w ∷ vs) h = refl
value_lacks (q ∷ qs) v (w ∷ vs) h = by_test (w == v) refl (value_lacks qs v vs (λ m. h (suc m.0, m.1)))
  where
    by_test : (t : Bool) → (w == v) ≡ t → key_valued vs qs v ≡ None → cond t (Some q.key) (key_valued vs qs v) ≡ None
    by_test true e rest = absurd (h (zero, ap (λ (n : ℕ). Some n) (eqb-true w v e)))
    by_test false e rest = rest

pub key_there : (es : List (List ℕ × Kept)) (ls : List (List Link)) → IsKept es ls → (v : ℕ) (x : List ℕ × Kept) → slice_get es v ≡ Some x
    → Some x.0 ≡ key_valued (linked_keys es ls).values (linked_keys es ls).keys v
key_there es ls kept v x h =
    let w : v < length es = slice_get_within es v x h in
    let m = kept.told v w in
    sym (ap (λ (qs : List Queued). key_valued (linked_keys es ls).values qs v) (keys_by_value es (nodes_of ls))
    ∙ value_told (key_at es) v (linked_keys es ls).values
    (in_value (linked_keys es ls).values v (m.0, map_in (λ l. l.value) (nodes_of ls) m.0 _ m.1))
    ∙ ap (λ (y : List ℕ × Kept). Some y.0) (get_or_from_slice_get es v x _ h))

pub no_key_there : (es : List (List ℕ × Kept)) (ls : List (List Link)) → IsKept es ls → (v : ℕ) → slice_get es v ≡ None
    → None ≡ key_valued (linked_keys es ls).values (linked_keys es ls).keys v
no_key_there es ls kept v h = sym (value_lacks (linked_keys es ls).keys v (linked_keys es ls).values past)
  where
    past : In (linked_keys es ls).values v → ⊥
    past m =
        let w : v < length es = value_within es ls kept v m in
        nothing_there (entry_at es v) (slice_get es v) h (slice_get-get_or es v _ w)

-- what they say of the queue of a slot
pub tells_queue : (b : Command) (q : LinkedKeys) (c : Chains) (s : Slot) (h : List Entry) → b.queue ≡ q.keys → b.values ≡ q.values → b.listed ≡ q.owed
    → HasValues q c → StandsCommand b s h → TellsQueue b c s h
tells_queue b q c s h keys values listed has st = record { keys = read; owed = owed; cleared = cleared }
  where
    read : map (λ l. key_of_value b l.value) (nodes_of c.lists) ≡ map (λ k. Some k) (command_queue h s)
    read =
        ap (λ (vs : List ℕ). map (λ l. key_valued vs b.queue l.value) (nodes_of c.lists)) values
        ∙ ap (λ (qs : List Queued). map (λ l. key_valued q.values qs l.value) (nodes_of c.lists)) keys ∙ links_read q c has
        ∙ ap (map (λ (k : Queued). Some k.key)) (sym keys) ∙ sym (maps_both (λ (k : List ℕ). Some k) (λ (k : Queued). k.key) b.queue)
        ∙ ap (map (λ (k : List ℕ). Some k)) st.keys

    owed : length (list_of c 0) ≡ cond (is_some (last_clear h s.cursor s.last)) 0 s.owed
    owed = has.owed ∙ sym listed ∙ st.listed

    cleared : IsSome (last_clear h s.cursor s.last) → list_of c 0 ≡ []
    cleared some = no_links (list_of c 0) (owed ∙ ap (λ (t : Bool). cond t 0 s.owed) some)
