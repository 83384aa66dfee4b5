-- A queue whose entries have one with another row.
use Rattle.std.proofs.Common.{◌≡◌, ◌==◌, ◌&&◌, ℕ, suc, zero, ◌<◌, List, [], ◌∷◌, length, map, get_or, refl, sym, ◌∙◌, ap, arith, cond, Bool, true, false, ◌||◌}
use Rattle.std.proofs.Common.{Option, Some, None, subst, nat_eq, nat_lt, slice_get, position, ◌++◌}
use Rattle.std.specs.Cmp.Lexicographic.{pointwise}
use Rattle.std.specs.List.{IsDistinct}
use Rattle.std.specs.Map.{keys_of as entry_keys, values_of as entry_values}
use Rattle.std.proofs.lemmas.Bool.{eqb-true, eq-eqb, ltb-true, ltb-false}
use Rattle.std.proofs.lemmas.List.Quantifiers.{position-Some}
use Rattle.std.proofs.lemmas.Map.Keys.{apart_from_distinct}
use Rattle.indexmap.specs.Layout.{set_value_at, length-set_value_at}
use Rattle.ls_value.specs.declared.row.Value.{Value}
use Rattle.ls_value.specs.Values.{text_eq}
use Rattle.ls_value.proofs.Rows.{text_eq_true}
use Rattle.ls_event.specs.CommandCuts.{has_key}
use Rattle.ls_links.specs.Chains.{Link, In}
use Rattle.ls_links.proofs.Members.{nothing_there, differs, map_agree_in, map_in}
use Rattle.ls_command.specs.declared.kept.Kept.{Kept}
use Rattle.ls_command.specs.declared.kept.Queued.{Queued}
use Rattle.ls_event.specs.declared.snapshot.KeyedRow.{KeyedRow}
use Rattle.ls_command.specs.Command.{nodes_of, keys_of, with_queued, is_touched, values_with, owed_key}
use Rattle.ls_command.specs.Entries.{IsKept, IsOwn, linked_keys, renewed, has_value, AreOnce, entry_at, queued_of}
use Rattle.ls_command.specs.Entries.{keys_touched, keys_owed}
use Rattle.ls_command.proofs.Keys.{text_eq-sym}
use Rattle.ls_command.proofs.Placing.{in_value, value_within, once_values, key_at, keys_by_value, same_keys, all_first}

-- two ways to compare texts
pub same_bytes : (xs ys : List ℕ) → pointwise nat_eq xs ys ≡ text_eq xs ys
same_bytes [] [] = refl
same_bytes [] (y ∷ ys) = refl
same_bytes (x ∷ xs) [] = refl
same_bytes (x ∷ xs) (y ∷ ys) = ap (λ v. (x == y) && v) (same_bytes xs ys)

-- the entries after one has another value
pub renewed_there : (es : List (List ℕ × Kept)) (i : ℕ) (w : Kept) → i < length es → entry_at (set_value_at es i w) i ≡ ((entry_at es i).0, w)
renewed_there [] i w l = absurd (omega (arith, l))
renewed_there (e ∷ es) zero w l = refl
renewed_there (e ∷ es) (suc i) w l = renewed_there es i w (omega (arith, l))

pub renewed_elsewhere : (es : List (List ℕ × Kept)) (i v : ℕ) (w : Kept) → (v ≡ i → ⊥) → entry_at (set_value_at es i w) v ≡ entry_at es v
renewed_elsewhere [] i v w ne = refl
renewed_elsewhere (e ∷ es) zero zero w ne = absurd (ne refl)
renewed_elsewhere (e ∷ es) zero (suc v) w ne = refl
renewed_elsewhere (e ∷ es) (suc i) zero w ne = refl
renewed_elsewhere (e ∷ es) (suc i) (suc v) w ne = renewed_elsewhere es i v w (λ q. ne (ap suc q))

-- the key at a place
key_there : (es : List (List ℕ × Kept)) (v : ℕ) → get_or (entry_keys es) v [] ≡ (entry_at es v).0
key_there [] v = refl
key_there (e ∷ es) zero = refl
key_there (e ∷ es) (suc v) = key_there es v

keys_length : (es : List (List ℕ × Kept)) → length (entry_keys es) ≡ length es
keys_length [] = refl
keys_length (e ∷ es) = ap suc (keys_length es)

-- the value at a place
pub value_there : (es : List (List ℕ × Kept)) (i : ℕ) (w : Kept) → slice_get (entry_values es) i ≡ Some w → (entry_at es i).1 ≡ w
value_there [] i w h = absurd (nothing_there w None refl h)
value_there (e ∷ es) zero w h = cc
value_there (e ∷ es) (suc i) w h = value_there es i w h

-- a key's place: the entry there has it, and no other one
pub record IsPlaceOf (es : List (List ℕ × Kept)) (key : List ℕ) (i : ℕ) : Type 0 where
  pub within : i < length es
  pub same : text_eq (entry_at es i).0 key ≡ true
  pub other : (v : ℕ) → v < length es → (v == i) ≡ false → text_eq (entry_at es v).0 key ≡ false

pub place_of : (es : List (List ℕ × Kept)) (key : List ℕ) (i : ℕ) → IsDistinct (pointwise nat_eq) (entry_keys es)
    → position (pointwise nat_eq key) (entry_keys es) ≡ Some i → IsPlaceOf es key i
place_of es key i distinct at = record { within = within; same = text_eq-sym (entry_at es i).0 key ∙ same; other = other }
  where
    found : (i < length (entry_keys es)) × (pointwise nat_eq key (get_or (entry_keys es) i []) ≡ true)
        × ((k : ℕ) → k < i → pointwise nat_eq key (get_or (entry_keys es) k []) ≡ false)
    found = position-Some (pointwise nat_eq key) (entry_keys es) i [] at

    within : i < length es
    within = omega (arith, found.0, keys_length es)

    same : text_eq key (entry_at es i).0 ≡ true
    same = sym (same_bytes key (entry_at es i).0) ∙ ap (pointwise nat_eq key) (sym (key_there es i)) ∙ found.1

    before : (v : ℕ) → v < i → text_eq (entry_at es v).0 key ≡ false
    before v l = text_eq-sym (entry_at es v).0 key ∙ sym (same_bytes key (entry_at es v).0) ∙ ap (pointwise nat_eq key) (sym (key_there es v)) ∙ found.2 v l

    behind : (v : ℕ) → i < v → v < length es → text_eq (entry_at es v).0 key ≡ false
    behind v l w =
        let a : pointwise nat_eq (get_or (entry_keys es) i []) (get_or (entry_keys es) v []) ≡ false =
        apart_from_distinct (pointwise nat_eq) (entry_keys es) i v [] distinct l (omega (arith, w, keys_length es)) in
        let b : text_eq (entry_at es i).0 (entry_at es v).0 ≡ false =
        sym (same_bytes (entry_at es i).0 (entry_at es v).0)
        ∙ ap (λ (k : List ℕ). pointwise nat_eq k (entry_at es v).0) (sym (key_there es i))
        ∙ ap (pointwise nat_eq (get_or (entry_keys es) i [])) (sym (key_there es v)) ∙ a in
        text_eq-sym (entry_at es v).0 key ∙ ap (λ (k : List ℕ). text_eq k (entry_at es v).0) (text_eq_true key (entry_at es i).0 same) ∙ b

    other : (v : ℕ) → v < length es → (v == i) ≡ false → text_eq (entry_at es v).0 key ≡ false
    other v w ne = by_order (nat_lt v i) refl
      where
        by_order : (t : Bool) → nat_lt v i ≡ t → text_eq (entry_at es v).0 key ≡ false
        by_order true e = before v (ltb-true v i e)
        by_order false e = behind v (omega (arith, ltb-false v i e, differ)) w
          where
            differ : v ≡ i → ⊥
            differ q = differs (v == i) (eq-eqb v i q) ne

-- a queue by values: one of them is that of a key
record Tells (f : ℕ → Queued) (key : List ℕ) (i : ℕ) (vs : List ℕ) : Type 0 where
  pub there : has_value vs i ≡ true
  pub once : AreOnce vs
  pub same : text_eq (f i).key key ≡ true
  pub other : (v : ℕ) → In vs v → (v == i) ≡ false → text_eq (f v).key key ≡ false

unlike_among : (vs : List ℕ) (v i : ℕ) → has_value vs v ≡ false → v ≡ i → (w : ℕ) → In vs w → (w == i) ≡ false
unlike_among vs v i none s w m = by_test (w == i) refl
  where
    by_test : (t : Bool) → (w == i) ≡ t → (w == i) ≡ false
    by_test false e = e
    by_test true e =
        let x : w ≡ v = eqb-true w i e ∙ sym s in
        absurd (differs (has_value vs v) (in_value vs v (subst (In vs) x m)) none)

tells_rest : (f : ℕ → Queued) (key : List ℕ) (i v : ℕ) (vs : List ℕ) → Tells f key i (v ∷ vs) → has_value vs i ≡ true → Tells f key i vs
tells_rest f key i v vs t there = record { there = there; once = t.once.1; same = t.same; other = λ w m e. t.other w (suc m.0, m.1) e }

tells_first : (f : ℕ → Queued) (key : List ℕ) (i v : ℕ) (vs : List ℕ) → Tells f key i (v ∷ vs) → (v == i) ≡ true → text_eq (f v).key key ≡ true
tells_first f key i v vs t e = ap (λ (n : ℕ). text_eq (f n).key key) (eqb-true v i e) ∙ t.same

tells_none : (f : ℕ → Queued) (key : List ℕ) (i : ℕ) → Tells f key i [] → ⊥
tells_none f key i t = differs false t.there refl

queue_renewed : (f g : ℕ → Queued) (new : Queued) (i : ℕ) (vs : List ℕ) → Tells f new.key i vs → g i ≡ new
    → ((v : ℕ) → In vs v → (v == i) ≡ false → g v ≡ f v) → map g vs ≡ with_queued (map f vs) new
queue_renewed f g new i [] t at alike = absurd (tells_none f new.key i t)
queue_renewed f g new i (v ∷ vs) t at alike =
    by_test (v == i) refl t.there
    (λ there. queue_renewed f g new i vs (tells_rest f new.key i v vs t there) at (λ w m e. alike w (suc m.0, m.1) e))
  where
    by_test : (b : Bool) → (v == i) ≡ b → (b || has_value vs i) ≡ true → (has_value vs i ≡ true → map g vs ≡ with_queued (map f vs) new)
        → g v ∷ map g vs ≡ cond (text_eq (f v).key new.key) (new ∷ map f vs) (f v ∷ with_queued (map f vs) new)
    by_test true e there rec =
        ap (λ (q : Queued). q ∷ map g vs) (ap g (eqb-true v i e) ∙ at)
        ∙ ap (λ (qs : List Queued). new ∷ qs)
        (map_agree_in g f vs (λ w m. alike w (suc m.0, m.1) (unlike_among vs v i t.once.0 (eqb-true v i e) w m)))
        ∙ sym (ap (λ (b : Bool). cond b (new ∷ map f vs) (f v ∷ with_queued (map f vs) new)) (tells_first f new.key i v vs t e))
    by_test false e there rec =
        ap (λ (q : Queued). q ∷ map g vs) (alike v (zero, refl) e) ∙ ap (λ (qs : List Queued). f v ∷ qs) (rec there)
        ∙ sym (ap (λ (b : Bool). cond b (new ∷ map f vs) (f v ∷ with_queued (map f vs) new)) (t.other v (zero, refl) e))

key_told : (f : ℕ → Queued) (key : List ℕ) (i : ℕ) (vs : List ℕ) → Tells f key i vs
    → (has_key (keys_of (map f vs)) key ≡ true) × (is_touched (map f vs) key ≡ (f i).touched)
key_told f key i [] t = absurd (tells_none f key i t)
key_told f key i (v ∷ vs) t = by_test (v == i) refl t.there (λ there. key_told f key i vs (tells_rest f key i v vs t there))
  where
    by_test : (b : Bool) → (v == i) ≡ b → (b || has_value vs i) ≡ true
        → (has_value vs i ≡ true → (has_key (keys_of (map f vs)) key ≡ true) × (is_touched (map f vs) key ≡ (f i).touched))
        → ((text_eq (f v).key key || has_key (keys_of (map f vs)) key) ≡ true)
        × (cond (text_eq (f v).key key) (f v).touched (is_touched (map f vs) key) ≡ (f i).touched)
    by_test true e there rec =
        let k = tells_first f key i v vs t e in (
          ap (λ (b : Bool). b || has_key (keys_of (map f vs)) key) k,
          ap (λ (b : Bool). cond b (f v).touched (is_touched (map f vs) key)) k ∙ ap (λ (n : ℕ). (f n).touched) (eqb-true v i e),
        )
    by_test false e there rec =
        let k = t.other v (zero, refl) e in
        let r = rec there in (
          ap (λ (b : Bool). b || has_key (keys_of (map f vs)) key) k ∙ r.0,
          ap (λ (b : Bool). cond b (f v).touched (is_touched (map f vs) key)) k ∙ r.1,
        )

-- what is kept of a queue, after an entry has another row
abbrev Values : List (List Link) → List ℕ
Values ls = map (λ l. l.value) (nodes_of ls)

tells : (es : List (List ℕ × Kept)) (ls : List (List Link)) (key : List ℕ) (i : ℕ) → IsKept es ls → IsPlaceOf es key i
    → Tells (key_at es) key i (Values ls)
tells es ls key i kept at =
    let told = kept.told i at.within in
    record {
      there = in_value (Values ls) i (told.0, map_in (λ l. l.value) (nodes_of ls) told.0 _ told.1);
      once = once_values es ls kept;
      same = at.same;
      other = λ v m e. at.other v (value_within es ls kept v m) e;
    }

-- what a key that stands in the queue is
pub stands_there : (es : List (List ℕ × Kept)) (ls : List (List Link)) (key : List ℕ) (i : ℕ) → IsKept es ls → IsPlaceOf es key i
    → (has_key (keys_of (linked_keys es ls).keys) key ≡ true) × (is_touched (linked_keys es ls).keys key ≡ (entry_at es i).1.touched)
stands_there es ls key i kept at =
    subst (λ (qs : List Queued). (has_key (keys_of qs) key ≡ true) × (is_touched qs key ≡ (entry_at es i).1.touched))
    (sym (keys_by_value es (nodes_of ls))) (key_told (key_at es) key i (Values ls) (tells es ls key i kept at))

pub renewed_kept : (es : List (List ℕ × Kept)) (ls : List (List Link)) (i : ℕ) (row : Option (List Value)) (touched : Bool) → IsKept es ls
    → i < length es → IsKept (renewed i row touched es) ls
renewed_kept es ls i row touched kept within =
    record {
      lists = kept.lists;
      apart = kept.apart;
      own = λ l m. (
          let o : IsOwn es l = kept.own l m in
          record { within = omega (arith, o.within, long); node = nodes l.value ∙ o.node }
          );
      told = λ v w. subst (λ (n : ℕ). In (nodes_of ls) (record { node = n; value = v })) (sym (nodes v)) (kept.told v (omega (arith, w, long)));
      count = kept.count ∙ sym long;
    }
  where
    w : Kept
    w = record { node = (entry_at es i).1.node; row = row; touched = touched }

    long : length (set_value_at es i w) ≡ length es
    long = length-set_value_at es i w

    nodes : (v : ℕ) → (entry_at (set_value_at es i w) v).1.node ≡ (entry_at es v).1.node
    nodes v = by_test (v == i) refl
      where
        by_test : (t : Bool) → (v == i) ≡ t → (entry_at (set_value_at es i w) v).1.node ≡ (entry_at es v).1.node
        by_test true e =
            subst (λ (n : ℕ). (entry_at (set_value_at es i w) n).1.node ≡ (entry_at es n).1.node) (sym (eqb-true v i e))
            (ap (λ (x : List ℕ × Kept). x.1.node) (renewed_there es i w within))
        by_test false e =
            ap (λ (x : List ℕ × Kept). x.1.node) (renewed_elsewhere es i v w (λ q. differs (v == i) (eq-eqb v i q) e))

-- the queue has the key with its row where it stood, and the values stay
pub renewed_keys : (es : List (List ℕ × Kept)) (ls : List (List Link)) (key : List ℕ) (i : ℕ) (row : Option (List Value)) (touched : Bool)
    → IsKept es ls → IsPlaceOf es key i
    → (linked_keys (renewed i row touched es) ls).keys ≡ with_queued (linked_keys es ls).keys (record { key = key; row = row; touched = touched })
renewed_keys es ls key i row touched kept at =
    keys_by_value (renewed i row touched es) (nodes_of ls)
    ∙ queue_renewed (key_at es) (key_at (renewed i row touched es)) new i (Values ls) (tells es ls key i kept at) there
    (λ v m e. ap queued_of (renewed_elsewhere es i v w (λ q. differs (v == i) (eq-eqb v i q) e)))
    ∙ ap (λ (qs : List Queued). with_queued qs new) (sym (keys_by_value es (nodes_of ls)))
  where
    new : Queued
    new = record { key = key; row = row; touched = touched }

    w : Kept
    w = record { node = (entry_at es i).1.node; row = row; touched = touched }

    there : key_at (renewed i row touched es) i ≡ new
    there =
        ap queued_of (renewed_there es i w at.within)
        ∙ ap (λ (k : List ℕ). record { key = k; row = row; touched = touched }) (text_eq_true (entry_at es i).0 key at.same)

pub renewed_values : (es : List (List ℕ × Kept)) (ls : List (List Link)) (key : List ℕ) (i : ℕ) → IsKept es ls → IsPlaceOf es key i
    → (linked_keys es ls).values ≡ values_with (linked_keys es ls).keys (linked_keys es ls).values key
renewed_values es ls key i kept at =
    sym (ap (λ (t : Bool). cond t (linked_keys es ls).values ((linked_keys es ls).values ++ length (linked_keys es ls).keys ∷ []))
    (stands_there es ls key i kept at).0)

-- the queue after a key that stands there was touched
pub renewed_touched : (es : List (List ℕ × Kept)) (ls : List (List Link)) (key : List ℕ) (i : ℕ) (row : Option (List Value)) → IsKept es ls
    → IsPlaceOf es key i → linked_keys (renewed i row true es) ls ≡ keys_touched (linked_keys es ls) key row
renewed_touched es ls key i row kept at =
    same_keys _ _ _ _ _ _ (renewed_keys es ls key i row true kept at) (renewed_values es ls key i kept at) refl

-- and after a key of a snapshot came again, where all keys are owed
pub renewed_owed : (es : List (List ℕ × Kept)) (ls : List (List Link)) (new : KeyedRow) (i : ℕ) → IsKept es ls → get_or ls 1 [] ≡ []
    → IsPlaceOf es new.key i → linked_keys (renewed i (Some new.row) false es) ls ≡ keys_owed (linked_keys es ls) new
renewed_owed es ls new i kept none at =
    let keys : (linked_keys (renewed i (Some new.row) false es) ls).keys ≡ with_queued (linked_keys es ls).keys (owed_key new) =
    renewed_keys es ls new.key i (Some new.row) false kept at in
    same_keys _ _ _ _ _ _ keys (renewed_values es ls new.key i kept at)
    (all_first (renewed i (Some new.row) false es) ls none ∙ ap (λ (qs : List Queued). length qs) keys)
