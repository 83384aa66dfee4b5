-- The keys of a queue with their rows and marks.
use Rattle.std.proofs.Common.{◌≡◌, ℕ, List, [], ◌∷◌, ◌++◌, map, refl, sym, ◌∙◌, ap, Bool, true, false, ◌||◌, cond, Some, None}
use Rattle.ls_value.specs.declared.row.Value.{Value}
use Rattle.ls_value.specs.declared.row.Cell.{Cell}
use Rattle.ls_value.specs.Values.{text_eq}
use Rattle.ls_value.proofs.Rows.{text_eq_true, text_eq_same}
use Rattle.ls_event.specs.declared.event.Event.TheVariants.{Update}
use Rattle.ls_event.specs.declared.snapshot.KeyedRow.{KeyedRow}
use Rattle.ls_event.specs.Shapes.{Shape}
use Rattle.ls_event.specs.Keyed.{is_before, key_of, deletes, row_at, row_with, with_row, without, keyed_after}
use Rattle.ls_event.specs.CommandCuts.{has_key}
use Rattle.ls_command.specs.declared.kept.Queued.{Queued}
use Rattle.ls_command.specs.Command.{keys_of, with_queued, is_touched, RowsOf, AreMarked, AreDistinct, owed_key}
use Rattle.ls_command.proofs.Keys.{text_eq-sym, or_false}
use Rattle.ls_command.proofs.Turns.{with_key, without_key, has_with, has_without}

-- the keys of a queue with one more
pub keys_queued : (new : Queued) (qs : List Queued) → keys_of (with_queued qs new) ≡ with_key (keys_of qs) new.key
keys_queued new [] = refl
keys_queued new (q ∷ qs) = by_same (text_eq q.key new.key) (has_key (keys_of qs) new.key) refl (keys_queued new qs)
  where
    by_same : (v w : Bool) → text_eq q.key new.key ≡ v → keys_of (with_queued qs new) ≡ cond w (keys_of qs) (keys_of qs ++ new.key ∷ [])
        → keys_of (cond v (new ∷ qs) (q ∷ with_queued qs new)) ≡ cond (v || w) (q.key ∷ keys_of qs) (q.key ∷ keys_of qs ++ new.key ∷ [])
    by_same true w same rest = ap (λ z. z ∷ keys_of qs) (sym (text_eq_true q.key new.key same))
    by_same false true same rest = ap (λ z. q.key ∷ z) rest
    by_same false false same rest = ap (λ z. q.key ∷ z) rest

-- rows of other keys stay
row_with_other : (j k : List ℕ) (row : List Value) (ks : List KeyedRow) → text_eq k j ≡ false → row_at j (with_row k row ks) ≡ row_at j ks
row_with_other j k row [] other = ap (λ v. cond v (Some row) None) other
row_with_other j k row (x ∷ ks) other = by_same (text_eq x.key k) (is_before k x.key) refl (row_with_other j k row ks other)
  where
    by_same : (v w : Bool) → text_eq x.key k ≡ v → row_at j (with_row k row ks) ≡ row_at j ks
        → row_at j (cond v (record { key = k; row = row } ∷ ks) (cond w (record { key = k; row = row } ∷ x ∷ ks) (x ∷ with_row k row ks)))
        ≡ cond (text_eq x.key j) (Some x.row) (row_at j ks)
    by_same true w is rest =
        ap (λ v. cond v (Some row) (row_at j ks)) other ∙ sym (ap (λ v. cond v (Some x.row) (row_at j ks))
        (ap (λ z. text_eq z j) (text_eq_true x.key k is) ∙ other))
    by_same false true is rest = ap (λ v. cond v (Some row) (cond (text_eq x.key j) (Some x.row) (row_at j ks))) other
    by_same false false is rest = ap (λ z. cond (text_eq x.key j) (Some x.row) z) rest

row_without_other : (j k : List ℕ) (ks : List KeyedRow) → text_eq k j ≡ false → row_at j (without k ks) ≡ row_at j ks
row_without_other j k [] other = refl
row_without_other j k (x ∷ ks) other = by_same (text_eq x.key k) refl (row_without_other j k ks other)
  where
    by_same : (v : Bool) → text_eq x.key k ≡ v → row_at j (without k ks) ≡ row_at j ks
        → row_at j (cond v ks (x ∷ without k ks)) ≡ cond (text_eq x.key j) (Some x.row) (row_at j ks)
    by_same true is rest = sym (ap (λ v. cond v (Some x.row) (row_at j ks)) (ap (λ z. text_eq z j) (text_eq_true x.key k is) ∙ other))
    by_same false is rest = ap (λ z. cond (text_eq x.key j) (Some x.row) z) rest

pub other_rows : (p : Shape) (ks : List KeyedRow) (cells : List Cell) (j : List ℕ) → text_eq (key_of p cells) j ≡ false
    → row_at j (keyed_after p ks (Update cells)) ≡ row_at j ks
other_rows p ks cells j other = by_delete (deletes p cells)
  where
    by_delete : (v : Bool) → row_at j (cond v (without (key_of p cells) ks) (with_row (key_of p cells) (row_with p (row_at (key_of p cells) ks) cells) ks))
        ≡ row_at j ks
    by_delete true = row_without_other j (key_of p cells) ks other
    by_delete false = row_with_other j (key_of p cells) (row_with p (row_at (key_of p cells) ks) cells) ks other

-- the rows of a queue with one more key, where the rows of other keys stay
pub rows_queued : (ks after : List KeyedRow) (new : Queued) (qs : List Queued) → ((j : List ℕ) → text_eq new.key j ≡ false → row_at j after ≡ row_at j ks)
    → new.row ≡ row_at new.key after → AreDistinct (keys_of qs) → RowsOf ks qs → RowsOf after (with_queued qs new)
rows_queued ks after new [] others is d rows = (is, tt)
rows_queued ks after new (q ∷ qs) others is d rows = by_same (text_eq q.key new.key) refl (rows_queued ks after new qs others is d.1 rows.1)
  where
    keep : (zs : List Queued) → has_key (keys_of zs) new.key ≡ false → RowsOf ks zs → RowsOf after zs
    keep [] none r = tt
    keep (z ∷ zs) none r = let o = or_false (text_eq z.key new.key) (has_key (keys_of zs) new.key) none in
        (r.0 ∙ sym (others z.key (text_eq-sym new.key z.key ∙ o.0)), keep zs o.1 r.1)

    by_same : (v : Bool) → text_eq q.key new.key ≡ v → RowsOf after (with_queued qs new) → RowsOf after (cond v (new ∷ qs) (q ∷ with_queued qs new))
    by_same true same rest = (is, keep qs (ap (has_key (keys_of qs)) (sym (text_eq_true q.key new.key same)) ∙ d.0) rows.1)
    by_same false other rest = (rows.0 ∙ sym (others q.key (text_eq-sym new.key q.key ∙ other)), rest)

-- the marks of a queue with one more key that was touched
pub marked_queued : (t : List (List ℕ)) (new : Queued) (qs : List Queued) → new.touched ≡ true → AreDistinct (keys_of qs) → AreMarked t qs
    → AreMarked (with_key t new.key) (with_queued qs new)
marked_queued t new [] on d m = (on ∙ sym (has_with t new.key new.key ∙ ap (λ v. v || has_key t new.key) (text_eq_same new.key)), tt)
marked_queued t new (q ∷ qs) on d m = by_same (text_eq q.key new.key) refl (marked_queued t new qs on d.1 m.1)
  where
    keep : (zs : List Queued) → has_key (keys_of zs) new.key ≡ false → AreMarked t zs → AreMarked (with_key t new.key) zs
    keep [] none r = tt
    keep (z ∷ zs) none r =
        let o = or_false (text_eq z.key new.key) (has_key (keys_of zs) new.key) none in
        (r.0 ∙ sym (has_with t new.key z.key ∙ ap (λ v. v || has_key t z.key) (text_eq-sym new.key z.key ∙ o.0)), keep zs o.1 r.1)

    by_same : (v : Bool) → text_eq q.key new.key ≡ v → AreMarked (with_key t new.key) (with_queued qs new)
        → AreMarked (with_key t new.key) (cond v (new ∷ qs) (q ∷ with_queued qs new))
    by_same true same rest = (
      on ∙ sym (has_with t new.key new.key ∙ ap (λ v. v || has_key t new.key) (text_eq_same new.key)),
      keep qs
          (ap (has_key (keys_of qs)) (sym (text_eq_true q.key new.key same)) ∙ d.0) m.1,
    )
    by_same false other rest = (m.0 ∙ sym (has_with t new.key q.key ∙ ap (λ v. v || has_key t q.key) (text_eq-sym new.key q.key ∙ other)), rest)

-- the marks of a queue that a key has left
pub marked_without : (t : List (List ℕ)) (k : List ℕ) (qs : List Queued) → has_key (keys_of qs) k ≡ false → AreMarked t qs → AreMarked (without_key k t) qs
marked_without t k [] none m = tt
marked_without t k (q ∷ qs) none m = let o = or_false (text_eq q.key k) (has_key (keys_of qs) k) none in
    (m.0 ∙ sym (has_without k q.key t o.0), marked_without t k qs o.1 m.1)

-- the mark that is found at a key
pub found_mark : (t : List (List ℕ)) (k : List ℕ) (qs : List Queued) → AreMarked t qs → (has_key (keys_of qs) k ≡ false → has_key t k ≡ false)
    → is_touched qs k ≡ has_key t k
found_mark t k [] m f = sym (f refl)
found_mark t k (q ∷ qs) m f = by_same (text_eq q.key k) refl f (found_mark t k qs m.1)
  where
    by_same : (v : Bool) → text_eq q.key k ≡ v → ((v || has_key (keys_of qs) k) ≡ false → has_key t k ≡ false)
        → ((has_key (keys_of qs) k ≡ false → has_key t k ≡ false) → is_touched qs k ≡ has_key t k)
        → cond v q.touched (is_touched qs k) ≡ has_key t k
    by_same true same f rest = m.0 ∙ ap (has_key t) (text_eq_true q.key k same)
    by_same false other f rest = rest f

-- the keys of a snapshot that are owed
pub keys_owed : (ks : List KeyedRow) → keys_of (map owed_key ks) ≡ map (λ k. k.key) ks
keys_owed [] = refl
keys_owed (k ∷ ks) = ap (λ z. k.key ∷ z) (keys_owed ks)

pub marked_owed : (ks : List KeyedRow) → AreMarked [] (map owed_key ks)
marked_owed [] = tt
marked_owed (k ∷ ks) = (refl, marked_owed ks)

rows_later : (x : KeyedRow) (ks : List KeyedRow) (qs : List Queued) → has_key (keys_of qs) x.key ≡ false → RowsOf ks qs → RowsOf (x ∷ ks) qs
rows_later x ks [] none r = tt
rows_later x ks (q ∷ qs) none r =
    let o = or_false (text_eq q.key x.key) (has_key (keys_of qs) x.key) none in
    (r.0 ∙ sym (ap (λ v. cond v (Some x.row) (row_at q.key ks)) (text_eq-sym x.key q.key ∙ o.0)), rows_later x ks qs o.1 r.1)

pub rows_owed : (ks : List KeyedRow) → AreDistinct (map (λ k. k.key) ks) → RowsOf ks (map owed_key ks)
rows_owed [] d = tt
rows_owed (k ∷ ks) d = (
  sym (ap (λ v. cond v (Some k.row) (row_at k.key ks)) (text_eq_same k.key)),
  rows_later k ks (map owed_key ks)
      (ap (λ z. has_key z k.key) (keys_owed ks) ∙ d.0) (rows_owed ks d.1),
)
