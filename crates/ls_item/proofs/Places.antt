-- The order of texts by their bytes, and the places of keys in it.
use Rattle.std.proofs.Common.{◌≡◌, ℕ, ◌<◌, ◌≤◌, List, [], ◌∷◌, length, drop, get_or, set, slice_get, refl, sym, ap}
use Rattle.std.proofs.Common.{subst, arith, zero, suc, Bool, true, false, cond, None, Some, option_map}
use Rattle.std.specs.List.{insert, remove}
use Rattle.std.specs.List.Sorted.{IsPartitionedBy, IsPartitionPoint}
use Rattle.std.proofs.lemmas.Bool.{eq-eqb}
use Rattle.std.proofs.lemmas.List.{drop_all}
use Rattle.std.proofs.lemmas.Bool.Decides.{nat_tests}
use Rattle.ls_value.specs.Values.{text_eq}
use Rattle.ls_value.specs.declared.row.Value.{Value}
use Rattle.ls_value.proofs.Rows.{text_eq_true, text_eq_same}
use Rattle.ls_event.specs.declared.snapshot.KeyedRow.{KeyedRow}
use Rattle.ls_event.specs.Keyed.{is_before, row_at, with_row, without}
use Rattle.ls_item.specs.Keys.{AllBehind, IsOrdered, index_in, has_key}

-- a text that has ended stands before one that goes on
before_more : (b : List ℕ) (i : ℕ) → i < length b → is_before [] (drop i b) ≡ true
before_more [] i more = absurd (omega (arith, more))
before_more (y ∷ b) zero more = refl
before_more (y ∷ b) (suc i) more = before_more b i (omega (arith, more))

pub before_at_end : (a b : List ℕ) (i : ℕ) → length a ≤ i → i < length b → is_before (drop i a) (drop i b) ≡ true
before_at_end a b i ended more = rw (drop_all i a ended) (before_more b i more)

-- no text stands before itself
before_same : (a : List ℕ) → is_before a a ≡ false
before_same [] = refl
before_same (x ∷ a) = rw (eq-eqb x x refl) (before_same a)

before_trans : (a b c : List ℕ) → is_before a b ≡ true → is_before b c ≡ true → is_before a c ≡ true
before_trans a b [] p q = cc
before_trans a [] (z ∷ c) p q = cc
before_trans [] (y ∷ b) (z ∷ c) p q = refl
before_trans (x ∷ a) (y ∷ b) (z ∷ c) p q = grind (arith, nat_tests, before_trans a b c)

before_total : (a b : List ℕ) → is_before a b ≡ false → text_eq a b ≡ false → is_before b a ≡ true
before_total [] [] p q = cc
before_total [] (y ∷ b) p q = cc
before_total (x ∷ a) [] p q = refl
before_total (x ∷ a) (y ∷ b) p q = grind (arith, nat_tests, before_total a b)

before_not_back : (a b : List ℕ) → is_before a b ≡ true → is_before b a ≡ false
before_not_back a b p = by_test (is_before b a) refl
  where
    by_test : (v : Bool) → is_before b a ≡ v → v ≡ false
    by_test false t = refl
    by_test true t =
        absurd (let e : is_before a a ≡ true = before_trans a b a p t in let
        f : is_before a a ≡ false = before_same a in cc)

-- what stands before a text is another
before_differs : (a b : List ℕ) → is_before a b ≡ true → text_eq a b ≡ false
before_differs a b p = by_test (text_eq a b) refl
  where
    by_test : (v : Bool) → text_eq a b ≡ v → v ≡ false
    by_test false t = refl
    by_test true t =
        absurd (let e : is_before a a ≡ true = subst (λ (x : List ℕ). is_before a x ≡ true) (sym (text_eq_true a b t))
        p in let f : is_before a a ≡ false = before_same a in cc)

behind_differs : (a b : List ℕ) → is_before a b ≡ true → text_eq b a ≡ false
behind_differs a b p = by_test (text_eq b a) refl
  where
    by_test : (v : Bool) → text_eq b a ≡ v → v ≡ false
    by_test false t = refl
    by_test true t =
        absurd (let e : is_before a a ≡ true = subst (λ (x : List ℕ). is_before a x ≡ true) (text_eq_true b a t) p in
        let f : is_before a a ≡ false = before_same a in cc)

-- what is behind a key is behind each before it
behind_trans : (a b : List ℕ) (ks : List KeyedRow) → is_before a b ≡ true → AllBehind b ks → AllBehind a ks
behind_trans a b [] p all = tt
behind_trans a b (k ∷ ks) p all = (before_trans a b k.key p all.0, behind_trans a b ks p all.1)

behind_at : (a : List ℕ) (ks : List KeyedRow) → AllBehind a ks → (j : ℕ) (d : KeyedRow) → j < length ks
    → is_before a (get_or ks j d).key ≡ true
behind_at a [] all j d within = absurd (omega (arith, within))
behind_at a (k ∷ ks) all zero d within = all.0
behind_at a (k ∷ ks) all (suc j) d within = behind_at a ks all.1 j d (omega (arith, within))

-- the keys before a key come first
pub parted : (key : List ℕ) (ks : List KeyedRow) → IsOrdered ks
    → IsPartitionedBy (λ (k : KeyedRow). is_before k.key key) ks
parted key [] o i j d le within h = absurd (omega (arith, within))
parted key (k ∷ ks) o zero zero d le within h = h
parted key (k ∷ ks) o zero (suc j) d le within h = before_trans k.key (get_or ks j d).key key
    (behind_at k.key ks o.0 j d (omega (arith, within))) h
parted key (k ∷ ks) o (suc i) zero d le within h = absurd (omega (arith, le))
parted key (k ∷ ks) o (suc i) (suc j) d le within h = parted key ks o.1 i j d (omega (arith, le))
    (omega (arith, within)) h

-- and they are as many as stand before its place
pub point_place : (key : List ℕ) (ks : List KeyedRow) (i : ℕ) → i ≤ length ks
    → IsPartitionPoint (λ (k : KeyedRow). is_before k.key key ≡ true) (λ (k : KeyedRow). is_before k.key key ≡ false) ks
    i → i ≡ index_in key ks
point_place key [] i bound point = omega (arith, bound)
point_place key (k ∷ ks) zero bound point = let e : is_before k.key key ≡ false =
    point.1 0 k (omega arith) (omega arith) in rw e refl
point_place key (k ∷ ks) (suc i) bound point =
    let e : is_before k.key key ≡ true = point.0 0 k (omega arith) (omega arith) in
    let rest : i ≡ index_in key ks = point_place key ks i (omega (arith, bound)) (
      (λ j d low high. point.0 (suc j) d (omega arith) (omega (arith, high))),
      (λ j d low high. point.1 (suc j) d (omega (arith, low)) (omega (arith, high))),
    ) in
    rw e (ap (λ n. suc n) rest)

-- the key of the first is behind a key, so all are
all_behind : (key : List ℕ) (k : KeyedRow) (ks : List KeyedRow) → IsOrdered (k ∷ ks) → is_before k.key key ≡ false
    → text_eq k.key key ≡ false → AllBehind key ks
all_behind key k ks o p q = behind_trans key k.key ks (before_total k.key key p q) o.0

behind_row : (key : List ℕ) (ks : List KeyedRow) → AllBehind key ks → row_at key ks ≡ None
behind_row key [] all = refl
behind_row key (k ∷ ks) all = rw (behind_differs key k.key all.0) (behind_row key ks all.1)

behind_without : (key : List ℕ) (ks : List KeyedRow) → AllBehind key ks → without key ks ≡ ks
behind_without key [] all = refl
behind_without key (k ∷ ks) all = rw (behind_differs key k.key all.0) (ap (λ xs. k ∷ xs) (behind_without key ks all.1))

-- the row that stands at a key's place
pub row_found : (key : List ℕ) (ks : List KeyedRow) → IsOrdered ks → has_key key (slice_get ks (index_in key ks)) ≡ true
    → row_at key ks ≡ option_map (λ (k : KeyedRow). k.row) (slice_get ks (index_in key ks))
row_found key [] o h = refl
row_found key (k ∷ ks) o h = by_test (is_before k.key key) refl (row_found key ks o.1) h
  where
    by_test : (v : Bool) → is_before k.key key ≡ v
        → (has_key key (slice_get ks (index_in key ks)) ≡ true
        → row_at key ks ≡ option_map (λ (x : KeyedRow). x.row) (slice_get ks (index_in key ks)))
        → has_key key (slice_get (k ∷ ks) (cond v (suc (index_in key ks)) 0)) ≡ true
        → cond (text_eq k.key key) (Some k.row) (row_at key ks)
        ≡ option_map (λ (x : KeyedRow). x.row) (slice_get (k ∷ ks) (cond v (suc (index_in key ks)) 0))
    by_test true t rest h = rw (before_differs k.key key t) (rest h)
    by_test false t rest h = rw h refl

pub row_absent : (key : List ℕ) (ks : List KeyedRow) → IsOrdered ks
    → has_key key (slice_get ks (index_in key ks)) ≡ false → row_at key ks ≡ None
row_absent key [] o h = refl
row_absent key (k ∷ ks) o h = by_test (is_before k.key key) refl (row_absent key ks o.1) h
  where
    by_test : (v : Bool) → is_before k.key key ≡ v
        → (has_key key (slice_get ks (index_in key ks)) ≡ false → row_at key ks ≡ None)
        → has_key key (slice_get (k ∷ ks) (cond v (suc (index_in key ks)) 0)) ≡ false
        → cond (text_eq k.key key) (Some k.row) (row_at key ks) ≡ None
    by_test true t rest h = rw (before_differs k.key key t) (rest h)
    by_test false t rest h = rw h (behind_row key ks (all_behind key k ks o t h))

-- a row is written at its key's place, and a new key goes there
pub with_found : (key : List ℕ) (row : List Value) (ks : List KeyedRow)
    → has_key key (slice_get ks (index_in key ks)) ≡ true → with_row key row ks
    ≡ set ks (index_in key ks) (record { key = key; row = row })
with_found key row [] h = cc
with_found key row (k ∷ ks) h = by_test (is_before k.key key) refl (with_found key row ks) h
  where
    at : KeyedRow
    at = record { key = key; row = row }

    by_test : (v : Bool) → is_before k.key key ≡ v
        → (has_key key (slice_get ks (index_in key ks)) ≡ true → with_row key row ks ≡ set ks (index_in key ks) at)
        → has_key key (slice_get (k ∷ ks) (cond v (suc (index_in key ks)) 0)) ≡ true
        → cond (text_eq k.key key) (at ∷ ks) (cond (is_before key k.key) (at ∷ k ∷ ks) (k ∷ with_row key row ks))
        ≡ set (k ∷ ks) (cond v (suc (index_in key ks)) 0) at
    by_test true t rest h = rw (before_differs k.key key t, before_not_back k.key key t) (ap (λ xs. k ∷ xs) (rest h))
    by_test false t rest h = rw h refl

pub with_absent : (key : List ℕ) (row : List Value) (ks : List KeyedRow)
    → has_key key (slice_get ks (index_in key ks)) ≡ false → with_row key row ks
    ≡ insert ks (index_in key ks) (record { key = key; row = row })
with_absent key row [] h = refl
with_absent key row (k ∷ ks) h = by_test (is_before k.key key) refl (with_absent key row ks) h
  where
    at : KeyedRow
    at = record { key = key; row = row }

    by_test : (v : Bool) → is_before k.key key ≡ v
        → (has_key key (slice_get ks (index_in key ks)) ≡ false → with_row key row ks ≡ insert ks (index_in key ks) at)
        → has_key key (slice_get (k ∷ ks) (cond v (suc (index_in key ks)) 0)) ≡ false
        → cond (text_eq k.key key) (at ∷ ks) (cond (is_before key k.key) (at ∷ k ∷ ks) (k ∷ with_row key row ks))
        ≡ insert (k ∷ ks) (cond v (suc (index_in key ks)) 0) at
    by_test true t rest h = rw (before_differs k.key key t, before_not_back k.key key t) (ap (λ xs. k ∷ xs) (rest h))
    by_test false t rest h = rw (h, before_total k.key key t h) refl

-- what is left without the key at its place
pub without_found : (key : List ℕ) (ks : List KeyedRow) → has_key key (slice_get ks (index_in key ks)) ≡ true
    → without key ks ≡ remove ks (index_in key ks)
without_found key [] h = cc
without_found key (k ∷ ks) h = by_test (is_before k.key key) refl (without_found key ks) h
  where
    by_test : (v : Bool) → is_before k.key key ≡ v
        → (has_key key (slice_get ks (index_in key ks)) ≡ true → without key ks ≡ remove ks (index_in key ks))
        → has_key key (slice_get (k ∷ ks) (cond v (suc (index_in key ks)) 0)) ≡ true
        → cond (text_eq k.key key) ks (k ∷ without key ks) ≡ remove (k ∷ ks) (cond v (suc (index_in key ks)) 0)
    by_test true t rest h = rw (before_differs k.key key t) (ap (λ xs. k ∷ xs) (rest h))
    by_test false t rest h = rw h refl

pub without_absent : (key : List ℕ) (ks : List KeyedRow) → IsOrdered ks
    → has_key key (slice_get ks (index_in key ks)) ≡ false → without key ks ≡ ks
without_absent key [] o h = refl
without_absent key (k ∷ ks) o h = by_test (is_before k.key key) refl (without_absent key ks o.1) h
  where
    by_test : (v : Bool) → is_before k.key key ≡ v
        → (has_key key (slice_get ks (index_in key ks)) ≡ false → without key ks ≡ ks)
        → has_key key (slice_get (k ∷ ks) (cond v (suc (index_in key ks)) 0)) ≡ false
        → cond (text_eq k.key key) ks (k ∷ without key ks) ≡ k ∷ ks
    by_test true t rest h = rw (before_differs k.key key t) (ap (λ xs. k ∷ xs) (rest h))
    by_test false t rest h = rw h (ap (λ xs. k ∷ xs) (behind_without key ks (all_behind key k ks o t h)))

-- the row that a key has once it is written, and none once it is removed
pub row_at-with : (key : List ℕ) (row : List Value) (ks : List KeyedRow) → row_at key (with_row key row ks) ≡ Some row
row_at-with key row [] = rw (text_eq_same key) refl
row_at-with key row (k ∷ ks) = by_test (text_eq k.key key) refl (is_before key k.key) (row_at-with key row ks)
  where
    at : KeyedRow
    at = record { key = key; row = row }

    by_test : (v : Bool) → text_eq k.key key ≡ v → (w : Bool) → row_at key (with_row key row ks) ≡ Some row
        → row_at key (cond v (at ∷ ks) (cond w (at ∷ k ∷ ks) (k ∷ with_row key row ks))) ≡ Some row
    by_test true t w rest = rw (text_eq_same key) refl
    by_test false t true rest = rw (text_eq_same key) refl
    by_test false t false rest = rw t rest

pub row_at-without : (key : List ℕ) (ks : List KeyedRow) → IsOrdered ks → row_at key (without key ks) ≡ None
row_at-without key [] o = refl
row_at-without key (k ∷ ks) o = by_test (text_eq k.key key) refl (row_at-without key ks o.1)
  where
    by_test : (v : Bool) → text_eq k.key key ≡ v → row_at key (without key ks) ≡ None
        → row_at key (cond v ks (k ∷ without key ks)) ≡ None
    by_test true t rest = behind_row key ks (subst (λ (x : List ℕ). AllBehind x ks) (text_eq_true k.key key t) o.0)
    by_test false t rest = rw t rest

-- the order stays
behind_with : (a key : List ℕ) (row : List Value) (ks : List KeyedRow) → is_before a key ≡ true → AllBehind a ks
    → AllBehind a (with_row key row ks)
behind_with a key row [] p all = (p, tt)
behind_with a key row (k ∷ ks) p all = by_test (text_eq k.key key) (is_before key k.key)
    (behind_with a key row ks p all.1)
  where
    at : KeyedRow
    at = record { key = key; row = row }

    by_test : (v w : Bool) → AllBehind a (with_row key row ks)
        → AllBehind a (cond v (at ∷ ks) (cond w (at ∷ k ∷ ks) (k ∷ with_row key row ks)))
    by_test true w rest = (p, all.1)
    by_test false true rest = (p, all)
    by_test false false rest = (all.0, rest)

pub ordered_with : (key : List ℕ) (row : List Value) (ks : List KeyedRow) → IsOrdered ks
    → IsOrdered (with_row key row ks)
ordered_with key row [] o = (tt, tt)
ordered_with key row (k ∷ ks) o = by_test (text_eq k.key key) refl (is_before key k.key) refl
    (ordered_with key row ks o.1)
  where
    at : KeyedRow
    at = record { key = key; row = row }

    by_test : (v : Bool) → text_eq k.key key ≡ v → (w : Bool) → is_before key k.key ≡ w
        → IsOrdered (with_row key row ks)
        → IsOrdered (cond v (at ∷ ks) (cond w (at ∷ k ∷ ks) (k ∷ with_row key row ks)))
    by_test true t w s rest = (subst (λ (x : List ℕ). AllBehind x ks) (text_eq_true k.key key t) o.0, o.1)
    by_test false t true s rest = ((s, behind_trans key k.key ks s o.0), o)
    by_test false t false s rest = (behind_with k.key key row ks (before_total key k.key s (other t)) o.0, rest)
      where
        other : text_eq k.key key ≡ false → text_eq key k.key ≡ false
        other t = by_eq (text_eq key k.key) refl
          where
            by_eq : (u : Bool) → text_eq key k.key ≡ u → u ≡ false
            by_eq false e = refl
            by_eq true e = absurd (let f : text_eq k.key key ≡ true =
                subst (λ (x : List ℕ). text_eq x key ≡ true) (text_eq_true key k.key e)
                (text_eq_same key) in cc)

behind_less : (a key : List ℕ) (ks : List KeyedRow) → AllBehind a ks → AllBehind a (without key ks)
behind_less a key [] all = tt
behind_less a key (k ∷ ks) all = by_test (text_eq k.key key) (behind_less a key ks all.1)
  where
    by_test : (v : Bool) → AllBehind a (without key ks) → AllBehind a (cond v ks (k ∷ without key ks))
    by_test true rest = all.1
    by_test false rest = (all.0, rest)

pub ordered_without : (key : List ℕ) (ks : List KeyedRow) → IsOrdered ks → IsOrdered (without key ks)
ordered_without key [] o = tt
ordered_without key (k ∷ ks) o = by_test (text_eq k.key key) (ordered_without key ks o.1)
  where
    by_test : (v : Bool) → IsOrdered (without key ks) → IsOrdered (cond v ks (k ∷ without key ks))
    by_test true rest = o.1
    by_test false rest = (behind_less k.key key ks o.0, rest)
