-- Keys among others, and the keys of an item: no key stands twice.
use Rattle.std.proofs.Common.{◌≡◌, ◌==◌, ◌≤◌, ℕ, List, [], ◌∷◌, map, take, refl, sym, ◌∙◌, ap, arith, subst, Bool, true, false, ◌&&◌, ◌||◌, cond, nat_lt}
use Rattle.std.proofs.lemmas.Bool.{ltb-true, ltb-false, eqb-true, eq-eqb}
use Rattle.ls_value.specs.declared.row.Value.{Value}
use Rattle.ls_value.specs.Values.{text_eq}
use Rattle.ls_value.proofs.Rows.{text_eq_true, text_eq_same}
use Rattle.ls_event.specs.declared.event.Event.{Event}
use Rattle.ls_event.specs.declared.event.Event.TheVariants.{Update, Clear}
use Rattle.ls_event.specs.declared.event.Entry.{Entry}
use Rattle.ls_event.specs.declared.snapshot.KeyedRow.{KeyedRow}
use Rattle.ls_event.specs.Shapes.{Shape}
use Rattle.ls_event.specs.Keyed.{is_before, key_of, deletes, row_at, row_with, with_row, without, keyed_after, keyed_after_all, keyed}
use Rattle.ls_event.specs.CommandCuts.{has_key}
use Rattle.ls_event.proofs.Conditions.{below}
use Rattle.ls_command.specs.Command.{AreDistinct}

-- texts are compared either way round
pub text_eq-sym : (xs ys : List ℕ) → text_eq xs ys ≡ text_eq ys xs
text_eq-sym xs ys = by_test (text_eq xs ys) (text_eq ys xs) refl refl
  where
    by_test : (v w : Bool) → text_eq xs ys ≡ v → text_eq ys xs ≡ w → v ≡ w
    by_test true true a b = refl
    by_test false false a b = refl
    by_test true false a b = let e = text_eq_true xs ys a in sym (text_eq_same xs) ∙ ap (λ z. text_eq z xs) e ∙ b
    by_test false true a b = let e = text_eq_true ys xs b in sym (sym (text_eq_same ys) ∙ ap (λ z. text_eq z ys) e ∙ a)

pub or_false : (x y : Bool) → (x || y) ≡ false → (x ≡ false) × (y ≡ false)
or_false true y h = cc
or_false false y h = (refl, h)

-- the order of bytes
before_itself : (xs : List ℕ) → is_before xs xs ≡ false
before_itself [] = refl
before_itself (x ∷ xs) = ap (λ v. cond v (is_before xs xs) (nat_lt x x)) (eq-eqb x x refl) ∙ before_itself xs

pub before_differs : (xs ys : List ℕ) → is_before xs ys ≡ true → text_eq ys xs ≡ false
before_differs xs ys b = by_test (text_eq ys xs) refl
  where
    by_test : (v : Bool) → text_eq ys xs ≡ v → v ≡ false
    by_test false t = refl
    by_test true t = sym (sym (before_itself xs) ∙ ap (is_before xs) (sym (text_eq_true ys xs t)) ∙ b)

-- of two texts that differ one is before the other
one_before : (xs ys : List ℕ) → text_eq xs ys ≡ false → is_before ys xs ≡ false → is_before xs ys ≡ true
one_before [] [] d b = cc
one_before [] (y ∷ ys) d b = refl
one_before (x ∷ xs) [] d b = cc
one_before (x ∷ xs) (y ∷ ys) d b = by_head (x == y) (y == x) refl refl d b (one_before xs ys)
  where
    by_head : (v w : Bool) → (x == y) ≡ v → (y == x) ≡ w → (v && text_eq xs ys) ≡ false → cond w (is_before ys xs) (nat_lt y x) ≡ false
        → (text_eq xs ys ≡ false → is_before ys xs ≡ false → is_before xs ys ≡ true) → cond v (is_before xs ys) (nat_lt x y) ≡ true
    by_head true true e f d b rest = rest d b
    by_head true false e f d b rest = absurd (apart (sym (eq-eqb y x (sym (eqb-true x y e))) ∙ f))
      where
        apart : true ≡ false → ⊥
        apart h = cc
    by_head false w e f d b rest = below x y (omega (arith, less w f b, differ))
      where
        differ : x ≡ y → ⊥
        differ same = apart (sym (eq-eqb x y same) ∙ e)
          where
            apart : true ≡ false → ⊥
            apart h = cc

        less : (w : Bool) → (y == x) ≡ w → cond w (is_before ys xs) (nat_lt y x) ≡ false → x ≤ y
        less true f b = omega (arith, eqb-true y x f)
        less false f b = omega (arith, ltb-false y x b)

before_trans : (xs ys zs : List ℕ) → is_before xs ys ≡ true → is_before ys zs ≡ true → is_before xs zs ≡ true
before_trans xs ys [] a b = b
before_trans [] ys (z ∷ zs) a b = refl
before_trans (x ∷ xs) [] (z ∷ zs) a b = cc
before_trans (x ∷ xs) (y ∷ ys) (z ∷ zs) a b = by_head (x == y) (y == z) refl refl a b (before_trans xs ys zs)
  where
    less : (x y : ℕ) (t v : Bool) → (x == y) ≡ v → cond v t (nat_lt x y) ≡ true → x ≤ y
    less x y t true e a = omega (arith, eqb-true x y e)
    less x y t false e a = omega (arith, ltb-true x y a)

    at_most : (v w : Bool) → (x == y) ≡ v → (y == z) ≡ w → cond v (is_before xs ys) (nat_lt x y) ≡ true → cond w (is_before ys zs) (nat_lt y z) ≡ true
        → (x ≤ y) × (y ≤ z)
    at_most v w e f a b = (less x y (is_before xs ys) v e a, less y z (is_before ys zs) w f b)

    first_less : (n : (x == z) ≡ false) → x ≤ z → nat_lt x z ≡ true
    first_less n le = below x z (omega (arith, le, differ))
      where
        differ : x ≡ z → ⊥
        differ same = apart (sym (eq-eqb x z same) ∙ n)
          where
            apart : true ≡ false → ⊥
            apart h = cc

    by_same : (v w u : Bool) → (x == y) ≡ v → (y == z) ≡ w → (x == z) ≡ u → cond v (is_before xs ys) (nat_lt x y) ≡ true
        → cond w (is_before ys zs) (nat_lt y z) ≡ true
        → (is_before xs ys ≡ true → is_before ys zs ≡ true → is_before xs zs ≡ true) → cond u (is_before xs zs) (nat_lt x z) ≡ true
    by_same v w false e f g a b rest = let m = at_most v w e f a b in first_less g (omega (arith, m.0, m.1))
    by_same true true true e f g a b rest = rest a b
    by_same false w true e f g a b rest = let m = at_most false w e f a b in absurd (omega (arith, ltb-true x y a, m.1, eqb-true x z g))
    by_same true false true e f g a b rest = absurd (omega (arith, ltb-true y z b, eqb-true x y e, eqb-true x z g))

    by_head : (v w : Bool) → (x == y) ≡ v → (y == z) ≡ w → cond v (is_before xs ys) (nat_lt x y) ≡ true → cond w (is_before ys zs) (nat_lt y z) ≡ true
        → (is_before xs ys ≡ true → is_before ys zs ≡ true → is_before xs zs ≡ true) → cond (x == z) (is_before xs zs) (nat_lt x z) ≡ true
    by_head v w e f a b rest = by_same v w (x == z) e f refl a b rest

-- keys in the order of their bytes
abbrev AllAfter : List ℕ → List KeyedRow → Type 0
AllAfter j [] = Unit {0}
AllAfter j (k ∷ ks) = (is_before j k.key ≡ true) × AllAfter j ks

abbrev AreSorted : List KeyedRow → Type 0
AreSorted [] = Unit {0}
AreSorted (k ∷ ks) = AllAfter k.key ks × AreSorted ks

after_trans : (i j : List ℕ) (ks : List KeyedRow) → is_before i j ≡ true → AllAfter j ks → AllAfter i ks
after_trans i j [] b a = tt
after_trans i j (k ∷ ks) b a = (before_trans i j k.key b a.0, after_trans i j ks b a.1)

with_after : (j key : List ℕ) (row : List Value) (ks : List KeyedRow) → is_before j key ≡ true → AllAfter j ks → AllAfter j (with_row key row ks)
with_after j key row [] b a = (b, tt)
with_after j key row (k ∷ ks) b a = by_test (text_eq k.key key) (is_before key k.key) (with_after j key row ks b a.1)
  where
    by_test : (v w : Bool) → AllAfter j (with_row key row ks)
        → AllAfter j (cond v (record { key = key; row = row } ∷ ks) (cond w (record { key = key; row = row } ∷ k ∷ ks) (k ∷ with_row key row ks)))
    by_test true w rest = (b, a.1)
    by_test false true rest = (b, a)
    by_test false false rest = (a.0, rest)

with_sorted : (key : List ℕ) (row : List Value) (ks : List KeyedRow) → AreSorted ks → AreSorted (with_row key row ks)
with_sorted key row [] s = (tt, tt)
with_sorted key row (k ∷ ks) s = by_test (text_eq k.key key) (is_before key k.key) refl refl (with_sorted key row ks s.1)
  where
    by_test : (v w : Bool) → text_eq k.key key ≡ v → is_before key k.key ≡ w → AreSorted (with_row key row ks)
        → AreSorted (cond v (record { key = key; row = row } ∷ ks) (cond w (record { key = key; row = row } ∷ k ∷ ks) (k ∷ with_row key row ks)))
    by_test true w t b rest = (subst (λ z. AllAfter z ks) (text_eq_true k.key key t) s.0, s.1)
    by_test false true t b rest = ((b, after_trans key k.key ks b s.0), s)
    by_test false false t b rest = (with_after k.key key row ks (one_before k.key key t b) s.0, rest)

without_after : (j key : List ℕ) (ks : List KeyedRow) → AllAfter j ks → AllAfter j (without key ks)
without_after j key [] a = tt
without_after j key (k ∷ ks) a = by_test (text_eq k.key key) (without_after j key ks a.1)
  where
    by_test : (v : Bool) → AllAfter j (without key ks) → AllAfter j (cond v ks (k ∷ without key ks))
    by_test true rest = a.1
    by_test false rest = (a.0, rest)

without_sorted : (key : List ℕ) (ks : List KeyedRow) → AreSorted ks → AreSorted (without key ks)
without_sorted key [] s = tt
without_sorted key (k ∷ ks) s = by_test (text_eq k.key key) (without_sorted key ks s.1)
  where
    by_test : (v : Bool) → AreSorted (without key ks) → AreSorted (cond v ks (k ∷ without key ks))
    by_test true rest = s.1
    by_test false rest = (without_after k.key key ks s.0, rest)

after_sorted : (p : Shape) (ks : List KeyedRow) (event : Event) → AreSorted ks → AreSorted (keyed_after p ks event)
after_sorted p ks Clear s = tt
after_sorted p ks (Update cells) s = by_test (deletes p cells)
  where
    by_test : (v : Bool) → AreSorted (cond v (without (key_of p cells) ks) (with_row (key_of p cells) (row_with p (row_at (key_of p cells) ks) cells) ks))
    by_test true = without_sorted (key_of p cells) ks s
    by_test false = with_sorted (key_of p cells) (row_with p (row_at (key_of p cells) ks) cells) ks s

all_sorted : (p : Shape) (ks : List KeyedRow) (es : List Entry) → AreSorted ks → AreSorted (keyed_after_all p ks es)
all_sorted p ks [] s = s
all_sorted p ks (e ∷ es) s = all_sorted p (keyed_after p ks e.event) es (after_sorted p ks e.event s)

has_after : (j : List ℕ) (ks : List KeyedRow) → AllAfter j ks → has_key (map (λ k. k.key) ks) j ≡ false
has_after j [] a = refl
has_after j (k ∷ ks) a = ap (λ v. v || has_key (map (λ x. x.key) ks) j) (before_differs j k.key a.0) ∙ has_after j ks a.1

sorted_distinct : (ks : List KeyedRow) → AreSorted ks → AreDistinct (map (λ k. k.key) ks)
sorted_distinct [] s = tt
sorted_distinct (k ∷ ks) s = (has_after k.key ks s.0, sorted_distinct ks s.1)

-- no key of an item stands twice
pub keyed_distinct : (p : Shape) (h : List Entry) (n : ℕ) → AreDistinct (map (λ k. k.key) (keyed p h n))
keyed_distinct p h n = sorted_distinct (keyed p h n) (all_sorted p [] (take n h) tt)
