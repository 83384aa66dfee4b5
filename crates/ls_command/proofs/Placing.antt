-- Where the nodes of a queue stand in its two lists, and that no two are alike.
use Rattle.std.proofs.Common.{◌≡◌, ◌==◌, ℕ, suc, zero, ◌+◌, ◌<◌, List, [], ◌∷◌, ◌++◌, length, map, get_or, refl, sym, ◌∙◌, ap, arith, cond, Bool, true, false, ◌||◌}
use Rattle.std.proofs.Common.{Some, None, subst, inl, inr}
use Rattle.std.specs.Prelude.{slice_get, ◌⊎◌}
use Rattle.std.proofs.lemmas.Bool.{eqb-true, eq-eqb}
use Rattle.std.proofs.lemmas.List.{append-nil, length-append, length-map}
use Rattle.ls_links.specs.Chains.{Link, Chains, Apart, In, IsAt, IsLinked}
use Rattle.ls_links.proofs.Members.{nothing_there, differs, in_map}
use Rattle.ls_command.specs.declared.kept.Kept.{Kept}
use Rattle.ls_command.specs.declared.kept.Queued.{Queued}
use Rattle.ls_command.specs.Command.{nodes_of}
use Rattle.ls_command.specs.Entries.{IsKept, LinkedKeys, linked_keys, has_value, AreOnce, entry_at, queued_of, queued_at}

-- two maps are one
pub maps_both : {A B C : Type 0} (f : B → C) (g : A → B) (xs : List A) → map f (map g xs) ≡ map (λ x. f (g x)) xs
maps_both f g [] = refl
maps_both f g (x ∷ xs) = ap (λ (ys : List _). f (g x) ∷ ys) (maps_both f g xs)

-- numbers that differ
pub unlike : (a b : ℕ) → (a ≡ b → ⊥) → (a == b) ≡ false
unlike a b ne = by_test (a == b) refl
  where
    by_test : (t : Bool) → (a == b) ≡ t → (a == b) ≡ false
    by_test false e = e
    by_test true e = absurd (ne (eqb-true a b e))

-- two lists one after the other
pub of_either : {A : Type 0} (a b : List A) (i : ℕ) (x : A) → slice_get (a ++ b) i ≡ Some x
    → (slice_get a i ≡ Some x) ⊎ ((j : ℕ) × (i ≡ length a + j) × (slice_get b j ≡ Some x))
of_either [] b i x h = inr (i, omega arith, h)
of_either (y ∷ a) b zero x h = inl h
of_either (y ∷ a) b (suc i) x h = by_case (of_either a b i x h)
  where
    by_case : (slice_get a i ≡ Some x) ⊎ ((j : ℕ) × (i ≡ length a + j) × (slice_get b j ≡ Some x))
        → (slice_get a i ≡ Some x) ⊎ ((j : ℕ) × (suc i ≡ suc (length a) + j) × (slice_get b j ≡ Some x))
    by_case (inl m) = inl m
    by_case (inr m) = inr (m.0, omega (arith, m.1), m.2)

abbrev pub chained : List (List Link) → Chains
chained ls = record { lists = ls; spare = 0 }

-- the list of a node of the queue, and its place there
pub record Stands (ls : List (List Link)) (i : ℕ) (l : Link) : Type 0 where
  pub list : ℕ
  pub place : ℕ
  pub here : IsAt (chained ls) list place l.node l.value
  pub index : i ≡ cond (list == 0) 0 (length (get_or ls 0 [])) + place

pub stands : (ls : List (List Link)) (i : ℕ) (l : Link) → slice_get (nodes_of ls) i ≡ Some l → Stands ls i l
stands ls i l h = by_case (of_either (get_or ls 0 []) (get_or ls 1 []) i l h)
  where
    by_case : (slice_get (get_or ls 0 []) i ≡ Some l)
        ⊎ ((j : ℕ) × (i ≡ length (get_or ls 0 []) + j) × (slice_get (get_or ls 1 []) j ≡ Some l)) → Stands ls i l
    by_case (inl m) = record { list = 0; place = i; here = m; index = omega arith }
    by_case (inr m) = record { list = 1; place = m.0; here = m.2; index = m.1 }

pub linked : (c : Chains) (l : Link) → In (nodes_of c.lists) l → IsLinked c l.node
linked c l m =
    let s : Stands c.lists m.0 l = stands c.lists m.0 l m.1 in
    record { list = s.list; place = s.place; value = l.value; here = s.here }

-- of one node there is one link
pub one_place : (ls : List (List Link)) → Apart (chained ls) → (i j : ℕ) (l m : Link) → slice_get (nodes_of ls) i ≡ Some l
    → slice_get (nodes_of ls) j ≡ Some m → l.node ≡ m.node → i ≡ j
one_place ls apart i j l m a b e =
    let s : Stands ls i l = stands ls i l a in
    let t : Stands ls j m = stands ls j m b in
    let here : IsAt (chained ls) t.list t.place l.node m.value =
    subst (λ (n : ℕ). IsAt (chained ls) t.list t.place n m.value) (sym e) t.here in
    let p = apart l.node s.list t.list s.place t.place l.value m.value s.here here in
    s.index ∙ ap (λ (n : ℕ). cond (n == 0) 0 (length (get_or ls 0 [])) + s.place) p.0
    ∙ ap (λ (n : ℕ). cond (t.list == 0) 0 (length (get_or ls 0 [])) + n) p.1 ∙ sym t.index

-- and of one value
pub value_place : (es : List (List ℕ × Kept)) (ls : List (List Link)) → IsKept es ls → (i j : ℕ) (l m : Link)
    → slice_get (nodes_of ls) i ≡ Some l → slice_get (nodes_of ls) j ≡ Some m → l.value ≡ m.value → i ≡ j
value_place es ls kept i j l m a b e =
    one_place ls kept.apart i j l m a b
    (sym (kept.own l (i, a)).node ∙ ap (λ (n : ℕ). (entry_at es n).1.node) e ∙ (kept.own m (j, b)).node)

-- values among others
pub value_in : (vs : List ℕ) (v : ℕ) → has_value vs v ≡ true → In vs v
value_in [] v h = absurd (differs false h refl)
value_in (w ∷ vs) v h = by_test (w == v) refl h (λ g. value_in vs v g)
  where
    by_test : (t : Bool) → (w == v) ≡ t → (t || has_value vs v) ≡ true → (has_value vs v ≡ true → In vs v) → In (w ∷ vs) v
    by_test true e g rec = (zero, ap (λ (n : ℕ). Some n) (eqb-true w v e))
    by_test false e g rec = let m = rec g in (suc m.0, m.1)

pub in_value : (vs : List ℕ) (v : ℕ) → In vs v → has_value vs v ≡ true
in_value [] v m = absurd (nothing_there v None refl m.1)
in_value (w ∷ vs) v (zero, h) = let e : w ≡ v = cc in ap (λ (t : Bool). t || has_value vs v) (eq-eqb w v e)
in_value (w ∷ vs) v (suc i, h) = by_test (w == v) (in_value vs v (i, h))
  where
    by_test : (t : Bool) → has_value vs v ≡ true → (t || has_value vs v) ≡ true
    by_test true g = refl
    by_test false g = g

pub once_by_place : (vs : List ℕ) → ((i j v : ℕ) → slice_get vs i ≡ Some v → slice_get vs j ≡ Some v → i ≡ j) → AreOnce vs
once_by_place [] h = tt
once_by_place (v ∷ vs) h =
    (by_test (has_value vs v) refl, once_by_place vs (λ i j w a b. (let e : suc i ≡ suc j = h (suc i) (suc j) w a b in omega arith)))
  where
    by_test : (t : Bool) → has_value vs v ≡ t → has_value vs v ≡ false
    by_test false e = e
    by_test true e =
        let m = value_in vs v e in
        let q : 0 ≡ suc m.0 = h 0 (suc m.0) v refl m.1 in
        absurd (omega arith)

pub once_values : (es : List (List ℕ × Kept)) (ls : List (List Link)) → IsKept es ls → AreOnce (map (λ l. l.value) (nodes_of ls))
once_values es ls kept = once_by_place (map (λ l. l.value) (nodes_of ls)) each
  where
    each : (i j v : ℕ) → slice_get (map (λ l. l.value) (nodes_of ls)) i ≡ Some v → slice_get (map (λ l. l.value) (nodes_of ls)) j ≡ Some v → i ≡ j
    each i j v a b =
        let l = in_map (λ l. l.value) (nodes_of ls) i v a in
        let m = in_map (λ l. l.value) (nodes_of ls) j v b in
        value_place es ls kept i j l.0 m.0 l.1 m.1 (l.2 ∙ sym m.2)

-- a value of a node is the place of an entry, and each place is one
pub value_within : (es : List (List ℕ × Kept)) (ls : List (List Link)) → IsKept es ls → (v : ℕ) → In (map (λ l. l.value) (nodes_of ls)) v
    → v < length es
value_within es ls kept v m =
    let l = in_map (λ l. l.value) (nodes_of ls) m.0 v m.1 in
    subst (λ (n : ℕ). n < length es) l.2 (kept.own l.0 (m.0, l.1)).within

-- a key by the value of its node
abbrev pub key_at : List (List ℕ × Kept) → ℕ → Queued
key_at es v = queued_of (entry_at es v)

pub keys_by_value : (es : List (List ℕ × Kept)) (ns : List Link) → map (queued_at es) ns ≡ map (key_at es) (map (λ l. l.value) ns)
keys_by_value es [] = refl
keys_by_value es (l ∷ ns) = ap (λ (qs : List Queued). queued_at es l ∷ qs) (keys_by_value es ns)

-- what is seen of a queue, by its parts
pub same_keys : (ks qs : List Queued) (vs ws : List ℕ) (m n : ℕ) → ks ≡ qs → vs ≡ ws → m ≡ n
    → ◌≡◌ {A = LinkedKeys} (record { keys = ks; values = vs; owed = m }) (record { keys = qs; values = ws; owed = n })
same_keys ks qs vs ws m n a b e = rw (a, b, e) refl

-- where list 1 is empty, list 0 has all keys, and it stays so
pub all_first : (es : List (List ℕ × Kept)) (ls : List (List Link)) → get_or ls 1 [] ≡ [] → (linked_keys es ls).owed ≡ length (linked_keys es ls).keys
all_first es ls none =
    sym (length-map (nodes_of ls) (queued_at es) ∙ ap (λ (xs : List Link). length (get_or ls 0 [] ++ xs)) none ∙ ap (λ (xs : List Link). length xs) (append-nil (get_or ls 0 [])))

pub no_links : (xs : List Link) → length xs ≡ 0 → xs ≡ []
no_links [] h = refl
no_links (x ∷ xs) h = absurd (omega (arith, h))

pub none_second : (es : List (List ℕ × Kept)) (ls : List (List Link)) → (linked_keys es ls).owed ≡ length (linked_keys es ls).keys → get_or ls 1 [] ≡ []
none_second es ls all = no_links (get_or ls 1 []) (omega (arith, long, all))
  where
    long : length (linked_keys es ls).keys ≡ length (get_or ls 0 []) + length (get_or ls 1 [])
    long = length-map (nodes_of ls) (queued_at es) ∙ length-append (get_or ls 0 []) (get_or ls 1 [])
