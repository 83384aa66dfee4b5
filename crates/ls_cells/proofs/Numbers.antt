-- Slots by their numbers, in a list of the slots of all sessions into which one is put.
use Rattle.std.proofs.Common.{◌≡◌, ◌==◌, ℕ, suc, ◌+◌, ◌<◌, ◌≤◌, List, [], ◌∷◌, ◌++◌, length, refl, sym, ◌∙◌, ap, arith, subst, cond, Bool, true, false}
use Rattle.std.proofs.Common.{◌&&◌, Some, None}
use Rattle.std.proofs.lemmas.Bool.{eqb-true, eq-eqb}
use Rattle.ls_value.specs.Each.{Each}
use Rattle.ls_record.specs.Records.{LiveSlot, numbers_of}
use Rattle.ls_cells.specs.Cells.{is_numbered, slot_numbered, IsUnlike, Unlike}

pub differs : (v : Bool) → v ≡ true → v ≡ false → ⊥
differs v t f = let x : true ≡ false = sym t ∙ f in cc

-- of a list into which one was put
pub each_out : {A : Type 0} (P : A → Type 0) (a b : List A) (x : A) → Each P (a ++ x ∷ b) → P x × Each P (a ++ b)
each_out P [] b x e = e
each_out P (y ∷ a) b x e = let r = each_out P a b x e.1 in (r.0, (e.0, r.1))

pub each_in : {A : Type 0} (P : A → Type 0) (a b : List A) (x : A) → P x → Each P (a ++ b) → Each P (a ++ x ∷ b)
each_in P [] b x p e = (p, e)
each_in P (y ∷ a) b x p e = (e.0, each_in P a b x p e.1)

pub length_in : {A : Type 0} (a b : List A) (x : A) → length (a ++ x ∷ b) ≡ length (a ++ b) + 1
length_in [] b x = omega arith
length_in (y ∷ a) b x = omega (arith, length_in a b x)

-- a slot of a number on an item
pub numbered_is : (n m : ℕ) (v : LiveSlot) → is_numbered n m v ≡ true → (n ≡ v.item) × (m ≡ v.number)
numbered_is n m v is = by_item (n == v.item) refl is
  where
    by_item : (x : Bool) → (n == v.item) ≡ x → (x && (m == v.number)) ≡ true → (n ≡ v.item) × (m ≡ v.number)
    by_item true e h = (eqb-true n v.item e, eqb-true m v.number h)
    by_item false e h = absurd (differs false h refl)

pub is_numbered_at : (n m : ℕ) (v : LiveSlot) → n ≡ v.item → m ≡ v.number → is_numbered n m v ≡ true
is_numbered_at n m v i j = ap (λ x. x && (m == v.number)) (eq-eqb n v.item i) ∙ eq-eqb m v.number j

unlike_back : (u v : LiveSlot) → is_numbered u.item u.number v ≡ false → is_numbered v.item v.number u ≡ false
unlike_back u v f = by_test (is_numbered v.item v.number u) refl
  where
    by_test : (x : Bool) → is_numbered v.item v.number u ≡ x → x ≡ false
    by_test false e = refl
    by_test true e =
        let same = numbered_is v.item v.number u e in
        absurd (differs _ (is_numbered_at u.item u.number v (sym same.0) (sym same.1)) f)

pub unlike_out : (a b : List LiveSlot) (v : LiveSlot) → Unlike (a ++ v ∷ b) → IsUnlike v (a ++ b) × Unlike (a ++ b)
unlike_out [] b v u = u
unlike_out (x ∷ a) b v u =
    let e = each_out (λ (y : LiveSlot). is_numbered x.item x.number y ≡ false) a b v u.0 in
    let r = unlike_out a b v u.1 in
    ((unlike_back x v e.0, r.0), (e.1, r.1))

pub unlike_in : (a b : List LiveSlot) (v : LiveSlot) → IsUnlike v (a ++ b) → Unlike (a ++ b) → Unlike (a ++ v ∷ b)
unlike_in [] b v n u = (n, u)
unlike_in (x ∷ a) b v n u = (each_in (λ (y : LiveSlot). is_numbered x.item x.number y ≡ false) a b v (unlike_back v x n.0) u.0, unlike_in a b v n.1 u.1)

-- none of these has a number on an item
abbrev pub IsFreeAt : ℕ → ℕ → List LiveSlot → Type 0
IsFreeAt n m vs = Each (λ u. is_numbered n m u ≡ false) vs

pub unlike_at : (n m : ℕ) (v : LiveSlot) (vs : List LiveSlot) → is_numbered n m v ≡ true → IsUnlike v vs → IsFreeAt n m vs
unlike_at n m v vs is u =
    let same = numbered_is n m v is in
    subst (λ x. IsFreeAt x m vs) (sym same.0) (subst (λ x. IsFreeAt v.item x vs) (sym same.1) u)

pub numbered_here : (n m : ℕ) (a b : List LiveSlot) (v : LiveSlot) → is_numbered n m v ≡ true → IsFreeAt n m (a ++ b)
    → slot_numbered n m (a ++ v ∷ b) ≡ Some v.slot
numbered_here n m [] b v is u = ap (λ t. cond t (Some v.slot) (slot_numbered n m b)) is
numbered_here n m (x ∷ a) b v is u =
    ap (λ t. cond t (Some x.slot) (slot_numbered n m (a ++ v ∷ b))) u.0 ∙ numbered_here n m a b v is u.1

pub numbered_other : (n m : ℕ) (a b : List LiveSlot) (v : LiveSlot) → is_numbered n m v ≡ false → slot_numbered n m (a ++ v ∷ b) ≡ slot_numbered n m (a ++ b)
numbered_other n m [] b v f = ap (λ t. cond t (Some v.slot) (slot_numbered n m b)) f
numbered_other n m (x ∷ a) b v f = ap (cond (is_numbered n m x) (Some x.slot)) (numbered_other n m a b v f)

pub numbered_none : (n m : ℕ) (vs : List LiveSlot) → IsFreeAt n m vs → slot_numbered n m vs ≡ None
numbered_none n m [] e = refl
numbered_none n m (v ∷ vs) e = ap (λ t. cond t (Some v.slot) (slot_numbered n m vs)) e.0 ∙ numbered_none n m vs e.1

pub none_numbered : (n m : ℕ) (vs : List LiveSlot) → slot_numbered n m vs ≡ None → IsFreeAt n m vs
none_numbered n m [] is = tt
none_numbered n m (v ∷ vs) is = by_test (none_numbered n m vs) (is_numbered n m v) refl is
  where
    by_test : (slot_numbered n m vs ≡ None → IsFreeAt n m vs) → (t : Bool) → is_numbered n m v ≡ t
        → cond t (Some v.slot) (slot_numbered n m vs) ≡ None → IsFreeAt n m (v ∷ vs)
    by_test rest true e h = cc
    by_test rest false e h = (e, rest h)

-- how many slots are on an item
one_more : (t : Bool) (p q : List ℕ) (x : ℕ) → length p ≡ length q + 1 → length (cond t (x ∷ p) p) ≡ length (cond t (x ∷ q) q) + 1
one_more true p q x h = omega (arith, h)
one_more false p q x h = h

pub count_here : (n : ℕ) (a b : List LiveSlot) (v : LiveSlot) → n ≡ v.item → length (numbers_of n (a ++ v ∷ b)) ≡ length (numbers_of n (a ++ b)) + 1
count_here n [] b v is =
    ap (λ t. length (cond t (v.number ∷ numbers_of n b) (numbers_of n b))) (eq-eqb n v.item is)
    ∙ (let e : suc (length (numbers_of n b)) ≡ length (numbers_of n b) + 1 = omega arith in e)
count_here n (x ∷ a) b v is = one_more (n == x.item) (numbers_of n (a ++ v ∷ b)) (numbers_of n (a ++ b)) x.number (count_here n a b v is)

pub numbers_other : (n : ℕ) (a b : List LiveSlot) (v : LiveSlot) → (n == v.item) ≡ false → numbers_of n (a ++ v ∷ b) ≡ numbers_of n (a ++ b)
numbers_other n [] b v f = ap (λ t. cond t (v.number ∷ numbers_of n b) (numbers_of n b)) f
numbers_other n (x ∷ a) b v f = ap (λ (ns : List ℕ). cond (n == x.item) (x.number ∷ ns) ns) (numbers_other n a b v f)

-- no slot is on an item that none is on
pub none_on : (n : ℕ) (vs : List LiveSlot) → Each (λ v. v.item < n) vs → numbers_of n vs ≡ []
none_on n [] e = refl
none_on n (v ∷ vs) e = by_test (none_on n vs e.1) (n == v.item) refl
  where
    by_test : numbers_of n vs ≡ [] → (t : Bool) → (n == v.item) ≡ t → cond t (v.number ∷ numbers_of n vs) (numbers_of n vs) ≡ []
    by_test rest true is = absurd (omega (arith, eqb-true n v.item is, e.0))
    by_test rest false is = rest

pub free_past : (n m : ℕ) (vs : List LiveSlot) → Each (λ v. v.item < n) vs → IsFreeAt n m vs
free_past n m [] e = tt
free_past n m (v ∷ vs) e = (by_test (is_numbered n m v) refl, free_past n m vs e.1)
  where
    by_test : (t : Bool) → is_numbered n m v ≡ t → t ≡ false
    by_test false is = refl
    by_test true is = absurd (omega (arith, (numbered_is n m v is).0, e.0))

-- no more slots are on an item than there are
pub count_low : (n : ℕ) (vs : List LiveSlot) → length (numbers_of n vs) ≤ length vs
count_low n [] = omega arith
count_low n (v ∷ vs) = by_test (count_low n vs) (n == v.item)
  where
    by_test : length (numbers_of n vs) ≤ length vs → (t : Bool) → length (cond t (v.number ∷ numbers_of n vs) (numbers_of n vs)) ≤ suc (length vs)
    by_test rest true = omega (arith, rest)
    by_test rest false = omega (arith, rest)
