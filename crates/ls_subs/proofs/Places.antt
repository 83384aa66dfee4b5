-- The item at a place, as it takes a cut.
use Rattle.std.proofs.Common.{◌≡◌, ℕ, zero, suc, ◌-◌, ◌≤◌, List, [], ◌∷◌, length, refl, sym, ◌∙◌, ap, arith, subst, Some, slice_get, slice_set}
use Rattle.ls_event.specs.declared.event.Taken.{Taken}
use Rattle.ls_record.specs.Records.{change}
use Rattle.ls_subs.specs.declared.plan.PlanItem.{PlanItem}
use Rattle.ls_subs.specs.Kept.{item_at, heard, heard_at}

-- past the last item nothing changes
change_beyond : {A : Type 0} (n : ℕ) (f : A → A) (xs : List A) → length xs ≤ n → xs ≡ change n f xs
change_beyond n f [] l = refl
change_beyond zero f (x ∷ xs) l = absurd (omega (arith, l))
change_beyond (suc n) f (x ∷ xs) l = ap (λ ys. x ∷ ys) (change_beyond n f xs (omega (arith, l)))

pub heard_beyond : (place now : ℕ) (t : Taken) (items : List PlanItem) → length items ≤ place - 1 → items ≡ heard_at place now t items
heard_beyond zero now t items l = refl
heard_beyond (suc n) now t items l = change_beyond n (heard now t) items (omega (arith, l))

-- the item before it
pub item_before : (place : ℕ) (items : List PlanItem) (p : PlanItem) → (place ≡ 0 → ⊥) → slice_get items (place - 1) ≡ Some p → item_at items place ≡ Some p
item_before zero items p some is = absurd (some refl)
item_before (suc n) items p some is =
    let same : suc n - 1 ≡ n = omega arith in
    subst (λ m. slice_get items m ≡ Some p) same is

-- it changes alone
change_set : {A : Type 0} (n : ℕ) (f : A → A) (xs : List A) (x : A) → slice_get xs n ≡ Some x → slice_set xs n (f x) ≡ change n f xs
change_set n f [] x is = refl
change_set zero f (y ∷ xs) x is =
    let same : y ≡ x = cc in
    ap (λ z. f z ∷ xs) (sym same)
change_set (suc n) f (y ∷ xs) x is = ap (λ ys. y ∷ ys) (change_set n f xs x is)

pub heard_set : (place now : ℕ) (t : Taken) (items : List PlanItem) (p : PlanItem) → (place ≡ 0 → ⊥) → slice_get items (place - 1) ≡ Some p
    → slice_set items (place - 1) (heard now t p) ≡ heard_at place now t items
heard_set zero now t items p some is = absurd (some refl)
heard_set (suc n) now t items p some is =
    let same : suc n - 1 ≡ n = omega arith in
    ap (λ m. slice_set items m (heard now t p)) same ∙ change_set n (heard now t) items p (subst (λ m. slice_get items m ≡ Some p) same is)
