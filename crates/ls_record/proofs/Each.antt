-- What is true of each element of a list.
use Rattle.std.proofs.Common.{◌≡◌, ℕ, zero, suc, List, [], ◌∷◌, ◌++◌, map, take, drop, subst, sym, Some, None}
use Rattle.std.proofs.Common.{slice_get, arith}
use Rattle.std.specs.List.{Contains}
use Rattle.ls_record.specs.Records.{change}
use Rattle.ls_value.specs.Each.{Each}

pub each_map : {A : Type 0} (P Q : A → Type 0) (xs : List A) → ((x : A) → P x → Q x) → Each P xs → Each Q xs
each_map P Q [] f e = tt
each_map P Q (x ∷ xs) f e = (f x e.0, each_map P Q xs f e.1)

pub each_mapped : {A : Type 0} (P Q : A → Type 0) (g : A → A) (xs : List A) → ((x : A) → P x → Q (g x)) → Each P xs → Each Q (map g xs)
each_mapped P Q g [] f e = tt
each_mapped P Q g (x ∷ xs) f e = (f x e.0, each_mapped P Q g xs f e.1)

-- a change of the n-th, which is this one
pub each_changed : {A : Type 0} (P : A → Type 0) (n : ℕ) (g : A → A) (x : A) (xs : List A) → slice_get xs n ≡ Some x → (P x → P (g x)) → Each P xs
    → Each P (change n g xs)
each_changed P n g x [] is f e = tt
each_changed P zero g x (y ∷ xs) is f e =
    let same : y ≡ x = cc in
    (subst (λ z. P (g z)) (sym same) (f (subst P same e.0)), e.1)
each_changed P (suc n) g x (y ∷ xs) is f e = (e.0, each_changed P n g x xs is f e.1)

pub each_both : {A : Type 0} (P Q : A → Type 0) (xs : List A) → Each P xs → Each Q xs → Each (λ x. P x × Q x) xs
each_both P Q [] e f = tt
each_both P Q (x ∷ xs) e f = ((e.0, f.0), each_both P Q xs e.1 f.1)

-- what is true of each is true of the n-th
pub each_at : {A : Type 0} (P : A → Type 0) (n : ℕ) (x : A) (xs : List A) → slice_get xs n ≡ Some x → Each P xs → P x
each_at P n x [] is e = absurd (let y : None ≡ Some x = is in cc)
each_at P zero x (y ∷ xs) is e = let same : y ≡ x = cc in subst P same e.0
each_at P (suc n) x (y ∷ xs) is e = each_at P n x xs is e.1

-- and of an element
pub each_contains : {A : Type 0} (P : A → Type 0) (x : A) (xs : List A) → Each P xs → Contains xs x → P x
each_contains P x [] e c = absurd (omega (arith, c.1))
each_contains P x (y ∷ ys) e (zero, within, is) = subst P is e.0
each_contains P x (y ∷ ys) e (suc k, within, is) = each_contains P x ys e.1 (k, omega (arith, within), is)

pub each_within : {A : Type 0} (P : A → Type 0) (newer older : List A) (x : A) → Each P (newer ++ x ∷ older) → P x
each_within P [] older x e = e.0
each_within P (y ∷ newer) older x e = each_within P newer older x e.1

-- of the first n, and of those behind them
pub each_take : {A : Type 0} (P : A → Type 0) (n : ℕ) (xs : List A) → Each P xs → Each P (take n xs)
each_take P zero xs e = tt
each_take P (suc n) [] e = tt
each_take P (suc n) (x ∷ xs) e = (e.0, each_take P n xs e.1)

pub each_drop : {A : Type 0} (P : A → Type 0) (n : ℕ) (xs : List A) → Each P xs → Each P (drop n xs)
each_drop P zero xs e = e
each_drop P (suc n) [] e = tt
each_drop P (suc n) (x ∷ xs) e = each_drop P n xs e.1
