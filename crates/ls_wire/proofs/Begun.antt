-- What is held where bytes were only written since it was lent.
use Rattle.std.proofs.Common.{◌≡◌, ◌≤◌, ◌+◌, ℕ, List, [], ◌++◌, Option, Some, None, length, take, drop, min, refl, sym, ap, ◌∙◌, arith, subst, take-append-drop}
use Rattle.std.proofs.lemmas.Grind.{common_steps}
use Rattle.std.proofs.lemmas.List.{take-append-le}
use Rattle.std.specs.Io.KnownBytes.{Appends}
use Rattle.ls_wire.specs.Writing.{Grows, cut_to}

some_is : (x y : List ℕ) → Some x ≡ Some y → x ≡ y
some_is x y e = cc

whole_is : (x : List ℕ) → take (length x) x ≡ x
whole_is x = grind (arith, common_steps)

pub begun_self : (a : Option (List ℕ)) → cut_to a a ≡ a
begun_self None = refl
begun_self (Some x) = ap (λ (y : List ℕ). Some y) (whole_is x)

short : (x y : List ℕ) → take (length x) y ≡ x → length x ≤ length y
short x y e =
    let n : length (take (length x) y) ≡ length x = ap length e in
    let m : length (take (length x) y) ≤ length y = bound (length x) y in
    omega (arith, n, m)
  where
    bound : (n : ℕ) (y : List ℕ) → length (take n y) ≤ length y
    bound n y = grind (arith, common_steps)

front_stays : (n : ℕ) (y z : List ℕ) → n ≤ length y → take n (y ++ z) ≡ take n y
front_stays n y z within = take-append-le n y z within

pub begun_on : (a b c : Option (List ℕ)) → cut_to a b ≡ a → Grows b c → cut_to a c ≡ a
begun_on None b c begun grows = refl
begun_on (Some x) None c begun grows = absurd (let e : None ≡ Some x = begun in cc)
begun_on (Some x) (Some y) None begun grows = absurd grows.1
begun_on (Some x) (Some y) (Some z) begun grows =
    let e : take (length x) y ≡ x = some_is (take (length x) y) x begun in
    ap (λ (w : List ℕ). Some w)
    (ap (λ (w : List ℕ). take (length x) w) grows.1 ∙ front_stays (length x) y grows.0 (short x y e) ∙ e)

pub begun_grows : (a b : Option (List ℕ)) → cut_to a b ≡ a → Grows a b
begun_grows None b begun = ([], tt)
begun_grows (Some x) None begun = absurd (let e : None ≡ Some x = begun in cc)
begun_grows (Some x) (Some y) begun =
    let e : take (length x) y ≡ x = some_is (take (length x) y) x begun in
    (drop (length x) y, sym (take-append-drop (length x) y) ∙ ap (λ (w : List ℕ). w ++ drop (length x) y) e)
