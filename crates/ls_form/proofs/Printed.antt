-- A printed decimal is read as itself.
use Rattle.std.proofs.Common.{◌≡◌, suc, ◌==◌, ◌<◌, ◌≤◌, ◌^◌, ℕ, ◌+◌, ◌*◌, ◌/◌, ◌%◌, List, [], ◌∷◌, ◌++◌, length, drop, Bool, true, false, nat_le, nat_lt, ◌&&◌}
use Rattle.std.proofs.Common.{cond, Some, None, position, refl, ap, ◌∙◌, arith}
use Rattle.std.proofs.Math.Seq.{take-append_seam}
use Rattle.std.proofs.lemmas.Bool.Decides.{nat_tests}
use Rattle.std.proofs.lemmas.Fmt.{length-decimal-le}
use Rattle.std.proofs.lemmas.List.{length-append}
use Rattle.std.specs.Fmt.{decimal}
use Rattle.std.specs.List.{list_all, position_or_len}
use Rattle.ls_words.specs.Numbers.{is_digit, value_from, has_form, number_of}
use Rattle.ls_words.proofs.ReadBack.{decimal-digits, number_of-decimal}
use Rattle.ls_form.specs.Decimals.{whole_of, thousandths_of, milli_at, milli_of, part_text, milli_text}

-- what a text that says a number says
said : (ds : List ℕ) (n : ℕ) → number_of ds ≡ Some n → value_from 0 ds ≡ n
said ds n e = by_test (has_form ds && list_all is_digit ds) e
  where
    by_test : (b : Bool) → cond b (Some (value_from 0 ds)) None ≡ Some n → value_from 0 ds ≡ n
    by_test true f = cc
    by_test false f = cc

some_digits : (ds : List ℕ) (n : ℕ) → number_of ds ≡ Some n → nat_le 1 (length ds) ≡ true
some_digits [] n e = cc
some_digits (d ∷ ds) n e = grind (arith, nat_tests)

-- a number of at most 9 digits is read from them
whole_of-decimal : (n : ℕ) → n < 10 ^ 9 → whole_of (decimal n) ≡ Some n
whole_of-decimal n h =
    let l : length (decimal n) ≤ 9 = length-decimal-le 9 n (omega arith) h (omega (arith, h)) in
    let t : nat_le (length (decimal n)) 9 ≡ true = grind (arith, nat_tests) in
    let u : nat_le 1 (length (decimal n)) ≡ true = some_digits (decimal n) n (number_of-decimal n (omega (arith, h))) in
    let d : list_all is_digit (decimal n) ≡ true = decimal-digits n (omega (arith, h)) in
    rw (t, u, d, said (decimal n) n (number_of-decimal n (omega (arith, h)))) refl

behind : (ds : List ℕ) (p : ℕ) (rest : List ℕ) → drop (suc (length ds)) (ds ++ p ∷ rest) ≡ rest
behind [] p rest = refl
behind (d ∷ ds) p rest = behind ds p rest

-- the first point stands behind the digits
point_behind : (ds rest : List ℕ) → list_all is_digit ds ≡ true → position_or_len (λ b. b == 46) (ds ++ 46 ∷ rest) ≡ length ds
point_behind [] rest h = refl
point_behind (d ∷ ds) rest h =
    let a : is_digit d ≡ true = grind (arith, nat_tests, h) in
    let b : list_all is_digit ds ≡ true = grind (arith, nat_tests, h) in
    let c : (d == 46) ≡ false = grind (arith, nat_tests, a) in
    rw c (ap (λ n. 1 + n) (point_behind ds rest b) ∙ omega arith)

-- up to three digits behind the point
part_read : (n : ℕ) → n < 1000 → thousandths_of (part_text n) ≡ Some n
part_read n h =
    let a : is_digit (48 + n / 100) ≡ true = grind (arith, nat_tests) in
    let b : is_digit (48 + n / 10 % 10) ≡ true = grind (arith, nat_tests) in
    let c : is_digit (48 + n % 10) ≡ true = grind (arith, nat_tests) in
    elim (n % 100 == 0) as (λ t. n % 100 == 0 ≡ t → thousandths_of (part_text n) ≡ Some n) [
      | true ↦ λ e. rw (e, a) (ap (λ (k : ℕ). Some k) (grind (arith, nat_tests, e)))
      | false ↦ λ e. elim (n % 10 == 0) as (λ t. n % 10 == 0 ≡ t → thousandths_of (part_text n) ≡ Some n) [
        | true ↦ λ f. rw (e, f, a, b) (ap (λ (k : ℕ). Some k) (grind (arith, nat_tests, f)))
        | false ↦ λ f. rw (e, f, a, b, c) (ap (λ (k : ℕ). Some k) (omega arith))
      ] refl
    ] refl

-- a text with a point
at_point : (ds rest : List ℕ) (at whole part : ℕ) → at ≡ length ds → whole_of ds ≡ Some whole → thousandths_of rest ≡ Some part
    → milli_at (ds ++ 46 ∷ rest) (Some at) ≡ Some (1000 * whole + part)
at_point ds rest at whole part e w p =
    let n : length ds + 1 ≡ suc (length ds) = omega arith in
    rw (e, take-append_seam ds (46 ∷ rest), n, behind ds 46 rest, w, p) refl

pub milli_of-milli_text : (n : ℕ) → n < 10 ^ 12 → milli_of (milli_text n) ≡ Some n
milli_of-milli_text n h =
    let ds = decimal (n / 1000) in
    let rest = part_text (n % 1000) in
    let w : whole_of ds ≡ Some (n / 1000) = whole_of-decimal (n / 1000) (omega (arith, h)) in
    let p : thousandths_of rest ≡ Some (n % 1000) = part_read (n % 1000) (omega arith) in
    let s : list_all is_digit ds ≡ true = decimal-digits (n / 1000) (omega (arith, h)) in
    let e : position_or_len (λ b. b == 46) (ds ++ 46 ∷ rest) ≡ length ds = point_behind ds rest s in
    let l : nat_lt (length ds) (length (ds ++ 46 ∷ rest)) ≡ true = grind (arith, nat_tests, length-append ds (46 ∷ rest)) in
    let all : 1000 * (n / 1000) + n % 1000 ≡ n = omega arith in
    let found : position (λ b. b == 46) (ds ++ 46 ∷ rest) ≡ Some (length ds) = rw (e, l) refl in
    rw found (at_point ds rest (length ds) (n / 1000) (n % 1000) refl w p ∙ ap (λ (k : ℕ). Some k) all)
