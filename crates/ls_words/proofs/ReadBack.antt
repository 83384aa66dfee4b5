-- A number is read again from its digits, and the digits of a number that was read are its text.
use Rattle.std.proofs.Common.{◌≡◌, ◌==◌, ◌<◌, ◌≤◌, ◌^◌, ℕ, ◌+◌, ◌*◌, ◌-◌, ◌/◌, ◌%◌, List, [], ◌∷◌, ◌++◌, Bool, true, false, ◌&&◌, not, nat_le, cond, Some, None}
use Rattle.std.proofs.Common.{option_and_then, refl, sym, ap, subst, ◌∙◌, arith, append-nil, append_assoc}
use Rattle.std.proofs.lemmas.Bool.{eq-eqb}
use Rattle.std.proofs.lemmas.Bool.Decides.{nat_tests}
use Rattle.std.proofs.lemmas.Fmt.{decimal_by_steps, decimal_step, decimal_digit}
use Rattle.std.proofs.lemmas.List.Folds.{list_all-append}
use Rattle.std.specs.Fmt.{decimal}
use Rattle.std.specs.List.{list_all}
use Rattle.ls_value.proofs.Rows.{and_left, and_right}
use Rattle.ls_words.specs.Numbers.{is_digit, value_from, has_form, number_of, within, number_in}
use Rattle.ls_words.proofs.Decimals.{value_from-least}

-- the first byte is no zero
abbrev leads : List ℕ → Bool
leads [] = false
leads (d ∷ ds) = not (d == 48)

leads-append : (ds : List ℕ) (d : ℕ) → leads ds ≡ true → leads (ds ++ d ∷ []) ≡ true
leads-append [] d h = cc
leads-append (x ∷ ds) d h = h

has_form-append : (ds : List ℕ) (d : ℕ) → leads ds ≡ true → has_form (ds ++ d ∷ []) ≡ true
has_form-append [] d h = refl
has_form-append (x ∷ []) d h = h
has_form-append (x ∷ y ∷ ds) d h = h

value_from-append : (n : ℕ) (xs : List ℕ) (d : ℕ) → value_from n (xs ++ d ∷ []) ≡ 10 * value_from n xs + (d - 48)
value_from-append n [] d = refl
value_from-append n (x ∷ xs) d = value_from-append (10 * n + (x - 48)) xs d

list_all-last : (f : ℕ → Bool) (xs : List ℕ) (d : ℕ) → list_all f xs ≡ true → f d ≡ true → list_all f (xs ++ d ∷ []) ≡ true
list_all-last f xs d h e = rw (list_all-append f xs (d ∷ []), h, e) refl

-- digits that say a number
record IsSaid (n : ℕ) (ds : List ℕ) : Type 0 where
  digits : list_all is_digit ds ≡ true
  value : value_from 0 ds ≡ n
  form : has_form ds ≡ true
  lead : 1 ≤ n → leads ds ≡ true

one_digit : (n : ℕ) → n < 10 → IsSaid n ((48 + n) ∷ [])
one_digit n h =
    let d : is_digit (48 + n) ≡ true = grind (arith, nat_tests) in
    record {
      digits = rw d refl;
      value = omega arith;
      form = refl;
      lead = λ some. grind (arith, nat_tests);
    }

more_digits : (n : ℕ) (ds : List ℕ) → 10 ≤ n → IsSaid (n / 10) ds → IsSaid n (ds ++ ((48 + n % 10) ∷ []))
more_digits n ds h s =
    let d : is_digit (48 + n % 10) ≡ true = grind (arith, nat_tests) in
    let l : leads ds ≡ true = s.lead (omega arith) in
    record {
      digits = list_all-last is_digit ds (48 + n % 10) s.digits d;
      value = let v = value_from-append 0 ds (48 + n % 10) in omega (arith, v, s.value);
      form = has_form-append ds (48 + n % 10) l;
      lead = λ some. leads-append ds (48 + n % 10) l;
    }

decimal-said : (n : ℕ) → n < 2 ^ 64 → IsSaid n (decimal n)
decimal-said n h = decimal_by_steps IsSaid one_digit more_digits n h

-- a number's digits are digits
pub decimal-digits : (n : ℕ) → n < 2 ^ 64 → list_all is_digit (decimal n) ≡ true
decimal-digits n h = let s = decimal-said n h in s.digits

pub number_of-decimal : (n : ℕ) → n < 2 ^ 64 → number_of (decimal n) ≡ Some n
number_of-decimal n h = let s = decimal-said n h in rw (s.form, s.digits, s.value) refl

-- a number in its range is read again
pub number_in-decimal : (low high n : ℕ) → low ≤ n → n ≤ high → n < 2 ^ 64 → number_in (decimal n) low high ≡ Some n
number_in-decimal low high n l h small =
    let a : nat_le low n ≡ true = grind (arith, nat_tests) in
    let b : nat_le n high ≡ true = grind (arith, nat_tests) in
    rw (number_of-decimal n small, a, b) refl

digit_range : (d : ℕ) → is_digit d ≡ true → (48 ≤ d) × (d ≤ 57)
digit_range d h =
    let a : nat_le 48 d ≡ true = and_left (nat_le 48 d) (nat_le d 57) h in
    let b : nat_le d 57 ≡ true = and_right (nat_le 48 d) (nat_le d 57) h in
    (grind (arith, nat_tests), grind (arith, nat_tests))

-- digits behind a number that is not 0
decimal-behind : (n : ℕ) (ds : List ℕ) → 1 ≤ n → list_all is_digit ds ≡ true → value_from n ds < 2 ^ 64 → decimal (value_from n ds) ≡ decimal n ++ ds
decimal-behind n [] some digits small = sym (append-nil (decimal n))
decimal-behind n (d ∷ ds) some digits small =
    let r = digit_range d (and_left (is_digit d) (list_all is_digit ds) digits) in
    let more = value_from-least (10 * n + (d - 48)) ds in
    let again = decimal-behind (10 * n + (d - 48)) ds (omega (arith, some)) (and_right (is_digit d) (list_all is_digit ds) digits) small in
    let step = decimal_step (10 * n + (d - 48)) (omega (arith, some)) (omega (arith, more, small)) in
    let front : (10 * n + (d - 48)) / 10 ≡ n = omega (arith, r.0, r.1) in
    let last : 48 + (10 * n + (d - 48)) % 10 ≡ d = omega (arith, r.0, r.1) in
    let step' : decimal (10 * n + (d - 48)) ≡ decimal n ++ d ∷ [] = step ∙ rw (front, last) refl in
    again ∙ ap (λ (t : List ℕ). t ++ ds) step' ∙ append_assoc (decimal n) (d ∷ []) ds

-- the digits of the number that a text says are the text
decimal-value : (text : List ℕ) → has_form text ≡ true → list_all is_digit text ≡ true → value_from 0 text < 2 ^ 64 → decimal (value_from 0 text) ≡ text
decimal-value [] form digits small = cc
decimal-value (d ∷ []) form digits small =
    let r = digit_range d (and_left (is_digit d) true digits) in
    let e : 10 * 0 + (d - 48) ≡ d - 48 = omega arith in
    let f : 48 + (d - 48) ≡ d = omega (arith, r.0) in
    rw e (decimal_digit (d - 48) (omega (arith, r.1)) ∙ ap (λ (x : ℕ). x ∷ []) f)
decimal-value (d ∷ e ∷ ds) form digits small =
    let r = digit_range d (and_left (is_digit d) (list_all is_digit (e ∷ ds)) digits) in
    let z : 10 * 0 + (d - 48) ≡ d - 48 = omega arith in
    let f : 48 + (d - 48) ≡ d = omega (arith, r.0) in
    let some : 1 ≤ 10 * 0 + (d - 48) = by_test (d == 48) refl form r.0 in
    let one : decimal (10 * 0 + (d - 48)) ≡ d ∷ [] = rw z (decimal_digit (d - 48) (omega (arith, r.1)) ∙ ap (λ (x : ℕ). x ∷ []) f) in
    decimal-behind (10 * 0 + (d - 48)) (e ∷ ds) some (and_right (is_digit d) (list_all is_digit (e ∷ ds)) digits) small ∙ ap (λ (t : List ℕ). t ++ e ∷ ds) one
  where
    by_test : (v : Bool) → (d == 48) ≡ v → not v ≡ true → 48 ≤ d → 1 ≤ 10 * 0 + (d - 48)
    by_test true t h l = cc
    by_test false t h l = let u : d ≡ 48 → ⊥ = λ e. (let g : (d == 48) ≡ true = eq-eqb d 48 e in cc) in grind (arith, nat_tests)

-- a number that was read: its digits are the text, and it is in its range
pub record IsRead (low high : ℕ) (text : List ℕ) (n : ℕ) : Type 0 where
  pub digits : decimal n ≡ text
  pub least : low ≤ n
  pub most : n ≤ high

pub number-read : (low high : ℕ) (text : List ℕ) (n : ℕ) → high < 2 ^ 64 → number_in text low high ≡ Some n → IsRead low high text n
number-read low high text n small h = by_form (has_form text && list_all is_digit text) refl h
  where
    by_range : (v : Bool) → (nat_le low (value_from 0 text) && nat_le (value_from 0 text) high) ≡ v → has_form text ≡ true → list_all is_digit text ≡ true
        → cond v (Some (value_from 0 text)) None ≡ Some n → IsRead low high text n
    by_range true t f d e =
        let is : value_from 0 text ≡ n = cc in
        let a = and_left (nat_le low (value_from 0 text)) (nat_le (value_from 0 text) high) t in
        let b = and_right (nat_le low (value_from 0 text)) (nat_le (value_from 0 text) high) t in
        let l : low ≤ value_from 0 text = grind (arith, nat_tests) in
        let u : value_from 0 text ≤ high = grind (arith, nat_tests) in
        subst (λ (m : ℕ). IsRead low high text m) is (record { digits = decimal-value text f d (omega (arith, u, small)); least = l; most = u })
    by_range false t f d e = cc

    by_form : (v : Bool) → (has_form text && list_all is_digit text) ≡ v
        → option_and_then (λ n. within n low high) (cond v (Some (value_from 0 text)) None) ≡ Some n → IsRead low high text n
    by_form true t e =
        by_range (nat_le low (value_from 0 text) && nat_le (value_from 0 text) high) refl
        (and_left (has_form text) (list_all is_digit text) t)
        (and_right (has_form text) (list_all is_digit text) t) e
    by_form false t e = cc
