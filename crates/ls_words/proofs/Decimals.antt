-- Numbers above the highest one, and the last digit of a number.
use Rattle.std.proofs.Common.{◌≡◌, ◌<◌, ◌≤◌, ◌^◌, ℕ, ◌+◌, ◌*◌, ◌-◌, ◌/◌, ◌%◌, List, [], ◌∷◌, ◌++◌, drop, length, get_or, Bool, true, false, ◌&&◌, nat_le, cond}
use Rattle.std.proofs.Common.{None, Some, option_and_then, refl, sym, ap, ◌∙◌, arith, append_assoc, Result, Ok, Err, OnErr}
use Rattle.std.specs.Fmt.{decimal}
use Rattle.std.proofs.lemmas.Fmt.{decimal_step, decimal_digit, length-decimal-le}
use Rattle.std.proofs.lemmas.Bool.Decides.{nat_tests}
use Rattle.std.proofs.lemmas.List.{at_drop_more, length-append}
use Rattle.std.specs.List.{list_all}
use Rattle.ls_words.specs.Numbers.{value_from, has_form, is_digit, within, number_in}

-- the value of digits behind a number is not below it
pub value_from-least : (n : ℕ) (ds : List ℕ) → n ≤ value_from n ds
value_from-least n [] = omega arith
value_from-least n (d ∷ ds) = let h = value_from-least (10 * n + (d - 48)) ds in omega (arith, h)

-- a text that says more than the highest number
pub above : (low high : ℕ) (text : List ℕ) → high < value_from 0 text → None ≡ number_in text low high
above low high text h =
    let t : nat_le (value_from 0 text) high ≡ false = grind (arith, nat_tests) in
    by_form (has_form text && list_all is_digit text) (nat_le low (value_from 0 text)) t
  where
    by_form : (v w : Bool) → nat_le (value_from 0 text) high ≡ false
        → None ≡ option_and_then (λ n. within n low high) (cond v (Some (value_from 0 text)) None)
    by_form true w t = by_low (nat_le low (value_from 0 text)) (nat_le (value_from 0 text) high) (value_from 0 text) t
      where
        by_low : (a b : Bool) (n : ℕ) → b ≡ false → None ≡ cond (a && b) (Some n) None
        by_low true b n e = rw e refl
        by_low false b n e = refl
    by_form false w t = refl

-- a text whose digits up to a place pass the highest number
pub above_at : (low high n i : ℕ) (text : List ℕ) → i < length text → high < 10 * n + (get_or text i 0 - 48) → value_from n (drop i text) ≡ value_from 0 text
    → None ≡ number_in text low high
above_at low high n i text inside more rest =
    let least = value_from-least (10 * n + (get_or text i 0 - 48)) (drop (i + 1) text) in
    let same : value_from n (drop i text) ≡ value_from (10 * n + (get_or text i 0 - 48)) (drop (i + 1) text) = at_drop_more (value_from n) text i 0 inside in
    above low high text (omega (arith, more, least, same, rest))

-- a number's last digit behind those before it
pub decimal-more : (text : List ℕ) (n : ℕ) → 10 ≤ n → n < 2 ^ 64 → (text ++ decimal (n / 10)) ++ (48 + n % 10) ∷ [] ≡ text ++ decimal n
decimal-more text n more small = append_assoc text (decimal (n / 10)) ((48 + n % 10) ∷ []) ∙ ap (λ (ds : List ℕ). text ++ ds) (sym (decimal_step n more small))

pub decimal-one : (text : List ℕ) (n : ℕ) → n < 10 → text ++ (48 + n) ∷ [] ≡ text ++ decimal n
decimal-one text n less = ap (λ (ds : List ℕ). text ++ ds) (sym (decimal_digit n less))

-- how long a text is behind which all digits but the last one stand
pub digits-before : (before after : List ℕ) (n : ℕ) → 10 ≤ n → n < 2 ^ 64 → after ≡ before ++ decimal (n / 10) → length after ≤ length before + 19
digits-before before after n more small is =
    omega (
      arith,
      ap length is,
      length-append before (decimal (n / 10)),
      length-decimal-le 19 (n / 10) (omega arith) (omega arith) (omega arith),
    )

-- what is true is so where a call failed
pub on_failed : {A E P : Type 0} (r : Result A E) → P → OnErr r P
on_failed (Ok a) p = tt
on_failed (Err e) p = p
