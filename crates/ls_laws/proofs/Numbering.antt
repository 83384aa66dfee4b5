-- Numbers in order, and the texts of the lines that they are of.
use Rattle.std.proofs.Common.{◌≡◌, ◌==◌, ℕ, zero, suc, ◌+◌, ◌-◌, ◌<◌, ◌≤◌, List, [], ◌∷◌, ◌++◌, length, map, reverse, take, drop, min, refl, sym, ◌∙◌, ap}
use Rattle.std.proofs.Common.{arith}
use Rattle.std.proofs.Common.{cond, Bool, true, false, nat_lt, append_assoc, append-nil}
use Rattle.std.specs.List.{range_with_len}
use Rattle.std.proofs.lemmas.Bool.{ltb-true, ltb-false, eq-eqb, ne_eqb, lt-ltb}
use Rattle.std.proofs.lemmas.List.{length-append, length-map, reverse-append, drop-append-le, drop_all}
use Rattle.std.proofs.lemmas.List.FromFn.{length-range_with_len, take-map-range_with_len, map-range_with_len_more}
use Rattle.ls_record.specs.Lines.{Line, line_text, text_at, texts_behind}
use Rattle.ls_lawful.specs.Lawful.{Follows}
use Rattle.ls_laws.specs.Streams.{numbers_behind}

-- numbers, and then those behind them
pub numbers_append : (a n m : ℕ) → range_with_len a n ++ range_with_len (a + n) m ≡ range_with_len a (n + m)
numbers_append a zero m =
    let e : a + 0 ≡ a = omega arith in let f : 0 + m ≡ m = omega arith in
    ap (λ k. range_with_len k m) e ∙ ap (range_with_len a) (sym f)
numbers_append a (suc n) m =
    let e : a + suc n ≡ a + 1 + n = omega arith in let f : suc (n + m) ≡ suc n + m = omega arith in
    ap (λ k. a ∷ (range_with_len (a + 1) n ++ range_with_len k m)) e ∙ ap (λ ns. a ∷ ns) (numbers_append (a + 1) n m) ∙ ap (range_with_len a) f

-- and one more
pub numbers_more : (a n : ℕ) → range_with_len a (n + 1) ≡ range_with_len a n ++ (a + n) ∷ []
numbers_more a n = sym (numbers_append a n 1)

-- the first of them
pub numbers_taken : (k a n : ℕ) → take k (range_with_len a n) ≡ range_with_len a (min k n)
numbers_taken zero a n = let e : min 0 n ≡ 0 = omega arith in ap (range_with_len a) (sym e)
numbers_taken (suc k) a zero = let e : min (suc k) 0 ≡ 0 = omega arith in ap (range_with_len a) (sym e)
numbers_taken (suc k) a (suc n) =
    let e : suc (min k n) ≡ min (suc k) (suc n) = omega arith in ap (λ ns. a ∷ ns) (numbers_taken k (a + 1) n) ∙ ap (range_with_len a) e

-- numbers that follow a beginning without a gap
pub follows_in_order : (from : ℕ) (ns : List ℕ) → Follows from ns → reverse ns ≡ numbers_behind from (length ns)
follows_in_order from [] f = refl
follows_in_order from (n ∷ ns) f =
    let e : n ≡ from + 1 + length ns = omega (arith, f.0) in
    let k : length ns + 1 ≡ suc (length ns) = omega arith in
    reverse-append (n ∷ []) ns ∙ (λ i. follows_in_order from ns f.1 i ++ e i ∷ [])
    ∙ sym (numbers_more (from + 1) (length ns)) ∙ ap (range_with_len (from + 1)) k

-- the texts behind a number are those of the lines of the numbers behind it
map_same : (f g : ℕ → List ℕ) (a n : ℕ) → ((k : ℕ) → k < a + n → f k ≡ g k) → map f (range_with_len a n) ≡ map g (range_with_len a n)
map_same f g a zero h = refl
map_same f g a (suc n) h =
    λ i. h a (omega arith) i ∷ map_same f g (a + 1) n (λ k l. h k (omega (arith, l))) i

text_before : (l : Line) (lines : List Line) (k : ℕ) → k < length lines + 1 → text_at (l ∷ lines) k ≡ text_at lines k
text_before l lines k less =
    let e : (k == length lines + 1) ≡ false = ne_eqb k (length lines + 1) (λ x. absurd (omega (arith, less, x))) in
    ap (λ b. cond b (line_text lines l) (text_at lines k)) e

text_last : (l : Line) (lines : List Line) → text_at (l ∷ lines) (length lines + 1) ≡ line_text lines l
text_last l lines = ap (λ b. cond b (line_text lines l) (text_at lines (length lines + 1))) (eq-eqb (length lines + 1) (length lines + 1) refl)

pub texts_are : (n : ℕ) (lines : List Line) → texts_behind n lines ≡ map (text_at lines) (numbers_behind n (length lines - n))
texts_are n [] = let e : 0 - n ≡ 0 = omega arith in ap (λ k. map (text_at []) (numbers_behind n k)) (sym e)
texts_are n (l ∷ lines) = by_test (nat_lt n (length lines + 1)) refl (texts_are n lines)
  where
    by_test : (b : Bool) → nat_lt n (length lines + 1) ≡ b → texts_behind n lines ≡ map (text_at lines) (numbers_behind n (length lines - n))
        → cond b (texts_behind n lines ++ line_text lines l ∷ []) [] ≡ map (text_at (l ∷ lines)) (numbers_behind n (suc (length lines) - n))
    by_test true t rest =
        let within : n < length lines + 1 = ltb-true n (length lines + 1) t in
        let many : length lines - n + 1 ≡ suc (length lines) - n = omega (arith, within) in
        let here : n + 1 + (length lines - n) ≡ length lines + 1 = omega (arith, within) in
        ap (λ ts. ts ++ line_text lines l ∷ []) (rest
        ∙ map_same (text_at lines) (text_at (l ∷ lines)) (n + 1) (length lines - n) (λ k less. sym (text_before l lines k (omega (arith, less, here)))))
        ∙ ap (λ t. map (text_at (l ∷ lines)) (numbers_behind n (length lines - n)) ++ t ∷ []) (sym (text_last l lines))
        ∙ sym (map-range_with_len_more (text_at (l ∷ lines)) (n + 1) (length lines - n) (length lines + 1) here)
        ∙ ap (λ k. map (text_at (l ∷ lines)) (numbers_behind n k)) many
    by_test false t rest =
        let none : suc (length lines) - n ≡ 0 = omega (arith, ltb-false n (length lines + 1) t) in
        ap (λ k. map (text_at (l ∷ lines)) (numbers_behind n k)) (sym none)

pub texts_length : (n : ℕ) (lines : List Line) → length (texts_behind n lines) ≡ length lines - n
texts_length n lines =
    ap length (texts_are n lines) ∙ length-map (numbers_behind n (length lines - n)) (text_at lines) ∙ length-range_with_len (n + 1) (length lines - n)

-- so many of them
pub texts_taken : (n k : ℕ) (lines : List Line) → k ≤ length lines - n → take k (texts_behind n lines) ≡ map (text_at lines) (numbers_behind n k)
texts_taken n k lines within = ap (take k) (texts_are n lines) ∙ take-map-range_with_len (text_at lines) (n + 1) (length lines - n) k within

-- and those behind a number are the rest of all
pub texts_dropped : (n : ℕ) (lines : List Line) → texts_behind n lines ≡ drop n (texts_behind 0 lines)
texts_dropped n [] = sym (drop_all n [] (omega arith))
texts_dropped n (l ∷ lines) = by_test (nat_lt n (length lines + 1)) refl (texts_dropped n lines)
  where
    first : nat_lt 0 (length lines + 1) ≡ true
    first = lt-ltb 0 (length lines + 1) (omega arith)

    all : drop n (texts_behind 0 lines ++ line_text lines l ∷ []) ≡ drop n (texts_behind 0 (l ∷ lines))
    all = ap (λ b. drop n (cond b (texts_behind 0 lines ++ line_text lines l ∷ []) [])) (sym first)

    by_test : (b : Bool) → nat_lt n (length lines + 1) ≡ b → texts_behind n lines ≡ drop n (texts_behind 0 lines)
        → cond b (texts_behind n lines ++ line_text lines l ∷ []) [] ≡ drop n (texts_behind 0 (l ∷ lines))
    by_test true t rest =
        ap (λ ts. ts ++ line_text lines l ∷ []) rest
        ∙ sym (drop-append-le n (texts_behind 0 lines) (line_text lines l ∷ []) (omega (arith, texts_length 0 lines, ltb-true n (length lines + 1) t)))
        ∙ all
    by_test false t rest =
        sym (drop_all n (texts_behind 0 lines ++ line_text lines l ∷ [])
        (omega (arith, length-append (texts_behind 0 lines) (line_text lines l ∷ []), texts_length 0 lines, ltb-false n (length lines + 1) t)))
        ∙ all

-- more lines leave the texts of those before
pub texts_grown : (more lines : List Line) → (ts : List (List ℕ)) × (texts_behind 0 (more ++ lines) ≡ texts_behind 0 lines ++ ts)
texts_grown [] lines = ([], sym (append-nil (texts_behind 0 lines)))
texts_grown (l ∷ more) lines =
    let k = texts_grown more lines in
    let t : List ℕ = line_text (more ++ lines) l in
    let first : nat_lt 0 (length (more ++ lines) + 1) ≡ true = lt-ltb 0 (length (more ++ lines) + 1) (omega arith) in (
      k.0 ++ t ∷ [],
      ap (λ b. cond b (texts_behind 0 (more ++ lines) ++ t ∷ []) []) first
          ∙ ap (λ ts. ts ++ t ∷ []) k.1
          ∙ append_assoc (texts_behind 0 lines) k.0 (t ∷ []),
    )
