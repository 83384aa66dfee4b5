-- What tokens say of a row: parts of it, and that they say one row.
use Rattle.std.proofs.Common.{◌≡◌, ℕ, ◌≤◌, List, [], ◌∷◌, ◌++◌, length, take, drop, sym, ap, ◌∙◌, arith, length-append}
use Rattle.std.proofs.lemmas.List.{take-append-le, drop-append-le, length-take, length-drop, length-take-le, take_all}
use Rattle.std.proofs.lemmas.List.{drop_all}
use Rattle.ls_value.specs.declared.row.Value.{Value}
use Rattle.ls_update.specs.Reading.{Says, unchanged, run, null, empty, text, Reads}

-- a token says a value of each field that it speaks of
pub length_says : (before now : List Value) (token : List ℕ) → Says before token now → length now ≡ length before
length_says before now token (unchanged one t n) = ap length n
length_says before now token (run some t n) = ap length n
length_says before now token (null one t n) = ap length n ∙ sym one
length_says before now token (empty one t n) = ap length n ∙ sym one
length_says before now token (text one t u n) = ap length n ∙ sym one

-- and it speaks of one field or more
pub some_says : (before now : List Value) (token : List ℕ) → Says before token now → 1 ≤ length before
some_says before now token (unchanged one t n) = omega (arith, one)
some_says before now token (run some t n) = some
some_says before now token (null one t n) = omega (arith, one)
some_says before now token (empty one t n) = omega (arith, one)
some_says before now token (text one t u n) = omega (arith, one)

-- the values that it says are as many as those before
fields_said : (prev row : List Value) (token : List ℕ) (k : ℕ) → k ≤ length prev → Says (take k prev) token (take k row)
    → k ≤ length row
fields_said prev row token k within says =
    let same = length_says (take k prev) (take k row) token says in
    let p = length-take-le k prev within in
    let r = length-take k row in
    omega (arith, same, p, r)

-- a row of two parts
pub Reads-append : (a b : List Value) (ts us : List (List ℕ)) (r s : List Value) → Reads a ts r → Reads b us s
    → Reads (a ++ b) (ts ++ us) (r ++ s)
Reads-append a b [] us r s (x, y) h = rw (x, y) h
Reads-append a b (t ∷ ts) us r s (k, within, says, rest) h =
    let long = fields_said a r t k within says in
    let more : k ≤ length (a ++ b) = omega (arith, length-append a b, within) in (
      k,
      more,
      rw (take-append-le k a b within, take-append-le k r s long) says,
      rw
          (drop-append-le k a b within, drop-append-le k r s long) (Reads-append (drop k a) b ts us (drop k r) s rest h),
    )

-- one token alone
pub Reads-one : (before now : List Value) (token : List ℕ) → Says before token now → Reads before (token ∷ []) now
Reads-one before now token says =
    let same = length_says before now token says in
    let n = length now in
    let all : take (length before) before ≡ before = take_all (length before) before (omega arith) in
    let new : take (length before) now ≡ now = take_all (length before) now (omega (arith, same)) in
    let none : drop (length before) before ≡ [] = drop_all (length before) before (omega arith) in
    let over : drop (length before) now ≡ [] = drop_all (length before) now (omega (arith, same)) in
    (length before, omega arith, rw (all, new) says, (none, over))

-- a row has a value for each field
pub length_reads : (prev row : List Value) (tokens : List (List ℕ)) → Reads prev tokens row → length row ≡ length prev
length_reads prev row [] (x, y) = ap length y ∙ sym (ap length x)
length_reads prev row (t ∷ ts) (k, within, says, rest) =
    let long = fields_said prev row t k within says in
    let same = length_reads (drop k prev) (drop k row) ts rest in
    omega (arith, same, length-drop k prev, length-drop k row)
