-- The first fault, from the left and behind any tokens.
use Rattle.std.proofs.Common.{◌≡◌, ℕ, zero, suc, ◌+◌, ◌-◌, ◌<◌, ◌≤◌, ◌^◌, inl, inr, List, [], ◌∷◌, length, take, drop}
use Rattle.std.proofs.Common.{get_or, sym, ap, ◌∙◌, arith, ◌⊎◌, Result, Ok, Err, IfOk, IfErr}
use Rattle.std.specs.Prelude.{MatchResult}
use Rattle.std.proofs.lemmas.List.{length-take-le, length-drop, take-append-drop, drop-take, take-append-le}
use Rattle.ls_value.specs.declared.row.Value.{Value}
use Rattle.ls_update.specs.declared.reading.ReadRefused.{ReadRefused}
use Rattle.ls_update.specs.declared.reading.ReadRefused.TheVariants as refused
use Rattle.ls_update.specs.Reading.{Reads, IsFault, FirstFault, Refuses}
use Rattle.ls_update.proofs.Exact.{Faults, one_row, one_fault_behind, no_fault_behind}

-- no fields stand before the first token
none_before : (prev : List Value) (m : ℕ) → m ≤ length prev → take m prev ≡ [] → m ≡ 0
none_before prev m within is =
    let n = length-take-le m prev within in
    let z : length (take m prev) ≡ 0 = ap length is in
    omega (arith, n, z)

-- the first fields of the first
take_within : (prev : List Value) (k m : ℕ) → k ≤ m → m ≤ length prev → take k (take m prev) ≡ take k prev
take_within prev k m within inside =
    let e = take-append-le k (take m prev) (drop m prev) (let n = length-take-le m prev inside in omega
    (arith, n, within)) in
    sym e ∙ ap (λ (x : List Value). take k x) (take-append-drop m prev)

rest_within : (prev : List Value) (k m : ℕ) → k ≤ m → drop k (take m prev) ≡ take (m - k) (drop k prev)
rest_within prev k m within =
    let e : k + (m - k) ≡ m = omega (arith, within) in
    ap (λ (x : ℕ). drop k (take x prev)) (sym e) ∙ drop-take k (m - k) prev

-- a token at fault behind tokens that say the first fields
fault_behind : (number got i m : ℕ) (prev row : List Value) (tokens : List (List ℕ)) (fault : ReadRefused)
    → i < length tokens → m ≤ length prev
    → Reads (take m prev) (take i tokens) row
    → IsFault (record { bytes = get_or tokens i []; number = number + i; left = length prev - m }) fault
    → Faults number got prev tokens fault
fault_behind number got i m prev row [] fault stands within reads bad = absurd (omega (arith, stands))
fault_behind number got zero m prev row (t ∷ ts) fault stands within (x, y) bad =
    let z : m ≡ 0 = none_before prev m within x in
    let left : length prev - m ≡ length prev = omega (arith, z) in
    let at : number + zero ≡ number = omega arith in
    inl (rw (left, at) at bad)
fault_behind number got (suc i) m prev row (t ∷ ts) fault stands within (k, inside, says, rest) bad =
    let n = length-take-le m prev within in
    let few : k ≤ m = omega (arith, n, inside) in
    let d = length-drop k prev in
    let left : length prev - m ≡ length (drop k prev) - (m - k) = omega (arith, d, few) in
    let at : number + suc i ≡ number + 1 + i = omega arith in
    inr (
      k,
      omega (arith, few, within),
      take k row,
      rw (take_within prev k m few within) at says,
      fault_behind
          (number + 1) (got + k) i (m - k) (drop k prev) (drop k row) ts fault (omega (arith, stands))
          (omega (arith, d, few, within)) (rw (rest_within prev k m few) at rest) (rw (left, at) at bad),
    )

-- fields that are left behind the tokens
few_behind : (number got m : ℕ) (prev row : List Value) (tokens : List (List ℕ)) → m < length prev
    → Reads (take m prev) tokens row → Faults number got prev tokens (refused.TooFew (got + m))
few_behind number got m prev row [] few (x, y) =
    let z : m ≡ 0 = none_before prev m (omega (arith, few)) x in
    (omega (arith, few), ap refused.TooFew (let e : got + m ≡ got = omega (arith, z) in e))
few_behind number got m prev row (t ∷ ts) few (k, inside, says, rest) =
    let n = length-take-le m prev (omega (arith, few)) in
    let within : k ≤ m = omega (arith, n, inside) in
    let d = length-drop k prev in
    let sum : got + k + (m - k) ≡ got + m = omega (arith, within) in
    let behind = few_behind (number + 1) (got + k) (m - k) (drop k prev) (drop k row) ts (omega (arith, d, within, few))
    (rw (rest_within prev k m within) at rest) in
    inr (
      k,
      omega (arith, within, few),
      take k row,
      rw (take_within prev k m within (omega (arith, few))) at says,
      rw
          sum at behind,
    )

from_first : (prev : List Value) (tokens : List (List ℕ)) (fault : ReadRefused) → FirstFault prev tokens fault
    → Faults 1 0 prev tokens fault
from_first prev tokens (refused.TooFew got) first = let e = few_behind 1 0 got prev first.row tokens first.few
    first.before in let z : 0 + got ≡ got = omega arith in rw z at e
from_first prev tokens (refused.TooMany stands) first = fault_behind 1 0 first.behind first.fields prev first.row tokens
    (refused.TooMany stands) first.stands first.within first.before
    (let e : first.behind + 1 ≡ 1 + first.behind = omega arith in rw e at first.is)
from_first prev tokens (refused.BadRun stands) first = fault_behind 1 0 first.behind first.fields prev first.row tokens
    (refused.BadRun stands) first.stands first.within first.before
    (let e : first.behind + 1 ≡ 1 + first.behind = omega arith in rw e at first.is)
from_first prev tokens (refused.BadText stands) first = fault_behind 1 0 first.behind first.fields prev first.row tokens
    (refused.BadText stands) first.stands first.within first.before
    (let e : first.behind + 1 ≡ 1 + first.behind = omega arith in rw e at first.is)
from_first prev tokens refused.NoMemory first = absurd first

-- tokens have one first fault
pub one_fault : (prev : List Value) (tokens : List (List ℕ)) (e f : ReadRefused) → length prev < 2 ^ 64
    → FirstFault prev tokens e → FirstFault prev tokens f → e ≡ f
one_fault prev tokens e f small x y = one_fault_behind 1 0 prev tokens e f small (from_first prev tokens e x)
    (from_first prev tokens f y)

-- and none where they say a row
pub no_first_fault : (prev row : List Value) (tokens : List (List ℕ)) (e : ReadRefused) → length prev < 2 ^ 64
    → Reads prev tokens row → FirstFault prev tokens e → ⊥
no_first_fault prev row tokens e small x y = no_fault_behind 1 0 prev row tokens e small x (from_first prev tokens e y)

-- an answer that is right is the one row, or want of memory
pub exact_row : (prev : List Value) (tokens : List (List ℕ)) (answer : Result (List Value) ReadRefused)
    → length prev < 2 ^ 64 → IfOk answer (λ row. Reads prev tokens row) → IfErr answer (λ e. Refuses prev tokens e)
    → (row : List Value) → Reads prev tokens row → MatchResult answer (λ r. r ≡ row) (λ e. e ≡ refused.NoMemory)
exact_row prev tokens (Ok r) small ok err row reads = one_row prev r row tokens small ok reads
exact_row prev tokens (Err e) small ok (inl memory) row reads = memory
exact_row prev tokens (Err e) small ok (inr first) row reads =
    absurd (no_first_fault prev row tokens e small reads first)

-- or the one first fault, or want of memory
pub exact_fault : (prev : List Value) (tokens : List (List ℕ)) (answer : Result (List Value) ReadRefused)
    → length prev < 2 ^ 64 → IfOk answer (λ row. Reads prev tokens row) → IfErr answer (λ e. Refuses prev tokens e)
    → (fault : ReadRefused) → FirstFault prev tokens fault → MatchResult answer (λ r. ⊥)
    (λ e. (e ≡ refused.NoMemory) ⊎ (e ≡ fault))
exact_fault prev tokens (Ok r) small ok err fault first = no_first_fault prev r tokens fault small ok first
exact_fault prev tokens (Err e) small ok (inl memory) fault first = inl memory
exact_fault prev tokens (Err e) small ok (inr other) fault first = inr (one_fault prev tokens e fault small other first)
