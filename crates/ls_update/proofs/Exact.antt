-- Tokens say one row, or have one first fault.
use Rattle.std.proofs.Common.{◌≡◌, ◌⊎◌, inl, inr, ℕ, ◌+◌, ◌<◌, ◌≤◌, ◌^◌, Bool, true, false, not, ◌||◌, ◌==◌}
use Rattle.std.proofs.Common.{if◌then◌else◌, List, [], ◌∷◌, ◌++◌, length, take, drop, sym, refl, ap, ◌∙◌, arith}
use Rattle.std.specs.Fmt.{decimal}
use Rattle.std.proofs.lemmas.Fmt.{decimal_injective}
use Rattle.std.proofs.lemmas.List.{length-take-le, length-drop, take-append-drop}
use Rattle.percent_encoding.specs.Percent.{percent_decode}
use Rattle.ls_value.specs.declared.row.Value.{Value}
use Rattle.ls_value.specs.declared.row.Value.TheVariants as value
use Rattle.ls_update.specs.declared.reading.ReadRefused.{ReadRefused}
use Rattle.ls_update.specs.declared.reading.ReadRefused.TheVariants as refused
use Rattle.ls_update.specs.Reading.{Says, unchanged, run, null, empty, text, Reads, says_text, begins_run, Token, IsFault}
use Rattle.ls_update.proofs.Said.{some_says}

-- the value that a token says that isn't empty and no run
abbrev one_said : List ℕ → Value
one_said [] = value.Null
one_said (b ∷ []) = if b == 35 then value.Null else if b == 36 then value.Text []
    else value.Text (percent_decode (b ∷ []))
one_said (b ∷ c ∷ bs) = value.Text (percent_decode (b ∷ c ∷ bs))

-- the values that a token says
abbrev all_said : List Value → List ℕ → List Value
all_said before [] = before
all_said before (b ∷ bs) = if b == 94 then before else one_said (b ∷ bs) ∷ []

text_said : (before : List Value) (token : List ℕ) → says_text token ≡ true
    → all_said before token ≡ value.Text (percent_decode token) ∷ []
text_said before [] says = cc
text_said before (b ∷ []) says = by_tests (b == 35) (b == 36) (b == 94) says
  where
    by_tests : (x y z : Bool) → not (x || y || z) ≡ true
        → (if z then before else (if x then value.Null else if y then value.Text []
        else value.Text (percent_decode (b ∷ []))) ∷ []) ≡ value.Text (percent_decode (b ∷ [])) ∷ []
    by_tests true y z h = cc
    by_tests false true z h = cc
    by_tests false false true h = cc
    by_tests false false false h = refl
text_said before (b ∷ c ∷ bs) says = by_test (b == 94) says
  where
    by_test : (z : Bool) → not z ≡ true → (if z then before else value.Text (percent_decode (b ∷ c ∷ bs)) ∷ [])
        ≡ value.Text (percent_decode (b ∷ c ∷ bs)) ∷ []
    by_test true h = cc
    by_test false h = refl

said_is : (before now : List Value) (token : List ℕ) → Says before token now → now ≡ all_said before token
said_is before now token (unchanged one t n) = rw t n
said_is before now token (run some t n) = rw t n
said_is before now token (null one t n) = rw t n
said_is before now token (empty one t n) = rw t n
said_is before now token (text one t u n) = n ∙ sym (text_said before token t)

-- a text is no run
text_no_run : (token : List ℕ) → says_text token ≡ true → begins_run token ≡ false
text_no_run [] h = cc
text_no_run (b ∷ []) h = by_tests (b == 35) (b == 36) (b == 94) h
  where
    by_tests : (x y z : Bool) → not (x || y || z) ≡ true → z ≡ false
    by_tests true y z h = cc
    by_tests false true z h = cc
    by_tests false false true h = cc
    by_tests false false false h = refl
text_no_run (b ∷ c ∷ bs) h = by_test (b == 94) h
  where
    by_test : (z : Bool) → not z ≡ true → z ≡ false
    by_test true h = cc
    by_test false h = refl

-- a token that is no run says one field, and a run its number
one_or_run : (before now : List Value) (token : List ℕ) → Says before token now
    → ((begins_run token ≡ false) × (length before ≡ 1)) ⊎ (token ≡ 94 ∷ decimal (length before))
one_or_run before now token (unchanged one t n) = inl (rw t refl, one)
one_or_run before now token (run some t n) = inr t
one_or_run before now token (null one t n) = inl (rw t refl, one)
one_or_run before now token (empty one t n) = inl (rw t refl, one)
one_or_run before now token (text one t u n) = inl (text_no_run token t, one)

same_count : (a b r s : List Value) (token : List ℕ) → length a < 2 ^ 64 → length b < 2 ^ 64 → Says a token r
    → Says b token s → length a ≡ length b
same_count a b r s token small few x y = by_kind (one_or_run a r token x) (one_or_run b s token y)
  where
    by_kind : ((begins_run token ≡ false) × (length a ≡ 1)) ⊎ (token ≡ 94 ∷ decimal (length a))
        → ((begins_run token ≡ false) × (length b ≡ 1)) ⊎ (token ≡ 94 ∷ decimal (length b)) → length a ≡ length b
    by_kind (inl (n, one)) (inl (m, other)) = one ∙ sym other
    by_kind (inl (n, one)) (inr t) = absurd (let h : begins_run token ≡ true = rw t refl in cc)
    by_kind (inr t) (inl (m, other)) = absurd (let h : begins_run token ≡ true = rw t refl in cc)
    by_kind (inr t) (inr u) = decimal_injective (length a) (length b) small few
        (let e : 94 ∷ decimal (length a) ≡ 94 ∷ decimal (length b) = sym t ∙ u in cc)

same_said : (before r s : List Value) (token : List ℕ) → Says before token r → Says before token s → r ≡ s
same_said before r s token x y = said_is before r token x ∙ sym (said_is before s token y)

-- two readings of a first token speak of as many fields
same_fields : (prev r s : List Value) (token : List ℕ) (k m : ℕ) → length prev < 2 ^ 64 → k ≤ length prev
    → m ≤ length prev → Says (take k prev) token r → Says (take m prev) token s → k ≡ m
same_fields prev r s token k m small within inside x y =
    let a = length-take-le k prev within in
    let b = length-take-le m prev inside in
    let e = same_count (take k prev) (take m prev) r s token (omega (arith, a, within, small))
    (omega (arith, b, inside, small)) x y in
    sym a ∙ e ∙ b

fewer : (prev : List Value) (k : ℕ) → length prev < 2 ^ 64 → length (drop k prev) < 2 ^ 64
fewer prev k small = let n = length-drop k prev in omega (arith, n, small)

-- tokens say one row
pub one_row : (prev r s : List Value) (tokens : List (List ℕ)) → length prev < 2 ^ 64 → Reads prev tokens r
    → Reads prev tokens s → r ≡ s
one_row prev r s [] small (x, y) (z, w) = y ∙ sym w
one_row prev r s (t ∷ ts) small (k, within, says, rest) (m, inside, said, other) =
    let e : m ≡ k = same_fields prev (take m s) (take k r) t m k small inside within said says in
    let first : take k r ≡ take k s = same_said (take k prev) (take k r) (take k s) t says (rw e at said) in
    let behind : drop k r ≡ drop k s = one_row (drop k prev) (drop k r) (drop k s) ts (fewer prev k small) rest
    (rw e at other) in
    sym (take-append-drop k r) ∙ ap (λ x. x ++ drop k r) first ∙ ap (λ x. take k s ++ x) behind ∙ take-append-drop k s

-- a token that says something is at no fault
no_fault : (before now : List Value) (token : Token) (fault : ReadRefused) → Says before token.bytes now
    → length before ≤ token.left → IsFault token fault → ⊥
no_fault before now token (refused.TooFew got) says within bad = bad
no_fault before now token (refused.TooMany stands) says within (is, none) =
    let some = some_says before now token.bytes says in absurd (omega (arith, some, within, none))
no_fault before now token (refused.BadRun stands) says within (is, some, begins, none) =
    by_kind (one_or_run before now token.bytes says)
  where
    by_kind : ((begins_run token.bytes ≡ false) × (length before ≡ 1)) ⊎ (token.bytes ≡ 94 ∷ decimal (length before)) → ⊥
    by_kind (inl (n, one)) = absurd (let e : false ≡ true = sym n ∙ begins in cc)
    by_kind (inr t) = none (length before) (some_says before now token.bytes says) within t
no_fault before now token (refused.BadText stands) says within (is, some, plain, none) = by_kind says
  where
    by_kind : Says before token.bytes now → ⊥
    by_kind (unchanged one t n) = absurd (let e : says_text [] ≡ true = rw t at plain in cc)
    by_kind (run many t n) = absurd (let e : false ≡ true = sym (text_no_run token.bytes plain) ∙ ap begins_run t in cc)
    by_kind (null one t n) = absurd (let e : says_text (35 ∷ []) ≡ true = rw t at plain in cc)
    by_kind (empty one t n) = absurd (let e : says_text (36 ∷ []) ≡ true = rw t at plain in cc)
    by_kind (text one t u n) = none u
no_fault before now token refused.NoMemory says within bad = bad

no_text_run : (token : List ℕ) → says_text token ≡ true → begins_run token ≡ true → ⊥
no_text_run token plain begins = absurd (let e : false ≡ true = sym (text_no_run token plain) ∙ begins in cc)

-- a token has one fault
same_fault : (token : Token) (e f : ReadRefused) → IsFault token e
    → IsFault token f → e ≡ f
same_fault token (refused.TooFew got) f x y = absurd x
same_fault token refused.NoMemory f x y = absurd x
same_fault token (refused.TooMany a) (refused.TooFew b) x y = absurd y
same_fault token (refused.TooMany a) (refused.TooMany b) x y = ap refused.TooMany (x.0 ∙ sym y.0)
same_fault token (refused.TooMany a) (refused.BadRun b) (is, none) (at, some, kind, y) =
    absurd (omega (arith, none, some))
same_fault token (refused.TooMany a) (refused.BadText b) (is, none) (at, some, kind, y) =
    absurd (omega (arith, none, some))
same_fault token (refused.TooMany a) refused.NoMemory x y = absurd y
same_fault token (refused.BadRun a) (refused.TooFew b) x y = absurd y
same_fault token (refused.BadRun a) (refused.TooMany b) (at, some, kind, x) (is, none) =
    absurd (omega (arith, none, some))
same_fault token (refused.BadRun a) (refused.BadRun b) x y = ap refused.BadRun (x.0 ∙ sym y.0)
same_fault token (refused.BadRun a) (refused.BadText b) (at, some, begins, x) (is, more, plain, y) =
    absurd (no_text_run token.bytes plain begins)
same_fault token (refused.BadRun a) refused.NoMemory x y = absurd y
same_fault token (refused.BadText a) (refused.TooFew b) x y = absurd y
same_fault token (refused.BadText a) (refused.TooMany b) (at, some, kind, x) (is, none) =
    absurd (omega (arith, none, some))
same_fault token (refused.BadText a) (refused.BadRun b) (is, more, plain, y) (at, some, begins, x) =
    absurd (no_text_run token.bytes plain begins)
same_fault token (refused.BadText a) (refused.BadText b) x y = ap refused.BadText (x.0 ∙ sym y.0)
same_fault token (refused.BadText a) refused.NoMemory x y = absurd y

-- the token of a number, where these fields are left
abbrev pub token_at : ℕ → List Value → List ℕ → Token
token_at number fields bytes = record { bytes = bytes; number = number; left = length fields }

-- the first fault of tokens from a number on, where so many fields were said before
abbrev pub Faults : ℕ → ℕ → List Value → List (List ℕ) → ReadRefused → Type 0
Faults number got prev [] fault = (1 ≤ length prev) × (fault ≡ refused.TooFew got)
Faults number got prev (t ∷ ts) fault = IsFault (token_at number prev t) fault
    ⊎ ((k : ℕ) × (k ≤ length prev) × (now : List Value) × Says (take k prev) t now
    × Faults (number + 1) (got + k) (drop k prev) ts fault)

pub one_fault_behind : (number got : ℕ) (prev : List Value) (tokens : List (List ℕ)) (e f : ReadRefused)
    → length prev < 2 ^ 64 → Faults number got prev tokens e → Faults number got prev tokens f → e ≡ f
one_fault_behind number got prev [] e f small x y = x.1 ∙ sym y.1
one_fault_behind number got prev (t ∷ ts) e f small (inl x) (inl y) = same_fault (token_at number prev t) e f x y
one_fault_behind number got prev (t ∷ ts) e f small (inl x) (inr (k, within, now, says, y)) =
    absurd (no_fault (take k prev) now (token_at number prev t) e says
    (omega (arith, length-take-le k prev within, within)) x)
one_fault_behind number got prev (t ∷ ts) e f small (inr (k, within, now, says, x)) (inl y) =
    absurd (no_fault (take k prev) now (token_at number prev t) f says
    (omega (arith, length-take-le k prev within, within)) y)
one_fault_behind number got prev (t ∷ ts) e f small (inr (k, within, now, says, x)) (inr (m, inside, new, said, y)) =
    let same : m ≡ k = same_fields prev new now t m k small inside within said says in
    one_fault_behind (number + 1) (got + k) (drop k prev) ts e f (fewer prev k small) x (rw same at y)

pub no_fault_behind : (number got : ℕ) (prev row : List Value) (tokens : List (List ℕ)) (e : ReadRefused)
    → length prev < 2 ^ 64 → Reads prev tokens row → Faults number got prev tokens e → ⊥
no_fault_behind number got prev row [] e small (x, y) (some, z) =
    absurd (let n : length prev ≡ 0 = ap length x in omega (arith, n, some))
no_fault_behind number got prev row (t ∷ ts) e small (k, within, says, rest) (inl x) =
    no_fault (take k prev) (take k row) (token_at number prev t) e says
    (omega (arith, length-take-le k prev within, within)) x
no_fault_behind number got prev row (t ∷ ts) e small (k, within, says, rest) (inr (m, inside, new, said, y)) =
    let same : m ≡ k = same_fields prev new (take k row) t m k small inside within said says in
    no_fault_behind (number + 1) (got + k) (drop k prev) (drop k row) ts e (fewer prev k small) rest (rw same at y)
