-- How a row grows token by token.
use Rattle.std.proofs.Common.{◌≡◌, ℕ, ◌+◌, ◌-◌, ◌<◌, ◌≤◌, List, [], ◌∷◌, ◌++◌, length, take, drop, get_or, sym, refl}
use Rattle.std.proofs.Common.{ap, ◌∙◌, arith, length-append, append-nil, subst, inl, inr}
use Rattle.std.proofs.Math.Seq.{take-add, drop-append_seam}
use Rattle.std.proofs.lemmas.List.{take-append-drop, drop-drop, drop_more, length-drop}
use Rattle.ls_value.specs.declared.row.Value.{Value}
use Rattle.ls_update.specs.declared.reading.ReadRefused.{ReadRefused}
use Rattle.ls_update.specs.declared.reading.ReadRefused.TheVariants as refused
use Rattle.ls_update.specs.Reading.{Says, Reads, Token, IsFault, FaultAt, FirstFault, Refuses}
use Rattle.ls_update.specs.Growing.{Grows, RefusesToken}
use Rattle.ls_update.proofs.Said.{Reads-append, Reads-one}

-- a row that grew by these values
pub grows_by : (prev old now new : List Value) (token : List ℕ) → new ≡ old ++ now
    → length old + length now ≤ length prev → Says (take (length now) (drop (length old) prev)) token now
    → Grows prev old token new
grows_by prev old now new token is within says =
    let n : length new ≡ length old + length now = ap length is ∙ length-append old now in
    let more : drop (length old) new ≡ now = rw is (drop-append_seam old now) in
    let k : length new - length old ≡ length now = omega (arith, n) in
    record { within = omega (arith, n, within); kept = rw more is; says = rw (k, more) says }

-- a row that grew by one value
pub grows_one : (prev old new : List Value) (v : Value) (token : List ℕ) → new ≡ old ++ v ∷ []
    → length old < length prev → ((x : Value) → Says (x ∷ []) token (v ∷ [])) → Grows prev old token new
grows_one prev old new v token is within says =
    let one : take 1 (drop (length old) prev) ≡ get_or prev (length old) v ∷ [] =
    rw (drop_more prev (length old) v within) refl in
    grows_by prev old (v ∷ []) new token is (omega (arith, within)) (rw one (says (get_or prev (length old) v)))

-- the next element, and those behind it
pub take_next : {X : Type 0} (xs : List X) (i : ℕ) (x : X) (ys : List X) → drop i xs ≡ x ∷ ys
    → take (i + 1) xs ≡ take i xs ++ x ∷ []
take_next xs i x ys is = rw (take-add i 1 xs, is) refl

pub drop_next : {X : Type 0} (xs : List X) (i : ℕ) (x : X) (ys : List X) → drop i xs ≡ x ∷ ys → drop (i + 1) xs ≡ ys
drop_next xs i x ys is = sym (drop-drop 1 i xs) ∙ ap (λ zs. drop 1 zs) is

pub stands_next : {X : Type 0} (xs : List X) (i : ℕ) (x : X) (ys : List X) → drop i xs ≡ x ∷ ys → i < length xs
stands_next xs i x ys is =
    let n = length-drop i xs in
    let m : length (drop i xs) ≡ length (x ∷ ys) = ap length is in
    omega (arith, n, m)

pub get_next : {X : Type 0} (xs : List X) (i : ℕ) (x d : X) (ys : List X) → drop i xs ≡ x ∷ ys → get_or xs i d ≡ x
get_next xs i x d ys is =
    let within = stands_next xs i x ys is in
    let e : get_or xs i d ∷ drop (i + 1) xs ≡ x ∷ ys = sym (drop_more xs i d within) ∙ is in
    cc

-- the tokens so far say the fields so far, and one more token says more of them
pub reads_next : (prev old new : List Value) (tokens others : List (List ℕ)) (behind : ℕ) (token : List ℕ)
    → drop behind tokens ≡ token ∷ others
    → Reads (take (length old) prev) (take behind tokens) old → Grows prev old token new
    → Reads (take (length new) prev) (take (behind + 1) tokens) new
reads_next prev old new tokens others behind token is said grows =
    let n : length new ≡ length old + length (drop (length old) new) =
    ap length grows.kept ∙ length-append old (drop (length old) new) in
    let j : length new ≡ length old + (length new - length old) = omega (arith, n) in
    let fields : take (length new) prev ≡ take (length old) prev
    ++ take (length new - length old) (drop (length old) prev) =
    ap (λ k. take k prev) j ∙ take-add (length old) (length new - length old) prev in
    let whole = Reads-append (take (length old) prev) (take (length new - length old) (drop (length old) prev))
    (take behind tokens) (token ∷ []) old (drop (length old) new) said (Reads-one _ _ token grows.says) in
    let row =
    subst (λ (r : List Value). Reads (take (length old) prev
    ++ take (length new - length old) (drop (length old) prev)) (take behind tokens ++ token ∷ []) r)
    (sym grows.kept) whole in
    rw (fields, take_next tokens behind token others is) row

-- a token behind so many others, which say the fields so far
abbrev next_token : List Value → List Value → List ℕ → ℕ → Token
next_token prev old token behind = record { bytes = token; number = behind + 1; left = length prev - length old }

-- where it is at fault
pub fault_next : (prev old : List Value) (tokens others : List (List ℕ)) (behind : ℕ) (token : List ℕ)
    (fault : ReadRefused) → drop behind tokens ≡ token ∷ others
    → length old ≤ length prev → Reads (take (length old) prev) (take behind tokens) old
    → IsFault (next_token prev old token behind) fault → FirstFault prev tokens fault
fault_next prev old tokens others behind token fault is few said bad = by_kind fault bad
  where
    at_token : (f : ReadRefused) → IsFault (next_token prev old token behind) f → FaultAt prev tokens f
    at_token f b = record {
      behind = behind;
      fields = length old;
      row = old;
      stands = stands_next tokens behind token others is;
      within = few;
      before = said;
      is = rw (get_next tokens behind token [] others is) b;
    }

    by_kind : (f : ReadRefused) → IsFault (next_token prev old token behind) f → FirstFault prev tokens f
    by_kind (refused.TooFew got) b = absurd b
    by_kind (refused.TooMany stands) b = at_token (refused.TooMany stands) b
    by_kind (refused.BadRun stands) b = at_token (refused.BadRun stands) b
    by_kind (refused.BadText stands) b = at_token (refused.BadText stands) b
    by_kind refused.NoMemory b = absurd b

-- no token is left
pub all_taken : {X : Type 0} (xs : List X) (i : ℕ) → drop i xs ≡ [] → take i xs ≡ xs
all_taken xs i is = sym (append-nil (take i xs)) ∙ ap (λ ys. take i xs ++ ys) (sym is) ∙ take-append-drop i xs

-- a token that is refused there
pub refused_next : (prev old : List Value) (tokens others : List (List ℕ)) (behind : ℕ) (token : List ℕ)
    (fault : ReadRefused) → drop behind tokens ≡ token ∷ others
    → length old ≤ length prev → Reads (take (length old) prev) (take behind tokens) old
    → RefusesToken (next_token prev old token behind) fault → Refuses prev tokens fault
refused_next prev old tokens others behind token fault is few said (inl memory) = inl memory
refused_next prev old tokens others behind token fault is few said (inr bad) =
    inr (fault_next prev old tokens others behind token fault is few said bad)
