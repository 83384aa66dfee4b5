-- The tokens of coded fields: how their text grows, field by field.
use Rattle.std.proofs.Common.{◌≡◌, ℕ, zero, suc, ◌+◌, ◌<◌, ◌==◌, nat_le, length, get_or, add-one, arith, drop-cons}
use Rattle.std.proofs.Common.{Bool, true, false, ◌&&◌, List, [], ◌∷◌, ◌++◌, drop, sym, refl, ap, append-nil}
use Rattle.std.proofs.Common.{append_assoc, Some, None}
use Rattle.std.proofs.lemmas.Bool.Decides.{nat_tests}
use Rattle.std.proofs.lemmas.List.{drop-drop}
use Rattle.std.specs.List.{join_with_byte}
use Rattle.std.specs.Fmt.{decimal}
use Rattle.ls_value.specs.declared.row.Value.{Value}
use Rattle.ls_update.specs.Fields.{changed_fields, run_tokens}
use Rattle.ls_update.specs.Writing.{begins_with, behind_dividers, more_tokens}

-- the first field is unchanged, or has a new value
changed_fields-same : (prev row : List Value) (v : Value) → begins_with prev v ≡ true
    → changed_fields prev (v ∷ row) ≡ None ∷ changed_fields (drop 1 prev) row
changed_fields-same [] row v h = cc
changed_fields-same (p ∷ prev) row v h = rw h refl

changed_fields-new : (prev row : List Value) (v : Value) → begins_with prev v ≡ false
    → changed_fields prev (v ∷ row) ≡ Some v ∷ changed_fields (drop 1 prev) row
changed_fields-new [] row v h = refl
changed_fields-new (p ∷ prev) row v h = rw h refl

drop-next : (row : List Value) (i : ℕ) (v : Value) → i < length row → v ≡ get_or row i v
    → drop i row ≡ v ∷ drop (i + 1) row
drop-next row i v within is = rw (add-one, drop-cons row i v) (ap (λ (x : Value). x ∷ drop (suc i) row) (sym is))

-- the same at a place of the row
pub changed_fields-same_at : (prev row : List Value) (i : ℕ) (v : Value) → i < length row → v ≡ get_or row i v
    → begins_with (drop i prev) v ≡ true
    → changed_fields (drop i prev) (drop i row) ≡ None ∷ changed_fields (drop (i + 1) prev) (drop (i + 1) row)
changed_fields-same_at prev row i v within is h =
    rw (drop-next row i v within is, ← drop-drop 1 i prev) (changed_fields-same (drop i prev) (drop (i + 1) row) v h)

pub changed_fields-new_at : (prev row : List Value) (i : ℕ) (v : Value) → i < length row → v ≡ get_or row i v
    → begins_with (drop i prev) v ≡ false
    → changed_fields (drop i prev) (drop i row) ≡ Some v ∷ changed_fields (drop (i + 1) prev) (drop (i + 1) row)
changed_fields-new_at prev row i v within is h =
    rw (drop-next row i v within is, ← drop-drop 1 i prev) (changed_fields-new (drop i prev) (drop (i + 1) row) v h)

join_with_byte-cons : (t : List ℕ) (ts : List (List ℕ)) → join_with_byte 124 (t ∷ ts) ≡ t ++ behind_dividers ts
join_with_byte-cons t [] = sym (append-nil t)
join_with_byte-cons t (u ∷ ts) = ap (λ (x : List ℕ). t ++ 124 ∷ x) (join_with_byte-cons u ts)

behind_dividers-append : (ts us : List (List ℕ)) → behind_dividers (ts ++ us) ≡ behind_dividers ts ++ behind_dividers us
behind_dividers-append [] us = refl
behind_dividers-append (t ∷ ts) us = rw (behind_dividers-append ts us)
    (sym (append_assoc (124 ∷ t) (behind_dividers ts) (behind_dividers us)))

-- the first of more tokens, and those behind it
more_tokens-cons : (first : Bool) (t : List ℕ) (ts : List (List ℕ))
    → more_tokens first (t ∷ ts) ≡ more_tokens first (t ∷ []) ++ behind_dividers ts
more_tokens-cons true t ts = join_with_byte-cons t ts
more_tokens-cons false t ts = rw (append-nil t) refl

-- a run of unchanged fields, and the tokens behind it
more_tokens-run : (first : Bool) (k : ℕ) (ts : List (List ℕ))
    → more_tokens first (run_tokens k ++ ts) ≡ more_tokens first (run_tokens k) ++ more_tokens (first && (k == 0)) ts
more_tokens-run true zero ts = refl
more_tokens-run true (suc zero) ts = join_with_byte-cons [] ts
more_tokens-run true (suc (suc zero)) ts = join_with_byte-cons [] ([] ∷ ts)
more_tokens-run true (suc (suc (suc k))) ts =
    let long : nat_le (suc (suc (suc k))) 2 ≡ false = grind (arith, nat_tests) in
    let some : (suc (suc (suc k)) == 0) ≡ false = grind (arith, nat_tests) in
    rw (long, some) (join_with_byte-cons (94 ∷ decimal (suc (suc (suc k)))) ts)
more_tokens-run false k ts = behind_dividers-append (run_tokens k) ts

-- a run and a value's token are written, and others follow
pub more_tokens-value : (first still : Bool) (k : ℕ) (t : List ℕ) (ts : List (List ℕ)) (before run value : List ℕ)
    → run ≡ before ++ more_tokens first (run_tokens k)
    → still ≡ (first && (k == 0))
    → value ≡ run ++ more_tokens still (t ∷ [])
    → value ++ more_tokens false ts ≡ before ++ more_tokens first (run_tokens k ++ t ∷ ts)
more_tokens-value first still k t ts before run value r s v =
    rw (v, r, s, more_tokens-run first k (t ∷ ts), more_tokens-cons (first && (k == 0)) t ts) (simp append_assoc)
