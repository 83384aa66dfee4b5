-- What is written is read as the same row.
use Rattle.std.proofs.Common.{◌≡◌, ℕ, zero, suc, ◌+◌, ◌<◌, ◌≤◌, ◌^◌, ◌==◌, nat_le, Bool, true, false, if◌then◌else◌}
use Rattle.std.proofs.Common.{List, [], ◌∷◌, ◌++◌, length, refl, ap, ◌∙◌, subst, All, arith, append-nil, append_assoc}
use Rattle.std.proofs.Common.{length-append, Option, Some, None}
use Rattle.std.specs.List.{join_with_byte}
use Rattle.std.specs.Fmt.{decimal}
use Rattle.std.proofs.lemmas.Bool.Decides.{nat_tests}
use Rattle.std.proofs.lemmas.List.Elements.{All-nil, All-cons, All-head, All-tail, All-append}
use Rattle.std.proofs.lemmas.List.Splits.{slice_split_none, slice_split_at}
use Rattle.ls_value.specs.Values.{value_eq, nulls}
use Rattle.ls_value.specs.declared.row.Value.{Value}
use Rattle.ls_value.specs.declared.row.Value.TheVariants as value
use Rattle.ls_value.proofs.Rows.{value_eq_true}
use Rattle.ls_update.specs.Fields.{changed_fields, tokens_after, run_tokens, spelled_value, spelled}
use Rattle.ls_update.specs.Reading.{Says, unchanged, run, null, empty, text, Reads, tokens_of, row_before, IsTextual}
use Rattle.ls_update.specs.Reading.{Writable, HasFields}
use Rattle.ls_update.proofs.Said.{Reads-append, Reads-one}
use Rattle.ls_update.proofs.Bytes.{IsPlain, bytes_of_text, plain_run, plain_text, text_back, says_spelled}

-- a value's token says the value
says_value : (before v : Value) → IsTextual v → Says (before ∷ []) (spelled_value v) (v ∷ [])
says_value before value.Null valid = null refl refl refl
says_value before (value.Text []) valid = empty refl refl refl
says_value before (value.Text (b ∷ bs)) valid =
    let back = text_back b bs (bytes_of_text (b ∷ bs) valid) in
    text refl (says_spelled b bs) (rw back valid) (rw back refl)

-- the tokens of a run say that its fields are unchanged
reads_run : (kept : List Value) → Reads kept (run_tokens (length kept)) kept
reads_run [] = (refl, refl)
reads_run (x ∷ []) = Reads-one (x ∷ []) (x ∷ []) [] (unchanged refl refl refl)
reads_run (x ∷ y ∷ []) = Reads-append (x ∷ []) (y ∷ []) ([] ∷ []) ([] ∷ []) (x ∷ []) (y ∷ [])
    (Reads-one (x ∷ []) (x ∷ []) [] (unchanged refl refl refl))
    (Reads-one (y ∷ []) (y ∷ []) [] (unchanged refl refl refl))
reads_run (x ∷ y ∷ z ∷ kept) =
    let long : nat_le (length (x ∷ y ∷ z ∷ kept)) 2 ≡ false = grind (arith, nat_tests) in
    rw long (Reads-one (x ∷ y ∷ z ∷ kept) (x ∷ y ∷ z ∷ kept) (94 ∷ decimal (length (x ∷ y ∷ z ∷ kept)))
    (run (omega arith) refl refl))

-- the tokens of a row without one before
reads_new : (prev row : List Value) → length prev ≡ length row → All IsTextual row
    → Reads prev (tokens_after 0 (changed_fields [] row)) row
reads_new [] [] same valid = (refl, refl)
reads_new [] (v ∷ row) same valid = absurd (omega (arith, same))
reads_new (p ∷ prev) [] same valid = absurd (omega (arith, same))
reads_new (p ∷ prev) (v ∷ row) same valid =
    Reads-append (p ∷ []) prev (spelled_value v ∷ []) (tokens_after 0 (changed_fields [] row)) (v ∷ []) row
    (Reads-one (p ∷ []) (v ∷ []) (spelled_value v) (says_value p v (All-head IsTextual v row valid)))
    (reads_new prev row (omega (arith, same)) (All-tail IsTextual v row valid))

-- one more field, unchanged or new
after_one : (kept prev row : List Value) (p v : Value) → IsTextual v
    → ((ks : List Value) → Reads (ks ++ prev) (tokens_after (length ks) (changed_fields prev row)) (ks ++ row))
    → Reads (kept ++ p ∷ prev) (tokens_after (length kept) (changed_fields (p ∷ prev) (v ∷ row))) (kept ++ v ∷ row)
after_one kept prev row p v valid later = by_test (value_eq p v) refl
  where
    by_test : (x : Bool) → value_eq p v ≡ x → Reads (kept ++ p ∷ prev)
        (tokens_after (length kept) ((if x then None else Some v) ∷ changed_fields prev row)) (kept ++ v ∷ row)
    by_test true e =
        let is : p ≡ v = value_eq_true p v e in
        let more : length (kept ++ p ∷ []) ≡ length kept + 1 = length-append kept (p ∷ []) in
        let h = later (kept ++ p ∷ []) in
        subst (λ (x : Value). Reads (kept ++ p ∷ prev) (tokens_after (length kept + 1) (changed_fields prev row))
        (kept ++ x ∷ row)) is (rw (more, append_assoc kept (p ∷ []) prev, append_assoc kept (p ∷ []) row) at h)
    by_test false e =
        Reads-append kept (p ∷ prev) (run_tokens (length kept))
        (spelled_value v ∷ tokens_after 0 (changed_fields prev row)) kept (v ∷ row) (reads_run kept)
        (Reads-append (p ∷ []) prev (spelled_value v ∷ []) (tokens_after 0 (changed_fields prev row)) (v ∷ []) row
        (Reads-one (p ∷ []) (v ∷ []) (spelled_value v) (says_value p v valid))
        (later []))

-- the tokens of a row after one before, behind fields that are unchanged
reads_after : (kept prev row : List Value) → length prev ≡ length row → All IsTextual row
    → Reads (kept ++ prev) (tokens_after (length kept) (changed_fields prev row)) (kept ++ row)
reads_after kept [] [] same valid = rw append-nil (reads_run kept)
reads_after kept [] (v ∷ row) same valid = absurd (omega (arith, same))
reads_after kept (p ∷ prev) [] same valid = absurd (omega (arith, same))
reads_after kept (p ∷ prev) (v ∷ row) same valid =
    after_one kept prev row p v (All-head IsTextual v row valid)
    (λ ks. reads_after ks prev row (omega (arith, same)) (All-tail IsTextual v row valid))

-- tokens without a divider are those of their text
abbrev IsToken : List ℕ → Type 0
IsToken token = All IsPlain token

tokens_joined : (t : List ℕ) (ts : List (List ℕ)) → All IsToken (t ∷ ts)
    → tokens_of (join_with_byte 124 (t ∷ ts)) ≡ t ∷ ts
tokens_joined t [] plain = slice_split_none (λ b. b == 124) t (All-head IsToken t [] plain)
tokens_joined t (u ∷ ts) plain =
    slice_split_at (λ b. b == 124) t 124 (join_with_byte 124 (u ∷ ts)) (All-head IsToken t (u ∷ ts) plain) refl
    ∙ ap (λ (x : List (List ℕ)). t ∷ x) (tokens_joined u ts (All-tail IsToken t (u ∷ ts) plain))

plain_value : (v : Value) → IsToken (spelled_value v)
plain_value value.Null = All-cons IsPlain 35 [] refl (All-nil IsPlain)
plain_value (value.Text t) = plain_text t

plain_tokens_run : (k : ℕ) → k < 2 ^ 64 → All IsToken (run_tokens k)
plain_tokens_run zero small = All-nil IsToken
plain_tokens_run (suc zero) small = All-cons IsToken [] [] (All-nil IsPlain) (All-nil IsToken)
plain_tokens_run (suc (suc zero)) small = All-cons IsToken [] ([] ∷ []) (All-nil IsPlain)
    (All-cons IsToken [] [] (All-nil IsPlain) (All-nil IsToken))
plain_tokens_run (suc (suc (suc k))) small =
    let long : nat_le (suc (suc (suc k))) 2 ≡ false = grind (arith, nat_tests) in
    rw long (All-cons IsToken (94 ∷ decimal (suc (suc (suc k)))) [] (plain_run (suc (suc (suc k))) small)
    (All-nil IsToken))

plain_tokens : (k : ℕ) (fields : List (Option Value)) → k + length fields < 2 ^ 64 → All IsToken (tokens_after k fields)
plain_tokens k [] small = plain_tokens_run k (omega (arith, small))
plain_tokens k (None ∷ fields) small = plain_tokens (k + 1) fields (omega (arith, small))
plain_tokens k (Some v ∷ fields) small =
    All-append IsToken (run_tokens k) (spelled_value v ∷ tokens_after 0 fields)
    (plain_tokens_run k (omega (arith, small)))
    (All-cons IsToken (spelled_value v) (tokens_after 0 fields) (plain_value v)
    (plain_tokens 0 fields (omega (arith, small))))

fields_changed : (prev row : List Value) → length (changed_fields prev row) ≡ length row
fields_changed prev [] = refl
fields_changed [] (v ∷ row) = ap (λ n. suc n) (fields_changed [] row)
fields_changed (p ∷ prev) (v ∷ row) = ap (λ n. suc n) (fields_changed prev row)

-- the tokens of a row are those of its written text
read_joined : (prev row : List Value) (tokens : List (List ℕ)) → 1 ≤ length row → All IsToken tokens
    → Reads prev tokens row → Reads prev (tokens_of (join_with_byte 124 tokens)) row
read_joined prev row [] some plain (x, y) = absurd (let n : length row ≡ 0 = ap length y in omega (arith, n, some))
read_joined prev row (t ∷ ts) some plain h = rw (tokens_joined t ts plain) h

pub nulls_length : (n : ℕ) → length (nulls n) ≡ n
nulls_length zero = refl
nulls_length (suc n) = ap (λ m. suc m) (nulls_length n)

-- a written row is read
pub read_back : (prev : Option (List Value)) (row : List Value) → Writable prev row
    → Reads (row_before (length row) prev) (tokens_of (spelled prev row)) row
read_back None row able =
    let n = fields_changed [] row in
    read_joined (nulls (length row)) row (tokens_after 0 (changed_fields [] row)) able.some
    (plain_tokens 0 (changed_fields [] row) (omega (arith, n, able.most)))
    (reads_new (nulls (length row)) row (nulls_length (length row)) able.texts)
read_back (Some prev) row able =
    let n = fields_changed prev row in
    read_joined prev row (tokens_after 0 (changed_fields prev row)) able.some
    (plain_tokens 0 (changed_fields prev row) (omega (arith, n, able.most)))
    (reads_after [] prev row able.before able.texts)

-- the row before has as many fields
pub length_before : (prev : Option (List Value)) (n : ℕ) → HasFields n prev → length (row_before n prev) ≡ n
length_before None n fits = nulls_length n
length_before (Some prev) n fits = fits
