-- What an answer says of the head that it answers.
use Rattle.std.proofs.Common.{◌≡◌, ℕ, ◌≤◌, inl, inr, List, length, take, drop, map, Result, Ok, Err, Some, ap, sym, subst, ◌∙◌, arith}
use Rattle.std.proofs.lemmas.Grind.{common_steps}
use Rattle.httparse.specs.declared.spans.HeaderSpan.{HeaderSpan}
use Rattle.httparse.specs.declared.spans.RequestSpans.{RequestSpans}
use Rattle.httparse.specs.Grammar.{RequestHead, Field, print_request}
use Rattle.httparse.specs.Spans.{IsRequestAt, IsRequestOf, AreFieldsAt, header_bytes, name_and_value}
use Rattle.ls_http.specs.declared.head.TheConstants.{LONGEST_HEAD}
use Rattle.ls_http.specs.declared.head.Head.{Head}
use Rattle.ls_http.specs.declared.head.HeadRefused.{HeadRefused}
use Rattle.ls_http.specs.declared.head.HeadRefused.TheVariants.{Status, NoMemory}
use Rattle.ls_http.specs.Heads.{answer_of, asking_of}
use Rattle.ls_http.specs.Reading.{front, IsHeadAt, with_length, reply_to, UnlessNoMemory, IsFound, IsRefused}

-- the field lines are as many as their places
few_fields : (buf : List ℕ) (headers : List HeaderSpan) (count : ℕ) (fields : List Field) → AreFieldsAt buf headers count fields → length headers ≡ 64
    → length fields ≤ 64
few_fields buf headers count fields are n =
    let m : length (map (header_bytes buf) (take count headers)) ≡ length (map name_and_value fields) = ap length are in
    grind (arith, common_steps)

-- the head stands there
head_at : (bytes : List ℕ) (headers : List HeaderSpan) (spans : RequestSpans) (h : RequestHead) → IsRequestAt (front bytes) headers spans h
    → length headers ≡ 64 → IsHeadAt bytes h (drop spans.len (front bytes))
head_at bytes headers spans h at n =
    record { reads = at.reads; few = few_fields (front bytes) headers spans.headers h.fields at.fields n }

-- an answer that is good, or another refusal than want of memory, is the one that the head has
good_is : (found : Head × ℕ) (answer : Result (Head × ℕ) HeadRefused) → UnlessNoMemory (Ok found) answer → answer ≡ Ok found
good_is found answer (inl e) = cc
good_is found answer (inr e) = sym e

refused_is : (status : ℕ) (answer : Result (Head × ℕ) HeadRefused) → UnlessNoMemory (Err (Status status)) answer → answer ≡ Err (Status status)
refused_is status answer (inl e) = cc
refused_is status answer (inr e) = sym e

-- the length of what is found is the head's
length_is : (n : ℕ) (found : Head × ℕ) (answer : Result Head HeadRefused) → with_length n answer ≡ Ok found → found.1 ≡ n
length_is n found (Ok head) e = cc
length_is n found (Err refused) e = cc

pub found_is : (bytes buf : List ℕ) (headers : List HeaderSpan) (spans : RequestSpans) (found : Head × ℕ) → buf ≡ front bytes
    → IsRequestOf (front bytes) headers spans → length headers ≡ 64
    → ((h : RequestHead) → IsRequestAt buf headers spans h → UnlessNoMemory (Ok found) (reply_to h)) → IsFound bytes (Some found)
found_is bytes buf headers spans found same is n says =
    let h = is.0 in
    let answer = good_is found (reply_to h) (says h (subst (λ (x : List ℕ). IsRequestAt x headers spans h) (sym same) is.1)) in
    let long = length_is (length (print_request h)) found (answer_of (asking_of h)) answer in (
      h,
      subst (λ (k : ℕ). IsHeadAt bytes h (drop k (front bytes))) (is.1.len ∙ sym long) (head_at bytes headers spans h is.1 n),
      answer,
    )

pub refusal_is : (bytes buf : List ℕ) (headers : List HeaderSpan) (spans : RequestSpans) (refused : HeadRefused) → buf ≡ front bytes
    → IsRequestOf (front bytes) headers spans → length headers ≡ 64
    → ((h : RequestHead) → IsRequestAt buf headers spans h → UnlessNoMemory (Err refused) (reply_to h)) → IsRefused bytes refused
refusal_is bytes buf headers spans (Status status) same is n says =
    let h = is.0 in
    inr (
      h,
      drop spans.len (front bytes),
      head_at bytes headers spans h is.1 n,
      refused_is status (reply_to h) (says h (subst (λ (x : List ℕ). IsRequestAt x headers spans h) (sym same) is.1)),
    )
refusal_is bytes buf headers spans NoMemory same is n says = tt

-- the front is no longer than the bytes
pub front_within : (bytes buf : List ℕ) → buf ≡ front bytes → length buf ≤ length bytes
front_within bytes buf same = rw same (short LONGEST_HEAD bytes)
  where
    short : (n : ℕ) (xs : List ℕ) → length (take n xs) ≤ length xs
    short n xs = grind (arith, common_steps)
