-- The numbers of an add that was read are in their ranges: proved on the definitions of requests alone.
use Rattle.std.proofs.Common.{◌≡◌, ◌^◌, ◌==◌, ℕ, ◌<◌, ◌≤◌, List, arith, subst, cond, Bool, true, false, ◌&&◌, Option}
use Rattle.std.proofs.Common.{Some, None, IfSome, option_map, nat_le, codes, refl}
use Rattle.std.specs.Prelude.{option_and_then}
use Rattle.std.proofs.lemmas.Bool.Decides.{nat_tests}
use Rattle.ls_value.proofs.Rows.{and_left, and_right}
use Rattle.ls_words.specs.Numbers.{number_in, number_of, within}
use Rattle.ls_form.specs.declared.form.Pair.{Pair}
use Rattle.ls_form.specs.Forms.{text_under}
use Rattle.ls_request.specs.declared.request.LinkKind.{LinkKind}
use Rattle.ls_request.specs.declared.request.Add.{Add}
use Rattle.ls_request.specs.declared.request.Op.{Op}
use Rattle.ls_request.specs.declared.request.Request.{Request}
use Rattle.ls_request.specs.Values.{is_word, sub_of, size_of, mode_of, names_of, snap_of, frequency_of, bandwidth_of}
use Rattle.ls_request.specs.Values.{milli_above_0, keepalive_of, capped}
use Rattle.ls_record.specs.Acting.{request_over}
use Rattle.ls_form.specs.Decimals.{milli_of}
use Rattle.ls_request.specs.declared.limits.TheConstants.{DEFAULT_KEEPALIVE}
use Rattle.ls_request.specs.Requests.{or_absent, needed, unless, says, says_more, content_length, add_of, plain_op_of}
use Rattle.ls_request.specs.Requests.{delete_of, reconf_of, constrain_of, op_of, control_req, control_session}
use Rattle.ls_request.specs.Requests.{control_of, wsok_of, create_of, bind_of, request_of}
use Rattle.ls_event.specs.declared.event.Snap.TheVariants as snap
use Rattle.ls_request.specs.declared.request.LinkKind.TheVariants as link
use Rattle.ls_request.specs.declared.request.Op.TheVariants as op
use Rattle.ls_request.specs.declared.request.Request.TheVariants as request

-- a subscription's number, and a buffer's size where one is asked for
pub record IsAdd (a : Add) : Type 0 where
  pub some : 1 ≤ a.sub
  pub most : a.sub ≤ 999999999
  pub size : IfSome a.size (λ n. 1 ≤ n)

-- a number between two
abbrev pub Within : ℕ → ℕ → ℕ → Type 0
Within low high n = (low ≤ n) × (n ≤ high)

-- a bandwidth that is there is above 0
abbrev pub IsRate : Option ℕ → Type 0
IsRate limit = IfSome limit (λ r. 0 < r)

abbrev pub IsOp : Op → Type 0
IsOp (op.Add a) = IsAdd a
IsOp (op.Delete sub) = Within 1 999999999 sub
IsOp (op.Reconf sub frequency) = Within 1 999999999 sub
IsOp (op.Constrain limit) = IsRate limit
IsOp op.ForceRebind = Unit {0}
IsOp op.Destroy = Unit {0}

abbrev pub IsRequest : Request → Type 0
IsRequest (request.Create c) = IsRate c.bandwidth
IsRequest (request.Bind b) = Unit {0}
IsRequest (request.Control c) = IsOp c.op
IsRequest request.Wsok = Unit {0}

-- chains
anything : {A : Type 0} (o : Option A) → IfSome o (λ a. Unit {0})
anything None = tt
anything (Some a) = tt

chained : {A B : Type 0} (Q : A → Type 0) (P : B → Type 0) (o : Option A) (f : A → Option B) → IfSome o Q → ((a : A) → Q a → IfSome (f a) P)
    → IfSome (option_and_then f o) P
chained Q P None f h more = tt
chained Q P (Some a) f h more = more a h

-- where the first value doesn't matter
free : {A B : Type 0} (P : B → Type 0) (o : Option A) (f : A → Option B) → ((a : A) → IfSome (f a) P) → IfSome (option_and_then f o) P
free P o f more = chained (λ a. Unit {0}) P o f (anything o) (λ a u. more a)

made : {A B : Type 0} (Q : A → Type 0) (P : B → Type 0) (f : A → B) (o : Option A) → IfSome o Q → ((a : A) → Q a → P (f a)) → IfSome (option_map f o) P
made Q P f None h more = tt
made Q P f (Some a) h more = more a h

kept : {A : Type 0} (P : A → Type 0) (b : Bool) (a : A) → (b ≡ true → P a) → IfSome (cond b (Some a) None) P
kept P true a h = h refl
kept P false a h = tt

one_of : {A : Type 0} (P : A → Type 0) (b : Bool) (x y : Option A) → IfSome x P → IfSome y P → IfSome (cond b x y) P
one_of P true x y h k = h
one_of P false x y h k = k

unless_is : {A : Type 0} (P : A → Type 0) (b : Bool) (o : Option A) → IfSome o P → IfSome (unless b o) P
unless_is P true o h = tt
unless_is P false o h = h

-- numbers
number_within : (low high : ℕ) (text : List ℕ) → IfSome (number_in text low high) (Within low high)
number_within low high text =
    free (Within low high) (number_of text) (λ n. within n low high) (λ n. kept (Within low high) (nat_le low n && nat_le n high) n
    (λ h. bounds n (and_left (nat_le low n) (nat_le n high) h) (and_right (nat_le low n) (nat_le n high) h)))
  where
    bounds : (n : ℕ) → nat_le low n ≡ true → nat_le n high ≡ true → (low ≤ n) × (n ≤ high)
    bounds n h k = (grind (arith, nat_tests), grind (arith, nat_tests))

abbrev SizeIs : Option ℕ → Type 0
SizeIs size = IfSome size (λ n. 1 ≤ n)

size_is : (text : List ℕ) → IfSome (size_of text) SizeIs
size_is text =
    one_of SizeIs (is_word (codes "unlimited") text) (Some (Some 999999999)) (option_map (λ n. Some (capped n)) (number_in text 1 (2 ^ 60))) (omega arith)
    (made (Within 1 (2 ^ 60)) SizeIs (λ n. Some (capped n)) (number_in text 1 (2 ^ 60)) (number_within 1 (2 ^ 60) text) (λ n h. omega (arith, h.0)))

size_absent_or : (o : Option (List ℕ)) → IfSome (or_absent None size_of o) SizeIs
size_absent_or None = tt
size_absent_or (Some text) = size_is text

milli_is : (text : List ℕ) → IfSome (milli_above_0 text) IsRate
milli_is text = free IsRate (milli_of text) _ (λ n. by_test n (n == 0) refl)
  where
    by_test : (n : ℕ) (b : Bool) → (n == 0) ≡ b → IfSome (cond b None (Some (Some n))) IsRate
    by_test n true e = tt
    by_test n false e = grind (arith, nat_tests, e)

rate_is : (text : List ℕ) → IfSome (bandwidth_of text) IsRate
rate_is text = one_of IsRate (is_word (codes "unlimited") text) (Some None) (milli_above_0 text) tt (milli_is text)

rate_absent_or : (o : Option (List ℕ)) → IfSome (or_absent None bandwidth_of o) IsRate
rate_absent_or None = tt
rate_absent_or (Some text) = rate_is text

create_is : (l : LinkKind) (ps : List Pair) → IfSome (create_of l ps) (λ c. IsRate c.bandwidth)
create_is l ps =
    unless_is (λ c. IsRate c.bandwidth) (says (codes "true") (text_under ps (codes "LS_polling"))) _
    (chained IsRate (λ c. IsRate c.bandwidth) (or_absent None bandwidth_of (text_under ps (codes "LS_requested_max_bandwidth"))) _
    (rate_absent_or (text_under ps (codes "LS_requested_max_bandwidth")))
    (λ bandwidth h. free (λ c. IsRate c.bandwidth) (or_absent DEFAULT_KEEPALIVE keepalive_of (text_under ps (codes "LS_keepalive_millis"))) _
    (λ keepalive. free (λ c. IsRate c.bandwidth) (content_length l ps) _ (λ length. h))))

-- an add
add_is : (ps : List Pair) → IfSome (add_of ps) IsAdd
add_is ps =
    chained (Within 1 999999999) IsAdd (needed sub_of (text_under ps (codes "LS_subId"))) _
    (free (Within 1 999999999) (text_under ps (codes "LS_subId")) sub_of (λ text. number_within 1 999999999 text))
    (λ sub h. free IsAdd (needed mode_of (text_under ps (codes "LS_mode"))) _
    (λ mode. free IsAdd (needed names_of (text_under ps (codes "LS_group"))) _
    (λ group. free IsAdd (needed names_of (text_under ps (codes "LS_schema"))) _
    (λ schema. unless_is IsAdd (says_more (text_under ps (codes "LS_selector"))) _
    (free IsAdd (or_absent snap.No (snap_of mode) (text_under ps (codes "LS_snapshot"))) _
    (λ snapshot. chained SizeIs IsAdd (or_absent None size_of (text_under ps (codes "LS_requested_buffer_size"))) _
    (size_absent_or (text_under ps (codes "LS_requested_buffer_size")))
    (λ size k. free IsAdd (or_absent None frequency_of (text_under ps (codes "LS_requested_max_frequency"))) _
    (λ frequency. record { some = h.0; most = h.1; size = k }))))))))

op_is : (word : List ℕ) (ps : List Pair) → IfSome (op_of word ps) IsOp
op_is word ps =
    one_of IsOp (is_word (codes "add") word) (option_map (λ a. op.Add a) (add_of ps)) (plain_op_of word ps)
    (made IsAdd IsOp (λ a. op.Add a) (add_of ps) (add_is ps) (λ a h. h))
    (one_of IsOp (is_word (codes "delete") word) (delete_of ps) _
    (chained (Within 1 999999999) IsOp (needed sub_of (text_under ps (codes "LS_subId"))) _
    (free (Within 1 999999999) (text_under ps (codes "LS_subId")) sub_of (λ text. number_within 1 999999999 text)) (λ sub h. h))
    (one_of IsOp (is_word (codes "reconf") word) (reconf_of ps) _
    (chained (Within 1 999999999) IsOp (needed sub_of (text_under ps (codes "LS_subId"))) _
    (free (Within 1 999999999) (text_under ps (codes "LS_subId")) sub_of (λ text. number_within 1 999999999 text))
    (λ sub h. free IsOp (needed frequency_of (text_under ps (codes "LS_requested_max_frequency"))) _ (λ frequency. h)))
    (one_of IsOp (is_word (codes "constrain") word) (constrain_of ps) _
    (chained IsRate IsOp (needed bandwidth_of (text_under ps (codes "LS_requested_max_bandwidth"))) _
    (free IsRate (text_under ps (codes "LS_requested_max_bandwidth")) bandwidth_of rate_is) (λ limit h. h))
    (one_of IsOp (is_word (codes "force_rebind") word) (Some op.ForceRebind) _ tt
    (one_of IsOp (is_word (codes "destroy") word) (Some op.Destroy) None tt tt)))))

control_is : (l : LinkKind) (ps : List Pair) → IfSome (control_of l ps) (λ c. IsOp c.op)
control_is l ps =
    free (λ c. IsOp c.op) (control_req ps) _
    (λ req. free (λ c. IsOp c.op) (control_session l (text_under ps (codes "LS_session"))) _
    (λ session. free (λ c. IsOp c.op) (text_under ps (codes "LS_op")) _
    (λ word. chained IsOp (λ c. IsOp c.op) (op_of word ps) _ (op_is word ps) (λ o h. h))))

request_is : (l : LinkKind) (name : List ℕ) (ps : List Pair) → IfSome (request_of l name ps) IsRequest
request_is l name ps =
    one_of IsRequest (is_word (codes "create_session") name) (option_map (λ r. request.Create r) (create_of l ps)) _
    (made (λ c. IsRate c.bandwidth) IsRequest (λ c. request.Create c) (create_of l ps) (create_is l ps) (λ c h. h))
    (one_of IsRequest (is_word (codes "bind_session") name) (option_map (λ r. request.Bind r) (bind_of l ps)) _
    (made (λ r. Unit {0}) IsRequest (λ r. request.Bind r) (bind_of l ps) (anything (bind_of l ps)) (λ r u. tt))
    (one_of IsRequest (is_word (codes "control") name) (option_map (λ r. request.Control r) (control_of l ps)) _
    (made (λ c. IsOp c.op) IsRequest (λ r. request.Control r) (control_of l ps) (control_is l ps) (λ c h. h))
    (one_of IsRequest (is_word (codes "wsok") name) (wsok_of l) None (of_link l) tt)))
  where
    of_link : (k : LinkKind) → IfSome (wsok_of k) IsRequest
    of_link link.Http = tt
    of_link link.Ws = tt

-- a request that was read
pub request_read : (l : LinkKind) (name : List ℕ) (ps : List Pair) (r : Request) → request_of l name ps ≡ Some r → IsRequest r
request_read l name ps r is = subst (λ (o : Option Request). IfSome o IsRequest) is (request_is l name ps)

-- and one by pairs that may be malformed
pub request_over_is : (l : LinkKind) (name : List ℕ) (ps : Option (List Pair)) → IfSome (request_over l name ps) IsRequest
request_over_is l name ps = free IsRequest ps (request_of l name) (λ p. request_is l name p)
