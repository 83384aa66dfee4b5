-- Requests, by the pairs of their parameters (TLCP 2.1, requests). Names that aren't named here are ignored.
use Rattle.std.specs.Prelude.{ℕ, List, Bool, true, false, not, Option, Some, None, codes, if◌then◌else◌, option_map}
use Rattle.std.specs.Prelude.{option_and_then}
use Rattle.ls_form.specs.declared.form.Pair.{Pair}
use Rattle.ls_form.specs.Forms.{form_of, text_under}
use Rattle.ls_event.specs.declared.event.Snap.TheVariants as snap
use Rattle.ls_request.specs.declared.limits.TheConstants.{DEFAULT_KEEPALIVE, DEFAULT_LENGTH}
use Rattle.ls_request.specs.declared.request.LinkKind.{LinkKind}
use Rattle.ls_request.specs.declared.request.LinkKind.TheVariants as link
use Rattle.ls_request.specs.declared.request.Create.{Create}
use Rattle.ls_request.specs.declared.request.Bind.{Bind}
use Rattle.ls_request.specs.declared.request.Add.{Add}
use Rattle.ls_request.specs.declared.request.Op.{Op}
use Rattle.ls_request.specs.declared.request.Op.TheVariants as op
use Rattle.ls_request.specs.declared.request.Control.{Control}
use Rattle.ls_request.specs.declared.request.Request.{Request}
use Rattle.ls_request.specs.declared.request.Request.TheVariants as request
use Rattle.ls_request.specs.Values.{is_word, is_empty, bandwidth_of, frequency_of, keepalive_of, length_of, recovery_of}
use Rattle.ls_request.specs.Values.{session_of, req_of, sub_of, mode_of, names_of, snap_of, size_of}

-- what is read of a text that may be absent: then this value
abbrev pub or_absent : {A : Type 0} → A → (List ℕ → Option A) → Option (List ℕ) → Option A
or_absent value read None = Some value
or_absent value read (Some text) = read text

-- what is read of a text that is needed
abbrev pub needed : {A : Type 0} → (List ℕ → Option A) → Option (List ℕ) → Option A
needed read text = option_and_then read text

-- what follows from a value, if one was read
abbrev pub if_read : {A B : Type 0} → Option A → (A → Option B) → Option B
if_read value more = option_and_then more value

-- whether a parameter is this text
abbrev pub says : List ℕ → Option (List ℕ) → Bool
says word None = false
says word (Some text) = is_word word text

-- whether a parameter is there and isn't empty
abbrev pub says_more : Option (List ℕ) → Bool
says_more None = false
says_more (Some text) = not (is_empty text)

-- what is read unless a test holds
abbrev pub unless : {A : Type 0} → Bool → Option A → Option A
unless true value = None
unless false value = value

-- the content length, over HTTP alone
abbrev pub content_length : LinkKind → List Pair → Option (Option ℕ)
content_length link.Http ps = or_absent (Some DEFAULT_LENGTH) length_of (text_under ps (codes "LS_content_length"))
content_length link.Ws ps = Some None

-- create_session: a request for a new session
abbrev pub create_of : LinkKind → List Pair → Option Create
create_of l ps =
    unless (says (codes "true") (text_under ps (codes "LS_polling")))
    (if_read (or_absent None bandwidth_of (text_under ps (codes "LS_requested_max_bandwidth"))) (λ bandwidth.
    if_read (or_absent DEFAULT_KEEPALIVE keepalive_of (text_under ps (codes "LS_keepalive_millis"))) (λ keepalive.
    if_read (content_length l ps) (λ length.
    Some (record {
      set = text_under ps (codes "LS_adapter_set");
      keepalive = keepalive;
      bandwidth = bandwidth;
      length = length;
    })))))

-- bind_session: a request for a new stream of a session
abbrev pub bind_of : LinkKind → List Pair → Option Bind
bind_of l ps =
    if_read (text_under ps (codes "LS_session")) (λ session.
    unless (says (codes "true") (text_under ps (codes "LS_polling")))
    (if_read (or_absent None recovery_of (text_under ps (codes "LS_recovery_from"))) (λ recover.
    if_read (or_absent DEFAULT_KEEPALIVE keepalive_of (text_under ps (codes "LS_keepalive_millis"))) (λ keepalive.
    if_read (content_length l ps) (λ length.
    Some (record { session = session_of session; recover = recover; keepalive = keepalive; length = length }))))))

-- control with LS_op add: a new subscription
abbrev pub add_of : List Pair → Option Add
add_of ps =
    if_read (needed sub_of (text_under ps (codes "LS_subId"))) (λ sub.
    if_read (needed mode_of (text_under ps (codes "LS_mode"))) (λ mode.
    if_read (needed names_of (text_under ps (codes "LS_group"))) (λ group.
    if_read (needed names_of (text_under ps (codes "LS_schema"))) (λ schema.
    unless (says_more (text_under ps (codes "LS_selector")))
    (if_read (or_absent snap.No (snap_of mode) (text_under ps (codes "LS_snapshot"))) (λ snapshot.
    if_read (or_absent None size_of (text_under ps (codes "LS_requested_buffer_size"))) (λ size.
    if_read (or_absent None frequency_of (text_under ps (codes "LS_requested_max_frequency"))) (λ frequency.
    Some (record {
      sub = sub;
      mode = mode;
      group = group;
      schema = schema;
      snapshot = snapshot;
      size = size;
      frequency =
          frequency;
    })))))))))

-- control with LS_op delete, reconf and constrain
abbrev pub delete_of : List Pair → Option Op
delete_of ps = if_read (needed sub_of (text_under ps (codes "LS_subId"))) (λ sub. Some (op.Delete sub))

abbrev pub reconf_of : List Pair → Option Op
reconf_of ps =
    if_read (needed sub_of (text_under ps (codes "LS_subId"))) (λ sub.
    if_read (needed frequency_of (text_under ps (codes "LS_requested_max_frequency"))) (λ frequency.
    Some (op.Reconf sub frequency)))

abbrev pub constrain_of : List Pair → Option Op
constrain_of ps = if_read (needed bandwidth_of (text_under ps (codes "LS_requested_max_bandwidth")))
    (λ bandwidth. Some (op.Constrain bandwidth))

-- LS_op of a control request that takes no names
abbrev pub plain_op_of : List ℕ → List Pair → Option Op
plain_op_of word ps =
    if is_word (codes "delete") word then delete_of ps
    else if is_word (codes "reconf") word then reconf_of ps
    else if is_word (codes "constrain") word then constrain_of ps
    else if is_word (codes "force_rebind") word then Some op.ForceRebind
    else if is_word (codes "destroy") word then Some op.Destroy
    else None

-- what LS_op of a control request asks for
abbrev pub op_of : List ℕ → List Pair → Option Op
op_of word ps = if is_word (codes "add") word then option_map (λ a. op.Add a) (add_of ps) else plain_op_of word ps

-- LS_session of a control request: over HTTP it is needed, on a WebSocket it may be absent
abbrev pub control_session : LinkKind → Option (List ℕ) → Option (Option ℕ)
control_session l (Some text) = Some (Some (session_of text))
control_session link.Http None = None
control_session link.Ws None = Some None

-- LS_reqId of a control request
abbrev pub control_req : List Pair → Option (List ℕ)
control_req ps = needed req_of (text_under ps (codes "LS_reqId"))

-- a control request
abbrev pub control_of : LinkKind → List Pair → Option Control
control_of l ps =
    if_read (control_req ps) (λ req.
    if_read (control_session l (text_under ps (codes "LS_session"))) (λ session.
    if_read (text_under ps (codes "LS_op")) (λ word.
    if_read (op_of word ps) (λ o.
    Some (record { req = req; session = session; op = o })))))

-- on a WebSocket alone
abbrev pub wsok_of : LinkKind → Option Request
wsok_of link.Http = None
wsok_of link.Ws = Some request.Wsok

-- a request, by its name and its parameters
abbrev pub request_of : LinkKind → List ℕ → List Pair → Option Request
request_of l name ps =
    if is_word (codes "create_session") name then option_map (λ r. request.Create r) (create_of l ps)
    else if is_word (codes "bind_session") name then option_map (λ r. request.Bind r) (bind_of l ps)
    else if is_word (codes "control") name then option_map (λ r. request.Control r) (control_of l ps)
    else if is_word (codes "wsok") name then wsok_of l
    else None

-- the request that a name and a form text say
abbrev pub read_of : LinkKind → List ℕ → List ℕ → Option Request
read_of l name params = option_and_then (request_of l name) (form_of params)

-- the LS_reqId that pairs say, of a control request alone
abbrev pub req_behind : List ℕ → List Pair → Option (List ℕ)
req_behind name ps = if is_word (codes "control") name then control_req ps else None

-- the LS_reqId of a control request, where it can be read
abbrev pub req_read : List ℕ → List ℕ → Option (List ℕ)
req_read name params = option_and_then (req_behind name) (form_of params)
