-- The values of requests' parameters (TLCP 2.1, requests; forms and limits are this project's profile).
use Rattle.std.specs.Prelude.{ℕ, ◌==◌, List, [], ◌∷◌, length, min, max, Bool, ◌&&◌, ◌||◌, nat_le, Option, Some, None}
use Rattle.std.specs.Prelude.{codes, if◌then◌else◌, option_map, option_and_then}
use Rattle.std.specs.List.{list_all, list_any}
use Rattle.std.specs.Option.{unwrap_or}
use Rattle.ls_value.specs.Values.{text_eq}
use Rattle.ls_value.specs.declared.limits.TheConstants.{GREATEST_NUMBER, GREATEST_ORDINAL}
use Rattle.ls_words.specs.Numbers.{is_digit, number_in}
use Rattle.ls_words.specs.Words.{is_letter, divided}
use Rattle.ls_form.specs.Decimals.{milli_of}
use Rattle.ls_event.specs.declared.event.Mode.{Mode}
use Rattle.ls_event.specs.declared.event.Mode.TheVariants as mode
use Rattle.ls_event.specs.declared.event.Snap.{Snap}
use Rattle.ls_event.specs.declared.event.Snap.TheVariants as snap
use Rattle.ls_request.specs.declared.limits.TheConstants.{LEAST_KEEPALIVE, GREATEST_KEEPALIVE, LEAST_LENGTH}
use Rattle.ls_request.specs.declared.limits.TheConstants.{MOST_OWN_NAME}

-- whether a text is this word
abbrev pub is_word : List ℕ → List ℕ → Bool
is_word word text = text_eq text word

-- a decimal is at most the greatest number
abbrev pub decimal_of : List ℕ → Option ℕ
decimal_of text = number_in text 0 GREATEST_NUMBER

-- what a size or a number of rows is read as: the greatest ordinal, where it is above it
abbrev pub capped : ℕ → ℕ
capped n = min n GREATEST_ORDINAL

-- a decimal of thousandths above 0
abbrev pub milli_above_0 : List ℕ → Option (Option ℕ)
milli_above_0 text = option_and_then (λ n. if n == 0 then None else Some (Some n)) (milli_of text)

-- LS_requested_max_bandwidth: `unlimited` or a decimal of thousandths above 0
abbrev pub bandwidth_of : List ℕ → Option (Option ℕ)
bandwidth_of text = if is_word (codes "unlimited") text then Some None else milli_above_0 text

-- LS_requested_max_frequency: `unlimited`, `unfiltered`, which is read as `unlimited`, or a decimal of thousandths
-- above 0
abbrev pub frequency_of : List ℕ → Option (Option ℕ)
frequency_of text = if is_word (codes "unlimited") text || is_word (codes "unfiltered") text then Some None
    else milli_above_0 text

-- LS_keepalive_millis: a decimal, between the shortest and the longest time
abbrev pub keepalive_of : List ℕ → Option ℕ
keepalive_of text = option_map (λ n. min (max n LEAST_KEEPALIVE) GREATEST_KEEPALIVE) (decimal_of text)

-- LS_content_length: a decimal, from the least length on
abbrev pub length_of : List ℕ → Option (Option ℕ)
length_of text = option_map (λ n. Some (max n LEAST_LENGTH)) (decimal_of text)

-- LS_recovery_from: a decimal
abbrev pub recovery_of : List ℕ → Option (Option ℕ)
recovery_of text = option_map (λ n. Some n) (decimal_of text)

-- LS_session: `S` and a decimal; another text is session 0
abbrev pub session_of : List ℕ → ℕ
session_of [] = 0
session_of (b ∷ digits) = if b == 83 then unwrap_or (decimal_of digits) 0 else 0

-- LS_reqId: ASCII letters or digits, from 1 to as many as it has at most
abbrev pub is_req_byte : ℕ → Bool
is_req_byte b = is_letter b || is_digit b

-- whether a text can be an LS_reqId
abbrev pub is_req : List ℕ → Bool
is_req text = nat_le 1 (length text) && nat_le (length text) MOST_OWN_NAME && list_all is_req_byte text

-- the LS_reqId that a text is
abbrev pub req_of : List ℕ → Option (List ℕ)
req_of text = if is_req text then Some text else None

-- LS_subId: an ordinal
abbrev pub sub_of : List ℕ → Option ℕ
sub_of text = number_in text 1 GREATEST_ORDINAL

-- LS_mode: the mode of a word
abbrev pub mode_of : List ℕ → Option Mode
mode_of text =
    if is_word (codes "RAW") text then Some mode.Raw
    else if is_word (codes "MERGE") text then Some mode.Merge
    else if is_word (codes "DISTINCT") text then Some mode.Distinct
    else if is_word (codes "COMMAND") text then Some mode.Command
    else None

-- whether a text has no byte
abbrev pub is_empty : List ℕ → Bool
is_empty text = length text == 0

-- words that are names, if none of them is empty
abbrev pub all_named : List (List ℕ) → Option (List (List ℕ))
all_named words = if list_any is_empty words then None else Some words

-- LS_group and LS_schema: names divided by single spaces; the empty text has none
abbrev pub names_of : List ℕ → Option (List (List ℕ))
names_of text = if is_empty text then Some [] else all_named (divided 32 text)

-- the snapshot of so many rows: none of 0; outside DISTINCT the whole one
abbrev pub snap_by : Mode → ℕ → Snap
snap_by m n = if n == 0 then snap.No else of_mode m
  where
    of_mode : Mode → Snap
    of_mode mode.Raw = snap.All
    of_mode mode.Merge = snap.All
    of_mode mode.Distinct = snap.Last (capped n)
    of_mode mode.Command = snap.All

-- LS_snapshot: `true`, `false` or a decimal
abbrev pub snap_of : Mode → List ℕ → Option Snap
snap_of m text =
    if is_word (codes "true") text then Some snap.All
    else if is_word (codes "false") text then Some snap.No
    else option_map (snap_by m) (decimal_of text)

-- LS_requested_buffer_size: `unlimited`, which is the greatest, or a decimal from 1
abbrev pub size_of : List ℕ → Option (Option ℕ)
size_of text =
    if is_word (codes "unlimited") text then Some (Some GREATEST_ORDINAL)
    else option_map (λ n. Some (capped n)) (number_in text 1 GREATEST_NUMBER)
