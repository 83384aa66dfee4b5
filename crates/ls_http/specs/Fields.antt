-- The fields of a head, by name, and what some of them say (RFC 9110, sections 5 and 8.6; RFC 6455, section 4.2.1).
use Rattle.std.specs.Prelude.{ℕ, ◌==◌, List, [], ◌∷◌, length, take, drop, Bool, true, false, ◌&&◌, codes, Option, None, Some}
use Rattle.std.specs.Prelude.{nat_le, if◌then◌else◌, option_and_then, Result}
use Rattle.std.specs.declared.result.Result.TheVariants.{Ok, Err}
use Rattle.std.specs.List.{count_by, list_any, list_all}
use Rattle.std.specs.Str.{bytes_eq, str_eq_ignore_ascii_case as same_name}
use Rattle.base64.specs.declared.decode.DecodeError.{DecodeError}
use Rattle.base64.specs.Engines.{standard}
use Rattle.base64.specs.GeneralPurpose.{decode_of}
use Rattle.httparse.specs.Grammar.{is_ows, skip_ows}
use Rattle.ls_words.specs.Words.{divided}
use Rattle.ls_words.specs.Numbers.{is_digit, value_from}

-- a name, and a value without the white space around it
abbrev pub FieldPair : Type 0
FieldPair = List ℕ × List ℕ

-- whether a field has this name, in either case
abbrev pub is_named : List ℕ → FieldPair → Bool
is_named name field = same_name field.0 name

-- how many fields have this name
abbrev pub count_of_name : List ℕ → List FieldPair → ℕ
count_of_name name fields = count_by (is_named name) fields

-- the value of the first field with this name
abbrev pub first_value : List ℕ → List FieldPair → Option (List ℕ)
first_value name [] = None
first_value name (field ∷ fields) = if is_named name field then Some field.1 else first_value name fields

-- the value of the field with this name, where it stands once
abbrev pub only_value : List ℕ → List FieldPair → Option (List ℕ)
only_value name fields = if count_of_name name fields == 1 then first_value name fields else None

-- whether two tokens are the same: of some lists the case counts
abbrev pub is_same_token : Bool → List ℕ → List ℕ → Bool
is_same_token case_counts a b = if case_counts then bytes_eq a b else same_name a b

-- whether a text begins with the token, and has only white space after it
abbrev pub begins_with_token : Bool → List ℕ → List ℕ → Bool
begins_with_token case_counts token text =
    is_same_token case_counts (take (length token) text) token && list_all is_ows (drop (length token) text)

-- whether an element of a list is the token, with white space around it
abbrev pub is_element : Bool → List ℕ → List ℕ → Bool
is_element case_counts token piece = begins_with_token case_counts token (skip_ows piece)

-- whether a list, whose elements commas divide, has the token
abbrev pub has_element : Bool → List ℕ → List ℕ → Bool
has_element case_counts token value = list_any (is_element case_counts token) (divided 44 value)

-- whether the lists of the fields with this name have the token
abbrev pub lists : Bool → List ℕ → List ℕ → List FieldPair → Bool
lists case_counts name token fields =
    list_any (λ field. is_named name field && has_element case_counts token field.1) fields

-- whether there is a value, and it is this one
abbrev pub is_value : List ℕ → Option (List ℕ) → Bool
is_value value None = false
is_value value (Some found) = bytes_eq found value

-- whether a text decodes to 16 bytes
abbrev pub are_16_bytes : Result (List ℕ) DecodeError → Bool
are_16_bytes (Ok bytes) = length bytes == 16
are_16_bytes (Err e) = false

-- whether a text is a handshake's key: 24 characters that are the base64 of 16 bytes
abbrev pub is_key : List ℕ → Bool
is_key text = length text == 24 && are_16_bytes (decode_of standard text)

-- a text, where it is a key
abbrev pub key_in : List ℕ → Option (List ℕ)
key_in text = if is_key text then Some text else None

-- the handshake's key
abbrev pub key_of : List FieldPair → Option (List ℕ)
key_of fields = option_and_then key_in (only_value (codes "Sec-WebSocket-Key") fields)

-- what a handshake asks for beside its key
abbrev pub asks_upgrade : List FieldPair → Bool
asks_upgrade fields =
    lists false (codes "Upgrade") (codes "websocket") fields
    && lists false (codes "Connection") (codes "upgrade") fields
    && is_value (codes "13") (only_value (codes "Sec-WebSocket-Version") fields)
    && lists true (codes "Sec-WebSocket-Protocol") (codes "TLCP-2.1.0.lightstreamer.com") fields

-- the number that 1 to 18 digits say
abbrev pub length_in : List ℕ → Option ℕ
length_in text =
    if nat_le 1 (length text) && nat_le (length text) 18 && list_all is_digit text then Some (value_from 0 text) else None

-- the length of a body that comes whole and with one length
abbrev pub body_length : List FieldPair → Option ℕ
body_length fields =
    if count_of_name (codes "Transfer-Encoding") fields == 0
    then option_and_then length_in (only_value (codes "Content-Length") fields) else None
