-- The pairs of a form text, and why it is refused (URL Standard, section 5; the limit and the order of refusals are
-- this project's choice).
use Rattle.std.specs.Prelude.{ℕ, ◌+◌, List, [], ◌∷◌, ◌++◌, length, map, Bool, not, ◌&&◌, nat_lt, Option, Some, None}
use Rattle.std.specs.Prelude.{if◌then◌else◌}
use Rattle.std.specs.List.{list_any}
use Rattle.std.specs.Option.{option_or}
use Rattle.std.specs.Str.{is_utf8}
use Rattle.form_urlencoded.specs.Form.{raw_pairs, decode}
use Rattle.std.specs.Str.{bytes_eq}
use Rattle.ls_form.specs.declared.form.TheConstants.{LONGEST_FORM}
use Rattle.ls_form.specs.declared.form.Pair.{Pair}
use Rattle.ls_form.specs.declared.form.FormRefused.{FormRefused}
use Rattle.ls_form.specs.declared.form.FormRefused.TheVariants as refused

-- a name and its text, decoded: `+` is a space, and `%` with two hexadecimal digits a byte
abbrev pub decoded : List ℕ × List ℕ → Pair
decoded raw = record { name = decode raw.0; text = decode raw.1 }

-- the pairs of a form text: the pieces between `&` that aren't empty, each cut at its first `=`
abbrev pub decoded_pairs : List ℕ → List Pair
decoded_pairs bytes = map decoded (raw_pairs bytes)

-- whether both of a pair are UTF-8
abbrev pub is_utf8_pair : Pair → Bool
is_utf8_pair p = is_utf8 p.name && is_utf8 p.text

-- whether one of the pairs has the name
abbrev pub has_name : List Pair → List ℕ → Bool
has_name ps name = list_any (λ p. bytes_eq p.name name) ps

-- the text of the first pair with the name
abbrev pub text_under : List Pair → List ℕ → Option (List ℕ)
text_under [] name = None
text_under (p ∷ ps) name = if bytes_eq p.name name then Some p.text else text_under ps name

-- why a pair is refused behind these; pairs are counted from 1
abbrev pub cause_behind : List Pair → Pair → Option FormRefused
cause_behind before p =
    if not (is_utf8_pair p) then Some (refused.NotUtf8 (length before + 1))
    else if has_name before p.name then Some (refused.Twice (length before + 1))
    else None

-- why the first of these pairs that is refused is refused, behind others
abbrev pub first_cause : List Pair → List Pair → Option FormRefused
first_cause before [] = None
first_cause before (p ∷ ps) = option_or (cause_behind before p) (first_cause (before ++ p ∷ []) ps)

-- why a form text is refused
abbrev pub form_cause : List ℕ → Option FormRefused
form_cause bytes =
    if nat_lt LONGEST_FORM (length bytes) then Some (refused.TooLong (length bytes))
    else first_cause [] (decoded_pairs bytes)

-- the pairs of a form text that isn't refused
abbrev pub form_of : List ℕ → Option (List Pair)
form_of bytes = if_no_cause (form_cause bytes) (decoded_pairs bytes)
  where
    if_no_cause : Option FormRefused → List Pair → Option (List Pair)
    if_no_cause None ps = Some ps
    if_no_cause (Some cause) ps = None
