use Rattle.std.proofs.Common.{◌≡◌, ◌<◌, ◌^◌, drop}
use Rattle.std.specs.List.{list_all}
use Rattle.ls_words.specs.Numbers.{value_from, is_digit}
use Rattle.ls_http.proofs.fields.length_in.Given as goal

-- the digits so far, and those left
abbrev pub invariant-loop-digit : goal.invariant-loop-digit
invariant-loop-digit l =
    (l.n < 10 ^ l.digit-index) × (value_from l.n (drop l.digit-index l.text) ≡ value_from 0 l.text)
    × (list_all is_digit (drop l.digit-index l.text) ≡ list_all is_digit l.text)
