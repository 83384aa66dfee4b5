use Rattle.std.proofs.Common.{◌≡◌, length}
use Rattle.std.specs.List.{list_any}
use Rattle.ls_words.specs.Words.{pieces_behind}
use Rattle.ls_http.specs.Fields.{is_element, has_element}
use Rattle.ls_http.proofs.fields.has_element.Given as goal

-- no element so far is the token
abbrev pub invariant-loop-rest : goal.invariant-loop-rest
invariant-loop-rest l =
    list_any (is_element l.case_counts l.token) (pieces_behind 44 l.rest) ≡ has_element l.case_counts l.token l.value

abbrev pub decreases-loop-rest : goal.decreases-loop-rest
decreases-loop-rest l = length (pieces_behind 44 l.rest)
