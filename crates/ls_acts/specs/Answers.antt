-- The answers to requests (TLCP 2.1, REQOK, REQERR, CONERR and ERROR).
use Rattle.std.specs.Prelude.{ℕ, List, Option, None, Some, if◌then◌else◌}
use Rattle.ls_line.specs.declared.line.Line.{Line}
use Rattle.ls_line.specs.declared.line.Line.TheVariants as line
use Rattle.ls_record.specs.Acting.{message_of, is_opening}
use Rattle.ls_record.specs.Cases.{with_found}

-- the answer to a control request: REQOK, or REQERR with the code of a refusal
abbrev pub answer_line : List ℕ → Option ℕ → Line
answer_line req None = line.ReqOk req
answer_line req (Some code) = line.ReqErr req code (message_of code)

-- the answer to a malformed request, by its name, and by its own name where that was read
abbrev pub malformed_line : List ℕ → Option (List ℕ) → Line
malformed_line name req =
    if is_opening name then line.ConErr 65 (message_of 65)
    else with_found req (line.Error 65 (message_of 65)) (λ r. line.ReqErr r 65 (message_of 65))
