-- Logs that stay and grow.
use Rattle.std.proofs.Common.{List, [], ◌++◌, Option, None, Some, sym, append-nil, append_assoc, ◌∙◌, ap}
use Rattle.ls_talk.specs.declared.talk.Happening.{Happening}
use Rattle.ls_talk.specs.Lines.{Logs}

-- nothing happened
pub logs_nothing : (log : Option (List Happening)) → Logs log log []
logs_nothing None = tt
logs_nothing (Some xs) = sym (append-nil xs)

-- one thing after another
pub logs_on : (a b c : Option (List Happening)) (xs ys : List Happening) → Logs a b xs → Logs b c ys → Logs a c (xs ++ ys)
logs_on None b c xs ys early late = tt
logs_on (Some hs) None c xs ys early late = absurd early
logs_on (Some hs) (Some bs) None xs ys early late = absurd late
logs_on (Some hs) (Some bs) (Some cs) xs ys early late =
    late ∙ ap (λ (zs : List Happening). zs ++ ys) early ∙ append_assoc hs xs ys
