-- Answers that are lines.
use Rattle.std.proofs.Common.{◌≡◌, ◌⊎◌, inl, inr, subst, ap, ◌∙◌, Result, Ok, Err, IfOk, MatchResult, Option, Some, sym}
use Rattle.ls_value.specs.declared.text.NoMemory.{NoMemory}
use Rattle.ls_line.specs.declared.line.Line.{Line}
use Rattle.ls_conn.specs.declared.acted.Acted.{Acted}
use Rattle.ls_conn.specs.declared.acted.Acted.TheVariants as acted
use Rattle.ls_register.specs.Deeds.{Deed}
use Rattle.ls_request.specs.declared.request.Request.{Request}
use Rattle.ls_request.specs.Requests.{read_of}
use Rattle.ls_conn.specs.Acting.{Acts, ActsBy, Asked, Known, Requests, Says, StarvedBy}

-- a line was made, and is the answer, unless there was no memory
pub says_line : (r : Result Line NoMemory) (answer : Acted) (l : Line) → IfOk r (λ (x : Line). x ≡ l)
    → MatchResult r (λ (x : Line). (answer ≡ acted.NoMemory) ⊎ Says x answer) (λ _. answer ≡ acted.NoMemory) → (answer ≡ acted.NoMemory) ⊎ Says l answer
says_line (Ok x) answer l is (inl e) = inl e
says_line (Ok x) answer l is (inr e) = inr (subst (λ (y : Line). Says y answer) is e)
says_line (Err e) answer l is says = inl says

-- a request that was read did what it does, unless there was no memory
pub acts_read : (deed : Deed) (a : Asked) (old new : Known) (r : Request) (answer : Acted) → read_of a.link a.name a.params ≡ Some r
    → (answer ≡ acted.NoMemory) ⊎ StarvedBy r answer ⊎ Requests deed a.own a.now old new r answer → Acts deed a old new answer
acts_read deed a old new r answer is (inl e) = inl (inl e)
acts_read deed a old new r answer is (inr (inl s)) = inl (inr (inr (r, is, s)))
acts_read deed a old new r answer is (inr (inr does)) =
    inr (subst (λ (x : Option Request). ActsBy deed a old new x answer) (sym is) does)
