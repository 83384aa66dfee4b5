use Rattle.std.proofs.Common.{◌≡◌, ℕ, List, ◌∙◌, subst, arith, inr, take_all}
use Rattle.httparse.specs.Grammar.{HasNoRequest, MayBecomeRequest}
use Rattle.httparse.specs.Spans.{RequestOverflows}
use Rattle.ls_http.specs.declared.head.TheConstants.{LONGEST_HEAD}
use Rattle.ls_http.proofs.Fronts.{overflows}
use Rattle.ls_http.proofs.look.look.Goals as goal

pub returns-then-bytes-lt-LONGEST_HEAD-clause-says : goal.returns-then-bytes-lt-LONGEST_HEAD-clause-says
returns-then-bytes-lt-LONGEST_HEAD-clause-says c =
    let same : c.front.result.now ≡ c.args.bytes.now = c.front.ensures ∙ take_all LONGEST_HEAD c.args.bytes.now (omega arith) in (
      omega arith,
      subst HasNoRequest same (rw c.in-Ok-Partial.field-0-is at c.in-Ok-Partial.ensures.partial),
      subst MayBecomeRequest same (rw c.in-Ok-Partial.field-0-is at c.in-Ok-Partial.ensures.unfinished),
    )

pub returns-in-Err-clause-says : goal.returns-in-Err-clause-says
returns-in-Err-clause-says c =
    inr (overflows c.args.bytes.now LONGEST_HEAD 64
    (subst (λ (x : List ℕ). RequestOverflows 64 x) c.front.ensures
    (subst (λ (n : ℕ). RequestOverflows n c.front.result.now) c.requires c.in-Err.ensures.no_room)))
