use Rattle.std.proofs.Common.{◌≡◌, ◌∙◌, ℕ, List, Some, ap, inr, subst, sym}
use Rattle.ls_register.specs.declared.told.Told.{Told}
use Rattle.ls_told.specs.Requests.{bind_code_of}
use Rattle.ls_live_session.specs.Speaking.{Speaking}
use Rattle.ls_shared.proofs.Grown.{grows_on, lined}
use Rattle.ls_shared.proofs.Changing.{always, of_err}
use Rattle.ls_shared.proofs.Operations.{binds_ok}
use Rattle.ls_shared.proofs.shared.Shared.bind_in.Goals as goal

pub returns-clause-bound : goal.returns-clause-bound
returns-clause-bound g c =
    let reached = c.in-Ok.ensures.reached in
    binds_ok c.bind-answer.result c.args.bind.now c.args.now c.args.sight.now c.reach.new.sight c.show_lines.new.sight c.reach.new.live.lines
    c.end_overdue.new.live.lines c.bind-answer.new.self.lines c.end_overdue.new.live.number
    (reached.number
    ∙ sym (ap (λ (s : Speaking). s.number) c.end_overdue.ensures.rest ∙ ap (λ (s : Speaking). s.number) c.reach.ensures.rest))
    reached.grows reached.sees.lines c.end_overdue.ensures.begins c.end_overdue.ensures.in_time c.bind-answer.ensures.accepted
    (ap (λ t. t.lines) c.show_lines.ensures.sight)

pub returns-clause-grows : goal.returns-clause-grows
returns-clause-grows g c =
    always c.bind-answer.result _
    (grows_on c.args.sight.now c.reach.new.sight c.show_lines.new.sight c.in-Ok.ensures.reached.grows
    (lined c.reach.new.sight c.show_lines.new.sight c.bind-answer.new.self.lines c.show_lines.ensures.sight c.show_lines.ensures.lines
    c.show_lines.ensures.later))

pub returns-clause-refused : goal.returns-clause-refused
returns-clause-refused g c = λ code err.
    let named : c.args.sight.now.number ≡ c.end_overdue.new.live.number =
    c.in-Ok.ensures.reached.number
    ∙ sym (ap (λ (s : Speaking). s.number) c.end_overdue.ensures.rest ∙ ap (λ (s : Speaking). s.number) c.reach.ensures.rest) in
    let lines : c.show_lines.new.sight.lines ≡ c.end_overdue.new.live.lines =
    ap (λ t. t.lines) c.show_lines.ensures.sight ∙ of_err c.bind-answer.result _ _ err c.bind-answer.ensures.err in (
      grows_on c.args.sight.now c.reach.new.sight c.show_lines.new.sight c.in-Ok.ensures.reached.grows
          (lined c.reach.new.sight c.show_lines.new.sight c.bind-answer.new.self.lines c.show_lines.ensures.sight c.show_lines.ensures.lines
          c.show_lines.ensures.later),
      subst (λ (q : ℕ × List Told). bind_code_of q.0 q.1 c.args.bind.now.recover ≡ Some code) (λ i. (sym named i, sym lines i))
          (c.bind-answer.ensures.refused code err),
    )

pub returns-clause-memory : goal.returns-clause-memory
returns-clause-memory g c = λ _.
    inr (grows_on c.args.sight.now c.reach.new.sight c.show_lines.new.sight c.in-Ok.ensures.reached.grows
    (lined c.reach.new.sight c.show_lines.new.sight c.bind-answer.new.self.lines c.show_lines.ensures.sight c.show_lines.ensures.lines
    c.show_lines.ensures.later))
