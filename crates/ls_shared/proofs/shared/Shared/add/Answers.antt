use Rattle.std.proofs.Common.{◌≡◌, ◌∙◌, ℕ, true, ap, inr, subst, sym}
use mathlib.Core.List.{IsPrefix}
use Rattle.ls_record.specs.Records.{is_alive}
use Rattle.ls_told.specs.Heard.{heard, counts_as}
use Rattle.ls_told.specs.Requests.{InTime, RefusesOp}
use Rattle.ls_live_session.specs.Speaking.{Speaking}
use Rattle.ls_shared.proofs.Grown.{grows_on, lined}
use Rattle.ls_shared.proofs.Changing.{always, on_ok}
use Rattle.ls_shared.proofs.Adds.{does_add}
use Rattle.ls_shared.proofs.Operations.{claims_room}
use Rattle.ls_request.specs.declared.request.Op.TheVariants as op
use Rattle.ls_shared.proofs.shared.Shared.add.Goals as goal

pub returns-clause-grows : goal.returns-clause-grows
returns-clause-grows g c =
    always c.add_to.result.1 _
    (grows_on c.args.sight.now c.show_lines.new.sight c.add_to.new.sight
    (grows_on c.args.sight.now c.reach.new.sight c.show_lines.new.sight c.in-Ok.ensures.reached.grows
    (lined c.reach.new.sight c.show_lines.new.sight c.end_overdue.new.live.lines c.show_lines.ensures.sight c.show_lines.ensures.lines
    c.show_lines.ensures.later))
    c.add_to.ensures.grows)

pub returns-clause-done : goal.returns-clause-done
returns-clause-done g c =
    let shown =
    grows_on c.args.sight.now c.reach.new.sight c.show_lines.new.sight c.in-Ok.ensures.reached.grows
    (lined c.reach.new.sight c.show_lines.new.sight c.end_overdue.new.live.lines c.show_lines.ensures.sight c.show_lines.ensures.lines
    c.show_lines.ensures.later) in
    let same = c.show_lines.ensures.same in
    on_ok c.add_to.result.1 _ _
    (does_add g.N.House.deed.config c.args.add.now c.args.now c.args.sight.now c.show_lines.new.sight c.add_to.new.sight c.show_lines.new.self
    (c.in-Ok.ensures.reached.number
    ∙ sym (ap (λ (s : Speaking). s.number) same ∙ (ap (λ (s : Speaking). s.number) c.end_overdue.ensures.rest
    ∙ ap (λ (s : Speaking). s.number) c.reach.ensures.rest)))
    (subst (IsPrefix c.args.sight.now.later)
    (ap (λ t. t.lines) c.show_lines.ensures.sight ∙ sym (ap (λ (s : Speaking). s.lines) same)) shown.later)
    shown.register
    (subst (λ (s : Speaking). is_alive (heard s.number s.lines).life ≡ true → InTime (counts_as c.args.now s.lines) (heard s.number s.lines))
    (sym same) c.end_overdue.ensures.in_time))
    c.add_to.ensures.done

pub returns-clause-claimed : goal.returns-clause-claimed
returns-clause-claimed g c =
    let shown =
    grows_on c.args.sight.now c.reach.new.sight c.show_lines.new.sight c.in-Ok.ensures.reached.grows
    (lined c.reach.new.sight c.show_lines.new.sight c.end_overdue.new.live.lines c.show_lines.ensures.sight c.show_lines.ensures.lines
    c.show_lines.ensures.later) in
    let same = c.show_lines.ensures.same in
    on_ok c.add_to.result.1 _ _
    (claims_room g.N.House.deed.config c.args.add.now c.args.now c.args.sight.now c.show_lines.new.sight c.add_to.new.sight c.show_lines.new.self
    (c.in-Ok.ensures.reached.number
    ∙ sym (ap (λ (s : Speaking). s.number) same ∙ (ap (λ (s : Speaking). s.number) c.end_overdue.ensures.rest
    ∙ ap (λ (s : Speaking). s.number) c.reach.ensures.rest)))
    (subst (IsPrefix c.args.sight.now.later)
    (ap (λ t. t.lines) c.show_lines.ensures.sight ∙ sym (ap (λ (s : Speaking). s.lines) same)) shown.later)
    shown.register)
    c.add_to.ensures.done

pub returns-clause-refused : goal.returns-clause-refused
returns-clause-refused g c = λ code err.
    let shown =
    grows_on c.args.sight.now c.reach.new.sight c.show_lines.new.sight c.in-Ok.ensures.reached.grows
    (lined c.reach.new.sight c.show_lines.new.sight c.end_overdue.new.live.lines c.show_lines.ensures.sight c.show_lines.ensures.lines
    c.show_lines.ensures.later) in (
      grows_on c.args.sight.now c.show_lines.new.sight c.add_to.new.sight shown c.add_to.ensures.grows,
      subst (λ (n : ℕ).
          RefusesOp g.N.House.deed.config n (op.Add c.args.add.now) code c.add_to.new.sight.lines c.add_to.new.sight.watches c.add_to.new.sight.register)
          shown.number (c.add_to.ensures.refused code err),
    )

pub returns-clause-memory : goal.returns-clause-memory
returns-clause-memory g c = λ _.
    inr (grows_on c.args.sight.now c.show_lines.new.sight c.add_to.new.sight
    (grows_on c.args.sight.now c.reach.new.sight c.show_lines.new.sight c.in-Ok.ensures.reached.grows
    (lined c.reach.new.sight c.show_lines.new.sight c.end_overdue.new.live.lines c.show_lines.ensures.sight c.show_lines.ensures.lines
    c.show_lines.ensures.later))
    c.add_to.ensures.grows)
