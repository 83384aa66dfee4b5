use Rattle.std.proofs.Common.{◌≡◌, ◌∙◌, ℕ, true, ap, inr, subst, sym}
use mathlib.Core.List.{IsPrefix}
use Rattle.ls_record.specs.Records.{is_alive}
use Rattle.ls_told.specs.Heard.{heard, counts_as}
use Rattle.ls_told.specs.Requests.{InTime, RefusesOp}
use Rattle.ls_live_session.specs.Speaking.{Speaking}
use Rattle.ls_shared.proofs.Grown.{grows_on, lined}
use Rattle.ls_shared.proofs.Changing.{always, does_as, on_ok}
use Rattle.ls_shared.proofs.shared.Shared.alter.Goals as goal

pub returns-clause-grows : goal.returns-clause-grows
returns-clause-grows g c =
    always c.change.result _
    (grows_on c.args.sight.now c.show_lines.new.sight c.change.new.sight
    (grows_on c.args.sight.now c.reach.new.sight c.show_lines.new.sight c.in-Ok.ensures.reached.grows
    (lined c.reach.new.sight c.show_lines.new.sight c.end_overdue.new.live.lines c.show_lines.ensures.sight c.show_lines.ensures.lines
    c.show_lines.ensures.later))
    c.change.ensures.grows)

pub returns-clause-done : goal.returns-clause-done
returns-clause-done g c =
    let shown =
    grows_on c.args.sight.now c.reach.new.sight c.show_lines.new.sight c.in-Ok.ensures.reached.grows
    (lined c.reach.new.sight c.show_lines.new.sight c.end_overdue.new.live.lines c.show_lines.ensures.sight c.show_lines.ensures.lines
    c.show_lines.ensures.later) in
    let same = c.show_lines.ensures.same in
    on_ok c.change.result _ _
    (does_as g.N.House.deed.config c.args.op.now c.args.now c.args.sight.now c.show_lines.new.sight c.change.new.sight c.show_lines.new.self
    c.change.ensures.plain
    (c.in-Ok.ensures.reached.number
    ∙ sym (ap (λ (s : Speaking). s.number) same ∙ (ap (λ (s : Speaking). s.number) c.end_overdue.ensures.rest
    ∙ ap (λ (s : Speaking). s.number) c.reach.ensures.rest)))
    (subst (IsPrefix c.args.sight.now.later)
    (ap (λ t. t.lines) c.show_lines.ensures.sight ∙ sym (ap (λ (s : Speaking). s.lines) same)) shown.later)
    shown.register
    (subst (λ (s : Speaking). is_alive (heard s.number s.lines).life ≡ true → InTime (counts_as c.args.now s.lines) (heard s.number s.lines))
    (sym same) c.end_overdue.ensures.in_time)
    (grows_on c.args.sight.now c.show_lines.new.sight c.change.new.sight shown c.change.ensures.grows))
    c.change.ensures.done

pub returns-clause-refused : goal.returns-clause-refused
returns-clause-refused g c = λ code err.
    let shown =
    grows_on c.args.sight.now c.reach.new.sight c.show_lines.new.sight c.in-Ok.ensures.reached.grows
    (lined c.reach.new.sight c.show_lines.new.sight c.end_overdue.new.live.lines c.show_lines.ensures.sight c.show_lines.ensures.lines
    c.show_lines.ensures.later) in (
      grows_on c.args.sight.now c.show_lines.new.sight c.change.new.sight shown c.change.ensures.grows,
      subst (λ (n : ℕ).
          RefusesOp g.N.House.deed.config n c.args.op.now code c.change.new.sight.lines c.change.new.sight.watches c.change.new.sight.register)
          shown.number (c.change.ensures.refused code err),
    )

pub returns-clause-memory : goal.returns-clause-memory
returns-clause-memory g c = λ _.
    inr (grows_on c.args.sight.now c.show_lines.new.sight c.change.new.sight
    (grows_on c.args.sight.now c.reach.new.sight c.show_lines.new.sight c.in-Ok.ensures.reached.grows
    (lined c.reach.new.sight c.show_lines.new.sight c.end_overdue.new.live.lines c.show_lines.ensures.sight c.show_lines.ensures.lines
    c.show_lines.ensures.later))
    c.change.ensures.grows)
