use Rattle.std.proofs.Common.{◌≡◌, ℕ, ◌+◌, ◌-◌, ◌≤◌, ◌∙◌, List, ap, arith, length, take, drop, subst, sym}
use Rattle.std.proofs.lemmas.List.{length-drop, length-take-le}
use Rattle.ls_event.specs.declared.event.Stored.{Stored}
use Rattle.ls_event.specs.History.{HasFields}
use Rattle.ls_merge.specs.Merge.{Merge, StandsMerge}
use Rattle.ls_merge.specs.Runs.{merge_run}
use Rattle.ls_merge.proofs.Landing.{run_last, run_row_length, merge_stands_run}
use Rattle.ls_cell.specs.Any.{any_last, HasAnyFields, AnyAdmits, StandsAny}
use Rattle.ls_cell.proofs.any.AnyBuffer.enqueue_run.Goals as goal

-- as many as were taken
many : (n from : ℕ) (xs : List Stored) → n ≤ length xs - from → length (take n (drop from xs)) ≡ n
many n from xs most = length-take-le n (drop from xs) (omega (arith, length-drop from xs, most))

pub returns-in_ok-taken-in-Merge-clause-last : goal.returns-in_ok-taken-in-Merge-clause-last
returns-in_ok-taken-in-Merge-clause-last c =
    ap (λ (b : Merge). b.last) c.in_ok-taken-in-Merge.ensures.took
    ∙ run_last c.in-Merge.buffer (take c.in_ok-taken-in-Merge.taken (drop c.args.from c.args.events.now.items))
    ∙ ap (λ n. c.in-Merge.buffer.last + n) (many c.in_ok-taken-in-Merge.taken c.args.from c.args.events.now.items c.in_ok-taken-in-Merge.ensures.most)
    ∙ ap (λ b. any_last b + c.in_ok-taken-in-Merge.taken) (sym c.in-Merge.is)

pub returns-in_ok-taken-in-Merge-clause-fields : goal.returns-in_ok-taken-in-Merge-clause-fields
returns-in_ok-taken-in-Merge-clause-fields c = λ m has.
    ap (λ (b : Merge). length b.row) c.in_ok-taken-in-Merge.ensures.took
    ∙ run_row_length c.in-Merge.buffer (take c.in_ok-taken-in-Merge.taken (drop c.args.from c.args.events.now.items))
    ∙ subst (λ b. HasAnyFields b m) c.in-Merge.is has

pub returns-in_ok-taken-in-Merge-clause-admits : goal.returns-in_ok-taken-in-Merge-clause-admits
returns-in_ok-taken-in-Merge-clause-admits c = λ e fits.
    subst (λ n. HasFields n e) (sym (ap (λ (b : Merge). length b.row) c.in_ok-taken-in-Merge.ensures.took
    ∙ run_row_length c.in-Merge.buffer (take c.in_ok-taken-in-Merge.taken (drop c.args.from c.args.events.now.items))))
    (subst (λ b. AnyAdmits b e) c.in-Merge.is fits)

pub returns-in_ok-taken-in-Merge-clause-stands : goal.returns-in_ok-taken-in-Merge-clause-stands
returns-in_ok-taken-in-Merge-clause-stands c = λ s h st run.
    subst (λ b. StandsMerge b (record s { last = s.last + c.in_ok-taken-in-Merge.taken }) h) (sym c.in_ok-taken-in-Merge.ensures.took)
    (subst (λ n. StandsMerge (merge_run c.in-Merge.buffer (take c.in_ok-taken-in-Merge.taken (drop c.args.from c.args.events.now.items)))
    (record s { last = s.last + n }) h)
    (many c.in_ok-taken-in-Merge.taken c.args.from c.args.events.now.items c.in_ok-taken-in-Merge.ensures.most)
    (merge_stands_run c.in-Merge.buffer s h (take c.in_ok-taken-in-Merge.taken (drop c.args.from c.args.events.now.items))
    (subst (λ b. StandsAny b s h) c.in-Merge.is st) run))

pub returns-in-Raw-3-clause-stands : goal.returns-in-Raw-3-clause-stands
returns-in-Raw-3-clause-stands c = λ s h st run.
    let same : s.last ≡ s.last + 0 = omega arith in
    subst (λ l. StandsAny c.args.self.now (record s { last = l }) h) same st
