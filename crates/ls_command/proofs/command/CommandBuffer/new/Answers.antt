use Rattle.std.proofs.Common.{◌≡◌, ◌∙◌, [], ap, arith, length, refl, sym, subst}
use Rattle.std.proofs.lemmas.List.Elements.{All-nil}
use Rattle.ls_event.specs.History.{RowFits}
use Rattle.ls_event.specs.Joining.{command_joined}
use Rattle.ls_command.specs.declared.kept.Queued.{Queued}
use Rattle.ls_command.specs.Command.{Command, StandsCommand, command_rows}
use Rattle.ls_command.specs.Entries.{LinkedKeys, keys_owing}
use Rattle.ls_command.proofs.Joins.{command_joins}
use Rattle.ls_command.proofs.Widths.{RowsWide, with_owed_wide}
use Rattle.ls_command.proofs.Owed.{with_owed_is}
use Rattle.ls_command.proofs.command.CommandBuffer.new.Goals as goal

pub returns-clause-ok : goal.returns-clause-ok
returns-clause-ok c =
    let owed : c.len-owed.result ≡ length (command_rows c.args.first) =
    omega (arith, c.len-owed.ensures, c.rows_from-rows.result.ok.0, ap length c.rows_from-rows.ensures) in
    rw (c.is_some-ends.ensures, owed, c.in_ok-owed_queue.ensures, c.rows_from-rows.ensures) refl

pub returns-clause-queue : goal.returns-clause-queue
returns-clause-queue c = λ d. rw (c.in_ok-owed_queue.ensures, c.rows_from-rows.ensures) (with_owed_is (command_rows c.args.first) d)

pub returns-clause-fields : goal.returns-clause-fields
returns-clause-fields c = λ n rows.
    subst (λ (q : LinkedKeys). RowsWide n q.keys) (sym (c.in_ok-owed_queue.ensures ∙ ap keys_owing c.rows_from-rows.ensures))
    (with_owed_wide n [] (command_rows c.args.first) (All-nil (λ (q : Queued). RowFits n q.row)) rows)

pub returns-clause-stands : goal.returns-clause-stands
returns-clause-stands c = λ p h asked j is.
    subst (λ (b : Command). StandsCommand b (command_joined p h asked) h) (sym (returns-clause-ok c))
    (command_joins c.args.base c.args.key c.args.first p h asked j is)
