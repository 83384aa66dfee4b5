use Rattle.std.proofs.Common.{◌≡◌, subst, sym, true, IfOk, ℕ, Option}
use Rattle.ls_event.specs.declared.event.Mode.TheVariants as mode
use Rattle.ls_event.specs.Joining.{rows_asked, is_mode_of}
use Rattle.ls_item.specs.States.{KeptState}
use Rattle.ls_cell.specs.Joins.{Join, Joins}
use Rattle.ls_cell.proofs.Arrivals.{ok_with, merge_kind, distinct_kind, command_kind}
use Rattle.ls_cell.proofs.joining.buffer_of.Goals as goal

pub merge_buffer-requires-clause-kind : goal.merge_buffer-requires-clause-kind
merge_buffer-requires-clause-kind c =
    merge_kind _ (subst (λ m. is_mode_of m c.args.item.now.shape.kind ≡ true) c.in-Merge.is c.requires.mode)

pub distinct_buffer-requires-clause-kind : goal.distinct_buffer-requires-clause-kind
distinct_buffer-requires-clause-kind c =
    distinct_kind _ (subst (λ m. is_mode_of m c.args.item.now.shape.kind ≡ true) c.in-Distinct.is c.requires.mode)

pub command_buffer-requires : goal.command_buffer-requires
command_buffer-requires c =
    command_kind _ (subst (λ m. is_mode_of m c.args.item.now.shape.kind ≡ true) c.in-Command.is c.requires.mode)

pub returns-in-Raw : goal.returns-in-Raw
returns-in-Raw c =
    let join : Join = record {
      item = c.args.item.now;
      number = c.args.number;
      mode = mode.Raw;
      size = c.args.n;
      asked =
          rows_asked c.args.snapshot;
    } in
    subst (λ m. IfOk c.raw_buffer.result (Joins (record join { mode = m }))) (sym c.in-Raw.is)
    (ok_with (λ b. (k : KeptState) (n : ℕ) (asked : Option ℕ) → Joins
    (record { item = k; number = c.args.number; mode = mode.Raw; size = n; asked = asked }) b) (Joins join)
    c.raw_buffer.result
    (λ b joins. joins c.args.item.now c.args.n (rows_asked c.args.snapshot)) c.raw_buffer.ensures)

pub returns-in-Command : goal.returns-in-Command
returns-in-Command c =
    let join : Join = record {
      item = c.args.item.now;
      number = c.args.number;
      mode = mode.Command;
      size =
          c.args.n;
      asked = rows_asked c.args.snapshot;
    } in
    subst (λ m. IfOk c.command_buffer.result (Joins (record join { mode = m }))) (sym c.in-Command.is)
    (ok_with (λ b. (n : ℕ) → Joins (record join { size = n }) b) (Joins join) c.command_buffer.result
    (λ b joins. joins c.args.n) c.command_buffer.ensures)
