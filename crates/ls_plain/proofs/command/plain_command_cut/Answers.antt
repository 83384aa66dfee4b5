use Rattle.std.proofs.Common.{◌∙◌, sym, ap, refl}
use Rattle.ls_event.specs.CommandCuts.{command_cut_by}
use Rattle.ls_plain.specs.Plain.{command_slot}
use Rattle.ls_plain.proofs.command.plain_command_cut.Goals as goal

pub returns-in-Some : goal.returns-in-Some
returns-in-Some c =
    c.clear_taken.ensures (command_slot c.args.slot.now c.args.turns.now) refl
    ∙ ap (command_cut_by c.args.history.now (command_slot c.args.slot.now c.args.turns.now)) (sym (sym c.last_clear.ensures ∙ c.in-Some.is))
