use Rattle.std.proofs.Common.{◌∙◌, sym, ap, refl}
use Rattle.ls_event.specs.OwnCuts.{distinct_cut_by}
use Rattle.ls_plain.specs.Plain.{distinct_slot}
use Rattle.ls_plain.proofs.distinct.plain_distinct_cut.Goals as goal

pub returns-in-Some : goal.returns-in-Some
returns-in-Some c = c.clear_taken.ensures (distinct_slot c.args.slot.now) refl ∙ ap (distinct_cut_by c.args.history.now (distinct_slot c.args.slot.now))
    (sym (sym c.last_clear.ensures ∙ c.in-Some.is))
