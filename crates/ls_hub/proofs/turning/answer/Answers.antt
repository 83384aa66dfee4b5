use Rattle.std.proofs.Common.{refl, sym, ◌∙◌}
use Rattle.ls_acts.proofs.Told.{found_nothing}
use Rattle.ls_hub.proofs.Telling.{told_asking, asked_is, told_slot, told_then}
use Rattle.ls_session.specs.Record.{turned}
use Rattle.ls_hub.proofs.turning.answer.Goals as goal

pub returns-in-Nothing-clause-ok : goal.returns-in-Nothing-clause-ok
returns-in-Nothing-clause-ok c = λ now items epoch before behind r q h ask.
    let d = c.in_ok-found.ensures.told items _ _ (turned now epoch r).after q
    (told_slot now items epoch before behind r q c.args.session.now c.args.cells.now h) h.session
    (asked_is now epoch r q _ (told_asking now items epoch before behind r q c.args.session.now c.args.cells.now h)) ask in
    c.pass_known.ensures now items epoch before behind r
    ((told_then now items epoch before behind r q c.args.session.now _ c.args.cells.now _ h _ refl d.1 d.2).1
    (found_nothing _ _ q.live (sym d.0 ∙ c.in-Nothing.is)))

pub returns-in_default-clause-ok : goal.returns-in_default-clause-ok
returns-in_default-clause-ok c = λ now items epoch before behind r q h ask.
    let d = c.in_ok-found.ensures.told items _ _ (turned now epoch r).after q
    (told_slot now items epoch before behind r q c.args.session.now c.args.cells.now h) h.session
    (asked_is now epoch r q _ (told_asking now items epoch before behind r q c.args.session.now c.args.cells.now h)) ask in
    (told_then now items epoch before behind r q c.args.session.now _ c.args.cells.now _ h _ refl d.1 d.2).0
