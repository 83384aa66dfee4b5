use Rattle.std.proofs.Common.{sym, ap, ◌∙◌}
use Rattle.ls_register.specs.Sessions.{is_among}
use Rattle.ls_register.proofs.Rising.{among_at, found, missed}
use Rattle.ls_register.proofs.rows.Rows.find.Goals as goal

pub returns-in-Ok : goal.returns-in-Ok
returns-in-Ok g c =
    let ns = c.self.inside.numbers.items in
    let f = found ns c.as_slice.result.now c.args.number c.in-Ok.k c.binary_search.result c.as_slice.ensures.value c.self.invariant.0
    c.binary_search.ensures.position c.in-Ok.is in
    sym (ap (is_among c.args.number) (sym c.self.view_is) ∙ among_at ns c.in-Ok.k c.args.number f.0 f.1)

pub returns-in-Err : goal.returns-in-Err
returns-in-Err g c =
    let ns = c.self.inside.numbers.items in
    sym (ap (is_among c.args.number) (sym c.self.view_is)
    ∙ missed ns c.as_slice.result.now c.args.number c.in-Err.field-0 c.binary_search.result c.as_slice.ensures.value c.self.invariant.0
    c.binary_search.ensures.position c.in-Err.is)
