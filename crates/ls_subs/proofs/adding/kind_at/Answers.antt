use Rattle.std.proofs.Common.{length, refl, ap}
use Rattle.std.proofs.lemmas.Option.{slice_get_read}
use Rattle.ls_subs.proofs.Asks.{shape_past, shape_found}
use Rattle.ls_subs.proofs.adding.kind_at.Goals as goal

pub returns-in-None : goal.returns-in-None
returns-in-None c = shape_past c.args.defs.now c.args.n c.in-None.ensures.lookup.3

pub returns-in-Some : goal.returns-in-Some
returns-in-Some c =
    let found = slice_get_read c.args.defs.now
    (length c.args.defs.now) c.args.n c.in-Some.def.now refl c.in-Some.ensures.lookup.3.0 c.in-Some.ensures.lookup.1 in
    ap (λ p. p.kind) (shape_found c.args.defs.now c.args.n c.in-Some.def.now found)
