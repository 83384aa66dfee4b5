use Rattle.std.proofs.Common.{length, refl, ◌∙◌, ap, sym}
use Rattle.std.proofs.lemmas.Option.{slice_get_read}
use Rattle.ls_record.specs.Acting.{are_among}
use Rattle.ls_subs.proofs.Asks.{fields_past, fields_found, among_none}
use Rattle.ls_subs.proofs.adding.has_fields.Goals as goal

pub returns-in-None : goal.returns-in-None
returns-in-None c = c.is_empty.ensures ∙ among_none c.args.schema.now
    ∙ ap (λ fs. are_among fs c.args.schema.now) (sym (fields_past c.args.defs.now c.args.n c.in-None.ensures.lookup.3))

pub returns-in-Some : goal.returns-in-Some
returns-in-Some c =
    let found = slice_get_read c.args.defs.now
    (length c.args.defs.now) c.args.n c.in-Some.def.now refl c.in-Some.ensures.lookup.3.0 c.in-Some.ensures.lookup.1 in
    c.are_among.ensures ∙ ap (λ fs. are_among fs c.args.schema.now) (fields_found c.args.defs.now c.args.n c.in-Some.def.now found)
