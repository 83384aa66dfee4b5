use Rattle.std.proofs.Common.{◌∙◌, ◌∷◌, ◌++◌, [], List, sym, ap, subst}
use Rattle.ls_register.specs.declared.told.Told.{Told}
use Rattle.ls_told.specs.Heard.{counts_as}
use Rattle.ls_told.specs.Requests.{plain}
use Rattle.ls_told.specs.Seen.{items_seen}
use Rattle.ls_record.specs.Acting.{asks_of}
use Rattle.ls_subs.specs.Plans.{JoinAll}
use Rattle.ls_parts.specs.Groups.{SubSeen}
use Rattle.ls_joining.proofs.Added.{finished, told_plain, told_begun, join_numbers}
use Rattle.ls_joining.proofs.Sitting.{sitters}
use Rattle.ls_joining.proofs.joining.finish_in.Goals as goal

pub returns-clause-added : goal.returns-clause-added
returns-clause-added g c = λ a free r schema d.
    let config = g.N.House.deed.config in
    let p = c.args.parts.now in
    let vs = sitters (items_seen config p.watches.items) a.sub 1 (asks_of config a) c.args.seats.items in
    let tick = c.tick-tick.result in
    let once = ap (λ h. h.list) c.tell_begun.ensures
    ∙ told_begun p.history.list c.as_slice.result.now c.args.plan.begins c.begun_by-begun.result c.args.schema a.schema c.args.seats.items tick
    c.begun_by-begun.ensures schema c.as_slice.ensures in
    let twice = ap (λ h. h.list) c.tell_numbered.ensures
    ∙ told_plain c.tell_begun.new.self.list c.as_slice-2.result.now c.args.plan.configures c.no_cut.result tick c.no_cut.ensures
    c.as_slice-2.ensures
    ∙ ap (λ (l : List Told). l ++ plain c.args.plan.configures tick ∷ []) once in
    let joins = join_numbers config p.number p.history.list p.watches.items p.subs.items p.session a free c.args.plan c.args.seats.items
    c.args.numbers.now.items r tick c.finish_add.new.self d c.requires.all in
    finished config p.number p.history.list p.watches.items p.subs.items p.session a free c.args.plan c.args.seats.items c.args.numbers.now.items r
    tick c.finish_add.new.self d c.requires.all c.tell_numbered.new.self.list c.push_reserved.new.self.items (counts_as c.args.now p.history.list)
    c.tick-tick.ensures.tick c.tick-tick.ensures.most twice
    (c.push_reserved.ensures.items ∙ ap (λ (s : SubSeen). p.subs.items ++ s ∷ []) c.new.ensures)
    (c.finish_add.ensures r config a vs d.lives.stands d.plan_is
    (subst (λ ns. JoinAll c.args.plan.items.items ns vs) (sym c.deref.ensures.value) joins))
