use Rattle.std.proofs.Common.{subst, sym, ap, ◌∙◌, arith}
use Rattle.std.proofs.lemmas.List.{get_or_read}
use Rattle.ls_links.specs.Chains.{Apart, IsLinked, unlinked}
use Rattle.ls_turns.specs.declared.row.Row.{Row}
use Rattle.ls_turns.specs.Kept.{no_row}
use Rattle.ls_turns.specs.Round.{left_one}
use Rattle.ls_turns.proofs.Leaving.{left_none, seated, gone_sound, gone_view, room_for_gone}
use Rattle.ls_turns.proofs.turns.Turns.leave_one.Goals as goal

pub returns-in_default : goal.returns-in_default
returns-in_default c =
    sym c.self.view_is ∙ left_none _ _ c.self.invariant.kept _ _ (sym c.look.ensures ∙ c.in_default.is)
    ∙ ap (left_one c.args.sub c.args.place) c.self.view_is

pub index-requires : goal.index-requires
index-requires c =
    omega (arith, (seated _ _ c.self.invariant.kept _ _ (sym c.look.ensures ∙ c.in-Some.is)).within, c.self.inside.rows.ok.0)

pub unlink-seat-requires : goal.unlink-seat-requires
unlink-seat-requires c =
    let s = seated _ _ c.self.invariant.kept _ _ (sym c.look.ensures ∙ c.in-Some.is) in
    let r = get_or_read _ _ _ s.within c.index.ensures no_row in
    subst (λ (x : Row). IsLinked c.self.inside.links x.node) (sym r) s.linked

pub push_reserved-requires : goal.push_reserved-requires
push_reserved-requires c =
    omega (arith, room_for_gone _ _ _ _ c.self.invariant _ _ (sym c.look.ensures ∙ c.in-Some.is), c.self.inside.free.ok.0)

pub invariant_of-self : goal.invariant_of-self
invariant_of-self c =
    let h = sym c.look.ensures ∙ c.in-Some.is in
    let s = seated _ _ c.self.invariant.kept _ _ h in
    let r = get_or_read _ _ _ s.within c.index.ensures no_row in
    let apart = subst (λ (x : Row). Apart (unlinked x.node c.self.inside.links)) r (subst Apart c.unlink-seat.ensures.unlinked c.are_apart.ensures) in
    rw (c.unlink-seat.ensures.unlinked, r, c.push_reserved.ensures.items)
    (gone_sound _ _ _ _ c.self.invariant _ _ h apart _ c.take-same.ensures.after _ _ c.take-same.ensures.room
    (omega (arith, c.push_reserved.ensures.capacity)))

pub returns : goal.returns
returns c =
    let s = seated _ _ c.self.invariant.kept _ _ (sym c.look.ensures ∙ c.in-Some.is) in
    let r = get_or_read _ _ _ s.within c.index.ensures no_row in
    rw (c.unlink-seat.ensures.unlinked, r)
    (gone_view _ _ c.self.invariant.kept _ _ _ (sym c.look.ensures ∙ c.in-Some.is) ∙ ap (left_one c.args.sub c.args.place) c.self.view_is)
