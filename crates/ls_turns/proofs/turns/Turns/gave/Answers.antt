use Rattle.std.proofs.Common.{subst, sym, ap, ◌∙◌, arith}
use Rattle.std.proofs.lemmas.List.{get_or_read}
use Rattle.ls_links.specs.Chains.{Apart, IsLinked}
use Rattle.ls_turns.specs.declared.row.Row.{Row}
use Rattle.ls_turns.specs.Kept.{no_row}
use Rattle.ls_turns.specs.Round.{Round, AreApart, gave}
use Rattle.ls_turns.specs.Moves.{GivesAt}
use Rattle.ls_turns.proofs.Leaving.{gave_none, seated, back_sound, back_view}
use Rattle.ls_turns.proofs.Moving.{gave_moves}
use Rattle.ls_turns.proofs.Reading.{seats_apart}
use Rattle.ls_turns.proofs.turns.Turns.gave.Goals as goal

pub returns-in_default-clause-seats : goal.returns-in_default-clause-seats
returns-in_default-clause-seats c =
    sym c.self.view_is ∙ gave_none _ _ c.self.invariant.kept _ _ (sym c.look.ensures ∙ c.in_default.is)
    ∙ ap (gave c.args.slot.now.sub c.args.slot.now.place) c.self.view_is

pub returns-in_default-clause-moved : goal.returns-in_default-clause-moved
returns-in_default-clause-moved c =
    subst (λ (q : Round). GivesAt c.args.slot.now.sub c.args.slot.now.place c.args.self.now q) (sym (returns-in_default-clause-seats c))
    (gave_moves _ _ c.args.self.now (subst (λ (x : Round). AreApart x) c.self.view_is (seats_apart _ _ c.self.invariant.kept)) c.requires)

pub index-requires : goal.index-requires
index-requires c =
    omega (arith, (seated _ _ c.self.invariant.kept _ _ (sym c.look.ensures ∙ c.in-Some.is)).within, c.self.inside.rows.ok.0)

pub move_to_back-requires : goal.move_to_back-requires
move_to_back-requires c =
    let s = seated _ _ c.self.invariant.kept _ _ (sym c.look.ensures ∙ c.in-Some.is) in
    let r = get_or_read _ _ _ s.within c.index.ensures no_row in
    subst (λ (x : Row). IsLinked c.self.inside.links x.node) (sym r) s.linked

pub invariant_of-self : goal.invariant_of-self
invariant_of-self c =
    rw c.move_to_back.ensures (back_sound _ _ _ _ c.self.invariant _ (subst Apart c.move_to_back.ensures c.are_apart.ensures))

pub returns-clause-seats : goal.returns-clause-seats
returns-clause-seats c =
    let s = seated _ _ c.self.invariant.kept _ _ (sym c.look.ensures ∙ c.in-Some.is) in
    let r = get_or_read _ _ _ s.within c.index.ensures no_row in
    rw (c.move_to_back.ensures, r)
    (back_view _ _ c.self.invariant.kept _ _ _ (sym c.look.ensures ∙ c.in-Some.is) ∙ ap (gave c.args.slot.now.sub c.args.slot.now.place) c.self.view_is)

pub returns-clause-moved : goal.returns-clause-moved
returns-clause-moved c =
    subst (λ (q : Round). GivesAt c.args.slot.now.sub c.args.slot.now.place c.args.self.now q) (sym (returns-clause-seats c))
    (gave_moves _ _ c.args.self.now (subst (λ (x : Round). AreApart x) c.self.view_is (seats_apart _ _ c.self.invariant.kept)) c.requires)
