use Rattle.std.proofs.Common.{subst, sym, ap, ◌∙◌, ◌≡◌, Some, arith}
use Rattle.std.proofs.lemmas.List.{get_or_read}
use Rattle.ls_turns.specs.declared.row.Row.{Row}
use Rattle.ls_turns.specs.Kept.{no_row}
use Rattle.ls_turns.specs.Round.{Round, IsSeated, seat_at}
use Rattle.ls_turns.proofs.Reading.{linked, slot_is}
use Rattle.ls_turns.proofs.turns.Turns.slot.Goals as goal

pub value-requires : goal.value-requires
value-requires c =
    linked _ _ c.self.invariant.kept c.args.node (subst (λ (x : Round). IsSeated x c.args.node) (sym c.self.view_is) c.requires)

pub index-requires : goal.index-requires
index-requires c =
    let s = subst (λ (x : Round). IsSeated x c.args.node) (sym c.self.view_is) c.requires in
    let w = slot_is _ _ c.self.invariant.kept s.0 c.args.node c.value.result s.1 c.value.ensures s.2 s.3 in
    omega (arith, w.0, c.self.inside.rows.ok.0)

pub returns : goal.returns
returns c = λ i s h e.
    let w = slot_is _ _ c.self.invariant.kept i c.args.node c.value.result s c.value.ensures (subst (λ (x : Round). seat_at x i ≡ Some s) (sym c.self.view_is)
    h) e in
    ap (λ (r : Row). r.slot) (get_or_read _ _ _ w.0 c.index.ensures no_row) ∙ w.1
