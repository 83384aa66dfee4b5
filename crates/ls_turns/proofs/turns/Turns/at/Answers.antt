use Rattle.std.proofs.Common.{sym, ap, ◌∙◌, ◌≡◌, ◌<◌, Some, arith, length, ℕ}
use Rattle.std.proofs.lemmas.List.{get_or_read}
use Rattle.ls_turns.specs.declared.row.Row.{Row}
use Rattle.ls_turns.specs.Kept.{no_row}
use Rattle.ls_turns.specs.Round.{Round, slot_of_value}
use Rattle.ls_links.proofs.Members.{nothing_there}
use Rattle.ls_turns.proofs.Reading.{at_some, at_other, at_past}
use Rattle.ls_turns.proofs.turns.Turns.at.Goals as goal

pub returns-then-value-len : goal.returns-then-value-len
returns-then-value-len c =
    at_past _ _ c.self.invariant.kept c.args.value (omega (arith, c.if-value-len.true, c.len.ensures, c.self.inside.rows.ok.0))
    ∙ ap (λ (x : Round). slot_of_value x c.args.value) c.self.view_is

pub returns-then-seat-value : goal.returns-then-seat-value
returns-then-seat-value c =
    let w : c.args.value < length c.self.inside.rows.items = omega (arith, c.if-value-len.false, c.len.ensures, c.self.inside.rows.ok.0) in
    ap (λ (r : Row). Some r.slot) (get_or_read _ _ _ w c.index.ensures no_row)
    ∙ at_some _ _ c.self.invariant.kept c.args.value _ (sym c.look.ensures ∙ c.in-Some.is ∙ ap (λ (n : ℕ). Some n) c.if-seat-value.true)
    ∙ ap (λ (x : Round). slot_of_value x c.args.value) c.self.view_is

pub returns-else-seat-value : goal.returns-else-seat-value
returns-else-seat-value c =
    let w : c.args.value < length c.self.inside.rows.items = omega (arith, c.if-value-len.false, c.len.ensures, c.self.inside.rows.ok.0) in
    at_other _ _ c.self.invariant.kept c.args.value _ (get_or_read _ _ _ w c.index.ensures no_row)
    (λ h. (let e : Some c.in-Some.seat ≡ Some c.args.value = sym c.in-Some.is ∙ c.look.ensures ∙ h in c.if-seat-value.false cc))
    ∙ ap (λ (x : Round). slot_of_value x c.args.value) c.self.view_is

pub returns-in-None : goal.returns-in-None
returns-in-None c =
    let w : c.args.value < length c.self.inside.rows.items = omega (arith, c.if-value-len.false, c.len.ensures, c.self.inside.rows.ok.0) in
    at_other _ _ c.self.invariant.kept c.args.value _ (get_or_read _ _ _ w c.index.ensures no_row)
    (λ h. nothing_there c.args.value c.look.result c.in-None.is (c.look.ensures ∙ h))
    ∙ ap (λ (x : Round). slot_of_value x c.args.value) c.self.view_is
