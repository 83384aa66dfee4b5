use Rattle.std.proofs.Common.{◌≡◌, ℕ, ◌+◌, ◌<◌, ◌==◌, List, [], ◌∷◌, ◌++◌, length, get_or, set, take, Bool, true, false}
use Rattle.std.proofs.Common.{cond, refl, sym, ◌∙◌, ap, ap₂, subst, arith}
use Rattle.std.proofs.lemmas.Bool.{eqb-true, eqb-false}
use Rattle.std.proofs.lemmas.List.{take_more, length-set, get_or-set_same, get_or-set_other}
use Rattle.ls_value.specs.declared.row.Cell.TheVariants as cell
use Rattle.ls_item.proofs.rows.copied_but.Goals as goal

-- one more of a list in which y was put at a place
take_put : {X : Type 0} (xs : List X) (i place : ℕ) (y x : X) → i < length xs → x ≡ get_or xs i x
    → take i (set xs place y) ++ cond (i == place) y x ∷ [] ≡ take (i + 1) (set xs place y)
take_put xs i place y x within is =
    sym (take_more (set xs place y) i x (omega (arith, within, length-set xs place y))
    ∙ ap (λ z. take i (set xs place y) ++ z ∷ []) (by_test (i == place) refl))
  where
    by_test : (v : Bool) → (i == place) ≡ v → get_or (set xs place y) i x ≡ cond v y x
    by_test true t = subst (λ p. get_or (set xs p y) i x ≡ y) (eqb-true i place t) (get_or-set_same xs i y x within)
    by_test false t = get_or-set_other xs place i y x (eqb-false i place t) ∙ sym is

pub loop-i-preserved : goal.loop-i-preserved
loop-i-preserved c =
    c.in_ok-push.ensures.items
    ∙ ap₂ (λ copied x. copied ++ x ∷ []) c.loop-i.invariant c.in_ok-null_or_copy.ensures
    ∙ take_put c.args.cells.now c.loop-i.i c.args.place cell.Null c.index-cells-i.result c.loop-i-test.true c.index-cells-i.is
