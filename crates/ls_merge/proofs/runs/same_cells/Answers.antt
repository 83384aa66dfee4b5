use Rattle.std.proofs.Common.{◌≡◌, ◌++◌, ◌∷◌, [], replicate, ap, ◌∙◌, arith}
use Rattle.std.proofs.lemmas.List.{replicate_more}
use Rattle.ls_value.specs.declared.row.Cell.TheVariants as cell
use Rattle.ls_merge.proofs.runs.same_cells.Goals as goal

pub loop-init : goal.loop-init
loop-init c = c.in_ok-cells.ensures.items

pub loop-preserved : goal.loop-preserved
loop-preserved c =
    c.in_ok-push.ensures.items ∙ ap (λ xs. xs ++ cell.Same ∷ []) c.loop.invariant ∙ replicate_more c.loop.counter cell.Same

pub returns : goal.returns
returns c =
    let all : c.loop.counter ≡ c.args.n = omega (arith, c.loop-test.false, c.loop.auto.counter-end) in
    c.loop.invariant ∙ ap (λ n. replicate n cell.Same) all
