use Rattle.std.proofs.Common.{◌≡◌, ◌++◌, ◌∷◌, [], List, length, Some, slice_get, take, refl, sym, ap, ◌∙◌, subst}
use Rattle.ls_register.specs.Watches.{Watched}
use Rattle.ls_told.specs.Seen.{SeesMore}
use Rattle.ls_sight.proofs.Agreeing.{sees_pushed, take_next, take_pushed}
use Rattle.ls_sight.proofs.watches.push_copies.Goals as goal

pub loop-i-preserved : goal.loop-i-preserved
loop-i-preserved g c =
    let i = c.loop-i.invariant in
    let w = c.in_ok-copy.copy in
    let old = c.args.others.now.items in
    let now = c.loop-i.others.items in
    let items : c.push.new.self.items ≡ now ++ w ∷ [] = c.in_ok-push.ensures.items in
    let there : slice_get c.args.watches.now.items c.loop-i.i ≡ Some w =
    ap (λ (l : List Watched). slice_get l c.loop-i.i) (sym i.0) ∙ c.in_ok-copy.ensures.copy in (
      c.copy_at.ensures.same ∙ i.0,
      subst (SeesMore old) (sym items) (sees_pushed old now w i.1),
      λ none. items ∙ (ap (λ (l : List Watched). l ++ w ∷ []) (i.2 none) ∙ sym (take_next c.args.watches.now.items c.loop-i.i w there)),
      ap (take (length old)) items ∙ take_pushed (length old) now old w i.3 refl,
    )
