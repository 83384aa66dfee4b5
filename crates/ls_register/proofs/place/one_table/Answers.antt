use Rattle.std.proofs.Common.{◌≡◌, ◌⊎◌, List, ap, subst}
use mathlib.Core.List.{IsPrefix}
use Rattle.ls_chron.proofs.Beginnings.{both_longer}
use Rattle.ls_register.specs.declared.made.Made.{Made}
use Rattle.ls_register.proofs.place.one_table.Goals as goal

pub returns-clause-lists : goal.returns-clause-lists
returns-clause-lists c =
    let xs = c.args.a.now.list in
    let ys = c.args.b.now.list in
    let a = c.meet.new.r.list in
    let b = c.meet-2.new.r.list in
    let mine-old = ap (λ t. t.list) c.share-mine.ensures.1 in
    let mine = ap (λ t. t.list) c.share-mine.ensures.0 in
    let theirs-old = ap (λ t. t.list) c.share-theirs.ensures.1 in
    let theirs = ap (λ t. t.list) c.share-theirs.ensures.0 in
    both_longer xs ys a b
    (subst (λ (p : List Made × List Made). (a ≡ p.0) ⊎ (a ≡ p.1)) (λ i. (mine-old i, theirs i)) c.meet.ensures.one)
    (subst (λ (l : List Made). IsPrefix l a) mine-old c.meet.ensures.mine)
    (subst (λ (l : List Made). IsPrefix l a) theirs c.meet.ensures.theirs)
    (subst (λ (p : List Made × List Made). (b ≡ p.0) ⊎ (b ≡ p.1)) (λ i. (theirs-old i, mine i)) c.meet-2.ensures.one)
    (subst (λ (l : List Made). IsPrefix l b) theirs-old c.meet-2.ensures.mine)
    (subst (λ (l : List Made). IsPrefix l b) mine c.meet-2.ensures.theirs)
