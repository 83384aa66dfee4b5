use Rattle.std.proofs.Common.{◌≡◌, ◌++◌, ◌∷◌, [], ℕ, IfOk, sym, subst, length}
use Rattle.ls_live.specs.Live.{HeldItem, IsCause, cause_in, entry_of}
use Rattle.ls_seated.specs.Seats.{IsSeated, SeatedItem}
use Rattle.ls_seated.proofs.Seating.{item_grown}
use Rattle.ls_seated.proofs.Ready.{grows}
use Rattle.ls_seated.proofs.seated.Seated.publish_copied.Goals as goal

pub invariant_of-self : goal.invariant_of-self
invariant_of-self g c =
    let i = c.self.inside in
    let said = c.publish_copied.ensures in
    let k = c.publish_copied.new.item.history in
    let mine = entry_of c.args.pass.now.adapter c.args.seq c.args.event in
    subst (λ (x : HeldItem). IsSeated x i.sides.items) (sym said.item)
    (item_grown i.live c.publish_copied.new.item.cell k i.sides.items
    (grows c.publish_copied.result i.live.history k (mine ∷ []) (λ n. n ≡ length k)
    (λ cause. IsCause (cause_in i.live.shape i.live.history mine) cause) said.done said.refused) said.slots c.self.invariant)

pub returns-clause-done : goal.returns-clause-done
returns-clause-done g c =
    let k = c.publish_copied.new.item.history in
    subst (λ (x : SeatedItem). IfOk c.publish_copied.result (λ (n : ℕ). (k ≡ x.item.history ++ entry_of c.args.pass.now.adapter c.args.seq c.args.event ∷ [])
    × (n ≡ length k))) c.self.view_is c.publish_copied.ensures.done
