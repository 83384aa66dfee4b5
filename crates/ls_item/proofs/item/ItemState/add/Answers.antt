use Rattle.std.proofs.Common.{◌≡◌, None, subst, sym}
use Rattle.ls_event.specs.States.{push_refusal}
use Rattle.ls_item.specs.States.{KeptState}
use Rattle.ls_item.proofs.Causes.{admitted_anywhere}
use Rattle.ls_item.proofs.item.ItemState.add.Goals as goal

pub add-requires-clause-admitted : goal.add-requires-clause-admitted
add-requires-clause-admitted c =
    admitted_anywhere c.self.inside.key c.self.inside.command c.self.inside.state c.args.event.now
    (subst (λ (k : KeptState). push_refusal k.shape k.state c.args.event.now ≡ None) (sym c.self.view_is)
    c.requires.admitted)
