use Rattle.std.proofs.Common.{◌≡◌, ◌<◌, drop, ap, arith}
use Rattle.ls_keep.specs.Kept.{KeptLines}
use Rattle.ls_keep.specs.Texts.{HeldTexts}
use Rattle.ls_keep.proofs.Trimming.{sound_popped, popped_fits}
use Rattle.ls_keep.proofs.keep.Keep.give_up.Goals as goal

pub pop-requires : goal.pop-requires
pop-requires c =
    omega (
      arith,
      ap (λ (v : KeptLines). v.given_up) c.self.view_is,
      ap (λ (v : KeptLines). v.sent) c.self.view_is,
      c.requires,
      c.self.invariant.numbered,
    )

pub overflow_sub-self : goal.overflow_sub-self
overflow_sub-self c =
    let k = c.self.inside in
    omega (arith, c.pop.ensures.length, popped_fits k.bytes k.lines.texts k.sent k.given_up c.self.invariant)

pub invariant_of-self : goal.invariant_of-self
invariant_of-self c =
    let k = c.self.inside in
    let less : k.given_up < k.sent =
    omega (arith, ap (λ (v : KeptLines). v.given_up) c.self.view_is, ap (λ (v : KeptLines). v.sent) c.self.view_is, c.requires) in
    let texts : c.pop.new.self.texts ≡ drop 1 k.lines.texts = ap (λ (v : HeldTexts). v.texts) c.pop.ensures.texts in
    rw (c.pop.ensures.length, texts) (sound_popped k.bytes k.lines.texts k.sent k.given_up c.self.invariant less)
