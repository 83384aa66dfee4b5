use Rattle.ls_merge.proofs.Sound.{rest_fits}
use Rattle.std.proofs.Common.{◌∙◌, sym}
use Rattle.ls_merge.proofs.merge.MergeBuffer.step.Goals as goal

pub invariant_of-self-in-Some : goal.invariant_of-self-in-Some
invariant_of-self-in-Some c =
    record {
      flags = c.merge.ensures.as_many ∙ sym c.merge.ensures.fields;
      later = rw c.pop_front.ensures.rest (rest_fits _ _ _ c.self.invariant.later c.merge.ensures.fields);
    }
