-- A slot moves past its next cut.
use Rattle.std.proofs.Common.{◌≡◌, List, Some, refl, ◌∙◌, ap, arith}
use Rattle.ls_event.specs.declared.event.Entry.{Entry}
use Rattle.ls_event.specs.declared.event.Taken.{Taken}
use Rattle.ls_event.specs.declared.event.Taken.TheVariants as taken
use Rattle.ls_event.specs.Shapes.{Shape}
use Rattle.ls_event.specs.Slots.{Slot, passed}
use Rattle.ls_event.specs.Cuts.{cut}
use Rattle.ls_cell.specs.declared.any.AnyBuffer.{AnyBuffer}
use Rattle.ls_cell.specs.Any.{StandsAny, any_cut, any_cut_is}
use Rattle.ls_cell.specs.Standing.{StandsSlot}

-- a cut leaves the last number and the plan
pub passed_last : (s : Slot) (t : Taken) → (passed s t).last ≡ s.last
passed_last s (taken.Row row upto) = refl
passed_last s (taken.Lost count upto) = refl
passed_last s (taken.Change cells upto) = refl
passed_last s (taken.Key key row upto) = refl
passed_last s (taken.Cleared upto) = refl
passed_last s taken.EndOfSnapshot = refl

pub passed_plan : (s : Slot) (t : Taken) → (passed s t).plan ≡ s.plan
passed_plan s (taken.Row row upto) = refl
passed_plan s (taken.Lost count upto) = refl
passed_plan s (taken.Change cells upto) = refl
passed_plan s (taken.Key key row upto) = refl
passed_plan s (taken.Cleared upto) = refl
passed_plan s taken.EndOfSnapshot = refl

pub passed_stands : (p : Shape) (b b' : AnyBuffer) (s : Slot) (h : List Entry) (t : Taken)
    → ((s : Slot) (h : List Entry) (t : Taken) → StandsAny b s h → any_cut b ≡ Some t → StandsAny b' (passed s t) h)
    → StandsSlot p b s h → cut h s ≡ Some t → StandsSlot p b' (passed s t) h
passed_stands p b b' s h t step st is =
    record {
      buffer = step s h t st.buffer (any_cut_is b s h st.buffer ∙ is);
      shape = ap (λ q. q.shape) (passed_plan s t) ∙ st.shape;
      within = omega (arith, st.within, passed_last s t);
      near = omega (arith, st.near, passed_last s t);
    }
