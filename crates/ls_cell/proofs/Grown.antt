-- The slots of an item as its history grows.
use Rattle.std.proofs.Common.{◌≡◌, ℕ, ◌+◌, ◌-◌, List, [], ◌∷◌, ◌++◌, length, arith, false, Option, Some, None}
use Rattle.std.proofs.lemmas.Bool.{leb-false}
use Rattle.std.proofs.lemmas.List.{length-append}
use Rattle.ls_event.specs.declared.event.Entry.{Entry}
use Rattle.ls_event.specs.declared.limits.TheConstants.{MOST_LAG}
use Rattle.ls_event.specs.Shapes.{Shape}
use Rattle.ls_event.specs.Slots.{Slot}
use Rattle.ls_cell.specs.declared.any.AnyBuffer.{AnyBuffer}
use Rattle.ls_cell.specs.Numbered.{lags, first_lagging, EachSlot, StandsAll}
use Rattle.ls_cell.specs.Any.{any_last, any_last_is, any_longer}
use Rattle.ls_cell.specs.Standing.{IsSlotOf, StandsSlot}
use Rattle.ls_cell.proofs.Changes.{NoneLags, none_lags}

grown_slot : (p : Shape) (b : AnyBuffer) (s : Slot) (h : List Entry) (e : Entry)
    → lags any_last (length h) (Some b) ≡ false → StandsSlot p b s h → StandsSlot p b s (h ++ e ∷ [])
grown_slot p b s h e near st =
    record {
      buffer = any_longer b s h (e ∷ []) st.buffer;
      shape = st.shape;
      within = omega (arith, st.within, length-append h (e ∷ []));
      near = omega (
        arith,
        leb-false (any_last b + MOST_LAG) (length h) near,
        any_last_is b s h st.buffer,
        length-append
            h (e ∷ []),
      );
    }

-- where no slot lags so, all go on standing as the history gets one entry more
pub stands_grown : (p : Shape) (bs : List (Option AnyBuffer)) (ss : List (Option Slot)) (h : List Entry) (e : Entry)
    (n : ℕ) → first_lagging any_last (length h) n bs ≡ None → StandsAll (StandsSlot p) bs ss h
    → StandsAll (StandsSlot p) bs ss (h ++ e ∷ [])
stands_grown p [] [] h e n none st = tt
stands_grown p [] (x ∷ ss) h e n none st = absurd st
stands_grown p (y ∷ bs) [] h e n none st = absurd st
stands_grown p (None ∷ bs) (None ∷ ss) h e n none st =
    (tt, stands_grown p bs ss h e (n + 1) (none_lags any_last (length h) n None bs none).rest st.1)
stands_grown p (None ∷ bs) (Some x ∷ ss) h e n none st = absurd st.0
stands_grown p (Some y ∷ bs) (None ∷ ss) h e n none st = absurd st.0
stands_grown p (Some y ∷ bs) (Some x ∷ ss) h e n none st =
    let near : NoneLags any_last (length h) n (Some y) bs = none_lags any_last (length h) n (Some y) bs none in
    (grown_slot p y x h e near.first st.0, stands_grown p bs ss h e (n + 1) near.rest st.1)

-- and what they lack is kept
pub each_grown : (p : Shape) (number kept : ℕ) (bs : List (Option AnyBuffer)) (n : ℕ)
    → first_lagging any_last number n bs ≡ None → EachSlot (IsSlotOf p number kept) bs
    → EachSlot (IsSlotOf p (number + 1) (kept + 1 - (kept + 1 - MOST_LAG))) bs
each_grown p number kept [] n none each = tt
each_grown p number kept (None ∷ bs) n none each =
    (tt, each_grown p number kept bs (n + 1) (none_lags any_last number n None bs none).rest each.1)
each_grown p number kept (Some b ∷ bs) n none each =
    let lag : NoneLags any_last number n (Some b) bs = none_lags any_last number n (Some b) bs none in (
      record {
        reached = omega (arith, each.0.reached);
        near = omega (arith, each.0.near, leb-false (any_last b + MOST_LAG) number lag.first);
        fields = each.0.fields;
        admits = each.0.admits;
      },
      each_grown p number kept bs (n + 1) lag.rest each.1,
    )
