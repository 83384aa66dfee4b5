-- One item's history grows, and one more item is declared.
use Rattle.std.proofs.Common.{◌≡◌, ℕ, zero, suc, ◌+◌, ◌-◌, ◌<◌, List, [], ◌∷◌, ◌++◌, length, take, refl, sym, ◌∙◌, ap, arith, subst, false}
use Rattle.std.proofs.Common.{Option, Some, None, Result, slice_get, get_or, set}
use Rattle.std.specs.Option.{option_map_or}
use Rattle.std.proofs.lemmas.List.{length-append}
use Rattle.ls_event.specs.declared.event.Entry.{Entry}
use Rattle.ls_event.specs.declared.event.Event.{Event}
use Rattle.ls_event.specs.declared.event.PublishRefused.{PublishRefused}
use Rattle.ls_event.specs.declared.item.ItemDef.{ItemDef}
use Rattle.ls_event.specs.Publishes.{refusal}
use Rattle.ls_event.specs.Shapes.{Shape, shape_of}
use Rattle.ls_event.specs.Slots.{Slot}
use Rattle.ls_cell.specs.Cell.{Held, StandsCell, AnswersFirst, least_lagging}
use Rattle.ls_cell.specs.Numbered.{slot_at}
use Rattle.ls_value.specs.Each.{Each}
use Rattle.ls_record.specs.Records.{grown, is_whole}
use Rattle.ls_record.specs.Records.{Item, LiveSlot, change}
use Rattle.ls_record.proofs.Each.{each_map}
use Rattle.ls_cells.specs.Cells.{StandsItem, StandsItems, StandsCells, far_in}
use Rattle.ls_cells.proofs.Numbers.{numbered_none, none_on, free_past}
use Rattle.ls_cells.proofs.Least.{far_is}
use Rattle.ls_cells.proofs.Items.{same_self, items_set, ItemHere, item_here, length_change, as_many}

-- an item's history grows
module _ (cells : List Held) (j : ℕ) (c : Held) (low : j < length cells) (is : c ≡ get_or cells j c) where
  pub cells_published : (c' : Held) (live : ℕ) (e : Entry) → c'.item.shape ≡ c.item.shape
      → ((ss : List (Option Slot)) (h : List Entry) → StandsCell c ss h → StandsCell c' ss (h ++ e ∷ []))
      → (items : List Item) (lives : List LiveSlot) → StandsCells (record { cells = cells; live = live }) items lives
      → StandsCells (record { cells = set cells j c'; live = live }) (change j (grown e) items) lives
  cells_published c' live e shape step items lives st =
      record {
        cells = items_set lives lives (grown e) j 0 j cells items c c' (omega arith) low is st.cells
            (λ i here x. record { slots = x.slots; cell = step x.slots i.history x.cell; shape = shape ∙ x.shape; live = x.live; count = x.count })
            (λ m other. same_self lives m);
        unlike = st.unlike;
        within = subst (λ n. Each (λ v. v.item < n) lives) (sym (length_change j (grown e) items)) st.within;
        live = st.live;
      }

  -- the first cause against an entry is that of the item among all sessions
  pub cause_is : (live : ℕ) (e : Entry) (result : Result ℕ PublishRefused)
      → ((ss : List (Option Slot)) (h : List Entry) → StandsCell c ss h
      → AnswersFirst (refusal c.item.shape h (least_lagging (length h) ss) e) (length h + 1) result)
      → (items : List Item) (lives : List LiveSlot) (i : Item) → StandsCells (record { cells = cells; live = live }) items lives → slice_get items j ≡ Some i
      → AnswersFirst (refusal (shape_of i.definition) i.history (far_in j (length i.history) lives) e) (length i.history + 1) result
  cause_is live e result answers items lives i st here =
      let x : ItemHere lives items j c = item_here lives items j cells c low is st.cells in
      let same : x.item ≡ i = by_some x.item (sym x.is ∙ here) in
      let far : least_lagging (length x.item.history) x.stands.slots ≡ far_in j (length x.item.history) lives =
      far_is x.stands.slots j (length x.item.history) lives st.unlike x.stands.live in
      subst (λ (y : Item). AnswersFirst (refusal (shape_of y.definition) y.history (far_in j (length y.history) lives) e)
      (length y.history + 1) result) same
      (subst (λ o. AnswersFirst (refusal (shape_of x.item.definition) x.item.history o e) (length x.item.history + 1) result) far
      (subst (λ (p : Shape). AnswersFirst (refusal p x.item.history (least_lagging (length x.item.history) x.stands.slots) e)
      (length x.item.history + 1) result) x.stands.shape (answers x.stands.slots x.item.history x.stands.cell)))
    where
      by_some : (y : Item) → Some y ≡ Some i → y ≡ i
      by_some y e = cc

-- one more item
items_more : (lives : List LiveSlot) (n : ℕ) (cells : List Held) (items : List Item) (c : Held) (i : Item) → StandsItems lives n cells items
    → StandsItem lives (n + length items) c i → StandsItems lives n (cells ++ c ∷ []) (items ++ i ∷ [])
items_more lives n [] [] c i st one = (subst (λ m. StandsItem lives m c i) (let e : n + 0 ≡ n = omega arith in e) one, tt)
items_more lives n [] (y ∷ items) c i st one = absurd st
items_more lives n (x ∷ cells) [] c i st one = absurd st
items_more lives n (x ∷ cells) (y ∷ items) c i st one = (
  st.0,
  items_more lives (n + 1) cells items c i st.1
      (subst (λ m. StandsItem lives m c i) (let e : n + suc (length items) ≡ n + 1 + length items = omega arith in e) one),
)

none_at : (m : ℕ) → slot_at {B = Slot} [] m ≡ None
none_at zero = refl
none_at (suc zero) = refl
none_at (suc (suc m)) = refl

pub cells_declared : (cells : List Held) (live : ℕ) (c : Held) (d : ItemDef) → StandsCell c [] [] → c.item.shape ≡ shape_of d
    → (items : List Item) (lives : List LiveSlot) → StandsCells (record { cells = cells; live = live }) items lives
    → StandsCells (record { cells = cells ++ c ∷ []; live = live }) (items ++ record { definition = d; history = [] } ∷ []) lives
cells_declared cells live c d cell shape items lives st =
    record {
      cells = items_more lives 0 cells items c (record { definition = d; history = [] }) st.cells
          (subst (λ m. StandsItem lives m c (record { definition = d; history = [] })) (let e : length items ≡ 0 + length items = omega arith in e) new);
      unlike = st.unlike;
      within = each_map (λ v. v.item < length items) (λ v. v.item < length (items ++ record { definition = d; history = [] } ∷ [])) lives
          (λ v low. omega (arith, low, length-append items (record { definition = d; history = [] } ∷ []))) st.within;
      live = st.live;
    }
  where
    new : StandsItem lives (length items) c (record { definition = d; history = [] })
    new =
        record {
          slots = [];
          cell = cell;
          shape = shape;
          live = λ m. none_at m ∙ sym (numbered_none (length items) m lives (free_past (length items) m lives st.within));
          count = sym (ap length (none_on (length items) lives st.within));
        }

-- the last item is taken back
items_taken : (lives : List LiveSlot) (n : ℕ) (cells : List Held) (items : List Item) (i : Item) → StandsItems lives n cells (items ++ i ∷ [])
    → StandsItems lives n (take (length items) cells) items
items_taken lives n [] [] i st = absurd st
items_taken lives n (c ∷ cells) [] i st = tt
items_taken lives n [] (y ∷ items) i st = absurd st
items_taken lives n (c ∷ cells) (y ∷ items) i st = (st.0, items_taken lives (n + 1) cells items i st.1)

pub cells_taken : (cells : List Held) (live m : ℕ) (items : List Item) (i : Item) (lives : List LiveSlot) → m ≡ length cells
    → StandsCells (record { cells = cells; live = live }) (items ++ i ∷ []) lives → Each (λ v. v.item < length items) lives
    → StandsCells (record { cells = take (m - 1) cells; live = live }) items lives
cells_taken cells live m items i lives many st within =
    let e : length items ≡ m - 1 = omega (arith, many, as_many lives 0 cells (items ++ i ∷ []) st.cells, length-append items (i ∷ [])) in
    record {
      cells = subst (λ (n : ℕ). StandsItems lives 0 (take n cells) items) e (items_taken lives 0 cells items i st.cells);
      unlike = st.unlike;
      within = within;
      live = st.live;
    }

-- an event that an item takes
pub takes_is : (lives : List LiveSlot) (event : Event) (n j : ℕ) (cells : List Held) (items : List Item) → StandsItems lives n cells items
    → option_map_or (λ (c : Held). is_whole c.item.shape.fields event) (slice_get cells j) false
    ≡ option_map_or (λ (i : Item). is_whole (length i.definition.fields) event) (slice_get items j) false
takes_is lives event n j [] [] st = refl
takes_is lives event n j [] (i ∷ items) st = absurd st
takes_is lives event n j (c ∷ cells) [] st = absurd st
takes_is lives event n zero (c ∷ cells) (i ∷ items) st = ap (λ (p : Shape). is_whole p.fields event) st.0.shape
takes_is lives event n (suc j) (c ∷ cells) (i ∷ items) st = takes_is lives event (n + 1) j cells items st.1
