-- What came to a client of mode RAW accounts for the item's updates.
use Rattle.std.proofs.Common.{◌≡◌, ℕ, ◌+◌, ◌-◌, ◌<◌, ◌≤◌, List, [], ◌∷◌, ◌++◌, length, refl, sym, ◌∙◌, ap, arith}
use Rattle.std.proofs.Common.{subst, Some, None, slice_get, option_map, get_or, inl, inr, ◌⊎◌, append-nil}
use Rattle.std.proofs.lemmas.Option.{slice_get_cases}
use Rattle.std.specs.List.{Contains}
use Rattle.ls_value.specs.declared.row.Value.{Value}
use Rattle.ls_event.specs.declared.event.Entry.{Entry}
use Rattle.ls_event.specs.declared.event.Mode.{Mode}
use Rattle.ls_event.specs.declared.updates.OwnRow.{OwnRow}
use Rattle.ls_event.specs.Shapes.{Shape}
use Rattle.ls_event.specs.Slots.{Slot}
use Rattle.ls_event.specs.Updates.{updates_between}
use Rattle.ls_event.specs.OwnCuts.{raw_taken, raw_cut_of}
use Rattle.ls_event.specs.Cuts.{cut, cut_of}
use Rattle.ls_mirror.specs.Client.{What, Row, Lost}
use Rattle.ls_record.specs.Came.{Came, whats}
use Rattle.ls_record.specs.Cutting.{Wanted}
use Rattle.ls_lawful.specs.RawMode.{RawWaited, RawSays, RowsAt, IsRawLine, RawLines, LawfulRaw, Accounts}
use Rattle.ls_value.specs.Each.{Each}
use Rattle.ls_lawful.specs.Lawful.{LawfulOf, LawfulSlot}
use Rattle.ls_lawful.specs.Truths.{HadUpdate, IsTrueOf}
use Rattle.ls_record.proofs.Each.{each_contains, each_within}
use Rattle.ls_lawful.proofs.Updates.{Reached, reached, updates-join, updates_none}
use Rattle.ls_event.specs.declared.event.Mode.TheVariants as mode

-- each line is one of mode RAW, and those behind another one have lower numbers
pub raw_lines_each : (places : List ℕ) (h : List Entry) (base cursor : ℕ) (cs : List Came) → RawLines places h base cursor cs → Each (IsRawLine places h) cs
raw_lines_each places h base cursor [] l = tt
raw_lines_each places h base cursor (c ∷ cs) l = (l.1, raw_lines_each places h base c.before cs l.2)

raw_lines_below : (places : List ℕ) (h : List Entry) (base cursor : ℕ) (between older : List Came) (early : Came)
    → RawLines places h base cursor (between ++ early ∷ older) → early.upto ≤ cursor
raw_lines_below places h base cursor [] older early l = omega (arith, l.0)
raw_lines_below places h base cursor (c ∷ between) older early l = omega (arith, l.0, l.1.rises, raw_lines_below places h base c.before between older early l.2)

raw_lines_rise : (places : List ℕ) (h : List Entry) (base cursor : ℕ) (newer between older : List Came) (late early : Came)
    → RawLines places h base cursor (newer ++ late ∷ between ++ early ∷ older) → early.upto < late.upto
raw_lines_rise places h base cursor [] between older late early l = omega (arith, l.1.rises, raw_lines_below places h base late.before between older early l.2)
raw_lines_rise places h base cursor (c ∷ newer) between older late early l = raw_lines_rise places h base c.before newer between older late early l.2

had_update : (places : List ℕ) (h : List Entry) (c : Came) (r : List Value) → IsRawLine places h c → c.what ≡ Row r → HadUpdate h places c.upto r
had_update places h c r l is = by_says (subst (λ (what : What). RawSays places what (updates_between h c.before c.upto)) is l.says)
    (subst (λ (what : What). RowsAt what c.upto (updates_between h c.before c.upto)) is l.rows)
  where
    by_says : RawSays places (Row r) (updates_between h c.before c.upto) → RowsAt (Row r) c.upto (updates_between h c.before c.upto)
        → HadUpdate h places c.upto r
    by_says (u, one, row) at =
        let low : c.before < c.upto = l.rises in
        let r : Reached h c.before c.upto 0 u = reached h c.before c.upto 0 u (omega (arith, low)) (omega (arith, l.reached, l.within))
        (ap (λ us. slice_get us 0) one) in
        record {
          within = omega (arith, l.reached, l.within);
          update = u;
          is = subst (λ (n : ℕ). updates_between h (n - 1) n ≡ u ∷ []) (at u one) r.at;
          row =
              row;
        }

pub true_raw : (p : Shape) (h : List Entry) (w : Wanted) (s : Slot) (cs : List Came) → LawfulRaw h w s cs → IsTrueOf mode.Raw p h w.places cs
true_raw p h w s cs l =
    record {
      had = λ newer older c r is what. had_update w.places h c r (each_within (IsRawLine w.places h) newer older c
          (subst (Each (IsRawLine w.places h)) is (raw_lines_each w.places h s.plan.base s.cursor cs l.lines))) what;
      rise = λ newer between older late early is. raw_lines_rise w.places h s.plan.base s.cursor newer between older late early
          (subst (λ (xs : List Came). RawLines w.places h s.plan.base s.cursor xs) is l.lines);
    }

-- how many waited when a line came
pub slot_waited : (h : List Entry) (w : Wanted) (s : Slot) (cs : List Came) → LawfulSlot h w s cs → s.plan.mode ≡ mode.Raw → (c : Came) → Contains cs c
    → RawWaited c.what (length (updates_between h c.before c.at))
slot_waited h w s cs l raw c in_cs =
    let k : LawfulRaw h w s cs = subst (λ (m : Mode). LawfulOf m h w s cs) raw l in
    (each_contains (IsRawLine w.places h) c cs (raw_lines_each w.places h s.plan.base s.cursor cs k.lines) in_cs).waited

pub slot_lost : (h : List Entry) (w : Wanted) (s : Slot) (cs : List Came) → LawfulSlot h w s cs → s.plan.mode ≡ mode.Raw → (c : Came) (n : ℕ) → Contains cs c
    → c.what ≡ Lost n → (1 ≤ n) × (length (updates_between h c.before c.at) ≡ 256 + n)
slot_lost h w s cs l raw c n in_cs is = subst (λ (what : What). RawWaited what (length (updates_between h c.before c.at))) is
    (slot_waited h w s cs l raw c in_cs)

pub slot_whole : (h : List Entry) (w : Wanted) (s : Slot) (cs : List Came) → LawfulSlot h w s cs → s.plan.mode ≡ mode.Raw → (c : Came) (r : List Value)
    → Contains cs c → c.what ≡ Row r → length (updates_between h c.before c.at) ≤ 256
slot_whole h w s cs l raw c r in_cs is = subst (λ (what : What). RawWaited what (length (updates_between h c.before c.at))) is
    (slot_waited h w s cs l raw c in_cs)

-- the lines account for the updates
raw_lines_above : (places : List ℕ) (h : List Entry) (base cursor : ℕ) (cs : List Came) → RawLines places h base cursor cs → base ≤ cursor
raw_lines_above places h base cursor [] l = omega (arith, l)
raw_lines_above places h base cursor (c ∷ cs) l = omega (arith, l.0, l.1.rises, raw_lines_above places h base c.before cs l.2)

raw_accounts : (places : List ℕ) (h : List Entry) (base cursor : ℕ) (cs : List Came) → base ≤ length h → RawLines places h base cursor cs
    → Accounts places (updates_between h base cursor) (whats cs)
raw_accounts places h base cursor [] within l = ap (updates_between h base) l ∙ updates_none h base within
raw_accounts places h base cursor (c ∷ cs) within l =
    let low : c.before < c.upto = l.1.rises in (
      updates_between h base c.before,
      updates_between h c.before c.upto,
      ap (updates_between h base) (sym l.0) ∙ updates-join h base c.before c.upto (raw_lines_above places h base c.before cs l.2) (omega (arith, low))
          (omega (arith, l.1.reached, l.1.within)),
      l.1.says,
      raw_accounts places h base c.before cs within l.2,
    )

lawful_accounts : (h : List Entry) (w : Wanted) (s : Slot) (cs : List Came) → LawfulRaw h w s cs
    → Accounts w.places (updates_between h s.plan.base s.cursor) (whats cs)
lawful_accounts h w s cs l = raw_accounts w.places h s.plan.base s.cursor cs (omega (arith, l.begun, l.behind, l.within)) l.lines

pub slot_accounts : (h : List Entry) (w : Wanted) (s : Slot) (cs : List Came) → LawfulSlot h w s cs → s.plan.mode ≡ mode.Raw
    → Accounts w.places (updates_between h s.plan.base s.cursor) (whats cs)
slot_accounts h w s cs l raw = lawful_accounts h w s cs (subst (λ (m : Mode). LawfulOf m h w s cs) raw l)

-- without a cut there is no update behind the cursor
of_length : {A : Type 0} (xs : List A) → length xs ≡ 0 → xs ≡ []
of_length [] e = refl
of_length (x ∷ xs) e = absurd (omega (arith, e))

none_cut : (us : List OwnRow) → raw_cut_of us ≡ None → us ≡ []
none_cut us none = by_first (slice_get_cases us (length us - 256)).1
  where
    by_first : ((x : OwnRow) × (length us - 256 < length us) × (slice_get us (length us - 256) ≡ Some x) × (get_or us (length us - 256) x ≡ x))
        ⊎ ((length us ≤ length us - 256) × (slice_get us (length us - 256) ≡ None)) → us ≡ []
    by_first (inl (x, within, at, same)) = absurd (let y : Some (raw_taken (length us - 256) x) ≡ None =
        sym (ap (option_map (raw_taken (length us - 256))) at) ∙ none in cc)
    by_first (inr (past, at)) = of_length us (omega (arith, past))

pub settled_rest : (h : List Entry) (w : Wanted) (s : Slot) (cs : List Came) → LawfulSlot h w s cs → s.plan.mode ≡ mode.Raw → cut h s ≡ None
    → updates_between h s.cursor s.last ≡ []
settled_rest h w s cs l raw none = none_cut (updates_between h s.cursor s.last) (sym (ap (λ (m : Mode). cut_of m h s) raw) ∙ none)

pub settled_accounts : (h : List Entry) (w : Wanted) (s : Slot) (cs : List Came) → LawfulSlot h w s cs → s.plan.mode ≡ mode.Raw → cut h s ≡ None
    → Accounts w.places (updates_between h s.plan.base s.last) (whats cs)
settled_accounts h w s cs l raw none =
    let k : LawfulRaw h w s cs = subst (λ (m : Mode). LawfulOf m h w s cs) raw l in
    let rest : updates_between h s.cursor s.last ≡ [] = settled_rest h w s cs l raw none in
    let all : updates_between h s.plan.base s.last ≡ updates_between h s.plan.base s.cursor
    = updates-join h s.plan.base s.cursor s.last k.begun k.behind k.within ∙ ap (λ us. updates_between h s.plan.base s.cursor ++ us) rest
    ∙ append-nil (updates_between h s.plan.base s.cursor) in
    subst (λ (us : List OwnRow). Accounts w.places us (whats cs)) (sym all) (lawful_accounts h w s cs k)
