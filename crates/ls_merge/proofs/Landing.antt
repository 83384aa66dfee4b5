-- What a buffer of size 1 is after the events of several numbers, taken at once.
use Rattle.std.proofs.Common.{◌≡◌, ℕ, ◌+◌, ◌-◌, ◌<◌, ◌≤◌, ◌||◌, List, [], ◌∷◌, ◌++◌, length, take, drop, zero, replicate, refl, sym, ◌∙◌, ap, arith}
use Rattle.std.proofs.Common.{Bool, true, false, All, get_or, slice_get, subst, suc, cond, Option, Some, None}
use Rattle.std.proofs.lemmas.List.{length-replicate, length-drop, drop-drop, get_or-drop, take_all}
use Rattle.std.proofs.lemmas.List.Elements.{All-head, All-tail, All-get_or}
use Rattle.std.proofs.lemmas.Bool.{ltb-false}
use Rattle.ls_value.specs.Values.{applied, kept_or_taken}
use Rattle.ls_value.specs.declared.row.Value.{Value}
use Rattle.ls_value.specs.declared.row.Cell.{Cell}
use Rattle.ls_value.specs.declared.row.Cell.TheVariants as cell
use Rattle.ls_value.proofs.Rows.{applied_length}
use Rattle.ls_event.specs.declared.event.Event.{Event}
use Rattle.ls_event.specs.declared.event.Event.TheVariants.{Update, Clear}
use Rattle.ls_event.specs.declared.event.Entry.{Entry}
use Rattle.ls_event.specs.declared.event.Stored.{Stored}
use Rattle.ls_event.specs.History.{HasFields}
use Rattle.ls_event.specs.Slots.{Slot, enqueued}
use Rattle.ls_event.specs.Cuts.{says, touched_cells}
use Rattle.ls_event.proofs.Cuts.{touched_cells_length}
use Rattle.ls_merge.specs.Merge.{Merge, StandsMerge, event_cells, merge_after, stepped, due, is_over, with_event}
use Rattle.ls_merge.specs.Merge.{within_size}
use Rattle.ls_merge.specs.Stands.{merge_stands_next}
use Rattle.ls_merge.specs.Runs.{both, over, says_each, said_but_last, merge_run, IsRun}
use Rattle.ls_merge.proofs.Sound.{after_row_length}

-- a row and flags after two events are those after what both say together

kept_both : (v : Value) (c d : Cell) → kept_or_taken v (both c d) ≡ kept_or_taken (kept_or_taken v c) d
kept_both v c cell.Same = refl
kept_both v c cell.Null = refl
kept_both v c (cell.Text t) = refl

applied_over : (row : List Value) (cs ds : List Cell) → length cs ≡ length row → length ds ≡ length row
    → applied row (over cs ds) ≡ applied (applied row cs) ds
applied_over [] cs ds c d = refl
applied_over (v ∷ row) [] ds c d = absurd (omega (arith, c))
applied_over (v ∷ row) (c ∷ cs) [] l k = absurd (omega (arith, k))
applied_over (v ∷ row) (c ∷ cs) (d ∷ ds) l k =
    ap (λ x. x ∷ applied row (over cs ds)) (kept_both v c d)
    ∙ ap (λ xs. kept_or_taken (kept_or_taken v c) d ∷ xs) (applied_over row cs ds (omega (arith, l)) (omega (arith, k)))

says_both : (t : Bool) (c d : Cell) → t || says (both c d) ≡ (t || says c) || says d
says_both true c cell.Same = refl
says_both true c cell.Null = refl
says_both true c (cell.Text s) = refl
says_both false cell.Same cell.Same = refl
says_both false cell.Null cell.Same = refl
says_both false (cell.Text r) cell.Same = refl
says_both false cell.Same cell.Null = refl
says_both false cell.Null cell.Null = refl
says_both false (cell.Text r) cell.Null = refl
says_both false cell.Same (cell.Text s) = refl
says_both false cell.Null (cell.Text s) = refl
says_both false (cell.Text r) (cell.Text s) = refl

touched_over : (ts : List Bool) (cs ds : List Cell) → length cs ≡ length ts → length ds ≡ length ts
    → touched_cells ts (over cs ds) ≡ touched_cells (touched_cells ts cs) ds
touched_over [] cs ds c d = refl
touched_over (t ∷ ts) [] ds c d = absurd (omega (arith, c))
touched_over (t ∷ ts) (c ∷ cs) [] l k = absurd (omega (arith, k))
touched_over (t ∷ ts) (c ∷ cs) (d ∷ ds) l k =
    ap (λ x. x ∷ touched_cells ts (over cs ds)) (says_both t c d)
    ∙ ap (λ xs. ((t || says c) || says d) ∷ xs) (touched_over ts cs ds (omega (arith, l)) (omega (arith, k)))

applied_same : (row : List Value) → applied row (replicate (length row) cell.Same) ≡ row
applied_same [] = refl
applied_same (v ∷ row) = ap (λ xs. v ∷ xs) (applied_same row)

or_false : (t : Bool) → t || false ≡ t
or_false true = refl
or_false false = refl

touched_same : (ts : List Bool) → touched_cells ts (replicate (length ts) cell.Same) ≡ ts
touched_same [] = refl
touched_same (t ∷ ts) = ap (λ x. x ∷ touched_cells ts (replicate (length ts) cell.Same)) (or_false t)
    ∙ ap (λ xs. t ∷ xs) (touched_same ts)

-- what events say has a cell for each field

pub event_cells_length : (fields : ℕ) (e : Event) → HasFields fields e → length (event_cells fields e) ≡ fields
event_cells_length fields (Update cells) has = has
event_cells_length fields Clear has = length-replicate fields cell.Null

pub over_length : (cs ds : List Cell) → length ds ≡ length cs → length (over cs ds) ≡ length cs
over_length [] ds is = refl
over_length (c ∷ cs) [] is = refl
over_length (c ∷ cs) (d ∷ ds) is = ap (λ n. suc n) (over_length cs ds (omega (arith, is)))

pub said_length : (fields : ℕ) (xs : List Stored) → All (λ x. HasFields fields x.event) xs
    → length (said_but_last fields xs) ≡ fields
said_length fields [] all = length-replicate fields cell.Same
said_length fields (x ∷ []) all = length-replicate fields cell.Same
said_length fields (x ∷ y ∷ ys) all =
    let one : length (event_cells fields x.event) ≡ fields =
    event_cells_length fields x.event (All-head (λ z. HasFields fields z.event) x (y ∷ ys) all) in
    let rest : length (said_but_last fields (y ∷ ys)) ≡ fields =
    said_length fields (y ∷ ys) (All-tail (λ z. HasFields fields z.event) x (y ∷ ys) all) in
    over_length (event_cells fields x.event) (said_but_last fields (y ∷ ys)) (rest ∙ sym one) ∙ one

-- where a value of each field is said, what was said before adds nothing
over_each : (cs ds : List Cell) → length cs ≡ length ds → says_each ds ≡ true → over cs ds ≡ ds
over_each [] [] as_many each = refl
over_each [] (d ∷ ds) as_many each = absurd (omega (arith, as_many))
over_each (c ∷ cs) [] as_many each = absurd (omega (arith, as_many))
over_each (c ∷ cs) (cell.Same ∷ ds) as_many each = absurd (let x : false ≡ true = each in cc)
over_each (c ∷ cs) (cell.Null ∷ ds) as_many each =
    ap (λ xs. cell.Null ∷ xs) (over_each cs ds (omega (arith, as_many)) each)
over_each (c ∷ cs) (cell.Text t ∷ ds) as_many each =
    ap (λ xs. cell.Text t ∷ xs) (over_each cs ds (omega (arith, as_many)) each)

-- nor do the events before those that say a value of each field
pub said_settled : (fields : ℕ) (xs : List Stored) (i : ℕ) → i < length xs → All (λ y. HasFields fields y.event) xs
    → says_each (said_but_last fields (drop i xs)) ≡ true → said_but_last fields (drop i xs) ≡ said_but_last fields xs
said_settled fields xs zero low all each = refl
said_settled fields [] (suc i) low all each = absurd (omega (arith, low))
said_settled fields (x ∷ []) (suc i) low all each = absurd (omega (arith, low))
said_settled fields (x ∷ y ∷ ys) (suc i) low all each =
    let one : length (event_cells fields x.event) ≡ fields =
    event_cells_length fields x.event (All-head (λ z. HasFields fields z.event) x (y ∷ ys) all) in
    let after : All (λ z. HasFields fields z.event) (y ∷ ys) = All-tail (λ z. HasFields fields z.event) x (y ∷ ys) all in
    let rest : said_but_last fields (drop i (y ∷ ys)) ≡ said_but_last fields (y ∷ ys) =
    said_settled fields (y ∷ ys) i (omega (arith, low)) after each in
    rest ∙ sym (over_each (event_cells fields x.event) (said_but_last fields (y ∷ ys))
    (one ∙ sym (said_length fields (y ∷ ys) after)) (ap says_each (sym rest) ∙ each))

-- nor do those between an index and them
pub said_reaches : (fields from at : ℕ) (xs : List Stored) → from ≤ at → at < length xs
    → All (λ y. HasFields fields y.event) (drop from xs) → says_each (said_but_last fields (drop at xs)) ≡ true
    → said_but_last fields (drop at xs) ≡ said_but_last fields (drop from xs)
said_reaches fields from at xs after low all each =
    let there : drop (at - from) (drop from xs) ≡ drop at xs =
    drop-drop (at - from) from xs ∙ ap (λ k. drop k xs) {x = from + (at - from)} {y = at} (omega (arith, after)) in
    ap (said_but_last fields) (sym there)
    ∙ said_settled fields (drop from xs) (at - from) (omega (arith, length-drop from xs, after, low)) all
    (ap (λ ys. says_each (said_but_last fields ys)) there ∙ each)

-- what the last event says
abbrev pub said_last : ℕ → List Stored → List Cell
said_last fields [] = []
said_last fields (x ∷ []) = event_cells fields x.event
said_last fields (x ∷ y ∷ ys) = said_last fields (y ∷ ys)

-- a buffer of size 1 in which one event waits, and one in which none does
abbrev holding : ℕ → List Value → List Bool → List Cell → Merge
holding last row touched waits = record {
  size = 1;
  last = last;
  owed = false;
  row = row;
  touched = touched;
  later = waits ∷ [];
}

abbrev blank : ℕ → Bool → List Value → List Bool → Merge
blank last owed row touched = record {
  size = 1;
  last = last;
  owed = owed;
  row = row;
  touched = touched;
  later = [];
}

-- with what so many events say merged into a state, so that the last one waits
abbrev pub landed : ℕ → List Value → List Bool → List Stored → Merge
landed last row touched xs = holding (last + length xs) (applied row (said_but_last (length row) xs))
    (touched_cells touched (said_but_last (length row) xs)) (said_last (length row) xs)

run_blank : (last : ℕ) (row : List Value) (touched : List Bool) (x : Stored) (xs : List Stored)
    → length touched ≡ length row → All (λ y. HasFields (length row) y.event) (x ∷ xs)
    → merge_run (blank last false row touched) (x ∷ xs) ≡ landed last row touched (x ∷ xs)
run_blank last row touched x [] flags all =
    ap (λ r. holding (last + 1) r touched (event_cells (length row) x.event)) (sym (applied_same row))
    ∙ ap (λ ts. holding (last + 1) (applied row (replicate (length row) cell.Same)) ts (event_cells (length row) x.event))
    (sym (touched_same touched) ∙ ap (λ k. touched_cells touched (replicate k cell.Same)) flags)
run_blank last row touched x (y ∷ ys) flags all =
    let c : List Cell = event_cells (length row) x.event in
    let others : List Cell = said_but_last (length row) (y ∷ ys) in
    let r : List Value = applied row c in
    let t : List Bool = touched_cells touched c in
    let n : length r ≡ length row = applied_length row c in
    let m : length t ≡ length row = touched_cells_length touched c ∙ flags in
    let after : All (λ z. HasFields (length row) z.event) (y ∷ ys) =
    All-tail (λ z. HasFields (length row) z.event) x (y ∷ ys) all in
    let one : length c ≡ length row =
    event_cells_length (length row) x.event (All-head (λ z. HasFields (length row) z.event) x (y ∷ ys) all) in
    let rest : length others ≡ length row = said_length (length row) (y ∷ ys) after in
    let next : merge_run (blank (last + 1) false r t) (y ∷ ys) ≡ landed (last + 1) r t (y ∷ ys) =
    run_blank (last + 1) r t y ys (m ∙ sym n)
    (subst (λ k. All (λ z. HasFields k z.event) (y ∷ ys)) (sym n) after) in
    let count : last + 1 + length (y ∷ ys) ≡ last + length (x ∷ y ∷ ys) = omega arith in
    ap (λ k. merge_run (holding (last + 1 + 1) r t (event_cells k y.event)) ys) (sym n)
    ∙ next
    ∙ ap (λ k. holding (last + 1 + length (y ∷ ys)) (applied r (said_but_last k (y ∷ ys)))
    (touched_cells t (said_but_last k (y ∷ ys))) (said_last k (y ∷ ys))) n
    ∙ ap (λ k. holding k (applied r others) (touched_cells t others) (said_last (length row) (y ∷ ys))) count
    ∙ ap (λ z. holding (last + length (x ∷ y ∷ ys)) z (touched_cells t others) (said_last (length row) (y ∷ ys)))
    (sym (applied_over row c others one rest))
    ∙ ap (λ z. holding (last + length (x ∷ y ∷ ys)) (applied row (over c others)) z (said_last (length row) (y ∷ ys)))
    (sym (touched_over touched c others (one ∙ sym flags) (rest ∙ sym flags)))

run_lands : (last : ℕ) (owed : Bool) (row : List Value) (touched : List Bool) (x : Stored) (xs : List Stored)
    → length touched ≡ length row → All (λ y. HasFields (length row) y.event) (x ∷ xs)
    → merge_run (blank last owed row touched) (x ∷ xs) ≡ landed last row touched (x ∷ xs)
run_lands last true row touched x xs flags all = run_blank last row touched x xs flags all
run_lands last false row touched x xs flags all = run_blank last row touched x xs flags all

-- with one more event that waits, within the size, and what others say merged into the state
abbrev pub ended : Merge → List Cell → List Cell → ℕ → Merge
ended b others last events =
    let c : Merge = within_size (record b { last = b.last + events; later = b.later ++ last ∷ [] }) in
    record c { row = applied c.row others; touched = touched_cells c.touched others }

abbrev single : ℕ → Bool → List Value → List Bool → List (List Cell) → Merge
single last owed row touched later = record {
  size = 1;
  last = last;
  owed = owed;
  row = row;
  touched = touched;
  later = later;
}

run_at : (last : ℕ) (owed : Bool) (row : List Value) (touched : List Bool) (later : List (List Cell)) (x : Stored)
    (xs : List Stored) → is_over (single last owed row touched later) ≡ false → length touched ≡ length row
    → All (λ y. HasFields (length row) y.event) (x ∷ xs)
    → ended (single last owed row touched later) (said_but_last (length row) (x ∷ xs)) (said_last (length row) (x ∷ xs))
    (length (x ∷ xs)) ≡ merge_run (single last owed row touched later) (x ∷ xs)
run_at last true row touched [] x xs few flags all = sym (run_lands last true row touched x xs flags all)
run_at last true row touched (w ∷ ws) x xs few flags all =
    absurd (omega (arith, ltb-false 1 (length (w ∷ ws) + 1) few))
run_at last false row touched [] x xs few flags all = sym (run_lands last false row touched x xs flags all)
run_at last false row touched (w ∷ v ∷ vs) x xs few flags all =
    absurd (omega (arith, ltb-false 1 (length (w ∷ v ∷ vs) + 0) few))
run_at last false row touched (w ∷ []) x xs few flags all =
    let r : List Value = applied row w in
    let t : List Bool = touched_cells touched w in
    let n : length r ≡ length row = applied_length row w in
    sym (ap (λ k. merge_run (holding (last + 1) r t (event_cells k x.event)) xs) (sym n)
    ∙ run_lands last false r t x xs (touched_cells_length touched w ∙ flags ∙ sym n)
    (subst (λ k. All (λ z. HasFields k z.event) (x ∷ xs)) (sym n) all)
    ∙ ap (λ k. holding (last + length (x ∷ xs)) (applied r (said_but_last k (x ∷ xs)))
    (touched_cells t (said_but_last k (x ∷ xs))) (said_last k (x ∷ xs))) n)

-- to take events at once is as good as to take one after another
pub run_is : (b : Merge) (xs : List Stored) → b.size ≡ 1 → is_over b ≡ false → length b.touched ≡ length b.row
    → 0 < length xs → All (λ x. HasFields (length b.row) x.event) xs
    → ended b (said_but_last (length b.row) xs) (said_last (length b.row) xs) (length xs) ≡ merge_run b xs
run_is b [] size few flags some all = absurd (omega (arith, some))
run_is b (x ∷ xs) size few flags some all =
    let same : b ≡ single b.last b.owed b.row b.touched b.later = ap (λ k. record b { size = k }) size in
    ap (λ z. ended z (said_but_last (length b.row) (x ∷ xs)) (said_last (length b.row) (x ∷ xs)) (length (x ∷ xs))) same
    ∙ run_at b.last b.owed b.row b.touched b.later x xs (sym (ap is_over same) ∙ few) flags all
    ∙ ap (λ z. merge_run z (x ∷ xs)) (sym same)

-- where only the last event is left, the others say nothing
pub said_none : (fields : ℕ) (xs : List Stored) (i : ℕ) → i + 1 ≡ length xs
    → said_but_last fields (drop i xs) ≡ replicate fields cell.Same
said_none fields [] i is = absurd (omega (arith, is))
said_none fields (x ∷ []) zero is = refl
said_none fields (x ∷ []) (suc i) is = absurd (omega (arith, is))
said_none fields (x ∷ y ∷ ys) zero is = absurd (omega (arith, is))
said_none fields (x ∷ y ∷ ys) (suc i) is = said_none fields (y ∷ ys) i (omega (arith, is))

-- with one event more before them
pub said_more : (fields : ℕ) (xs : List Stored) (i : ℕ) (x : Stored) → suc i < length xs → x ≡ get_or xs i x
    → over (event_cells fields x.event) (said_but_last fields (drop (suc i) xs)) ≡ said_but_last fields (drop i xs)
said_more fields [] i x low at = absurd (omega (arith, low))
said_more fields (y ∷ []) i x low at = absurd (omega (arith, low))
said_more fields (y ∷ z ∷ zs) zero x low at =
    ap (λ e. over (event_cells fields e.event) (said_but_last fields (z ∷ zs))) at
said_more fields (y ∷ z ∷ zs) (suc i) x low at = said_more fields (z ∷ zs) i x (omega (arith, low)) at

-- an event of a run has a cell for each field
pub run_fields : (fields from : ℕ) (xs : List Stored) (i : ℕ) (x : Stored) → from ≤ i → i < length xs
    → x ≡ get_or xs i x → All (λ y. HasFields fields y.event) (drop from xs) → HasFields fields x.event
run_fields fields from xs i x after low at all =
    let sum : from + (i - from) ≡ i = omega (arith, after) in
    let there : get_or (drop from xs) (i - from) x ≡ x =
    get_or-drop from xs (i - from) x ∙ ap (λ k. get_or xs k x) sum ∙ sym at in
    subst (λ y. HasFields fields y.event) there
    (All-get_or (λ y. HasFields fields y.event) (drop from xs) (i - from) x
    (omega (arith, length-drop from xs, after, low)) all)

-- the last event stands at the end
pub last_at_end : (fields : ℕ) (xs : List Stored) (i : ℕ) (x : Stored) → i + 1 ≡ length xs → x ≡ get_or xs i x
    → event_cells fields x.event ≡ said_last fields xs
last_at_end fields [] i x is at = absurd (omega (arith, is))
last_at_end fields (y ∷ []) i x is at =
    let first : i ≡ 0 = omega (arith, is) in
    ap (λ z. event_cells fields z.event) (at ∙ ap (λ k. get_or (y ∷ []) k x) first)
last_at_end fields (y ∷ z ∷ zs) zero x is at = absurd (omega (arith, is))
last_at_end fields (y ∷ z ∷ zs) (suc i) x is at = last_at_end fields (z ∷ zs) i x (omega (arith, is)) at

-- the same of events from an index on
pub run_ends : (b : Merge) (xs : List Stored) (from count : ℕ) (x : Stored) (others last : List Cell) (w v : Merge)
    → b.size ≡ 1 → is_over b ≡ false → length b.touched ≡ length b.row → count ≡ length xs → from < count
    → All (λ y. HasFields (length b.row) y.event) (drop from xs) → x ≡ get_or xs (count - 1) x
    → last ≡ event_cells (length b.row) x.event → others ≡ said_but_last (length b.row) (drop from xs)
    → w ≡ within_size (record b { last = b.last + (count - from); later = b.later ++ last ∷ [] })
    → v ≡ record w { row = applied w.row others; touched = touched_cells w.touched others }
    → v ≡ merge_run b (take (count - from) (drop from xs))
run_ends b xs from count x others last w v size few flags long some all at told rest is made =
    let ys : List Stored = drop from xs in
    let many : count - from ≡ length ys = omega (arith, length-drop from xs, long) in
    let sum : from + (count - 1 - from) ≡ count - 1 = omega (arith, some) in
    let there : x ≡ get_or ys (count - 1 - from) x =
    at ∙ ap (λ k. get_or xs k x) (sym sum) ∙ sym (get_or-drop from xs (count - 1 - from) x) in
    let end : last ≡ said_last (length b.row) ys =
    told ∙ last_at_end (length b.row) ys (count - 1 - from) x (omega (arith, many, some)) there in
    let whole : take (count - from) ys ≡ ys = take_all (count - from) ys (omega (arith, many)) in
    made ∙ ap (λ (z : Merge). record z { row = applied z.row others; touched = touched_cells z.touched others }) is
    ∙ ap (λ n. ended b others last n) many ∙ ap (λ z. ended b z last (length ys)) rest
    ∙ ap (λ z. ended b (said_but_last (length b.row) ys) z (length ys)) end
    ∙ run_is b ys size few flags (omega (arith, many, some)) all ∙ ap (merge_run b) (sym whole)

-- a run keeps the row's fields and ends at the number of its last event

after_last : (b : Merge) (e : Event) → (merge_after b e).last ≡ b.last + 1
after_last b e = by_size (is_over (with_event b e))
  where
    by_owed : (c : Merge) (v : Bool) (o : Option (List Cell)) → (cond v (record c { owed = false }) (stepped c o)).last ≡ c.last
    by_owed c true o = refl
    by_owed c false None = refl
    by_owed c false (Some cells) = refl

    by_size : (v : Bool) → (cond v (due (with_event b e)) (with_event b e)).last ≡ b.last + 1
    by_size true = by_owed (with_event b e) b.owed (slice_get (with_event b e).later 0)
    by_size false = refl

pub run_last : (b : Merge) (xs : List Stored) → (merge_run b xs).last ≡ b.last + length xs
run_last b [] = omega arith
run_last b (x ∷ xs) = omega (arith, run_last (merge_after b x.event) xs, after_last b x.event)

pub run_row_length : (b : Merge) (xs : List Stored) → length (merge_run b xs).row ≡ length b.row
run_row_length b [] = refl
run_row_length b (x ∷ xs) = run_row_length (merge_after b x.event) xs ∙ after_row_length b x.event

-- after a run it stands for the slot with the last number
pub merge_stands_run : (b : Merge) (s : Slot) (h : List Entry) (xs : List Stored) → StandsMerge b s h → IsRun s h xs
    → StandsMerge (merge_run b xs) (record s { last = s.last + length xs }) h
merge_stands_run b s h [] st run =
    let same : s.last ≡ s.last + 0 = omega arith in
    subst (λ l. StandsMerge b (record s { last = l }) h) same st
merge_stands_run b s h (x ∷ xs) st run =
    let same : s.last + 1 + length xs ≡ s.last + length (x ∷ xs) = omega arith in
    subst (λ l. StandsMerge (merge_run (merge_after b x.event) xs) (record s { last = l }) h) same
    (merge_stands_run (merge_after b x.event) (enqueued s) h xs (merge_stands_next b s h x st run.0) run.1)
