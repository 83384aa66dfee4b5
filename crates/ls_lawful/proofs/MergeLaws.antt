-- What is true of a slot of mode MERGE stays true.
use Rattle.std.proofs.Common.{◌≡◌, ℕ, ◌+◌, ◌-◌, ◌<◌, ◌≤◌, List, [], ◌∷◌, ◌++◌, length, replicate, refl, sym, ◌∙◌, ap}
use Rattle.std.proofs.Common.{arith, Bool, true, false, not, ◌&&◌, cond, subst, Option, Some, None, is_some}
use Rattle.std.specs.Option.{option_map_or}
use Rattle.std.proofs.lemmas.List.{length-append, length-replicate}
use Rattle.ls_value.specs.declared.row.Value.{Value}
use Rattle.ls_value.specs.Values.{applied, projected, projected_cells, nulls, row_eq}
use Rattle.ls_value.proofs.Rows.{and_left, and_right, row_eq_true, applied-projected, nulls-projected}
use Rattle.ls_event.specs.declared.event.Entry.{Entry}
use Rattle.ls_event.specs.declared.event.Taken.{Taken}
use Rattle.ls_event.specs.History.{merged, row_after_all, between}
use Rattle.ls_event.specs.Slots.{Plan, Slot, enqueued}
use Rattle.ls_mirror.specs.Client.{Row}
use Rattle.ls_record.specs.Came.{Came}
use Rattle.ls_event.specs.Cuts.{touched_after_all, flagged_cells, flags_to, change_to, next_cursor, merge_cut}
use Rattle.ls_event.proofs.Merged.{merged-append, merged-between, merged_length}
use Rattle.ls_event.proofs.Cuts.{touched_after_all_length, told_cells_length}
use Rattle.ls_event.specs.Joining.{merge_joined}
use Rattle.ls_record.specs.Lines.{last_row}
use Rattle.ls_record.specs.Cutting.{Wanted, client_row, what_of_cut}
use Rattle.ls_lawful.specs.Lawful.{MayTell, MergeLines, LawfulMerge}
use Rattle.ls_lawful.proofs.Agrees.{Agrees, agrees_same, agrees_all, agrees_after_all, applied-flagged}
use Rattle.ls_record.proofs.Cuts.{IsMergeCut, merge_cut_is}
use Rattle.ls_lawful.proofs.Keeps.{Keeps, AfterCut}
use Rattle.ls_value.specs.declared.row.Value.TheVariants as value

-- a later state may be told too
may_later : (o : Option ℕ) (base m n : ℕ) → m ≤ n → MayTell o base m → MayTell o base n
may_later None base m n le may = omega (arith, le, may)
may_later (Some asked) base m n le may = (omega (arith, le, may.0), omega (arith, le, may.1))

-- later entries leave the lines
lines_longer : (p : Plan) (w : Wanted) (h more : List Entry) (top : ℕ) (cs : List Came) → MergeLines p w h top cs → MergeLines p w (h ++ more) top cs
lines_longer p w h more top [] l = tt
lines_longer p w h more top (c ∷ cs) l = (
  l.0,
  record {
    row = l.1.row ∙ ap (λ r. Row (projected r w.places)) (sym (merged-append p.shape.fields h more c.upto (omega (arith, l.1.reached, l.1.within))));
    reached = l.1.reached;
    recent = l.1.recent;
    since = l.1.since;
    within = omega (arith, l.1.within, length-append h more);
  },
  lines_longer p w h more c.upto cs l.2,
)

-- and so does a higher top
lines_further : (p : Plan) (w : Wanted) (h : List Entry) (low high : ℕ) (cs : List Came) → low ≤ high → MergeLines p w h low cs → MergeLines p w h high cs
lines_further p w h low high [] le l = tt
lines_further p w h low high (c ∷ cs) le l = (omega (arith, le, l.0), l.1, l.2)

longer : (h more : List Entry) (w : Wanted) (s : Slot) (cs : List Came) → LawfulMerge h w s cs → LawfulMerge (h ++ more) w s cs
longer h more w s cs l =
    record {
      some = l.some;
      joined = l.joined;
      begun = l.begun;
      behind = l.behind;
      within = omega (arith, l.within, length-append h more);
      before = l.before;
      waits = l.waits;
      row = λ g. l.row g ∙ ap (λ r. Some (projected r w.places)) (sym (merged-append s.plan.shape.fields h more s.cursor (omega (arith, l.behind, l.within))));
      lines = lines_longer s.plan w h more (s.cursor + 1) cs l.lines;
    }

enqueue : (h : List Entry) (w : Wanted) (s : Slot) (cs : List Came) → s.last < length h → LawfulMerge h w s cs → LawfulMerge h w (enqueued s) cs
enqueue h w s cs more l =
    record {
      some = l.some;
      joined = omega (arith, l.joined);
      begun = l.begun;
      behind = omega (arith, l.behind);
      within = omega (arith, more);
      before = l.before;
      waits = λ f may. omega (arith, l.behind);
      row = l.row;
      lines = l.lines;
    }

-- a row whose projection the client has, and which agrees with the state at the client's cursor where nothing was touched
record Starts (fields : ℕ) (given : Bool) (places : List ℕ) (h : List Entry) (p : ℕ) (cs : List Came) : Type 0 where
  row : List Value
  has : client_row (length places) cs ≡ projected row places
  agrees : Agrees (replicate fields (not given)) row (merged fields h p)
  long : length row ≡ fields

starts : (fields : ℕ) (given : Bool) (places : List ℕ) (h : List Entry) (p : ℕ) (cs : List Came) → (given ≡ false → cs ≡ [])
    → (given ≡ true → last_row cs ≡ Some (projected (merged fields h p) places)) → Starts fields given places h p cs
starts fields true places h p cs none has =
    record {
      row = merged fields h p;
      has = ap (λ o. option_map_or (λ r. r) o (nulls (length places))) (has refl);
      agrees = agrees_same fields false (merged fields h p) (merged_length fields h p);
      long = merged_length fields h p;
    }
starts fields false places h p cs none has =
    record {
      row = nulls fields;
      has = ap (client_row (length places)) (none refl) ∙ sym (nulls-projected fields places);
      agrees = agrees_all fields (nulls fields) (merged fields h p) (length-replicate fields value.Null) (merged_length fields h p);
      long = length-replicate fields value.Null;
    }

-- from the row that the client has the cells make the item's row
row_by : (fields : ℕ) (given : Bool) (places : List ℕ) (h : List Entry) (p q : ℕ) (cs : List Came) → p ≤ q → Starts fields given places h p cs
    → applied (client_row (length places) cs)
    (projected_cells (flagged_cells (touched_after_all (replicate fields (not given)) (between h p q)) (merged fields h q)) places)
    ≡ projected (merged fields h q) places
row_by fields given places h p q cs le st =
    let e : merged fields h q ≡ row_after_all (merged fields h p) (between h p q) = merged-between fields h p q le in
    let d : Agrees (touched_after_all (replicate fields (not given)) (between h p q)) st.row (row_after_all (merged fields h p) (between h p q))
    = agrees_after_all (replicate fields (not given)) st.row (merged fields h p) (between h p q) st.agrees in
    let f : Agrees (touched_after_all (replicate fields (not given)) (between h p q)) st.row (merged fields h q)
    = subst (λ (r : List Value). Agrees (touched_after_all (replicate fields (not given)) (between h p q)) st.row r) (sym e) d in
    let n : length (touched_after_all (replicate fields (not given)) (between h p q)) ≡ fields =
    touched_after_all_length (replicate fields (not given)) (between h p q) ∙ length-replicate fields (not given) in
    let k : length (flagged_cells (touched_after_all (replicate fields (not given)) (between h p q)) (merged fields h q)) ≡ length st.row
    = told_cells_length (touched_after_all (replicate fields (not given)) (between h p q)) (merged fields h q) (n ∙ sym (merged_length fields h q))
    ∙ merged_length fields h q ∙ sym st.long in
    ap (λ r. applied r (projected_cells (flagged_cells (touched_after_all (replicate fields (not given)) (between h p q)) (merged fields h q)) places)) st.has
    ∙ applied-projected st.row (flagged_cells (touched_after_all (replicate fields (not given)) (between h p q)) (merged fields h q)) places k
    ∙ ap (λ r. projected r places) (applied-flagged (touched_after_all (replicate fields (not given)) (between h p q)) st.row (merged fields h q) f)

next_row : (h : List Entry) (w : Wanted) (s : Slot) (cs : List Came) → LawfulMerge h w s cs
    → applied (client_row (length w.places) cs) (projected_cells (flagged_cells (flags_to h s (next_cursor s)) (merged s.plan.shape.fields h (next_cursor s)))
    w.places) ≡ projected (merged s.plan.shape.fields h (next_cursor s)) w.places
next_row h w s cs l = row_by s.plan.shape.fields s.has_started w.places h s.cursor (next_cursor s) cs (omega arith)
    (starts s.plan.shape.fields s.has_started w.places h s.cursor cs l.before l.row)

-- the client's row is the last one that came
client_has : (h : List Entry) (w : Wanted) (s : Slot) (cs : List Came) → LawfulMerge h w s cs → s.has_started ≡ true
    → client_row (length w.places) cs ≡ projected (merged s.plan.shape.fields h s.cursor) w.places
client_has h w s cs l given = ap (λ o. option_map_or (λ r. r) o (nulls (length w.places))) (l.row given)

-- the next cursor is no further than the last number
pub next_within : (s : Slot) → 0 < s.plan.size → s.cursor < s.last → next_cursor s ≤ s.last
next_within s some behind = omega (arith, some, behind)

passed_by : (h : List Entry) (w : Wanted) (s : Slot) (cs : List Came) (old new : List Value) (v : Bool) → (s.has_started && row_eq old new) ≡ v
    → old ≡ client_row (length w.places) cs → new ≡ projected (merged s.plan.shape.fields h (next_cursor s)) w.places → s.cursor < s.last → LawfulMerge h w s cs
    → AfterCut LawfulMerge h w s cs (change_to h s (next_cursor s)) (cond v None (Some (Row new)))
passed_by h w s cs old new true t has row behind l =
    let given : s.has_started ≡ true = and_left s.has_started (row_eq old new) t in
    record {
      some = l.some;
      joined = l.joined;
      begun = may_later w.snapshot s.plan.base (s.cursor + 1) (next_cursor s + 1) (omega arith) l.begun;
      behind = next_within s l.some behind;
      within = l.within;
      before = λ f. absurd (let x : true ≡ false = f in cc);
      waits = λ f may. absurd (let x : true ≡ false = f in cc);
      row = λ g. l.row given ∙ ap Some (sym (client_has h w s cs l given) ∙ sym has ∙ row_eq_true old new (and_right s.has_started (row_eq old new) t) ∙ row);
      lines = lines_further s.plan w h (s.cursor + 1) (next_cursor s + 1) cs (omega arith) l.lines;
    }
passed_by h w s cs old new false t has row behind l =
    record {
      some = l.some;
      joined = l.joined;
      begun = may_later w.snapshot s.plan.base (s.cursor + 1) (next_cursor s + 1) (omega arith) l.begun;
      behind = next_within s l.some behind;
      within = l.within;
      before = λ f. absurd (let x : true ≡ false = f in cc);
      waits = λ f may. absurd (let x : true ≡ false = f in cc);
      row = λ g. ap Some row;
      lines = (
        omega arith,
        record {
          row = ap Row row;
          reached = next_within s l.some behind;
          recent = omega (arith, l.some);
          since = may_later w.snapshot s.plan.base (s.cursor + 1) (next_cursor s) (omega arith) l.begun;
          within = l.within;
        },
        lines_further s.plan w h (s.cursor + 1) (next_cursor s) cs (omega arith) l.lines,
      );
    }

pass : (h : List Entry) (w : Wanted) (s : Slot) (cs : List Came) (t : Taken) → merge_cut h s ≡ Some t → LawfulMerge h w s cs
    → AfterCut LawfulMerge h w s cs t (what_of_cut w s cs t)
pass h w s cs t is l =
    let c : IsMergeCut h s t = merge_cut_is h s t is in
    let old : List Value = client_row (length w.places) cs in
    let new : List Value =
    applied (client_row (length w.places) cs)
    (projected_cells (flagged_cells (flags_to h s (next_cursor s)) (merged s.plan.shape.fields h (next_cursor s))) w.places) in
    subst (λ (u : Taken). AfterCut LawfulMerge h w s cs u (what_of_cut w s cs u)) (sym c.taken)
    (passed_by h w s cs (client_row (length w.places) cs) new (s.has_started && row_eq (client_row (length w.places) cs) new) refl refl (next_row h w s cs l)
    c.behind l)

pub merge_keeps : Keeps merge_cut LawfulMerge
merge_keeps = record { longer = longer; enqueue = enqueue; pass = pass }

-- where a slot begins that joins behind so many events
record Begins (o : Option ℕ) (base cursor : ℕ) : Type 0 where
  low : cursor ≤ base
  may : MayTell o base (cursor + 1)
  waits : MayTell o base base → cursor < base

begins : (o : Option ℕ) (base : ℕ) → Begins o base (cond (is_some o) (base - 1) base)
begins None base = record { low = omega arith; may = omega arith; waits = λ may. absurd (omega (arith, may)) }
begins (Some asked) base = record { low = omega arith; may = (omega arith, omega arith); waits = λ may. omega (arith, may.0) }

pub merge_joins : (p : Plan) (h : List Entry) (w : Wanted) → p.base ≡ length h → 0 < p.size → LawfulMerge h w (merge_joined p w.snapshot) []
merge_joins p h w base some =
    let b : Begins w.snapshot p.base (cond (is_some w.snapshot) (p.base - 1) p.base) = begins w.snapshot p.base in
    record {
      some = some;
      joined = omega arith;
      begun = b.may;
      behind = b.low;
      within = omega (arith, base);
      before = λ f. refl;
      waits = λ f may. b.waits may;
      row = λ t. absurd (let x : false ≡ true = t in cc);
      lines = tt;
    }
