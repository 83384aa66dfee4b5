use Rattle.std.proofs.Common.{◌≡◌, ℕ, ◌+◌, ◌-◌, ◌∙◌, List, ◌++◌, ◌∷◌, [], All, ap, arith, length, drop, sym, subst, take, refl}
use Rattle.std.proofs.lemmas.List.Elements.{All-push}
use Rattle.ls_value.specs.Values.{applied}
use Rattle.ls_value.specs.declared.row.Cell.{Cell}
use Rattle.ls_event.specs.declared.event.Stored.{Stored}
use Rattle.ls_event.specs.History.{HasFields}
use Rattle.ls_event.specs.Cuts.{touched_cells}
use Rattle.ls_merge.specs.Merge.{Merge, event_cells, is_over, within_size}
use Rattle.ls_merge.specs.Runs.{merge_run, said_but_last}
use Rattle.ls_merge.proofs.Sound.{within_row_length}
use Rattle.ls_merge.proofs.Landing.{run_ends, run_fields, event_cells_length}
use Rattle.ls_merge.proofs.merge.MergeBuffer.enqueue_run.Goals as goal

pub invariant_of-self-2 : goal.invariant_of-self-2
invariant_of-self-2 c =
    let long : c.len-count.result ≡ length c.args.events.now.items = omega (arith, c.len-count.ensures, c.args.events.now.ok.0) in
    let has : HasFields (length c.self.inside.row) c.index.result.now.event =
    run_fields (length c.self.inside.row) c.args.from c.args.events.now.items (c.len-count.result - 1) c.index.result.now
    (omega (arith, c.if-from-count.false)) (omega (arith, c.if-from-count.false, long)) c.index.ensures
    (subst (λ (b : Merge). All (λ x. HasFields (length b.row) x.event) (drop c.args.from c.args.events.now.items)) (sym c.self.view_is) c.requires.fields) in
    let one : length c.in_ok-last.last ≡ length c.self.inside.row =
    rw (c.in_ok-last.ensures, c.len-fields.ensures) (event_cells_length (length c.self.inside.row) c.index.result.now.event has) in
    record {
      flags = c.self.invariant.flags;
      later = subst (All (λ cells. length cells ≡ length c.self.inside.row)) (sym c.in_ok-push_back.ensures.items)
          (All-push (λ cells. length cells ≡ length c.self.inside.row) _ _ c.self.invariant.later one);
    }

pub merge-requires-clause-cells : goal.merge-requires-clause-cells
merge-requires-clause-cells c =
    let b : Merge = record {
      size = c.self.inside.size;
      last = c.self.inside.last + (c.len-count.result - c.args.from);
      owed = c.self.inside.owed;
      row = c.self.inside.row;
      touched = c.self.inside.touched.items;
      later = c.push_back.new.self.items;
    } in
    let same : length c.self-2.inside.row ≡ length (within_size b).row =
    ap (λ (z : Merge). length z.row) (c.self-2.view_is ∙ c.merge_first.ensures) in
    c.in_ok-others.ensures.fields ∙ c.len-fields.ensures ∙ sym (same ∙ within_row_length b)

pub returns-clause-took : goal.returns-clause-took
returns-clause-took c =
    let n : ℕ = c.len-count.result - c.args.from in
    let xs : List Stored = c.args.events.now.items in
    let b : Merge = record {
      size = c.self.inside.size;
      last = c.self.inside.last;
      owed = c.self.inside.owed;
      row = c.self.inside.row;
      touched = c.self.inside.touched.items;
      later = c.self.inside.later.items;
    } in
    let w : Merge = record {
      size = c.self-2.inside.size;
      last = c.self-2.inside.last;
      owed = c.self-2.inside.owed;
      row = c.self-2.inside.row;
      touched = c.self-2.inside.touched.items;
      later = c.self-2.inside.later.items;
    } in
    let v : Merge = record w { row = c.merge.new.row; touched = c.merge.new.flags.items } in
    let view : b ≡ c.args.self.now = c.self.view_is in
    let single = c.if-not-is_single.ensures refl in
    let long : c.len-count.result ≡ length xs = omega (arith, c.len-count.ensures, c.args.events.now.ok.0) in
    let all : All (λ x. HasFields (length b.row) x.event) (drop c.args.from xs) =
    subst (λ (z : Merge). All (λ x. HasFields (length z.row) x.event) (drop c.args.from xs)) (sym view) c.requires.fields in
    let is : w ≡ within_size (record b { last = b.last + n; later = b.later ++ c.in_ok-last.last ∷ [] }) =
    c.self-2.view_is ∙ c.merge_first.ensures
    ∙ ap (λ (zs : List (List Cell)). within_size (record b { last = b.last + n; later = zs })) c.in_ok-push_back.ensures.items in
    let made : v ≡ record w {
      row = applied w.row c.in_ok-others.others;
      touched = touched_cells w.touched c.in_ok-others.others;
    } = rw (c.merge.ensures.row, c.merge.ensures.flags) refl in
    run_ends b xs c.args.from c.len-count.result c.index.result.now c.in_ok-others.others c.in_ok-last.last w v
    (ap (λ (z : Merge). z.size) view ∙ single.0) (ap is_over view ∙ single.1) c.self.invariant.flags long
    (omega (arith, c.if-from-count.false)) all c.index.ensures
    (c.in_ok-last.ensures ∙ ap (λ k. event_cells k c.index.result.now.event) c.len-fields.ensures)
    (c.in_ok-others.ensures.said ∙ ap (λ k. said_but_last k (drop c.args.from xs)) c.len-fields.ensures) is made
    ∙ ap (λ z. merge_run z (take n (drop c.args.from xs))) view
