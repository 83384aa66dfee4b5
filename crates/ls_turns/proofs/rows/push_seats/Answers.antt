use Rattle.std.proofs.Common.{ap, sym, ◌∙◌, ◌≡◌, ◌+◌, ◌++◌, ◌∷◌, [], arith, List, ℕ, suc, length, replicate, append_assoc, length-append}
use Rattle.std.specs.List.{range_with_len}
use Rattle.std.proofs.lemmas.List.{replicate_more, length-replicate}
use Rattle.ls_turns.specs.declared.row.Row.{Row}
use Rattle.ls_turns.specs.Kept.{no_row}
use Rattle.ls_turns.proofs.Joining.{range_push}
use Rattle.ls_turns.proofs.rows.push_seats.Goals as goal

pub loop-preserved : goal.loop-preserved
loop-preserved c =
    let i = c.loop.invariant in
    let n = c.loop.counter in
    let rows = c.args.rows.now.items in
    let l : length c.loop.rows.items ≡ length rows + n =
    ap length i.rows ∙ length-append rows (replicate n no_row) ∙ ap (λ (k : ℕ). length rows + k) (length-replicate n no_row) in
    let place : c.len.result ≡ length rows + n = omega (arith, c.len.ensures, c.loop.rows.ok.0) in
    let next : n + 1 ≡ suc n = omega arith in
    record {
      rows =
          c.push_reserved-in-loop.ensures.items ∙ ap (λ (xs : List Row). xs ++ no_row ∷ []) i.rows ∙ append_assoc rows (replicate n no_row) (no_row ∷ [])
          ∙ ap (λ (xs : List Row). rows ++ xs) (replicate_more n no_row);
      free =
          c.push_reserved.ensures.items ∙ ap (λ (xs : List ℕ). xs ++ c.len.result ∷ []) i.free
          ∙ append_assoc c.args.free.now.items (range_with_len (length rows) n) (c.len.result ∷ [])
          ∙ ap (λ (xs : List ℕ). c.args.free.now.items ++ xs) (range_push (length rows) n c.len.result place)
          ∙ ap (λ (k : ℕ). c.args.free.now.items ++ range_with_len (length rows) k) (sym next);
      rows_room = omega (arith, i.rows_room, c.push_reserved-in-loop.ensures.len, c.push_reserved-in-loop.ensures.capacity);
      free_room = omega (arith, i.free_room, c.push_reserved.ensures.len, c.push_reserved.ensures.capacity);
      capacity = omega (arith, i.capacity, c.push_reserved.ensures.capacity);
    }
