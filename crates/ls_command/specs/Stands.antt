-- What a buffer of mode COMMAND tells is what the slots that it stands for tell, also as the history grows.
use Rattle.std.proofs.Common.{◌≡◌, ◌==◌, ◌≤◌, ℕ, List, [], ◌∷◌, ◌++◌, length, map, sym, ◌∙◌, ap, arith, subst, ◌&&◌}
use Rattle.std.proofs.Common.{cond, Option, Some, None, is_some, option_map, slice_get, unwrap_or}
use Rattle.std.proofs.lemmas.List.{length-append, take-append-le}
use Rattle.ls_event.specs.declared.event.Entry.{Entry}
use Rattle.ls_event.specs.declared.event.Taken.TheVariants as taken
use Rattle.ls_event.specs.History.{between}
use Rattle.ls_event.specs.Slots.{Slot}
use Rattle.ls_event.specs.Updates.{last_of, clear_from, last_clear, clear_or}
use Rattle.ls_event.specs.Keyed.{row_at, keyed_after_all, keyed}
use Rattle.ls_event.specs.CommandCuts.{key_cursor, queue_from, queue_since, owed_keys, command_queue, key_taken}
use Rattle.ls_event.specs.CommandCuts.{command_cut_by}
use Rattle.ls_event.specs.Cuts.{cut, cut_of, is_pending, pending_of, waiting_count, waiting_of}
use Rattle.ls_event.proofs.Cuts.{between-append}
use Rattle.ls_command.specs.declared.kept.Queued.{Queued}
use Rattle.ls_command.specs.Command.{Command, StandsCommand, keys_of, RowsOf, AreMarked, command_head_of, key_head}
use Rattle.ls_command.specs.Command.{command_head, command_is_pending}

-- what it tells next

key_turned : (b : Command) (s : Slot) (h : List Entry) (qs : List Queued) (q : List (List ℕ)) → keys_of qs ≡ q
    → RowsOf (keyed s.plan.shape h s.last) qs → b.last ≡ s.last
    → option_map (key_head b) (slice_get qs 0) ≡ option_map (key_taken h s) (slice_get q 0)
key_turned b s h [] q is rows last = ap (λ z. option_map (key_taken h s) (slice_get z 0)) is
key_turned b s h (y ∷ ys) q is rows last =
    ap (λ r. Some (taken.Key y.key r b.last)) rows.0 ∙ ap (λ n. Some
    (taken.Key y.key (row_at y.key (keyed s.plan.shape h s.last)) n)) last
    ∙ ap (λ z. option_map (key_taken h s) (slice_get z 0)) is

head_from : (b : Command) (s : Slot) (h : List Entry) (o : Option ℕ) → StandsCommand b s h
    → command_head_of b o ≡ command_cut_by h s o
head_from b s h (Some c) st = ap (λ v. cond v (Some taken.EndOfSnapshot) (Some (taken.Cleared c))) st.ends
head_from b s h None st =
    rw (st.ends, st.owed) (ap (λ z. cond (s.ends && (s.owed == 0)) (Some taken.EndOfSnapshot) z)
    (key_turned b s h b.queue (command_queue h s) st.keys st.rows st.last))

-- what it tells next is the cut
pub command_head_is_cut : (b : Command) (s : Slot) (h : List Entry) → StandsCommand b s h → command_head b ≡ cut h s
command_head_is_cut b s h st = ap (command_head_of b) st.cleared ∙ head_from b s h (last_clear h s.cursor s.last) st
    ∙ ap (λ m. cut_of m h s) (sym st.mode)

pub command_pending_is : (b : Command) (s : Slot) (h : List Entry) → StandsCommand b s h
    → command_is_pending b ≡ is_pending h s
command_pending_is b s h st = ap (λ o. is_some o) (command_head_is_cut b s h st ∙ ap (λ m. cut_of m h s) st.mode)
    ∙ ap (λ m. pending_of m h s) (sym st.mode)

pub command_waiting_is : (b : Command) (s : Slot) (h : List Entry) → StandsCommand b s h → b.waiting ≡ waiting_count h s
command_waiting_is b s h st = st.waiting ∙ ap (λ m. waiting_of m h s) (sym st.mode)

-- as the history grows
pub command_longer : (b : Command) (s : Slot) (h more : List Entry) → StandsCommand b s h
    → StandsCommand b s (h ++ more)
command_longer b s h more st =
    let clear : last_clear (h ++ more) s.cursor s.last ≡ last_clear h s.cursor s.last =
    ap (clear_from None s.cursor) (between-append h more s.cursor s.last st.within) in
    let from : ℕ = clear_or h s.cursor s.last in
    let base : keyed s.plan.shape (h ++ more) s.plan.base ≡ keyed s.plan.shape h s.plan.base =
    ap (keyed_after_all s.plan.shape []) (take-append-le s.plan.base h more
    (omega (arith, st.based, st.behind, st.within))) in
    let now : keyed s.plan.shape (h ++ more) s.last ≡ keyed s.plan.shape h s.last =
    ap (keyed_after_all s.plan.shape []) (take-append-le s.last h more st.within) in
    let since : (q : List (List ℕ)) → queue_since (h ++ more) s q ≡ queue_since h s q =
    λ q. ap (λ o. queue_from s q (unwrap_or o s.cursor) (between (h ++ more) (unwrap_or o s.cursor) s.last)) clear
    ∙ ap (queue_from s q from) (between-append h more from s.last st.within) in
    let owed : owed_keys (h ++ more) s ≡ owed_keys h s =
    ap (λ o. cond (is_some o) [] (last_of s.owed (map (λ k. k.key) (keyed s.plan.shape (h ++ more) s.plan.base)))) clear
    ∙ ap (λ ks. cond (is_some (last_clear h s.cursor s.last)) [] (last_of s.owed (map (λ k. k.key) ks))) base in
    let queue : command_queue (h ++ more) s ≡ command_queue h s =
    since (owed_keys (h ++ more) s) ∙ ap (queue_since h s) owed in
    record {
      mode = st.mode;
      kind = st.kind;
      key = st.key;
      last = st.last;
      owed = st.owed;
      ends = st.ends;
      based = st.based;
      behind = st.behind;
      within = omega (arith, st.within, length-append h more);
      first = st.first;
      enough = subst (λ ks. s.owed ≤ length ks) (sym base) st.enough;
      cleared = st.cleared ∙ sym clear;
      keys = st.keys ∙ sym queue;
      rows = subst (λ ks. RowsOf ks b.queue) (sym now) st.rows;
      marked = subst (λ t. AreMarked t b.queue) (sym (since [])) st.marked;
      waiting = st.waiting ∙ sym (ap length (since []));
      listed = st.listed ∙ sym (ap (λ o. cond (is_some o) 0 s.owed) clear);
      placed = λ k. subst (λ o. key_cursor s.key_cursors s.cursor k ≤ unwrap_or o s.last) (sym clear) (st.placed k);
    }
