-- A buffer that is new stands for the slot that joins.
use Rattle.std.proofs.Common.{◌≡◌, ◌≤◌, ◌<◌, ℕ, ◌-◌, List, [], length, map, refl, sym, ◌∙◌, ap, arith, subst, Bool, true, false, cond, Option, Some, None}
use Rattle.std.proofs.Common.{is_some, unwrap_or}
use Rattle.std.specs.List.{range_with_len}
use Rattle.std.proofs.lemmas.List.{length-map, drop_all}
use Rattle.ls_event.specs.declared.event.Entry.{Entry}
use Rattle.ls_event.specs.declared.snapshot.KeyedRow.{KeyedRow}
use Rattle.ls_event.specs.declared.snapshot.Snapshot.{Snapshot}
use Rattle.ls_event.specs.History.{between}
use Rattle.ls_event.specs.Slots.{Plan, Slot, fresh, fresh_with}
use Rattle.ls_event.specs.Updates.{last_of, clear_from, last_clear}
use Rattle.ls_event.specs.Keyed.{keyed}
use Rattle.ls_event.specs.CommandCuts.{queue_from, command_queue, touched_keys}
use Rattle.ls_event.specs.Joining.{command_joined}
use Rattle.ls_event.proofs.Cuts.{between_none}
use Rattle.ls_event.proofs.UpdatesBetween.{last_of_short}
use Rattle.ls_command.specs.declared.kept.Queued.{Queued}
use Rattle.ls_command.specs.Command.{Command, StandsCommand, RowsOf, AreMarked, AreDistinct, command_rows, owed_key, command_joining, IsJoining, IsSnapshotOf}
use Rattle.ls_command.proofs.Owed.{with_owed_is}
use Rattle.ls_command.proofs.Keys.{keyed_distinct}
use Rattle.ls_command.proofs.Queues.{keys_owed, marked_owed, rows_owed}

-- no key of a snapshot stands twice
snapshot_distinct : (p : Plan) (h : List Entry) (first : Option Snapshot) (asked : Option ℕ) → IsSnapshotOf p h first asked
    → AreDistinct (map (λ k. k.key) (command_rows first))
snapshot_distinct p h None None is = tt
snapshot_distinct p h None (Some asked) is = absurd is
snapshot_distinct p h (Some first) None is = absurd is
snapshot_distinct p h (Some first) (Some asked) is = subst (λ ks. AreDistinct (map (λ (k : KeyedRow). k.key) ks)) (sym is) (keyed_distinct p.shape h p.base)

command_fresh : (p : Plan) (h : List Entry) (key base : ℕ) (ks : List KeyedRow) (ends : Bool) → IsJoining base key p h
    → RowsOf (keyed p.shape h p.base) (map owed_key ks) → last_of (length ks) (map (λ k. k.key) (keyed p.shape h p.base)) ≡ map (λ k. k.key) ks
    → length ks ≤ length (keyed p.shape h p.base) → (0 < length ks → ends ≡ true)
    → (values : List ℕ)
    → StandsCommand (record {
      key = key;
      last = base;
      owed = length ks;
      ends = ends;
      cleared = None;
      queue = map owed_key ks;
      values = values;
      listed = length ks;
      waiting = 0;
    })
    (record (fresh p p.base) { owed = length ks; ends = ends }) h
command_fresh p h key base ks ends j rows same enough first values =
    let s : Slot = record (fresh p p.base) { owed = length ks; ends = ends } in
    let all : List (List ℕ) = map (λ k. k.key) (keyed p.shape h p.base) in
    let none : between h p.base p.base ≡ [] = between_none h p.base p.base (omega arith) (omega (arith, j.base, j.within)) in
    let clear : last_clear h p.base p.base ≡ None = ap (clear_from None p.base) none in
    let queue : command_queue h s ≡ last_of (length ks) all =
    ap (λ o. queue_from s (cond (is_some o) [] (last_of (length ks) all)) (unwrap_or o p.base) (between h (unwrap_or o p.base) p.base)) clear
    ∙ ap (queue_from s (last_of (length ks) all) p.base) none in
    let touched : touched_keys h s ≡ [] = ap (λ o. queue_from s [] (unwrap_or o p.base) (between h (unwrap_or o p.base) p.base)) clear
    ∙ ap (queue_from s [] p.base) none in
    record {
      mode = j.mode;
      kind = j.kind;
      key = sym j.key;
      last = sym j.base;
      owed = refl;
      ends = refl;
      based = omega arith;
      behind = omega arith;
      within = omega (arith, j.base, j.within);
      first = first;
      enough = enough;
      cleared = sym clear;
      keys = keys_owed ks ∙ sym same ∙ sym queue;
      rows = rows;
      marked = subst (λ t. AreMarked t (map owed_key ks)) (sym touched) (marked_owed ks);
      waiting = sym (ap length touched);
      listed = sym (ap (λ o. cond (is_some o) 0 (length ks)) clear);
      placed = λ k. omega (arith, ap (λ o. unwrap_or o p.base) clear);
    }

-- a buffer that is new, with these keys and values, and so many nodes in list 0
abbrev new_with : ℕ → ℕ → Option Snapshot → List Queued → List ℕ → ℕ → Command
new_with base key first queue values listed =
    record (command_joining base key first) { queue = queue; values = values; listed = listed }

joins : (base key : ℕ) (first : Option Snapshot) (p : Plan) (h : List Entry) (asked : Option ℕ) (values : List ℕ) → IsJoining base key p h
    → IsSnapshotOf p h first asked
    → StandsCommand (new_with base key first (map owed_key (command_rows first)) values (length (command_rows first))) (command_joined p h asked) h
joins base key None p h None values j is =
    command_fresh p h key base [] false j tt (drop_all (length (map (λ (k : KeyedRow). k.key) (keyed p.shape h p.base)) - 0)
    (map (λ k. k.key) (keyed p.shape h p.base)) (omega arith)) (omega arith) (λ some. absurd (omega (arith, some))) values
joins base key None p h (Some asked) values j is = absurd is
joins base key (Some first) p h None values j is = absurd is
joins base key (Some first) p h (Some asked) values j is =
    let ks : List KeyedRow = command_rows (Some first) in
    let all : List KeyedRow = keyed p.shape h p.base in
    subst (λ (n : ℕ). StandsCommand (new_with base key (Some first) (map owed_key ks) values (length ks)) (fresh_with p n) h) (ap length is)
    (command_fresh p h key base ks true j (subst (λ z. RowsOf z (map owed_key ks)) is (rows_owed ks (snapshot_distinct p h (Some first) (Some asked) is)))
    (ap (λ z. last_of (length z) (map (λ k. k.key) all)) is ∙ last_of_short (length all) (map (λ k. k.key) all) (omega (arith, length-map all (λ k. k.key)))
    ∙ ap (map (λ k. k.key)) (sym is))
    (omega (arith, ap length is)) (λ some. refl) values)

-- at joining
pub command_joins : (base key : ℕ) (first : Option Snapshot) (p : Plan) (h : List Entry) (asked : Option ℕ) → IsJoining base key p h
    → IsSnapshotOf p h first asked → StandsCommand (command_joining base key first) (command_joined p h asked) h
command_joins base key first p h asked j is =
    let ks : List KeyedRow = command_rows first in
    let values : List Queued → List ℕ = λ qs. range_with_len 0 (length qs) in
    subst (λ (qs : List Queued). StandsCommand (new_with base key first qs (values qs) (length qs)) (command_joined p h asked) h)
    (sym (with_owed_is ks (snapshot_distinct p h first asked is)))
    (subst (λ (n : ℕ). StandsCommand (new_with base key first (map owed_key ks) (values (map owed_key ks)) n) (command_joined p h asked) h)
    (sym (length-map ks owed_key)) (joins base key first p h asked (values (map owed_key ks)) j is))
