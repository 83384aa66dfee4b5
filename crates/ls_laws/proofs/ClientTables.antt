-- The table that a client of mode COMMAND keeps is the item's, at each key.
use Rattle.std.proofs.Common.{◌≡◌, ℕ, List, sym, ◌∙◌, ap, subst, None}
use Rattle.std.specs.List.{Contains}
use Rattle.std.specs.FinMap as finite
use Rattle.ls_event.specs.declared.event.Mode.{Mode}
use Rattle.ls_event.specs.Shapes.{Shape}
use Rattle.ls_event.specs.Keyed.{row_at, keyed}
use Rattle.ls_event.specs.Cuts.{cut}
use Rattle.ls_mirror.specs.declared.table.Table.{Table}
use Rattle.ls_mirror.specs.Keys.{KeyTable}
use Rattle.ls_record.specs.Came.{whats}
use Rattle.ls_record.specs.Tables.{projected_row}
use Rattle.ls_record.specs.Lines.{came, texts}
use Rattle.ls_world.specs.World.{World}
use Rattle.ls_record.specs.Records.{Session, LiveSlot, history_of, shape_at}
use Rattle.ls_lawful.specs.CommandMode.{cursor_of_key, LawfulCommand, IsToKnow}
use Rattle.ls_lawful.specs.ClientKeys.{KeysAgree, KeysOf, SubcmdKeys}
use Rattle.ls_lawful.specs.Lawful.{ClientDecodes, ClientsDecode, LawfulLive, LawfulOf, LawfulSession}
use Rattle.ls_world.specs.Lawful.{Lawful}
use Rattle.ls_lawful.specs.ClientTables.{HasTable}
use Rattle.ls_record.proofs.Each.{each_contains}
use Rattle.ls_lawful.proofs.CommandSettled.{slot_settled}
use Rattle.ls_lawful.proofs.ClientTables.{table_keys, same_row}
use Rattle.ls_event.specs.declared.event.Mode.TheVariants as mode

decoded_at : (w : World) (s : Session) (v : LiveSlot) → Lawful w → Contains w.sessions s → Contains s.board.round v → ClientDecodes w.items s.board.lines v
decoded_at w s v l in_world in_round =
    each_contains (ClientDecodes w.items s.board.lines) v s.board.round
    (each_contains (ClientsDecode w.items) s w.sessions l.clients in_world) in_round

pub client_has_rows : (w : World) (s : Session) (v : LiveSlot) (t : Table) → Lawful w → Contains w.sessions s → Contains s.board.round v
    → v.slot.plan.mode ≡ mode.Command
    → HasTable (texts s.board.lines) v.sub v.rank t
    → KeysAgree (history_of w.items v.item) v.wanted v.slot t.keys
client_has_rows w s v t l in_world in_round command x =
    let d : ClientDecodes w.items s.board.lines v = decoded_at w s v l in_world in_round in
    subst (λ (keys : KeyTable). KeysAgree (history_of w.items v.item) v.wanted v.slot keys)
    (sym (table_keys (history_of w.items v.item) v (texts s.board.lines) (whats (came v.sub v.rank s.board.lines)) t d x)) (of_command d).rows
  where
    of_command : (d : ClientDecodes w.items s.board.lines v) → SubcmdKeys (history_of w.items v.item) v.wanted v.slot d.came.subscription.keyed
        (whats (came v.sub v.rank s.board.lines))
    of_command d =
        subst (λ (m : Mode). KeysOf m (history_of w.items v.item) v.wanted v.slot d.came.subscription.keyed (whats (came v.sub v.rank s.board.lines))) command
        d.keys

-- once the slot has no cut, they are the item's after the last event that was enqueued
pub keys_settled : (w : World) (s : Session) (v : LiveSlot) (t : Table) → Lawful w → Contains w.sessions s → Contains s.board.round v
    → v.slot.plan.mode ≡ mode.Command → HasTable (texts s.board.lines) v.sub v.rank t
    → cut (history_of w.items v.item) v.slot ≡ None → (k : List ℕ) → IsToKnow (history_of w.items v.item) v.wanted v.slot k
    → finite.get t.keys k ≡ projected_row v.wanted.places (row_at k (keyed (shape_at w.items v.item) (history_of w.items v.item) v.slot.last))
keys_settled w s v t l in_world in_round command x none k know =
    let b : LawfulSession w.items s = each_contains (LawfulSession w.items) s w.sessions l.records.sessions in_world in
    let m : LawfulLive w.items s.board.lines v = each_contains (LawfulLive w.items s.board.lines) v s.board.round b.board.slots in_round in
    let c : LawfulCommand (history_of w.items v.item) v.wanted v.slot (came v.sub v.rank s.board.lines)
    = subst (λ (y : Mode). LawfulOf y (history_of w.items v.item) v.wanted v.slot (came v.sub v.rank s.board.lines)) command m.came in
    same_row (history_of w.items v.item) v.wanted v.slot k (finite.get t.keys k) _ (cursor_of_key k v.slot.key_cursors)
    (client_has_rows w s v t l in_world in_round command x k) (c.agrees k)
    ∙ slot_settled (history_of w.items v.item) v.wanted v.slot (came v.sub v.rank s.board.lines) m.came command none k know
    ∙ ap (λ (p : Shape). projected_row v.wanted.places (row_at k (keyed p (history_of w.items v.item) v.slot.last))) m.shape
