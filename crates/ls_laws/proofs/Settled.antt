-- What came to a client of an item is true of the item, and a settled client has the item's state.
use Rattle.std.proofs.Common.{◌≡◌, ℕ, ◌≤◌, List, ◌∷◌, ◌++◌, subst}
use Rattle.std.specs.List.{Contains}
use Rattle.ls_event.specs.declared.event.Mode.{Mode}
use Rattle.ls_event.specs.Shapes.{Shape}
use Rattle.ls_record.specs.Came.{Came}
use Rattle.ls_record.specs.Lines.{came}
use Rattle.ls_record.specs.Cutting.{schema_of}
use Rattle.ls_world.specs.World.{World}
use Rattle.ls_record.specs.Records.{Session, LiveSlot, history_of, shape_at}
use Rattle.ls_lawful.specs.Lawful.{LawfulOf, LawfulLive, LawfulSession}
use Rattle.ls_world.specs.Lawful.{LawfulRecords, Lawful}
use Rattle.ls_lawful.specs.CommandMode.{KeyLines, LawfulCommand}
use Rattle.ls_lawful.specs.Truths.{TellsOf, IsTrueOf}
use Rattle.ls_record.proofs.Each.{each_contains}
use Rattle.ls_lawful.proofs.Settled.{keys_rise, true_slot}
use Rattle.ls_event.specs.declared.event.Mode.TheVariants as mode

pub later_stays : (w : World) (s : Session) (v : LiveSlot) → Lawful w → Contains w.sessions s → Contains s.board.round v → v.slot.plan.mode ≡ mode.Command
    → (k : List ℕ) (newer between older : List Came) (late early : Came) → came v.sub v.rank s.board.lines ≡ newer ++ late ∷ between ++ early ∷ older
    → TellsOf (schema_of v.wanted v.slot.plan) k late.what → early.upto ≤ late.upto
later_stays w s v l in_world in_round command k newer between older late early is tells =
    let h = history_of w.items v.item in
    let a : LawfulSession w.items s = each_contains (LawfulSession w.items) s w.sessions l.records.sessions in_world in
    let b : LawfulLive w.items s.board.lines v = each_contains (LawfulLive w.items s.board.lines) v s.board.round a.board.slots in_round in
    let c : LawfulCommand h v.wanted v.slot (came v.sub v.rank s.board.lines) = subst
    (λ (m : Mode). LawfulOf m h v.wanted v.slot (came v.sub v.rank s.board.lines)) command b.came in
    keys_rise v.slot.plan.shape h v.wanted.places v.slot.last (schema_of v.wanted v.slot.plan) k newer between older late early
    (subst (λ (cs : List Came). KeyLines v.slot.plan.shape h v.wanted.places v.slot.last cs) is c.lines) tells

pub keys_stay : (w : World) (s : Session) (v : LiveSlot) → Lawful w → Contains w.sessions s → Contains s.board.round v → v.slot.plan.mode ≡ mode.Command
    → (k : List ℕ) (newer between older : List Came) (late early : Came) → came v.sub v.rank s.board.lines ≡ newer ++ late ∷ between ++ early ∷ older
    → TellsOf (schema_of v.wanted v.slot.plan) k late.what → TellsOf (schema_of v.wanted v.slot.plan) k early.what → early.upto ≤ late.upto
keys_stay w s v l in_world in_round command k newer between older late early is tells earlier =
    later_stays w s v l in_world in_round command k newer between older late early is tells

pub true_lives : (w : World) (s : Session) (v : LiveSlot) → LawfulRecords w → Contains w.sessions s → Contains s.board.round v
    → IsTrueOf v.slot.plan.mode (shape_at w.items v.item) (history_of w.items v.item) v.wanted.places (came v.sub v.rank s.board.lines)
true_lives w s v l in_world in_round =
    let k : LawfulSession w.items s = each_contains (LawfulSession w.items) s w.sessions l.sessions in_world in
    let m : LawfulLive w.items s.board.lines v = each_contains (LawfulLive w.items s.board.lines) v s.board.round k.board.slots in_round in
    subst (λ (p : Shape). IsTrueOf v.slot.plan.mode p (history_of w.items v.item) v.wanted.places (came v.sub v.rank s.board.lines)) m.shape
    (true_slot (history_of w.items v.item) v.wanted v.slot (came v.sub v.rank s.board.lines) m.came)
