-- What came to a client of an item is true of the item, and a settled client has the item's state.
use Rattle.std.proofs.Common.{◌≡◌, ℕ, ◌+◌, ◌<◌, ◌≤◌, refl, List, [], ◌∷◌, ◌++◌, length, sym, ◌∙◌, ap, arith, subst}
use Rattle.std.proofs.Common.{Bool, true, false, ◌||◌, nat_lt, Option, None, Some}
use Rattle.std.proofs.lemmas.Bool.{ltb-false}
use Rattle.std.specs.List.{Contains}
use Rattle.std.specs.Option.{option_map_or}
use Rattle.ls_value.specs.Values.{projected, nulls}
use Rattle.ls_value.specs.declared.row.Value.{Value}
use Rattle.ls_event.specs.declared.event.Entry.{Entry}
use Rattle.ls_event.specs.declared.event.Mode.{Mode}
use Rattle.ls_event.specs.History.{merged}
use Rattle.ls_event.specs.Shapes.{Shape}
use Rattle.ls_event.specs.Slots.{Plan, Slot}
use Rattle.ls_mirror.specs.declared.command.KeyPlaces.{KeyPlaces}
use Rattle.ls_mirror.specs.Client.{What, Row, Lost, Cleared, End}
use Rattle.ls_record.specs.Came.{Came, whats}
use Rattle.ls_event.specs.Cuts.{is_behind, is_pending, pending_of}
use Rattle.ls_record.specs.Lines.{last_row}
use Rattle.ls_record.specs.Cutting.{Wanted, client_row}
use Rattle.ls_value.specs.Each.{Each}
use Rattle.ls_lawful.specs.Lawful.{MayTell, IsMergeLine, MergeLines, LawfulMerge, LawfulOf, LawfulSlot}
use Rattle.ls_lawful.specs.CommandMode.{cursor_of_key, AgreesAt, NoTurn, IsKeyLine, AreUpTo, KeyLines, LawfulCommand}
use Rattle.ls_lawful.specs.Truths.{HadState, TellsOf, IsTrueOf}
use Rattle.ls_record.proofs.Each.{each_contains, each_within}
use Rattle.ls_lawful.proofs.Frame.{or_right}
use Rattle.ls_lawful.proofs.RawTruths.{true_raw}
use Rattle.ls_lawful.proofs.DistinctTruths.{true_distinct}
use Rattle.ls_event.specs.declared.event.Mode.TheVariants as mode

-- once nothing waits, the client has the item's state at the last enqueue
settled_merge : (h : List Entry) (w : Wanted) (s : Slot) (cs : List Came) → LawfulMerge h w s cs → is_behind s ≡ false → s.has_started ≡ true
    → last_row cs ≡ Some (projected (merged s.plan.shape.fields h s.last) w.places)
settled_merge h w s cs l none given =
    let reached = ltb-false s.cursor s.last (or_right (nat_lt 0 s.owed || s.ends) (nat_lt s.cursor s.last) none) in
    let e : s.cursor ≡ s.last = omega (arith, reached, l.behind) in
    l.row given ∙ ap (λ n. Some (projected (merged s.plan.shape.fields h n) w.places)) e

pub settled_row : (h : List Entry) (w : Wanted) (s : Slot) (cs : List Came) → LawfulSlot h w s cs → s.plan.mode ≡ mode.Merge → is_pending h s ≡ false
    → s.has_started ≡ true → last_row cs ≡ Some (projected (merged s.plan.shape.fields h s.last) w.places)
settled_row h w s cs l merge none given =
    settled_merge h w s cs (subst (λ (m : Mode). LawfulOf m h w s cs) merge l) (sym (ap (λ (m : Mode). pending_of m h s) merge) ∙ none) given

pub settled : (h : List Entry) (w : Wanted) (s : Slot) (cs : List Came) → LawfulSlot h w s cs → s.plan.mode ≡ mode.Merge → is_pending h s ≡ false
    → s.has_started ≡ true → client_row (length w.places) cs ≡ projected (merged s.plan.shape.fields h s.last) w.places
settled h w s cs l merge none given = ap (λ o. option_map_or (λ r. r) o (nulls (length w.places))) (settled_row h w s cs l merge none given)

-- where there is a state to tell, a line came once nothing waits
settled_starts : (h : List Entry) (w : Wanted) (s : Slot) (cs : List Came) → LawfulMerge h w s cs → is_behind s ≡ false
    → MayTell w.snapshot s.plan.base s.last → s.has_started ≡ true
settled_starts h w s cs l none may = by_flag s.has_started refl
  where
    by_flag : (v : Bool) → s.has_started ≡ v → v ≡ true
    by_flag true e = refl
    by_flag false e =
        absurd (omega (arith, l.waits e may, ltb-false s.cursor s.last (or_right (nat_lt 0 s.owed || s.ends) (nat_lt s.cursor s.last) none)))

settled_told : (h : List Entry) (w : Wanted) (s : Slot) (cs : List Came) → LawfulMerge h w s cs → s.plan.mode ≡ mode.Merge → is_pending h s ≡ false
    → MayTell w.snapshot s.plan.base s.last → last_row cs ≡ Some (projected (merged s.plan.shape.fields h s.last) w.places)
settled_told h w s cs l merge none may =
    let behind : is_behind s ≡ false = sym (ap (λ (m : Mode). pending_of m h s) merge) ∙ none in
    settled_merge h w s cs l behind (settled_starts h w s cs l behind may)

-- there is one with a snapshot of an item that had events, and where one came later
snapshot_may : (o : Option ℕ) (base n : ℕ) → (o ≡ None → ⊥) → 0 < base → base ≤ n → MayTell o base n
snapshot_may None base n asked some le = absurd (asked refl)
snapshot_may (Some k) base n asked some le = (omega (arith, some, le), le)

later_may : (o : Option ℕ) (base n : ℕ) → base < n → MayTell o base n
later_may None base n later = later
later_may (Some asked) base n later = (omega (arith, later), omega (arith, later))

pub settled_snapshot : (h : List Entry) (w : Wanted) (s : Slot) (cs : List Came) → LawfulSlot h w s cs → s.plan.mode ≡ mode.Merge → is_pending h s ≡ false
    → (w.snapshot ≡ None → ⊥) → 0 < s.plan.base → last_row cs ≡ Some (projected (merged s.plan.shape.fields h s.last) w.places)
settled_snapshot h w s cs l merge none asked some =
    let k : LawfulMerge h w s cs = subst (λ (m : Mode). LawfulOf m h w s cs) merge l in
    settled_told h w s cs k merge none (snapshot_may w.snapshot s.plan.base s.last asked some k.joined)

pub settled_later : (h : List Entry) (w : Wanted) (s : Slot) (cs : List Came) → LawfulSlot h w s cs → s.plan.mode ≡ mode.Merge → is_pending h s ≡ false
    → s.plan.base < s.last → last_row cs ≡ Some (projected (merged s.plan.shape.fields h s.last) w.places)
settled_later h w s cs l merge none later =
    settled_told h w s cs (subst (λ (m : Mode). LawfulOf m h w s cs) merge l) merge none (later_may w.snapshot s.plan.base s.last later)

-- and the cursor is the last number, except in mode COMMAND, where it is that of a Clear
at_last : (s : Slot) → s.cursor ≤ s.last → is_behind s ≡ false → s.cursor ≡ s.last
at_last s behind none = omega (arith, behind, ltb-false s.cursor s.last (or_right (nat_lt 0 s.owed || s.ends) (nat_lt s.cursor s.last) none))

pub settled_place : (h : List Entry) (w : Wanted) (s : Slot) (cs : List Came) → LawfulSlot h w s cs → (s.plan.mode ≡ mode.Command → ⊥) → is_pending h s ≡ false
    → s.cursor ≡ s.last
settled_place h w s cs l other none = by_mode s.plan.mode other l none
  where
    by_mode : (m : Mode) → (m ≡ mode.Command → ⊥) → LawfulOf m h w s cs → pending_of m h s ≡ false → s.cursor ≡ s.last
    by_mode mode.Merge other k none = at_last s k.behind none
    by_mode mode.Raw other k none = at_last s k.behind none
    by_mode mode.Distinct other k none = at_last s k.behind none
    by_mode mode.Command other k none = absurd (other refl)

-- in mode COMMAND each key that had its turn is at the client as the item had it at the key's cursor, and another one is absent there: it waits, or there is
-- nothing to tell of it
pub key_agrees : (h : List Entry) (w : Wanted) (s : Slot) (cs : List Came) → LawfulSlot h w s cs → s.plan.mode ≡ mode.Command → (k : List ℕ)
    → AgreesAt h w s cs k (cursor_of_key k s.key_cursors) × (cursor_of_key k s.key_cursors ≡ None → NoTurn h w s k)
key_agrees h w s cs l command k =
    let c : LawfulCommand h w s cs = subst (λ (m : Mode). LawfulOf m h w s cs) command l in
    (c.agrees k, c.first k)

-- each line is one of mode MERGE, and those behind another one have lower numbers
merge_lines_each : (p : Plan) (w : Wanted) (h : List Entry) (top : ℕ) (cs : List Came) → MergeLines p w h top cs → Each (IsMergeLine p w h) cs
merge_lines_each p w h top [] l = tt
merge_lines_each p w h top (c ∷ cs) l = (l.1, merge_lines_each p w h c.upto cs l.2)

pub merge_row : (h : List Entry) (w : Wanted) (s : Slot) (cs : List Came) → LawfulSlot h w s cs → s.plan.mode ≡ mode.Merge → (c : Came) → Contains cs c
    → IsMergeLine s.plan w h c
merge_row h w s cs l merge c in_cs =
    let k : LawfulMerge h w s cs = subst (λ (m : Mode). LawfulOf m h w s cs) merge l in
    each_contains (IsMergeLine s.plan w h) c cs (merge_lines_each s.plan w h (s.cursor + 1) cs k.lines) in_cs

below_top : (p : Plan) (w : Wanted) (h : List Entry) (top : ℕ) (between older : List Came) (early : Came) → MergeLines p w h top (between ++ early ∷ older)
    → early.upto < top
below_top p w h top [] older early l = l.0
below_top p w h top (c ∷ between) older early l = omega (arith, l.0, below_top p w h c.upto between older early l.2)

merge_lines_rise : (p : Plan) (w : Wanted) (h : List Entry) (top : ℕ) (newer between older : List Came) (late early : Came)
    → MergeLines p w h top (newer ++ late ∷ between ++ early ∷ older) → early.upto < late.upto
merge_lines_rise p w h top [] between older late early l = below_top p w h late.upto between older early l.2
merge_lines_rise p w h top (c ∷ newer) between older late early l = merge_lines_rise p w h c.upto newer between older late early l.2

had_state : (p : Plan) (w : Wanted) (h : List Entry) (c : Came) (r : List Value) → IsMergeLine p w h c → c.what ≡ Row r → HadState p.shape h w.places c.upto r
had_state p w h c r l is =
    let e : Row r ≡ Row (projected (merged p.shape.fields h c.upto) w.places) = sym is ∙ l.row in
    record { within = omega (arith, l.reached, l.within); row = cc }

true_merge : (h : List Entry) (w : Wanted) (s : Slot) (cs : List Came) → LawfulMerge h w s cs → IsTrueOf mode.Merge s.plan.shape h w.places cs
true_merge h w s cs l =
    record {
      had = λ newer older c r is what. had_state s.plan w h c r (each_within (IsMergeLine s.plan w h) newer older c
          (subst (Each (IsMergeLine s.plan w h)) is (merge_lines_each s.plan w h (s.cursor + 1) cs l.lines))) what;
      rise = λ newer between older late early is. merge_lines_rise s.plan w h (s.cursor + 1) newer between older late early
          (subst (λ (xs : List Came). MergeLines s.plan w h (s.cursor + 1) xs) is l.lines);
    }

-- each line is one of mode COMMAND, and those behind another one came no later
key_line_at : (p : Shape) (h : List Entry) (places : List ℕ) (top : ℕ) (newer older : List Came) (c : Came) → KeyLines p h places top (newer ++ c ∷ older)
    → IsKeyLine p h places (whats older) c
key_line_at p h places top [] older c l = l.1
key_line_at p h places top (x ∷ newer) older c l = key_line_at p h places x.at newer older c l.2

by_then : (p : Shape) (h : List Entry) (places : List ℕ) (top : ℕ) (between older : List Came) (early : Came)
    → KeyLines p h places top (between ++ early ∷ older) → early.at ≤ top
by_then p h places top [] older early l = l.0
by_then p h places top (c ∷ between) older early l = omega (arith, l.0, by_then p h places c.at between older early l.2)

key_lines_rise : (p : Shape) (h : List Entry) (places : List ℕ) (top : ℕ) (newer between older : List Came) (late early : Came)
    → KeyLines p h places top (newer ++ late ∷ between ++ early ∷ older) → early.at ≤ late.at
key_lines_rise p h places top [] between older late early l = by_then p h places late.at between older early l.2
key_lines_rise p h places top (c ∷ newer) between older late early l = key_lines_rise p h places c.at newer between older late early l.2

-- each is told of at a number no lower than before
up_to_at_most : (n : ℕ) (between older : List Came) (early : Came) → AreUpTo n (between ++ early ∷ older) → early.upto ≤ n
up_to_at_most n [] older early t = t.0
up_to_at_most n (c ∷ between) older early t = up_to_at_most n between older early t.1

pub keys_rise : (p : Shape) (h : List Entry) (places : List ℕ) (top : ℕ) (at : KeyPlaces) (k : List ℕ) (newer between older : List Came) (late early : Came)
    → KeyLines p h places top (newer ++ late ∷ between ++ early ∷ older) → TellsOf at k late.what → early.upto ≤ late.upto
keys_rise p h places top at k (c ∷ newer) between older late early l tells = keys_rise p h places c.at at k newer between older late early l.2 tells
keys_rise p h places top at k [] between older late early l tells = by_what late.what refl tells
  where
    first : IsKeyLine p h places (whats older) early
    first = key_line_at p h places late.at between older early l.2

    by_what : (what : What) → late.what ≡ what → TellsOf at k what → early.upto ≤ late.upto
    by_what (Row r) is t = omega (arith, (l.1.rows r is).0, first.reached, by_then p h places late.at between older early l.2)
    by_what (Lost n) is t = absurd t
    by_what Cleared is t = up_to_at_most late.upto between older early (l.3 is)
    by_what End is t = absurd t

true_command : (h : List Entry) (w : Wanted) (s : Slot) (cs : List Came) → LawfulCommand h w s cs → IsTrueOf mode.Command s.plan.shape h w.places cs
true_command h w s cs l =
    record {
      had = λ newer older c r is what.
          ((key_line_at s.plan.shape h w.places s.last newer older c (subst (KeyLines s.plan.shape h w.places s.last) is l.lines)).rows r what).1;
      rise = λ newer between older late early is. key_lines_rise s.plan.shape h w.places s.last newer between older late early
          (subst (KeyLines s.plan.shape h w.places s.last) is l.lines);
    }

pub true_slot : (h : List Entry) (w : Wanted) (s : Slot) (cs : List Came) → LawfulSlot h w s cs → IsTrueOf s.plan.mode s.plan.shape h w.places cs
true_slot h w s cs l = by_mode s.plan.mode l
  where
    by_mode : (m : Mode) → LawfulOf m h w s cs → IsTrueOf m s.plan.shape h w.places cs
    by_mode mode.Merge k = true_merge h w s cs k
    by_mode mode.Raw k = true_raw s.plan.shape h w s cs k
    by_mode mode.Distinct k = true_distinct s.plan.shape h w s cs k
    by_mode mode.Command k = true_command h w s cs k
