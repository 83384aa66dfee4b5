-- A client can decode the lines of a session's board: they can be written and read again, and each step keeps that.
use Rattle.std.proofs.Common.{◌≡◌, ◌==◌, ℕ, zero, suc, ◌+◌, ◌<◌, ◌≤◌, ◌^◌, List, [], ◌∷◌, ◌++◌, length, refl, sym}
use Rattle.std.proofs.Common.{◌∙◌, ap, arith, subst, cond, Bool, true, false, ◌&&◌, Option, Some, None, IfSome, map}
use Rattle.std.proofs.Common.{nat_lt, codes, option_map, inl, inr}
use Rattle.std.proofs.lemmas.Bool.{eq-eqb, eqb-true}
use Rattle.ls_value.specs.declared.row.Value.{Value}
use Rattle.ls_value.proofs.Rows.{and_left}
use Rattle.ls_event.specs.declared.event.Entry.{Entry}
use Rattle.ls_event.specs.declared.event.Mode.{Mode}
use Rattle.ls_event.specs.Shapes.{Shape}
use Rattle.ls_event.specs.Joining.{plan_of}
use Rattle.ls_event.specs.Publishes.{IsHistory}
use Rattle.ls_event.specs.Updates.{updates_between}
use Rattle.ls_event.specs.Slots.{Plan, Slot, enqueued}
use Rattle.ls_request.specs.declared.request.Add.{Add}
use Rattle.ls_line.specs.Lines.{IsWritable}
use Rattle.ls_mirror.specs.declared.command.KeyPlaces.{KeyPlaces}
use Rattle.ls_mirror.specs.Client.{Begun, begun_as, begun_after, What, Row, Lost, Cleared, End}
use Rattle.ls_record.specs.Came.{Came, whats}
use Rattle.ls_record.specs.Tables.{keys_shown_at}
use Rattle.ls_record.specs.Cutting.{Ask, Wanted, schema_of, turn}
use Rattle.ls_record.specs.Lines.{Line, Begins, Ends, Configures, Answers, Tells, MessageOutcome, came, last_row, tells_line}
use Rattle.ls_record.specs.Lines.{begins_line, outcome_line, wire}
use Rattle.ls_record.specs.Records.{Item, LiveSlot, Board, Session, RoundLine, Round, definitions, history_of, shape_at}
use Rattle.ls_record.specs.Records.{joined_slot, is_at, is_of, keys_in, keys_shown, are_filtered, joined_all, added}
use Rattle.ls_record.specs.Records.{without, removed, enqueue_at, enqueue_slot, live_turn, round_of, taken_in}
use Rattle.ls_record.specs.Records.{numbered, timed_out, is_timed_out, unless_timed_out, ended, frequency_in}
use Rattle.ls_record.specs.Records.{frequency_of, is_filtered, mode_in, with_frequency, reconfigured, is_due}
use Rattle.ls_record.specs.Records.{with_outcome}
use Rattle.ls_record.specs.Acting.{asks_of}
use Rattle.ls_record.specs.Turning.{SessionTurn, session_turn}
use Rattle.ls_record.proofs.Parts.{turn_if, met_by, given_by}
use Rattle.ls_lawful.specs.RawMode.{RawSays}
use Rattle.ls_lawful.specs.DistinctMode.{DistinctSays}
use Rattle.ls_value.specs.Each.{Each}
use Rattle.ls_lawful.specs.Lawful.{LawfulOf, LawfulSlot, LawfulLive, LawfulBoard, LawfulSession, IsSound, IsMergeLine}
use Rattle.ls_lawful.specs.Lawful.{ClientDecodes, ClientsDecode}
use Rattle.ls_lawful.specs.ClientKeys.{KeysOf}
use Rattle.ls_lawful.specs.Ranges.{IsOrdinal}
use Rattle.ls_record.proofs.Each.{each_map, each_mapped, each_both}
use Rattle.ls_value.proofs.Each.{each_append}
use Rattle.ls_lawful.proofs.Asked.{schema_keys, IsAsk, IsAsked}
use Rattle.ls_lawful.proofs.Requested.{IsAdd}
use Rattle.ls_lawful.proofs.Modes.{joined_plan, turn_plan}
use Rattle.ls_lawful.proofs.Frame.{unused_each, without_each, without_others, take_keeps}
use Rattle.ls_lawful.proofs.Heard.{wires, RowFits, tells_begun, outcome_begun, has_come, CanWrite, HasNoOutcome, are_read}
use Rattle.ls_lawful.proofs.Updates.{updates_few}
use Rattle.ls_lawful.proofs.KeyTables.{places_from_one}
use Rattle.ls_lawful.proofs.ClientKeys.{decoded_keys}
use Rattle.ls_lawful.proofs.DistinctTruths.{IsLine, distinct_each}
use Rattle.ls_lawful.proofs.LimitTexts.{limit_written}
use Rattle.ls_event.specs.Textual.{Textual, TextualEvent}
use Rattle.ls_lawful.proofs.Textual.{KeyLineFits, key_line, plain_utf8, turn_fits, slot_fits}
use Rattle.ls_record.proofs.Rules.{cond_rule}
use Rattle.ls_lawful.proofs.Sessions.{turn_rule, next_rule}
use Rattle.ls_event.specs.declared.event.Mode.TheVariants as mode
use Rattle.ls_event.specs.declared.item.Kind.TheVariants as kind

-- the subscription of a slot of mode COMMAND, whose item has keys, was begun_as by a SUBCMD with the places of the key and the command in its schema
pub record IsBegun (v : LiveSlot) (keyed : Option KeyPlaces) : Type 0 where
  pub kind : v.slot.plan.shape.kind ≡ kind.Command
  pub places : keyed ≡ Some (places_from_one (schema_of v.wanted v.slot.plan))

abbrev BegunIn : Mode → LiveSlot → Option KeyPlaces → Type 0
BegunIn mode.Command v keyed = IsBegun v keyed
BegunIn mode.Merge v keyed = keyed ≡ None
BegunIn mode.Raw v keyed = keyed ≡ None
BegunIn mode.Distinct v keyed = keyed ≡ None

-- the subscription of a slot has begun_as, shows its fields, and each row that came has a text or null for each of them
pub record Shown (lines : List Line) (v : LiveSlot) : Type 0 where
  pub subscription : Begun
  pub is : begun_as v.sub (wires lines) ≡ Some subscription
  pub sub : IsOrdinal v.sub
  pub rank : IsOrdinal v.rank
  pub within : v.rank ≤ subscription.items
  pub some : 1 ≤ subscription.fields
  pub most : subscription.fields ≤ 999999999
  pub schema : length v.wanted.places ≡ subscription.fields
  pub keyed : BegunIn v.slot.plan.mode v subscription.keyed
  pub rows : Each (RowFits subscription.fields) (whats (came v.sub v.rank lines))

pub record LegibleBoard (b : Board) : Type 0 where
  pub lines : CanWrite b.lines
  pub slots : Each (Shown b.lines) b.round

-- what is shown doesn't rest on the slot's numbers
begun_moved : (v : LiveSlot) (s : Slot) (keyed : Option KeyPlaces) → s.plan ≡ v.slot.plan → IsBegun v keyed → IsBegun (record v { slot = s }) keyed
begun_moved v s keyed same b =
    record {
      kind = ap (λ (p : Plan). p.shape.kind) same ∙ b.kind;
      places = b.places ∙ ap (λ (p : Plan). Some (places_from_one (schema_of v.wanted p))) (sym same);
    }

in_mode_moved : (m : Mode) (v : LiveSlot) (s : Slot) (keyed : Option KeyPlaces) → s.plan ≡ v.slot.plan → BegunIn m v keyed → BegunIn m (record v { slot = s }) keyed
in_mode_moved mode.Command v s keyed same b = begun_moved v s keyed same b
in_mode_moved mode.Merge v s keyed same b = b
in_mode_moved mode.Raw v s keyed same b = b
in_mode_moved mode.Distinct v s keyed same b = b

pub shown_moved : (lines : List Line) (v : LiveSlot) (s : Slot) → s.plan ≡ v.slot.plan → Shown lines v → Shown lines (record v { slot = s })
shown_moved lines v s same h =
    record {
      subscription = h.subscription;
      is = h.is;
      sub = h.sub;
      rank = h.rank;
      within = h.within;
      some = h.some;
      most = h.most;
      schema = h.schema;
      keyed = in_mode_moved s.plan.mode v s h.subscription.keyed same (subst (λ (p : Plan). BegunIn p.mode v h.subscription.keyed) (sym same) h.keyed);
      rows = h.rows;
    }

-- nor on its number on its item
in_mode_numbered : (m : Mode) (v : LiveSlot) (n : ℕ) (keyed : Option KeyPlaces) → BegunIn m v keyed → BegunIn m (record v { number = n }) keyed
in_mode_numbered mode.Command v n keyed b = record { kind = b.kind; places = b.places }
in_mode_numbered mode.Merge v n keyed b = b
in_mode_numbered mode.Raw v n keyed b = b
in_mode_numbered mode.Distinct v n keyed b = b

pub shown_numbered : (lines : List Line) (v : LiveSlot) (n : ℕ) → Shown lines v → Shown lines (record v { number = n })
shown_numbered lines v n h =
    record {
      subscription = h.subscription;
      is = h.is;
      sub = h.sub;
      rank = h.rank;
      within = h.within;
      some = h.some;
      most = h.most;
      schema = h.schema;
      keyed = in_mode_numbered v.slot.plan.mode v n h.subscription.keyed h.keyed;
      rows = h.rows;
    }

-- slots of one subscription have its fields
same_fields : (sub other : ℕ) (lines : List Line) (b c : Begun) → begun_as sub (wires lines) ≡ Some b → begun_as other (wires lines) ≡ Some c → sub ≡ other
    → b.fields ≡ c.fields
same_fields sub other lines b c is is' same =
    let e : begun_as other (wires lines) ≡ Some b = subst (λ (n : ℕ). begun_as n (wires lines) ≡ Some b) same is in
    let f : Some b ≡ Some c = sym e ∙ is' in
    ap (λ (x : Begun). x.fields) (the_same f)
  where
    the_same : Some b ≡ Some c → b ≡ c
    the_same f = cc

-- behind a line that tells of one slot, each is shown
shown_behind : (lines : List Line) (t : LiveSlot) (tick : ℕ) (c : Came) (v : LiveSlot) → Shown lines t → RowFits (length t.wanted.places) c.what → Shown lines v
    → Shown (Tells t.sub t.rank tick c ∷ lines) v
shown_behind lines t tick c v k fits h =
    record {
      subscription = h.subscription;
      is = tells_begun (last_row (came t.sub t.rank lines)) v.sub t.sub t.rank c.what (begun_as v.sub (wires lines)) ∙ h.is;
      sub = h.sub;
      rank = h.rank;
      within = h.within;
      some = h.some;
      most = h.most;
      schema = h.schema;
      keyed = h.keyed;
      rows = by_test ((t.sub == v.sub) && (t.rank == v.rank)) refl;
    }
  where
    by_test : (b : Bool) → ((t.sub == v.sub) && (t.rank == v.rank)) ≡ b → Each (RowFits h.subscription.fields)
        (whats (cond b (c ∷ came v.sub v.rank lines) (came v.sub v.rank lines)))
    by_test true e =
        let same : t.sub ≡ v.sub = eqb-true t.sub v.sub (and_left (t.sub == v.sub) (t.rank == v.rank) e) in
        (subst (λ (n : ℕ). RowFits n c.what) (k.schema ∙ same_fields t.sub v.sub lines k.subscription h.subscription k.is h.is same) fits, h.rows)
    by_test false e = h.rows

-- an enqueue
pub shown_enqueued : (items : List Item) (lines : List Line) (sub rank : ℕ) (v : LiveSlot) → Shown lines v → Shown lines (enqueue_at items sub rank v)
shown_enqueued items lines sub rank v h =
    cond_rule (Shown lines) (is_at sub rank v) (enqueue_slot (history_of items v.item) v) v
    (λ t. cond_rule (Shown lines) (nat_lt v.slot.last (length (history_of items v.item))) (record v { slot = enqueued v.slot }) v
    (λ u. shown_moved lines v (enqueued v.slot) refl h) (λ u. h))
    (λ t. h)

-- a round that was asked has the same slots, and the line of one of mode COMMAND fits
abbrev IsKeyTurn : ℕ → Slot → Option Came → Type 0
IsKeyTurn n s o = s.plan.mode ≡ mode.Command → IfSome o (λ c. KeyLineFits n c.what)

abbrev pub ShownLine : List Line → Option RoundLine → Type 0
ShownLine lines None = Unit {0}
ShownLine lines (Some t) = Shown lines t.live × (t.live.slot.plan.mode ≡ mode.Command → KeyLineFits (length t.live.wanted.places) t.came.what)

record ShownRound (lines : List Line) (r : Round) : Type 0 where
  kept : Each (Shown lines) r.kept
  came : ShownLine lines r.came

shown_met : (lines : List Line) (v : LiveSlot) (s : Slot) (o : Option Came) (vs : List LiveSlot) (r : Round) → s.plan ≡ v.slot.plan → Shown lines v
    → IsKeyTurn (length v.wanted.places) s o → Each (Shown lines) vs → ShownRound lines r
    → ShownRound lines (met_by (record v { slot = s }) o vs r)
shown_met lines v s (Some c) vs r same h k each rest = record { kept = each; came = (shown_moved lines v s same h, k) }
shown_met lines v s None vs r same h k each rest = record { kept = (shown_moved lines v s same h, rest.kept); came = rest.came }

due_plan : (due : LiveSlot → Bool) (items : List Item) (lines : List Line) (v : LiveSlot) → (live_turn due items lines v).slot.plan ≡ v.slot.plan
due_plan due items lines v = by_due (due v)
  where
    by_due : (b : Bool) → (turn_if b v.slot (turn (history_of items v.item) v.wanted v.slot (came v.sub v.rank lines))).slot.plan ≡ v.slot.plan
    by_due true = turn_plan (history_of items v.item) v.wanted v.slot (came v.sub v.rank lines)
    by_due false = refl

key_turn : (due : LiveSlot → Bool) (items : List Item) (lines : List Line) (v : LiveSlot) → Textual (history_of items v.item) → Shown lines v
    → IsKeyTurn (length v.wanted.places) (live_turn due items lines v).slot (live_turn due items lines v).came
key_turn due items lines v t h = by_due (due v)
  where
    by_due : (b : Bool) → IsKeyTurn (length v.wanted.places) (turn_if b v.slot (turn (history_of items v.item) v.wanted v.slot (came v.sub v.rank lines))).slot
        (turn_if b v.slot (turn (history_of items v.item) v.wanted v.slot (came v.sub v.rank lines))).came
    by_due true = λ command.
        turn_fits (history_of items v.item) v.wanted v.slot (came v.sub v.rank lines) t
        (sym (ap (λ (p : Plan). p.mode) (turn_plan (history_of items v.item) v.wanted v.slot (came v.sub v.rank lines))) ∙ command)
        (subst (λ (n : ℕ). Each (RowFits n) (whats (came v.sub v.rank lines))) (sym h.schema) h.rows)
    by_due false = λ command. tt

abbrev pub AreTextual : List Item → Type 0
AreTextual items = Each (λ (i : Item). Textual i.history) items

pub textual_at : (items : List Item) (n : ℕ) → AreTextual items → Textual (history_of items n)
textual_at [] n e = tt
textual_at (i ∷ items) zero e = e.0
textual_at (i ∷ items) (suc n) e = textual_at items n e.1

shown_round : (due : LiveSlot → Bool) (items : List Item) (lines : List Line) (vs : List LiveSlot) → AreTextual items → Each (Shown lines) vs
    → ShownRound lines (round_of due items lines vs)
shown_round due items lines [] t e = record { kept = tt; came = tt }
shown_round due items lines (v ∷ vs) t e =
    shown_met lines v (live_turn due items lines v).slot (live_turn due items lines v).came vs (round_of due items lines vs) (due_plan due items lines v) e.0
    (key_turn due items lines v (textual_at items v.item t) e.0) e.1 (shown_round due items lines vs t e.1)

-- a line of a lawful slot counts no loss past its history
abbrev CanTell : What → Type 0
CanTell (Row r) = Unit {0}
CanTell (Lost k) = k ≤ 2 ^ 60
CanTell Cleared = Unit {0}
CanTell End = Unit {0}

raw_tells : (places : List ℕ) (h : List Entry) (c : Came) (what : What) → length h ≤ 2 ^ 60 → c.upto ≤ length h
    → RawSays places what (updates_between h c.before c.upto) → CanTell what
raw_tells places h c (Row r) few within says = tt
raw_tells places h c (Lost k) few within says = omega (arith, says, updates_few h c.before c.upto within, within, few)
raw_tells places h c Cleared few within says = tt
raw_tells places h c End few within says = tt

distinct_says : (places : List ℕ) (size : ℕ) (h : List Entry) (c : Came) (what : What) → DistinctSays places size h c what → CanTell what
distinct_says places size h c (Row r) says = tt
distinct_says places size h c (Lost k) says = absurd says
distinct_says places size h c Cleared says = tt
distinct_says places size h c End says = tt

distinct_tells : (places : List ℕ) (p : Plan) (h : List Entry) (c : Came) → IsLine places p h c → CanTell c.what
distinct_tells places p h c (inl l) = subst CanTell (sym l.says) tt
distinct_tells places p h c (inr (inl l)) = subst CanTell (sym l.says) tt
distinct_tells places p h c (inr (inr l)) = distinct_says places p.size h c c.what l.says

key_tells : (n : ℕ) (what : What) → KeyLineFits n what → CanTell what
key_tells n (Row r) h = tt
key_tells n (Lost k) h = absurd h
key_tells n Cleared h = tt
key_tells n End h = tt

slot_tells : (h : List Entry) (w : Wanted) (s : Slot) (c : Came) (cs : List Came) → length h ≤ 2 ^ 60 → LawfulSlot h w s (c ∷ cs)
    → (s.plan.mode ≡ mode.Command → KeyLineFits (length w.places) c.what) → CanTell c.what
slot_tells h w s c cs few l command = by_mode s.plan.mode refl l
  where
    by_line : IsMergeLine s.plan w h c → CanTell c.what
    by_line m = subst CanTell (sym m.row) tt

    by_mode : (m : Mode) → s.plan.mode ≡ m → LawfulOf m h w s (c ∷ cs) → CanTell c.what
    by_mode mode.Merge is l = by_line l.lines.1
    by_mode mode.Raw is l = raw_tells w.places h c c.what few (omega (arith, l.lines.1.reached, l.lines.1.within)) l.lines.1.says
    by_mode mode.Distinct is l = distinct_tells w.places s.plan h c (distinct_each h w s (c ∷ cs) l).0
    by_mode mode.Command is l = key_tells (length w.places) c.what (command is)

-- a history counts no more events than a line can
history_few : (items : List Item) (n : ℕ) → Each IsSound items → length (history_of items n) ≤ 2 ^ 60
history_few [] n e = omega arith
history_few (i ∷ items) zero e = e.0.history.few
history_few (i ∷ items) (suc n) e = history_few items n e.1

-- the line of a lawful slot can be written, and its row fits
record LineIs (v : LiveSlot) (c : Came) : Type 0 where
  can : CanTell c.what
  fits : RowFits (length v.wanted.places) c.what

line_is : (items : List Item) (lines : List Line) (v : LiveSlot) (tick : ℕ) (c : Came) → Each IsSound items → AreTextual items
    → LawfulLive items (Tells v.sub v.rank tick c ∷ lines) v → (v.slot.plan.mode ≡ mode.Command → KeyLineFits (length v.wanted.places) c.what) → LineIs v c
line_is items lines v tick c sound t l command =
    let e : ((v.sub == v.sub) && (v.rank == v.rank)) ≡ true = rw (eq-eqb v.sub v.sub refl, eq-eqb v.rank v.rank refl) in
    let f : came v.sub v.rank (Tells v.sub v.rank tick c ∷ lines) ≡ c ∷ came v.sub v.rank lines =
    ap (λ (b : Bool). cond b (c ∷ came v.sub v.rank lines) (came v.sub v.rank lines)) e in
    let lawful = subst (λ (cs : List Came). LawfulSlot (history_of items v.item) v.wanted v.slot cs) f l.came in
    record {
      can = slot_tells (history_of items v.item) v.wanted v.slot c (came v.sub v.rank lines) (history_few items v.item sound) lawful command;
      fits = slot_fits (history_of items v.item) v.wanted v.slot c (came v.sub v.rank lines) (textual_at items v.item t) lawful
          (λ is. key_line (length v.wanted.places) c.what (command is));
    }

tells_writable : (prev : Option (List Value)) (sub rank : ℕ) (w : What) → IsOrdinal sub → IsOrdinal rank → CanTell w → IsWritable (tells_line prev sub rank w)
tells_writable prev sub rank (Row r) s p t = ((s.some, s.most), ((p.some, p.most), (tt, tt)))
tells_writable prev sub rank (Lost k) s p t = ((s.some, s.most), ((p.some, p.most), (t, tt)))
tells_writable prev sub rank Cleared s p t = ((s.some, s.most), ((p.some, p.most), tt))
tells_writable prev sub rank End s p t = ((s.some, s.most), ((p.some, p.most), tt))

each_last : {A : Type 0} (P : A → Type 0) (xs : List A) (x : A) → Each P (xs ++ x ∷ []) → P x
each_last P [] x e = e.0
each_last P (y ∷ xs) x e = each_last P xs x e.1

pub legible_given : (now : ℕ) (items : List Item) (b : Board) (kept : List LiveSlot) (o : Option RoundLine) → Each IsSound items → AreTextual items → CanWrite b.lines
    → Each (Shown b.lines) kept → ShownLine b.lines o → LawfulBoard items (given_by now b kept o)
    → LegibleBoard (given_by now b kept o)
legible_given now items b kept None sound t c k s l = record { lines = c; slots = k }
legible_given now items b kept (Some x) sound t c k s l =
    let is : LineIs x.live x.came =
    line_is items b.lines x.live now x.came sound t
    (each_last (LawfulLive items (Tells x.live.sub x.live.rank now x.came ∷ b.lines)) kept x.live l.slots) s.1 in
    record {
      lines = (tells_writable (last_row (came x.live.sub x.live.rank b.lines)) x.live.sub x.live.rank x.came.what s.0.sub s.0.rank is.can, c);
      slots = each_append (Shown (Tells x.live.sub x.live.rank now x.came ∷ b.lines)) kept (x.live ∷ [])
          (each_map (Shown b.lines) (Shown (Tells x.live.sub x.live.rank now x.came ∷ b.lines)) kept
          (λ v h. shown_behind b.lines x.live now x.came v s.0 is.fits h) k)
          (shown_behind b.lines x.live now x.came x.live s.0 is.fits s.0, tt);
    }

pub legible_taken : (due : LiveSlot → Bool) (now : ℕ) (items : List Item) (b : Board) → Each IsSound items → AreTextual items → LawfulBoard items b
    → LegibleBoard b → LegibleBoard (taken_in due now items b)
legible_taken due now items b sound t l h =
    let r = shown_round due items b.lines b.round t h.slots in
    legible_given now items b (round_of due items b.lines b.round).kept (round_of due items b.lines b.round).came sound t h.lines r.kept r.came
    (take_keeps due now items b l)

-- a session's turn changes its board as its round does, or not at all
pub turned_board : (P : Board → Type 0) (now : ℕ) (items : List Item) (epoch : ℕ) (s : Session) → P s.board
    → P (taken_in (is_due now s) now items s.board) → P (session_turn now items epoch s).session.board
turned_board P now items epoch s p q =
    turn_rule (λ (t : SessionTurn). P t.session.board) now items epoch s (record {
      superseded = p;
      unbound = p;
      owes = λ text owed. p;
      loops = p;
      next = next_rule (λ (t : Session). P t.board) s p p;
      spent = p;
      waits = λ none. q;
      tells = λ t some. next_rule (λ (t : Session). P t.board) (numbered (taken_in (is_due now s) now items) s) q q;
      ending = λ code. p;
      over = λ code. p;
    })

-- a new subscription: the places of its key and command lie in its schema
abbrev KeysIn : ℕ → Option KeyPlaces → Type 0
KeysIn n None = Unit {0}
KeysIn n (Some at) = (at.key < n) × (at.command < n)

keys_shown_in : (items : List Item) (a : Add) (asks : List Ask) → Each (IsAsk items a) asks → KeysIn (length a.schema) (keys_shown items asks)
keys_shown_in items a [] e = tt
keys_shown_in items a (ask ∷ asks) e = by_mode ask.mode refl
  where
    of_command : ask.mode ≡ mode.Command → KeysIn (length a.schema) (keys_in mode.Command (keys_shown_at (shape_at items ask.item) ask.wanted.places))
    of_command command = let k = e.0.keys (sym e.0.mode ∙ command) in (omega (arith, k.key, e.0.schema), omega (arith, k.command, e.0.schema))

    by_mode : (m : Mode) → ask.mode ≡ m → KeysIn (length a.schema) (keys_in m (keys_shown_at (shape_at items ask.item) ask.wanted.places))
    by_mode mode.Merge is = tt
    by_mode mode.Raw is = tt
    by_mode mode.Distinct is = tt
    by_mode mode.Command is = of_command is

-- its two lines can be written
begins_writable : (sub items fields : ℕ) (o : Option KeyPlaces) → IsOrdinal sub → IsOrdinal items → IsOrdinal fields → KeysIn fields o
    → IsWritable (begins_line sub items fields o)
begins_writable sub items fields None s i f k = ((s.some, s.most), ((i.some, i.most), ((f.some, f.most), tt)))
begins_writable sub items fields (Some at) s i f k =
    ((s.some, s.most), ((i.some, i.most), ((f.some, f.most), ((omega arith, omega (arith, k.0, f.most)), ((omega arith, omega (arith, k.1, f.most)), tt)))))

configures_writable : (lines : List Line) (sub : ℕ) (frequency : Option ℕ) (filtered : Bool) → IsOrdinal sub
    → IsWritable (wire lines (Configures sub frequency filtered))
configures_writable lines sub frequency true s = ((s.some, s.most), (limit_written frequency, ((plain_utf8 (codes "filtered") refl, refl), tt)))
configures_writable lines sub frequency false s = ((s.some, s.most), (limit_written frequency, ((plain_utf8 (codes "unfiltered") refl, refl), tt)))

-- what begins by them
abbrev begun_of : ℕ → ℕ → Option KeyPlaces → Begun
begun_of items fields keys = record { items = items; fields = fields; keyed = option_map places_from_one keys }

begins : (sub other items fields : ℕ) (keys : Option KeyPlaces) (before : Option Begun) (b : Bool) → (sub == other) ≡ b
    → begun_after other (begins_line sub items fields keys) before ≡ cond b (Some (begun_of items fields keys)) before
begins sub other items fields None before b is = ap (λ (x : Bool). cond x (Some (begun_of items fields None)) before) is
begins sub other items fields (Some at) before b is = ap (λ (x : Bool). cond x (Some (begun_of items fields (Some at))) before) is

shown_begun : (lines : List Line) (sub items fields : ℕ) (keys : Option KeyPlaces) (frequency : Option ℕ) (filtered : Bool) (v : LiveSlot)
    → is_of sub v ≡ false → Shown lines v
    → Shown (Configures sub frequency filtered ∷ Begins sub items fields keys ∷ lines) v
shown_begun lines sub items fields keys frequency filtered v other h =
    record {
      subscription = h.subscription;
      is = begins sub v.sub items fields keys (begun_as v.sub (wires lines)) false other ∙ h.is;
      sub = h.sub;
      rank = h.rank;
      within = h.within;
      some = h.some;
      most = h.most;
      schema = h.schema;
      keyed = h.keyed;
      rows = subst (λ (cs : List Came). Each (RowFits h.subscription.fields) (whats cs)) (sym (ap (λ (b : Bool). cond b [] (came v.sub v.rank lines)) other))
          h.rows;
    }

-- what is asked of an item shows the fields of a subscription, and in mode COMMAND its key and command stand where SUBCMD tells
record AskShown (items : List Item) (fields : ℕ) (keyed : Option KeyPlaces) (a : Ask) : Type 0 where
  schema : length a.wanted.places ≡ fields
  kind : a.mode ≡ mode.Command → (shape_at items a.item).kind ≡ kind.Command
  keys : keyed ≡ keys_in a.mode (keys_shown_at (shape_at items a.item) a.wanted.places)

-- the slot that is made of it
abbrev asked_live : ℕ → ℕ → ℕ → Ask → Slot → LiveSlot
asked_live sub rank number a s =
    record { sub = sub; rank = rank; item = a.item; number = number; frequency = a.frequency; wanted = a.wanted; slot = s }

ask_begun : (items : List Item) (sub rank number fields : ℕ) (keyed : Option KeyPlaces) (a : Ask) → AskShown items fields keyed a → (s : Slot)
    → s.plan ≡ plan_of (shape_at items a.item) (history_of items a.item) a.mode a.size
    → BegunIn s.plan.mode (asked_live sub rank number a s) (option_map places_from_one keyed)
ask_begun items sub rank number fields keyed a k s is =
    subst (λ (p : Plan). BegunIn p.mode (asked_live sub rank number a s)
    (option_map places_from_one keyed)) (sym is) (by_mode a.mode refl)
  where
    by_mode : (m : Mode) → a.mode ≡ m → BegunIn m (asked_live sub rank number a s)
        (option_map places_from_one keyed)
    by_mode mode.Command e =
        record {
          kind = ap (λ (p : Plan). p.shape.kind) is ∙ k.kind e;
          places = ap (option_map places_from_one) (k.keys ∙ ap (λ (m : Mode). keys_in m (keys_shown_at (shape_at items a.item) a.wanted.places)) e)
              ∙ ap (λ (p : Plan). Some (places_from_one (schema_of a.wanted p))) (sym is);
        }
    by_mode mode.Merge e = ap (option_map places_from_one) (k.keys ∙ ap (λ (m : Mode). keys_in m (keys_shown_at (shape_at items a.item) a.wanted.places)) e)
    by_mode mode.Raw e = ap (option_map places_from_one) (k.keys ∙ ap (λ (m : Mode). keys_in m (keys_shown_at (shape_at items a.item) a.wanted.places)) e)
    by_mode mode.Distinct e = ap (option_map places_from_one) (k.keys ∙ ap (λ (m : Mode). keys_in m (keys_shown_at (shape_at items a.item) a.wanted.places)) e)

shown_joined : (items : List Item) (free : ℕ → ℕ) (lines : List Line) (sub many fields rank : ℕ) (keys : Option KeyPlaces) (frequency : Option ℕ)
    (filtered : Bool) (asks : List Ask)
    → IsOrdinal sub → IsOrdinal fields → many ≤ 999999999 → 1 ≤ rank → rank + length asks ≤ many + 1
    → Each (AskShown items fields keys) asks → Each (Shown (Configures sub frequency filtered ∷ Begins sub many fields keys ∷ lines))
    (joined_all items free sub rank asks)
shown_joined items free lines sub many fields rank keys frequency filtered [] s f few first last shown = tt
shown_joined items free lines sub many fields rank keys frequency filtered (a ∷ asks) s f few first last shown =
    let same : (sub == sub) ≡ true = eq-eqb sub sub refl in (
      record {
        subscription = begun_of many fields keys;
        is = begins sub sub many fields keys (begun_as sub (wires lines)) true same;
        sub = s;
        rank = record { some = first; most = omega (arith, last, few) };
        within = omega (arith, last);
        some = f.some;
        most = f.most;
        schema = shown.0.schema;
        keyed = ask_begun items sub rank (free a.item) fields keys a shown.0 (joined_slot items a)
            (joined_plan (plan_of (shape_at items a.item) (history_of items a.item) a.mode a.size) (history_of items a.item) a.wanted.snapshot);
        rows = subst (λ (cs : List Came). Each (RowFits fields) (whats cs)) (sym (ap (λ (b : Bool). cond b [] (came sub rank lines)) same)) tt;
      },
      shown_joined items free lines sub many fields (rank + 1) keys frequency filtered asks s f few (omega (arith, first)) (omega (arith, last)) shown.1,
    )

-- each item of a subscription shows its key and its command where its schema names them
ask_keys : (items : List Item) (a : Add) (ask : Ask) → IsAsk items a ask → keys_in ask.mode (keys_shown_at (shape_at items ask.item) ask.wanted.places)
    ≡ keys_in a.mode (schema_keys a.schema)
ask_keys items a ask k = ap (λ (m : Mode). keys_in m (keys_shown_at (shape_at items ask.item) ask.wanted.places)) k.mode ∙ by_mode a.mode refl
  where
    by_mode : (m : Mode) → a.mode ≡ m → keys_in m (keys_shown_at (shape_at items ask.item) ask.wanted.places) ≡ keys_in m (schema_keys a.schema)
    by_mode mode.Command e = ap Some (k.named e)
    by_mode mode.Merge e = refl
    by_mode mode.Raw e = refl
    by_mode mode.Distinct e = refl

first_keys : (items : List Item) (a : Add) (asks : List Ask) → 1 ≤ length asks → Each (IsAsk items a) asks
    → keys_shown items asks ≡ keys_in a.mode (schema_keys a.schema)
first_keys items a [] some k = absurd (omega (arith, some))
first_keys items a (ask ∷ asks) some k = ask_keys items a ask k.0

ask_shown : (items : List Item) (a : Add) (keyed : Option KeyPlaces) (ask : Ask) → keyed ≡ keys_in a.mode (schema_keys a.schema) → IsAsk items a ask
    → AskShown items (length a.schema) keyed ask
ask_shown items a keyed ask first k =
    record { schema = k.schema; kind = λ command. (k.keys (sym k.mode ∙ command)).kind; keys = first ∙ sym (ask_keys items a ask k) }

pub legible_added : (items : List Item) (taken : ℕ) (s : Session) (a : Add) (free : ℕ → ℕ) → IsAdd a → IsAsked items taken s a → LegibleBoard s.board
    → LegibleBoard (added items free a.sub (length a.schema) (asks_of (definitions items) a) s.board)
legible_added items taken s a free is k h =
    let asks : List Ask = asks_of (definitions items) a in
    let sub : IsOrdinal a.sub = record { some = is.some; most = is.most } in
    let fields : IsOrdinal (length a.schema) = record { some = k.some_fields; most = omega (arith, k.most_fields) } in
    record {
      lines = (
        configures_writable (Begins a.sub (length asks) (length a.schema) (keys_shown items asks) ∷ s.board.lines) a.sub (frequency_of asks)
            (are_filtered asks) sub,
        (
          begins_writable a.sub (length asks) (length a.schema) (keys_shown items asks) sub (record { some = k.some; most = omega (arith, k.most) }) fields
              (keys_shown_in items a asks k.each),
          h.lines,
        ),
      );
      slots = each_append
          (Shown (Configures a.sub (frequency_of asks) (are_filtered asks)
          ∷ Begins a.sub (length asks) (length a.schema) (keys_shown items asks) ∷ s.board.lines)) s.board.round
          (joined_all items free a.sub 1 asks)
          (each_map (λ (v : LiveSlot). (is_of a.sub v ≡ false) × Shown s.board.lines v)
          (Shown (Configures a.sub (frequency_of asks) (are_filtered asks)
          ∷ Begins a.sub (length asks) (length a.schema) (keys_shown items asks) ∷ s.board.lines))
          s.board.round
          (λ v x. shown_begun s.board.lines a.sub (length asks) (length a.schema) (keys_shown items asks) (frequency_of asks) (are_filtered asks) v x.0 x.1)
          (each_both (λ (v : LiveSlot). is_of a.sub v ≡ false) (Shown s.board.lines) s.board.round (unused_each a.sub s.board.round k.new) h.slots))
          (shown_joined items free s.board.lines a.sub (length asks) (length a.schema) 1 (keys_shown items asks) (frequency_of asks)
          (are_filtered asks) asks sub fields
          (omega (arith, k.most)) (omega arith) (omega arith)
          (each_map (IsAsk items a) (AskShown items (length a.schema) (keys_shown items asks)) asks
          (λ x y. ask_shown items a (keys_shown items asks) x (first_keys items a asks k.some k.each) y) k.each));
    }

-- a subscription that ends
ends_writable : (lines : List Line) (sub : ℕ) → IsOrdinal sub → IsWritable (wire lines (Ends sub))
ends_writable lines sub s = ((s.some, s.most), tt)

shown_ends : (lines : List Line) (sub : ℕ) (v : LiveSlot) → is_of sub v ≡ false → Shown lines v → Shown (Ends sub ∷ lines) v
shown_ends lines sub v other h =
    record {
      subscription = h.subscription;
      is = ap (λ (b : Bool). cond b None (begun_as v.sub (wires lines))) other ∙ h.is;
      sub = h.sub;
      rank = h.rank;
      within = h.within;
      some = h.some;
      most = h.most;
      schema = h.schema;
      keyed = h.keyed;
      rows = subst (λ (cs : List Came). Each (RowFits h.subscription.fields) (whats cs)) (sym (ap (λ (b : Bool). cond b [] (came v.sub v.rank lines)) other))
          h.rows;
    }

pub legible_removed : (sub : ℕ) (b : Board) → IsOrdinal sub → LegibleBoard b → LegibleBoard (removed sub b)
legible_removed sub b s h =
    record {
      lines = (ends_writable b.lines sub s, h.lines);
      slots = each_map (λ (v : LiveSlot). (is_of sub v ≡ false) × Shown b.lines v) (Shown (Ends sub ∷ b.lines)) (without sub b.round)
          (λ v x. shown_ends b.lines sub v x.0 x.1)
          (each_both (λ (v : LiveSlot). is_of sub v ≡ false) (Shown b.lines) (without sub b.round) (without_others sub b.round)
          (without_each (Shown b.lines) sub b.round h.slots));
    }

-- another frequency of a subscription
in_mode_frequency : (m : Mode) (v : LiveSlot) (f : Option ℕ) (keyed : Option KeyPlaces) → BegunIn m v keyed → BegunIn m (record v { frequency = f }) keyed
in_mode_frequency mode.Command v f keyed b = record { kind = b.kind; places = b.places }
in_mode_frequency mode.Merge v f keyed b = b
in_mode_frequency mode.Raw v f keyed b = b
in_mode_frequency mode.Distinct v f keyed b = b

shown_frequency : (lines : List Line) (v : LiveSlot) (f : Option ℕ) → Shown lines v → Shown lines (record v { frequency = f })
shown_frequency lines v f h =
    record {
      subscription = h.subscription;
      is = h.is;
      sub = h.sub;
      rank = h.rank;
      within = h.within;
      some = h.some;
      most = h.most;
      schema = h.schema;
      keyed = in_mode_frequency v.slot.plan.mode v f h.subscription.keyed h.keyed;
      rows = h.rows;
    }

shown_configured : (lines : List Line) (sub : ℕ) (frequency : Option ℕ) (filtered : Bool) (v : LiveSlot) → Shown lines v
    → Shown (Configures sub frequency filtered ∷ lines) v
shown_configured lines sub frequency filtered v h =
    record {
      subscription = h.subscription;
      is = h.is;
      sub = h.sub;
      rank = h.rank;
      within = h.within;
      some = h.some;
      most = h.most;
      schema = h.schema;
      keyed = h.keyed;
      rows = h.rows;
    }

shown_with : (lines : List Line) (sub n : ℕ) (f g : Option ℕ) (filtered : Bool) (v : LiveSlot) → Shown lines v
    → Shown (Configures n g filtered ∷ lines) (with_frequency sub f v)
shown_with lines sub n f g filtered v h =
    cond_rule (Shown (Configures n g filtered ∷ lines)) (is_of sub v) (record v { frequency = f }) v
    (λ t. shown_configured lines n g filtered (record v { frequency = f }) (shown_frequency lines v f h)) (λ t. shown_configured lines n g filtered v h)

pub legible_reconfigured : (sub : ℕ) (frequency : Option ℕ) (b : Board) → IsOrdinal sub → LegibleBoard b → LegibleBoard (reconfigured sub frequency b)
legible_reconfigured sub frequency b s h =
    let m : Mode = mode_in sub b.round in
    let f : Option ℕ = frequency_in m frequency in
    record {
      lines = (configures_writable b.lines sub f (is_filtered m) s, h.lines);
      slots = each_mapped (Shown b.lines) (Shown (Configures sub f (is_filtered m) ∷ b.lines)) (with_frequency sub f) b.round
          (shown_with b.lines sub sub f f (is_filtered m)) h.slots;
    }

-- what became of a client's message, where the line that tells it can be written
shown_answered : (lines : List Line) (outcome : MessageOutcome) (v : LiveSlot) → Shown lines v → Shown (Answers outcome ∷ lines) v
shown_answered lines outcome v h =
    record {
      subscription = h.subscription;
      is = outcome_begun outcome v.sub (begun_as v.sub (wires lines)) ∙ h.is;
      sub = h.sub;
      rank = h.rank;
      within = h.within;
      some = h.some;
      most = h.most;
      schema = h.schema;
      keyed = h.keyed;
      rows = h.rows;
    }

pub legible_answered : (outcome : MessageOutcome) (b : Board) → IsWritable (outcome_line outcome) → LegibleBoard b → LegibleBoard (with_outcome outcome b)
legible_answered outcome b written h =
    record {
      lines = (written, h.lines);
      slots = each_map (Shown b.lines) (Shown (Answers outcome ∷ b.lines)) b.round (shown_answered b.lines outcome) h.slots;
    }

-- a publish
pub textual_grown : (h : List Entry) (e : Entry) → TextualEvent e.event → Textual h → Textual (h ++ e ∷ [])
textual_grown h e t l = each_append (λ (x : Entry). TextualEvent x.event) h (e ∷ []) l (t, tt)

pub legible_ticked : (now : ℕ) (ss : List Session) → Each (λ (s : Session). LegibleBoard s.board) ss
    → Each (λ (s : Session). LegibleBoard s.board) (map (unless_timed_out now) ss)
legible_ticked now ss e =
    each_mapped (λ (s : Session). LegibleBoard s.board) (λ (s : Session). LegibleBoard s.board) (unless_timed_out now) ss
    (λ s b. cond_rule (λ (t : Session). LegibleBoard t.board) (is_timed_out now s) (ended timed_out s) s
    (λ t. record { lines = b.lines; slots = tt }) (λ t. b)) e

-- what a legible world's clients decode
history_sound : (items : List Item) (n : ℕ) → n < length items → Each IsSound items → IsHistory (shape_at items n) (history_of items n)
history_sound [] n within e = absurd (omega (arith, within))
history_sound (i ∷ items) zero within e = e.0.history
history_sound (i ∷ items) (suc n) within e = history_sound items n (omega (arith, within)) e.1

decodes : (items : List Item) (s : Session) (v : LiveSlot) → Each IsSound items → LegibleBoard s.board → HasNoOutcome s.board.lines
    → LawfulLive items s.board.lines v → Shown s.board.lines v
    → ClientDecodes items s.board.lines v
decodes items s v sound b none l h =
    record {
      lines = wires s.board.lines;
      read = are_read s.board.lines b.lines none;
      came = has_come s.board.lines v.sub v.rank h.subscription h.is h.rank.some h.within h.some (omega (arith, h.most)) h.rows;
      schema = sym h.schema;
      most = omega (arith, h.most, h.schema);
      keys = by_mode v.slot.plan.mode refl h.keyed;
    }
  where
    by_mode : (m : Mode) → v.slot.plan.mode ≡ m → BegunIn m v h.subscription.keyed
        → KeysOf m (history_of items v.item) v.wanted v.slot h.subscription.keyed (whats (came v.sub v.rank s.board.lines))
    by_mode mode.Command command begun_as =
        decoded_keys (history_of items v.item) v.wanted v.slot (came v.sub v.rank s.board.lines) h.subscription.keyed begun_as.kind
        (subst (λ (p : Shape). IsHistory p (history_of items v.item)) (sym l.shape) (history_sound items v.item l.declared sound)) begun_as.places
        (subst (λ (m : Mode). LawfulOf m (history_of items v.item) v.wanted v.slot (came v.sub v.rank s.board.lines)) command l.came)
    by_mode mode.Merge other begun_as = begun_as
    by_mode mode.Raw other begun_as = begun_as
    by_mode mode.Distinct other begun_as = begun_as

-- MSGDONE and MSGFAIL aren't read yet, so this is of sessions without such a line
pub decoded : (items : List Item) (s : Session) → Each IsSound items → LawfulSession items s → LegibleBoard s.board → HasNoOutcome s.board.lines
    → ClientsDecode items s
decoded items s sound l b none =
    each_map (λ (v : LiveSlot). LawfulLive items s.board.lines v × Shown s.board.lines v)
    (ClientDecodes items s.board.lines) s.board.round (λ v x. decodes items s v sound b none x.0 x.1)
    (each_both (LawfulLive items s.board.lines) (Shown s.board.lines) s.board.round l.board.slots b.slots)
