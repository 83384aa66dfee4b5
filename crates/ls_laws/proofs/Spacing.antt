-- Two updates of a slot under one frequency are at least its interval apart.
use Rattle.std.proofs.Common.{◌≡◌, ◌==◌, ℕ, ◌+◌, ◌≤◌, List, [], ◌∷◌, ◌++◌, length, map, refl, sym, ◌∙◌, ap, arith, subst, cond, Bool, true, false, not}
use Rattle.std.proofs.Common.{◌&&◌, Option, Some, None, IfSome, nat_le}
use Rattle.std.proofs.lemmas.Bool.{eqb-true, eq-eqb, leb-true}
use Rattle.ls_value.proofs.Rows.{and_left, and_right}
use Rattle.ls_budget.specs.Budget.{frequency_tick}
use Rattle.ls_budget.specs.Due.{allows}
use Rattle.ls_event.specs.declared.event.Mode.{Mode}
use Rattle.ls_event.specs.declared.item.ItemDef.{ItemDef}
use Rattle.ls_event.specs.Slots.{Slot, enqueued}
use Rattle.ls_request.specs.declared.request.Add.{Add}
use Rattle.ls_step.specs.declared.step.Step.{Step}
use Rattle.ls_step.specs.declared.step.Step.TheVariants as step
use Rattle.ls_step.specs.declared.step.Repeat.{Repeat}
use Rattle.ls_record.specs.Came.{Came}
use Rattle.ls_record.specs.Cutting.{Ask, Turn}
use Rattle.ls_record.specs.Lines.{Line, Begins, Ends, Configures, Answers, Tells, is_update, updated}
use Rattle.ls_world.specs.World.{World, empty}
use Rattle.ls_record.specs.Records.{Item, LiveSlot, Board, Rate, Session, RoundLine, Round, definitions, fields_in}
use Rattle.ls_record.specs.Records.{history_of, is_of, is_at, joined_all}
use Rattle.ls_record.specs.Records.{without, enqueue_slot, enqueue_at, live_turn, round_of, is_due, frequency_of}
use Rattle.ls_record.specs.Records.{frequency_in}
use Rattle.ls_record.specs.Records.{are_filtered, is_filtered, keys_shown, mode_in, with_frequency, free_number}
use Rattle.ls_record.specs.Acting.{asks_of, ask_of, group_of, places_among, free_slots}
use Rattle.ls_world.specs.Acting.{subscribed}
use Rattle.ls_world.specs.Steps.{does, does_all}
use Rattle.ls_world.specs.Script.{world_of}
use Rattle.ls_value.specs.Each.{Each}
use Rattle.ls_record.proofs.Each.{each_map, each_mapped, each_both, each_contains}
use Rattle.ls_value.proofs.Each.{each_append}
use Rattle.ls_record.proofs.Parts.{met_by, given_by}
use Rattle.ls_record.proofs.Rules.{cond_rule}
use Rattle.ls_world.proofs.Unmoved.{declared_by}
use Rattle.ls_laws.specs.Budgets.{spends_of, IsOfDue, configured, is_left_by, AreApart, AreToldOf}
use Rattle.ls_lawful.proofs.Asked.{asked_is}
use Rattle.ls_lawful.proofs.Frame.{unused_each, without_each}
use Rattle.ls_laws.proofs.Scripts.{lines_keep}
use Rattle.ls_laws.proofs.DueSlots.{due_is, line_of_due}
use Rattle.ls_laws.proofs.BoardRule.{Kept, OfEach, of_does}

-- an update was given when the frequency that CONF told allowed it
abbrev LineSpaced : List Line → Line → Type 0
LineSpaced lines (Begins sub items fields keys) = Unit {0}
LineSpaced lines (Ends sub) = Unit {0}
LineSpaced lines (Configures sub frequency filtered) = Unit {0}
LineSpaced lines (Answers outcome) = Unit {0}
LineSpaced lines (Tells sub rank tick c) = is_update c.what ≡ true → frequency_tick (configured sub lines) (updated sub rank lines) ≤ tick

abbrev Spaced : List Line → Type 0
Spaced [] = Unit {0}
Spaced (l ∷ lines) = LineSpaced lines l × Spaced lines

-- a slot has the frequency that CONF told
abbrev IsConfigured : List Line → LiveSlot → Type 0
IsConfigured lines v = v.frequency ≡ configured v.sub lines

record IsSpaced (now : ℕ) (b : Board) (r : Rate) : Type 0 where
  lines : Spaced b.lines
  slots : Each (IsConfigured b.lines) b.round

-- a new subscription
asks_alike : (defs : List ItemDef) (a : Add) (group : List ℕ)
    → Each (λ (x : Ask). x.frequency ≡ frequency_in a.mode a.frequency) (map (λ n. ask_of a n (places_among (fields_in defs n) a.schema)) group)
asks_alike defs a [] = tt
asks_alike defs a (n ∷ group) = (refl, asks_alike defs a group)

first_alike : (f : Option ℕ) (asks : List Ask) → Each (λ (x : Ask). x.frequency ≡ f) asks → Each (λ (x : Ask). x.frequency ≡ frequency_of asks) asks
first_alike f [] e = tt
first_alike f (a ∷ asks) e = (refl, each_map (λ (x : Ask). x.frequency ≡ f) (λ (x : Ask). x.frequency ≡ a.frequency) asks (λ x h. h ∙ sym e.0) e.1)

configured_joined : (items : List Item) (free : ℕ → ℕ) (lines : List Line) (sub rank : ℕ) (f : Option ℕ) (filtered : Bool) (asks : List Ask)
    → Each (λ (x : Ask). x.frequency ≡ f) asks → Each (IsConfigured (Configures sub f filtered ∷ lines)) (joined_all items free sub rank asks)
configured_joined items free lines sub rank f filtered [] e = tt
configured_joined items free lines sub rank f filtered (a ∷ asks) e = (
  e.0 ∙ sym (ap (λ b. cond b f (configured sub lines)) (eq-eqb sub sub refl)),
  configured_joined items free lines sub (rank + 1) f filtered asks e.1,
)

-- CONF of another subscription
configured_other : (lines : List Line) (sub : ℕ) (f : Option ℕ) (filtered : Bool) (v : LiveSlot) → is_of sub v ≡ false → IsConfigured lines v
    → IsConfigured (Configures sub f filtered ∷ lines) v
configured_other lines sub f filtered v other h = h ∙ sym (ap (λ b. cond b f (configured v.sub lines)) other)

spaced_added : (now : ℕ) (w : World) (s : Session) (a : Add) → Each (λ (v : LiveSlot). is_of a.sub v ≡ false) s.board.round → IsSpaced now s.board s.rate
    → IsSpaced now (subscribed w a s).board s.rate
spaced_added now w s a others k =
    let asks : List Ask = asks_of (definitions w.items) a in
    let lines : List Line = Begins a.sub (length asks) (length a.schema) (keys_shown w.items asks) ∷ s.board.lines in
    record {
      lines = (tt, (tt, k.lines));
      slots = each_append (IsConfigured (Configures a.sub (frequency_of asks) (are_filtered asks) ∷ lines)) s.board.round
          (joined_all w.items (free_number w.sessions) a.sub 1 asks)
          (each_map (λ (v : LiveSlot). (is_of a.sub v ≡ false) × IsConfigured s.board.lines v)
          (IsConfigured (Configures a.sub (frequency_of asks) (are_filtered asks) ∷ lines)) s.board.round
          (λ v h. configured_other lines a.sub (frequency_of asks) (are_filtered asks) v h.0 h.1)
          (each_both (λ (v : LiveSlot). is_of a.sub v ≡ false) (IsConfigured s.board.lines) s.board.round others k.slots))
          (configured_joined w.items (free_number w.sessions) lines a.sub 1 (frequency_of asks) (are_filtered asks) asks
          (first_alike (frequency_in a.mode a.frequency) asks (asks_alike (definitions w.items) a (group_of (definitions w.items) a.group))));
    }

-- another frequency
configured_with : (lines : List Line) (sub : ℕ) (f : Option ℕ) (filtered : Bool) (v : LiveSlot) → IsConfigured lines v
    → IsConfigured (Configures sub f filtered ∷ lines) (with_frequency sub f v)
configured_with lines sub f filtered v h =
    cond_rule (IsConfigured (Configures sub f filtered ∷ lines)) (is_of sub v) (record v { frequency = f }) v
    (λ t. sym (ap (λ b. cond b f (configured v.sub lines)) t)) (λ t. configured_other lines sub f filtered v t h)

-- an enqueue
configured_enqueued : (items : List Item) (lines : List Line) (sub rank : ℕ) (v : LiveSlot) → IsConfigured lines v
    → IsConfigured lines (enqueue_at items sub rank v)
configured_enqueued items lines sub rank v h =
    cond_rule (IsConfigured lines) (is_at sub rank v) (enqueue_slot (history_of items v.item) v) v
    (λ t. cond_rule (IsConfigured lines) _ (record v { slot = enqueued v.slot }) v (λ u. h) (λ u. h)) (λ t. h)

-- what is true of each slot of a round, whatever its cursor is, is true after its turns
record RoundOf (P : LiveSlot → Type 0) (r : Round) : Type 0 where
  kept : Each P r.kept
  came : IfSome r.came (λ t. P t.live)

met_of : (P : LiveSlot → Type 0) (v : LiveSlot) (s : Slot) (o : Option Came) (vs : List LiveSlot) (rest : Round) → P (record v { slot = s }) → Each P vs
    → RoundOf P rest → RoundOf P (met_by (record v { slot = s }) o vs rest)
met_of P v s None vs rest p e r = record { kept = (p, r.kept); came = r.came }
met_of P v s (Some c) vs rest p e r = record { kept = e; came = p }

round_each : (P : LiveSlot → Type 0) → ((v : LiveSlot) (s : Slot) → P v → P (record v { slot = s })) → (due : LiveSlot → Bool) (items : List Item) (lines : List Line)
    (vs : List LiveSlot) → Each P vs → RoundOf P (round_of due items lines vs)
round_each P moved due items lines [] e = record { kept = tt; came = tt }
round_each P moved due items lines (v ∷ vs) e =
    let t : Turn = live_turn due items lines v in
    met_of P v t.slot t.came vs (round_of due items lines vs) (moved v t.slot e.0) e.1 (round_each P moved due items lines vs e.1)

spaced_given : (now : ℕ) (s : Session) (kept : List LiveSlot) (o : Option RoundLine) → ((t : RoundLine) → o ≡ Some t → IsOfDue now s t)
    → Each (IsConfigured s.board.lines) s.board.round → Each (IsConfigured s.board.lines) kept → IfSome o (λ t. IsConfigured s.board.lines t.live)
    → Spaced s.board.lines → IsSpaced now (given_by now s.board kept o) s.rate
spaced_given now s kept None due told e p l = record { lines = l; slots = e }
spaced_given now s kept (Some t) due told e p l =
    let d : IsOfDue now s t = due t refl in
    let f : ℕ = frequency_tick d.slot.frequency (updated d.slot.sub d.slot.rank s.board.lines) in
    let reached : f ≤ now =
    leb-true f now (and_left (nat_le f now) (allows s.rate.limit (spends_of s) now) (sym (due_is now s d.slot) ∙ d.due)) in
    let same : frequency_tick (configured d.slot.sub s.board.lines) (updated d.slot.sub d.slot.rank s.board.lines) ≤ now =
    subst (λ o. frequency_tick o (updated d.slot.sub d.slot.rank s.board.lines) ≤ now)
    (each_contains (IsConfigured s.board.lines) d.slot s.board.round told d.is_in) reached in
    record {
      lines = (
        (λ update. subst (λ (v : LiveSlot). frequency_tick (configured v.sub s.board.lines) (updated v.sub v.rank s.board.lines) ≤ now) (sym d.same) same),
        l,
      );
      slots = each_append (IsConfigured (Tells t.live.sub t.live.rank now t.came ∷ s.board.lines)) kept (t.live ∷ []) e (p, tt);
    }

spaced : Kept IsSpaced
spaced =
    record {
      opens = λ now limit rate. record { lines = tt; slots = tt };
      adds = λ now w s a none k. spaced_added now w s a (unused_each a.sub s.board.round (asked_is w.items (free_slots w.sessions) s a none).new) k;
      removes = λ now sub b r k. record {
        lines = (tt, k.lines);
        slots = each_map (IsConfigured b.lines) (IsConfigured (Ends sub ∷ b.lines)) (without sub b.round) (λ v h. h)
            (without_each (IsConfigured b.lines) sub b.round k.slots);
      };
      reconfigures = λ now sub frequency b r k. let m : Mode = mode_in sub b.round in record {
        lines = (tt, k.lines);
        slots = each_mapped (IsConfigured b.lines) (IsConfigured (Configures sub (frequency_in m frequency) (is_filtered m) ∷ b.lines))
            (with_frequency sub (frequency_in m frequency)) b.round (configured_with b.lines sub (frequency_in m frequency) (is_filtered m)) k.slots;
      };
      constrains = λ now limit b r rate k. record { lines = k.lines; slots = k.slots };
      ends = λ now b r k. record { lines = k.lines; slots = tt };
      enqueues = λ now items sub rank b r k. record {
        lines = k.lines;
        slots = each_mapped (IsConfigured b.lines) (IsConfigured b.lines) (enqueue_at items sub rank) b.round
            (configured_enqueued items b.lines sub rank) k.slots;
      };
      takes = λ now items s k. let x : Round = round_of (is_due now s) items s.board.lines s.board.round in
          let e = round_each (IsConfigured s.board.lines) (λ v t h. h) (is_due now s) items s.board.lines s.board.round k.slots in
          spaced_given now s x.kept x.came (λ t is. line_of_due now items s t is) k.slots e.kept e.came k.lines;
    }

-- whatever the clock is
declared_spaced : (w : World) (s : Step) → OfEach IsSpaced w → OfEach IsSpaced (declared_by w s)
declared_spaced w (step.Set name) e = e
declared_spaced w (step.Item name k fields) e = e
declared_spaced w (step.Tick ms) e =
    each_map (λ (s : Session). IsSpaced w.tick s.board s.rate) (λ (s : Session). IsSpaced ms s.board s.rate) w.sessions
    (λ s k. record { lines = k.lines; slots = k.slots }) e
declared_spaced w (step.Conn name l) e = e
declared_spaced w (step.Open name) e = e
declared_spaced w (step.Add connection words) e = e
declared_spaced w (step.Request connection name parameters) e = e
declared_spaced w (step.Publish adapter seq item cells) e = e
declared_spaced w (step.Clear adapter seq item) e = e
declared_spaced w (step.Enqueue connection sub rank) e = e
declared_spaced w (step.Take connection) e = e
declared_spaced w (step.Lose connection) e = e

spaced_does : (w : World) (s : Step) (times : ℕ) → OfEach IsSpaced w → OfEach IsSpaced (does w s times).after
spaced_does w s times e = of_does IsSpaced spaced w s times (declared_spaced w s e)

spaced_steps : (w : World) (steps : List Repeat) → OfEach IsSpaced w → OfEach IsSpaced (does_all w steps)
spaced_steps w [] e = e
spaced_steps w (r ∷ steps) e = spaced_steps (does w r.step r.times).after steps (spaced_does w r.step r.times e)

spaced_script : (lines : List (List ℕ)) → OfEach IsSpaced (world_of empty lines)
spaced_script lines =
    lines_keep (OfEach IsSpaced) (record { counts = λ w e. e; steps = λ w s times fits e. spaced_does w s times e }) empty lines tt

-- the last update behind an earlier one isn't before it
record LastUpdate (sub rank f early : ℕ) (lines : List Line) : Type 0 where
  tick : ℕ
  is : updated sub rank lines ≡ Some tick
  later : early ≤ tick
  frequency : configured sub lines ≡ Some f

not_true : (b : Bool) → not b ≡ true → b ≡ false
not_true true e = cc
not_true false e = refl

-- a line that leaves a subscription
past_other : (sub s rank f early : ℕ) (lines : List Line) → not (s == sub) ≡ true → LastUpdate sub rank f early lines
    → (cond (s == sub) None (updated sub rank lines) ≡ updated sub rank lines)
past_other sub s rank f early lines other k = ap (λ b. cond b None (updated sub rank lines)) (not_true (s == sub) other)

tells_later : (sub rank f early s p tick : ℕ) (c : Came) (lines : List Line) → LineSpaced lines (Tells s p tick c) → LastUpdate sub rank f early lines
    → LastUpdate sub rank f early (Tells s p tick c ∷ lines)
tells_later sub rank f early s p tick c lines given k = by_test (((s == sub) && (p == rank)) && is_update c.what) refl
  where
    by_test : (b : Bool) → (((s == sub) && (p == rank)) && is_update c.what) ≡ b → LastUpdate sub rank f early (Tells s p tick c ∷ lines)
    by_test false t =
        record { tick = k.tick; is = ap (λ b. cond b (Some tick) (updated sub rank lines)) t ∙ k.is; later = k.later; frequency = k.frequency }
    by_test true t =
        let here = and_left ((s == sub) && (p == rank)) (is_update c.what) t in
        let of_sub : s ≡ sub = eqb-true s sub (and_left (s == sub) (p == rank) here) in
        let at_rank : p ≡ rank = eqb-true p rank (and_right (s == sub) (p == rank) here) in
        let low : frequency_tick (configured s lines) (updated s p lines) ≤ tick = given (and_right ((s == sub) && (p == rank)) (is_update c.what) t) in
        let low_here : frequency_tick (configured sub lines) (updated sub rank lines) ≤ tick =
        subst (λ n. frequency_tick (configured n lines) (updated n rank lines) ≤ tick) of_sub
        (subst (λ n. frequency_tick (configured s lines) (updated s n lines) ≤ tick) at_rank low) in
        let known : frequency_tick (Some f) (Some k.tick) ≤ tick =
        subst (λ o. frequency_tick o (Some k.tick) ≤ tick) k.frequency
        (subst (λ o. frequency_tick (configured sub lines) o ≤ tick) k.is low_here) in
        record {
          tick = tick;
          is = ap (λ b. cond b (Some tick) (updated sub rank lines)) t;
          later = omega (arith, known, k.later);
          frequency = k.frequency;
        }

first_update : (sub rank f early : ℕ) (d : Came) (older : List Line) → is_update d.what ≡ true → configured sub older ≡ Some f
    → LastUpdate sub rank f early (Tells sub rank early d ∷ older)
first_update sub rank f early d older update told =
    let t : (((sub == sub) && (rank == rank)) && is_update d.what) ≡ true = rw (eq-eqb sub sub refl, eq-eqb rank rank refl, update) refl in
    record { tick = early; is = ap (λ b. cond b (Some early) (updated sub rank older)) t; later = omega arith; frequency = told }

last_update : (sub rank f early : ℕ) (d : Came) (between older : List Line) → Spaced (between ++ (Tells sub rank early d ∷ older)) → is_update d.what ≡ true
    → is_left_by sub between ≡ true → configured sub older ≡ Some f → LastUpdate sub rank f early (between ++ (Tells sub rank early d ∷ older))
last_update sub rank f early d [] older given update left told = first_update sub rank f early d older update told
last_update sub rank f early d (Begins s items fields keys ∷ between) older given update left told =
    let other : not (s == sub) ≡ true = and_left (not (s == sub)) (is_left_by sub between) left in
    let k = last_update sub rank f early d between older given.1 update (and_right (not (s == sub)) (is_left_by sub between) left) told in
    record {
      tick = k.tick;
      is = past_other sub s rank f early (between ++ (Tells sub rank early d ∷ older)) other k ∙ k.is;
      later = k.later;
      frequency = k.frequency;
    }
last_update sub rank f early d (Ends s ∷ between) older given update left told =
    let other : not (s == sub) ≡ true = and_left (not (s == sub)) (is_left_by sub between) left in
    let k = last_update sub rank f early d between older given.1 update (and_right (not (s == sub)) (is_left_by sub between) left) told in
    record {
      tick = k.tick;
      is = past_other sub s rank f early (between ++ (Tells sub rank early d ∷ older)) other k ∙ k.is;
      later = k.later;
      frequency = k.frequency;
    }
last_update sub rank f early d (Configures s frequency filtered ∷ between) older given update left told =
    let other : not (s == sub) ≡ true = and_left (not (s == sub)) (is_left_by sub between) left in
    let k = last_update sub rank f early d between older given.1 update (and_right (not (s == sub)) (is_left_by sub between) left) told in
    record {
      tick = k.tick;
      is = k.is;
      later = k.later;
      frequency = ap (λ b. cond b frequency (configured sub (between ++ (Tells sub rank early d ∷ older)))) (not_true (s == sub) other) ∙ k.frequency;
    }
last_update sub rank f early d (Answers outcome ∷ between) older given update left told =
    let k = last_update sub rank f early d between older given.1 update left told in
    record { tick = k.tick; is = k.is; later = k.later; frequency = k.frequency }
last_update sub rank f early d (Tells s p tick c ∷ between) older given update left told =
    tells_later sub rank f early s p tick c (between ++ (Tells sub rank early d ∷ older)) given.0
    (last_update sub rank f early d between older given.1 update left told)

spaced_behind : (newer lines : List Line) → Spaced (newer ++ lines) → Spaced lines
spaced_behind [] lines s = s
spaced_behind (l ∷ newer) lines s = spaced_behind newer lines s.1

apart : (lines : List Line) → Spaced lines → AreApart lines
apart lines given sub rank f early late c d newer between older is update update' left told =
    let rest : List Line = between ++ (Tells sub rank early d ∷ older) in
    let s : Spaced (Tells sub rank late c ∷ rest) = spaced_behind newer (Tells sub rank late c ∷ rest) (subst Spaced is given) in
    let k : LastUpdate sub rank f early rest = last_update sub rank f early d between older s.1 update' left told in
    let low : frequency_tick (Some f) (Some k.tick) ≤ late =
    subst (λ o. frequency_tick o (Some k.tick) ≤ late) k.frequency (subst (λ o. frequency_tick (configured sub rest) o ≤ late) k.is (s.0 update)) in
    omega (arith, low, k.later)

of_each : (P : Session → Type 0) (w : World) → ((s : Session) → IsSpaced w.tick s.board s.rate → P s) → OfEach IsSpaced w → Each P w.sessions
of_each P w more e = each_map (λ (s : Session). IsSpaced w.tick s.board s.rate) P w.sessions more e

pub steps_apart : (steps : List Repeat) → Each (λ s. AreApart s.board.lines) (does_all empty steps).sessions
steps_apart steps = of_each (λ s. AreApart s.board.lines) (does_all empty steps) (λ s k. apart s.board.lines k.lines) (spaced_steps empty steps tt)

pub script_apart : (lines : List (List ℕ)) → Each (λ s. AreApart s.board.lines) (world_of empty lines).sessions
script_apart lines = of_each (λ s. AreApart s.board.lines) (world_of empty lines) (λ s k. apart s.board.lines k.lines) (spaced_script lines)

pub steps_configured : (steps : List Repeat) → Each AreToldOf (does_all empty steps).sessions
steps_configured steps = of_each AreToldOf (does_all empty steps) (λ s k. k.slots) (spaced_steps empty steps tt)

pub script_configured : (lines : List (List ℕ)) → Each AreToldOf (world_of empty lines).sessions
script_configured lines = of_each AreToldOf (world_of empty lines) (λ s k. k.slots) (spaced_script lines)
