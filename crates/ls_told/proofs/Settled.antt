-- The slots of a session stay those with which its subscriptions began, by each of its steps.
use Rattle.std.proofs.Common.{◌≡◌, ◌==◌, ◌||◌, ℕ, zero, suc, ◌+◌, List, [], ◌∷◌, ◌++◌, length, take, drop, map, refl, sym, ◌∙◌, ap, arith, subst, cond}
use Rattle.std.proofs.Common.{Bool, true, false, Option, Some, None, is_some, slice_get}
use Rattle.std.specs.Prelude.{option_and_then}
use Rattle.std.proofs.lemmas.Bool.{eqb-true, eq-eqb, ne_eqb}
use Rattle.ls_value.specs.Each.{Each}
use Rattle.ls_value.proofs.Each.{each_append}
use Rattle.ls_event.specs.declared.event.Taken.{Taken}
use Rattle.ls_event.specs.declared.item.ItemDef.{ItemDef}
use Rattle.ls_event.specs.Slots.{Slot, passed}
use Rattle.ls_mirror.specs.Client.{What}
use Rattle.ls_request.specs.declared.request.Add.{Add}
use Rattle.ls_record.specs.Acting.{asks_of}
use Rattle.ls_record.specs.Came.{came_by}
use Rattle.ls_record.specs.Lines.{Line, Begins, Ends, Configures, Tells}
use Rattle.ls_record.specs.Records.{LiveSlot, Board, Session, change, on_board, numbered, ended, opened, is_alive, is_at, is_of, is_used, live_at}
use Rattle.ls_record.specs.Records.{removed, reconfigured, without, with_frequency, frequency_in, frequency_of, are_filtered, mode_in, is_filtered}
use Rattle.ls_record.proofs.Each.{each_map, each_mapped, each_at, each_take, each_drop, each_changed}
use Rattle.ls_record.proofs.Rules.{cond_rule}
use Rattle.ls_lawful.proofs.Modes.{passed_plan}
use Rattle.ls_lawful.proofs.SmallSteps.{moved_at, told_at, with_slot}
use Rattle.ls_subs.proofs.Rounds.{AreSlots, slots_unused, unused_none, without_gone, without_other, and_false_right, both_true}
use Rattle.ls_subs.specs.Plans.{keys_of_asks}
use Rattle.ls_session.specs.Record.{with_plan}
use Rattle.ls_register.specs.Begun.{BegunSeen}
use Rattle.ls_register.specs.declared.begun.SlotBegun.{SlotBegun}
use Rattle.ls_register.specs.declared.told.Numbered.{Numbered as NumberedLine}
use Rattle.ls_told.specs.Slots.{begun_in, slot_in, configured, AreSettled, IsBegun, HasSlots}
use Rattle.ls_told.proofs.Used.{live_changed, live_mapped, live_append, live_back}

-- a slot is as its subscription began, where that is told alike
begun_alike : (config : List ItemDef) (ns ms : List NumberedLine) (lines more : List Line) (v : LiveSlot)
    → begun_in v.sub ms more ≡ begun_in v.sub ns lines → configured v.sub more ≡ configured v.sub lines → IsBegun config ns lines v
    → IsBegun config ms more v
begun_alike config ns ms lines more v same frequency b =
    record {
      rank = b.rank;
      begun = b.begun;
      told = b.told;
      rank_is = b.rank_is;
      of = same ∙ b.of;
      there = b.there;
      settled = b.settled;
      frequency = b.frequency ∙ sym frequency;
    }

-- and so it is with another cursor
begun_slot : (config : List ItemDef) (ns : List NumberedLine) (lines : List Line) (v : LiveSlot) (x : Slot) → x.plan ≡ v.slot.plan
    → IsBegun config ns lines v → IsBegun config ns lines (record v { slot = x })
begun_slot config ns lines v x plan b =
    record {
      rank = b.rank;
      begun = b.begun;
      told = b.told;
      rank_is = b.rank_is;
      of = b.of;
      there = b.there;
      settled = record {
        item = b.settled.item;
        places = b.settled.places;
        snapshot = b.settled.snapshot;
        plan = plan ∙ b.settled.plan;
      };
      frequency = b.frequency;
    }

-- it begins, and ends
pub slots_opened : (config : List ItemDef) (number keepalive : ℕ) (limit content : Option ℕ)
    → HasSlots config [] (opened number keepalive limit content)
slots_opened config number keepalive limit content =
    record { begun = tt; all = λ alive sub rank. refl; left = λ over. refl }

pub slots_ended : (config : List ItemDef) (ns : List NumberedLine) (code : ℕ) (s : Session) → HasSlots config ns (ended code s)
slots_ended config ns code s =
    record { begun = tt; all = λ alive sub rank. absurd (let x : false ≡ true = alive in cc); left = λ over. refl }

-- the same lines and slots
pub slots_same : (config : List ItemDef) (ns : List NumberedLine) (s t : Session) → t.board ≡ s.board → is_alive t.life ≡ is_alive s.life
    → HasSlots config ns s → HasSlots config ns t
slots_same config ns s t board life h =
    record {
      begun = subst (λ (b : Board). Each (IsBegun config ns b.lines) b.round) (sym board) h.begun;
      all = λ alive sub rank.
          ap (λ (b : Board). is_some (live_at sub (rank + 1) b.round)) board ∙ h.all (sym life ∙ alive) sub rank
          ∙ ap (λ (b : Board). is_some (slot_in sub rank ns b.lines)) (sym board);
      left = λ over. ap (λ (b : Board). b.round) board ∙ h.left (sym life ∙ over);
    }

-- the slot of a place moves, of which no line tells
pub slots_moved : (config : List ItemDef) (ns : List NumberedLine) (s : Session) (n : ℕ) (f : Slot → Slot) (v : LiveSlot)
    → slice_get s.board.round n ≡ Some v → (f v.slot).plan ≡ v.slot.plan → HasSlots config ns s → HasSlots config ns (on_board (moved_at n f) s)
slots_moved config ns s n f v is plan h =
    record {
      begun = each_changed (IsBegun config ns s.board.lines) n (with_slot f) v s.board.round is
          (λ b. begun_slot config ns s.board.lines v (f v.slot) plan b) h.begun;
      all = λ alive sub rank. live_changed (with_slot f) (λ u. refl) (λ u. refl) n s.board.round sub (rank + 1) ∙ h.all alive sub rank;
      left = λ over. ap (λ (vs : List LiveSlot). change n (with_slot f) vs) (h.left over);
    }

-- and one tells
pub slots_line : (config : List ItemDef) (ns : List NumberedLine) (s : Session) (now n : ℕ) (v : LiveSlot) (t : Taken) (what : What) (line : NumberedLine)
    → slice_get s.board.round n ≡ Some v → HasSlots config ns s → HasSlots config (line ∷ ns) (numbered (told_at now n v t what) s)
slots_line config ns s now n v t what line is h =
    record {
      begun = each_append (IsBegun config (line ∷ ns) more) (take n s.board.round ++ drop (suc n) s.board.round) _
          (each_append (IsBegun config (line ∷ ns) more) (take n s.board.round) (drop (suc n) s.board.round)
          (each_take (IsBegun config (line ∷ ns) more) n s.board.round all) (each_drop (IsBegun config (line ∷ ns) more) (suc n) s.board.round all))
          (begun_slot config (line ∷ ns) more v (passed v.slot t) (passed_plan v.slot t) (each_at (IsBegun config (line ∷ ns) more) n v s.board.round is all), tt);
      all = λ alive sub rank. live_back sub (rank + 1) n s.board.round v (record v { slot = passed v.slot t }) is refl refl ∙ h.all alive sub rank;
      left = λ over. absurd (let x : None ≡ Some v = sym (ap (λ (vs : List LiveSlot). slice_get vs n) (h.left over)) ∙ is in cc);
    }
  where
    more : List Line
    more = Tells v.sub v.rank now (came_by v.slot t what) ∷ s.board.lines

    all : Each (IsBegun config (line ∷ ns) more) s.board.round
    all = each_map (IsBegun config ns s.board.lines) (IsBegun config (line ∷ ns) more) s.board.round
        (λ u b. begun_alike config ns (line ∷ ns) s.board.lines more u refl refl b) h.begun

-- a subscription ends
each_left : (P Q : LiveSlot → Type 0) (sub : ℕ) (vs : List LiveSlot) → ((v : LiveSlot) → is_of sub v ≡ false → P v → Q v) → Each P vs
    → Each Q (without sub vs)
each_left P Q sub [] keep e = tt
each_left P Q sub (v ∷ vs) keep e = by_test (is_of sub v) refl (each_left P Q sub vs keep e.1)
  where
    by_test : (b : Bool) → is_of sub v ≡ b → Each Q (without sub vs) → Each Q (cond b (without sub vs) (v ∷ without sub vs))
    by_test true is rest = rest
    by_test false is rest = (keep v is e.0, rest)

pub slots_removed : (config : List ItemDef) (ns : List NumberedLine) (s : Session) (sub : ℕ) (line : NumberedLine) → HasSlots config ns s
    → HasSlots config (line ∷ ns) (numbered (removed sub) s)
slots_removed config ns s sub line h =
    record {
      begun = each_left (IsBegun config ns lines) (IsBegun config (line ∷ ns) (Ends sub ∷ lines)) sub s.board.round
          (λ v other b. begun_alike config ns (line ∷ ns) lines (Ends sub ∷ lines) v
          (ap (λ (c : Bool). cond c None (begun_in v.sub ns lines)) other) (ap (λ (c : Bool). cond c None (configured v.sub lines)) other) b) h.begun;
      all = λ alive q rank. by_test q rank (sub == q) refl (h.all alive q rank);
      left = λ over. ap (λ (vs : List LiveSlot). without sub vs) (h.left over);
    }
  where
    lines : List Line
    lines = s.board.lines

    by_test : (q rank : ℕ) (b : Bool) → (sub == q) ≡ b → is_some (live_at q (rank + 1) s.board.round) ≡ is_some (slot_in q rank ns s.board.lines)
        → is_some (live_at q (rank + 1) (without sub s.board.round))
        ≡ is_some (option_and_then (λ (x : BegunSeen). slice_get x.slots rank) (cond b None (begun_in q ns s.board.lines)))
    by_test q rank true t rest = ap (λ (o : Option LiveSlot). is_some o) (without_gone sub q (rank + 1) s.board.round t)
    by_test q rank false t rest = ap (λ (o : Option LiveSlot). is_some o) (without_other sub q (rank + 1) s.board.round t) ∙ rest

-- it has another frequency
pub slots_reconfigured : (config : List ItemDef) (ns : List NumberedLine) (s : Session) (sub : ℕ) (frequency : Option ℕ) (line : NumberedLine)
    → HasSlots config ns s → HasSlots config (line ∷ ns) (numbered (reconfigured sub frequency) s)
slots_reconfigured config ns s sub frequency line h =
    record {
      begun = each_mapped (IsBegun config ns s.board.lines) (IsBegun config (line ∷ ns) more) (with_frequency sub set) s.board.round (λ u b. sets u b (is_of sub u) refl) h.begun;
      all = λ alive q rank.
          live_mapped (with_frequency sub set) (λ u. cond_rule (λ (x : LiveSlot). x.sub ≡ u.sub) (is_of sub u) _ u (λ t. refl) (λ t. refl))
          (λ u. cond_rule (λ (x : LiveSlot). x.rank ≡ u.rank) (is_of sub u) _ u (λ t. refl) (λ t. refl)) s.board.round q (rank + 1)
          ∙ h.all alive q rank;
      left = λ over. ap (λ (vs : List LiveSlot). map (with_frequency sub set) vs) (h.left over);
    }
  where
    set : Option ℕ
    set = frequency_in (mode_in sub s.board.round) frequency

    more : List Line
    more = Configures sub set (is_filtered (mode_in sub s.board.round)) ∷ s.board.lines

    sets : (u : LiveSlot) → IsBegun config ns s.board.lines u → (b : Bool) → is_of sub u ≡ b
        → IsBegun config (line ∷ ns) more (cond b (record u { frequency = set }) u)
    sets u b true t =
        record {
          rank = b.rank;
          begun = b.begun;
          told = b.told;
          rank_is = b.rank_is;
          of = b.of;
          there = b.there;
          settled = record {
            item = b.settled.item;
            places = b.settled.places;
            snapshot = b.settled.snapshot;
            plan = b.settled.plan;
          };
          frequency = sym (ap (λ (c : Bool). cond c set (configured u.sub s.board.lines)) t);
        }
    sets u b false t =
        begun_alike config ns (line ∷ ns) s.board.lines more u refl (ap (λ (c : Bool). cond c set (configured u.sub s.board.lines)) t) b

-- another one begins: the slots that there were are as before
each_other : (P Q : LiveSlot → Type 0) (sub : ℕ) (vs : List LiveSlot) → is_used sub vs ≡ false → ((v : LiveSlot) → is_of sub v ≡ false → P v → Q v)
    → Each P vs → Each Q vs
each_other P Q sub [] none keep e = tt
each_other P Q sub (v ∷ vs) none keep e =
    let both = neither (is_of sub v) (is_used sub vs) none in
    (keep v both.0 e.0, each_other P Q sub vs both.1 keep e.1)
  where
    neither : (a b : Bool) → (a || b) ≡ false → (a ≡ false) × (b ≡ false)
    neither true b is = absurd (let x : true ≡ false = is in cc)
    neither false b is = (refl, is)

-- and the new ones are those with which it begins
begun_new : (config : List ItemDef) (ms : List NumberedLine) (more : List Line) (sub : ℕ) (b : BegunSeen) (o : Option ℕ)
    → begun_in sub ms more ≡ Some b → configured sub more ≡ o → (k : ℕ) (ts : List SlotBegun) (vs : List LiveSlot)
    → ((j : ℕ) → slice_get b.slots (k + j) ≡ slice_get ts j) → AreSettled config b.schema ts vs → AreSlots sub (k + 1) vs
    → Each (λ (v : LiveSlot). v.frequency ≡ o) vs → Each (IsBegun config ms more) vs
begun_new config ms more sub b o of conf k [] [] at settled slots e = tt
begun_new config ms more sub b o of conf k [] (v ∷ vs) at settled slots e = absurd settled
begun_new config ms more sub b o of conf k (t ∷ ts) [] at settled slots e = tt
begun_new config ms more sub b o of conf k (t ∷ ts) (v ∷ vs) at settled slots e = (
  record {
    rank = k;
    begun = b;
    told = t;
    rank_is = slots.1;
    of = ap (λ (n : ℕ). begun_in n ms more) slots.0 ∙ of;
    there = ap (slice_get b.slots) {x = k} {y = k + zero} (omega arith) ∙ at zero;
    settled = settled.0;
    frequency = e.0 ∙ sym (ap (λ (n : ℕ). configured n more) slots.0 ∙ conf);
  },
  begun_new config ms more sub b o of conf (k + 1) ts vs
      (λ j. ap (slice_get b.slots) {x = k + 1 + j} {y = k + suc j} (omega arith) ∙ at (suc j)) settled.1 slots.2 e.1,
)

live_new : (config : List ItemDef) (schema : List (List ℕ)) (sub q : ℕ) → (sub == q) ≡ true → (k : ℕ) (ts : List SlotBegun) (vs : List LiveSlot)
    → AreSettled config schema ts vs → AreSlots sub (k + 1) vs → (rank : ℕ)
    → is_some (live_at q (k + rank + 1) vs) ≡ is_some (slice_get ts rank)
live_new config schema sub q same k [] [] settled slots rank = refl
live_new config schema sub q same k [] (v ∷ vs) settled slots rank = absurd settled
live_new config schema sub q same k (t ∷ ts) [] settled slots rank = absurd settled
live_new config schema sub q same k (t ∷ ts) (v ∷ vs) settled slots zero =
    let here : is_at q (k + zero + 1) v ≡ true =
    both_true (q == v.sub) (k + zero + 1 == v.rank) (eq-eqb q v.sub (sym (slots.0 ∙ eqb-true sub q same)))
    (eq-eqb (k + zero + 1) v.rank (omega (arith, slots.1))) in
    ap (λ (b : Bool). is_some (cond b (Some v) (live_at q (k + zero + 1) vs))) here
live_new config schema sub q same k (t ∷ ts) (v ∷ vs) settled slots (suc rank) =
    let away : is_at q (k + suc rank + 1) v ≡ false =
    and_false_right (q == v.sub) (k + suc rank + 1 == v.rank) (ne_eqb (k + suc rank + 1) v.rank (λ e. absurd (omega (arith, e, slots.1)))) in
    ap (λ (b : Bool). is_some (cond b (Some v) (live_at q (k + suc rank + 1) vs))) away
    ∙ ap (λ (n : ℕ). is_some (live_at q n vs)) {x = k + suc rank + 1} {y = k + 1 + rank + 1} (omega arith)
    ∙ live_new config schema sub q same (k + 1) ts vs settled.1 slots.2 rank

-- a new subscription, with its entries
pub record Opens (config : List ItemDef) (s : Session) (a : Add) (vs : List LiveSlot) (b : BegunSeen) (first : NumberedLine) : Type 0 where
  pub alive : is_alive s.life ≡ true
  pub begun : first.begun ≡ Some b
  pub settled : AreSettled config b.schema b.slots vs
  pub slots : AreSlots a.sub 1 vs
  pub frequency : Each (λ (v : LiveSlot). v.frequency ≡ frequency_of (asks_of config a)) vs
  pub unused : is_used a.sub s.board.round ≡ false

pub slots_added : (config : List ItemDef) (ns : List NumberedLine) (s : Session) (a : Add) (vs : List LiveSlot) (b : BegunSeen)
    (first second : NumberedLine) → Opens config s a vs b first → HasSlots config ns s
    → HasSlots config (second ∷ first ∷ ns) (numbered (with_plan config a vs) s)
slots_added config ns s a vs b first second o h =
    record {
      begun = each_append (IsBegun config ms more) s.board.round vs
          (each_other (IsBegun config ns s.board.lines) (IsBegun config ms more) a.sub s.board.round o.unused
          (λ v other x. begun_alike config ns ms s.board.lines more v (ap (λ (c : Bool). cond c first.begun (begun_in v.sub ns s.board.lines)) other)
          (ap (λ (c : Bool). cond c conf (cond c None (configured v.sub s.board.lines))) other) x) h.begun)
          (begun_new config ms more a.sub b conf begins configures zero b.slots vs
          (λ j. ap (slice_get b.slots) {x = zero + j} {y = j} (omega arith)) o.settled o.slots o.frequency);
      all = λ alive q rank. live_append q (rank + 1) s.board.round vs ∙ by_test q rank (a.sub == q) refl (h.all o.alive q rank);
      left = λ over. absurd (let x : true ≡ false = sym o.alive ∙ over in cc);
    }
  where
    conf : Option ℕ
    conf = frequency_of (asks_of config a)

    before : List Line
    before = Begins a.sub (length (asks_of config a)) (length a.schema) (keys_of_asks config (asks_of config a)) ∷ s.board.lines

    more : List Line
    more = Configures a.sub conf (are_filtered (asks_of config a)) ∷ before

    ms : List NumberedLine
    ms = second ∷ first ∷ ns

    begins : begun_in a.sub ms more ≡ Some b
    begins = ap (λ (c : Bool). cond c first.begun (begun_in a.sub ns s.board.lines)) (eq-eqb a.sub a.sub refl) ∙ o.begun

    configures : configured a.sub more ≡ conf
    configures = ap (λ (c : Bool). cond c conf (configured a.sub before)) (eq-eqb a.sub a.sub refl)

    or_none : (x : Bool) → (x || false) ≡ x
    or_none true = refl
    or_none false = refl

    by_test : (q rank : ℕ) (c : Bool) → (a.sub == q) ≡ c → is_some (live_at q (rank + 1) s.board.round) ≡ is_some (slot_in q rank ns s.board.lines)
        → (is_some (live_at q (rank + 1) s.board.round) || is_some (live_at q (rank + 1) vs))
        ≡ is_some (option_and_then (λ (x : BegunSeen). slice_get x.slots rank) (cond c first.begun (begun_in q ns s.board.lines)))
    by_test q rank true t old =
        let unused : is_used q s.board.round ≡ false = subst (λ (n : ℕ). is_used n s.board.round ≡ false) (eqb-true a.sub q t) o.unused in
        ap (λ (x : Option LiveSlot). is_some x || is_some (live_at q (rank + 1) vs)) (unused_none q (rank + 1) s.board.round unused)
        ∙ ap (λ (n : ℕ). is_some (live_at q n vs)) {x = rank + 1} {y = zero + rank + 1} (omega arith)
        ∙ live_new config b.schema a.sub q t zero b.slots vs o.settled o.slots rank
        ∙ ap (λ (x : Option BegunSeen). is_some (option_and_then (λ (y : BegunSeen). slice_get y.slots rank) x)) (sym o.begun)
    by_test q rank false t old =
        ap (λ (x : Option LiveSlot). is_some (live_at q (rank + 1) s.board.round) || is_some x)
        (unused_none q (rank + 1) vs (slots_unused a.sub q 1 vs o.slots t))
        ∙ or_none (is_some (live_at q (rank + 1) s.board.round)) ∙ old
