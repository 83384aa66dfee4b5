-- The small steps of a session's turn keep it lawful: a slot takes more events, passes a cut that makes no line, or gives
-- a line and goes to the round's end. So does an item whose history is longer.
use Rattle.std.proofs.Common.{◌≡◌, ℕ, zero, suc, ◌+◌, ◌-◌, append-nil, ◌≤◌, List, [], ◌∷◌, ◌++◌, length, take, drop, refl, sym, ◌∙◌, ap, arith, subst, false}
use Rattle.std.proofs.Common.{Option, Some, None, slice_get}
use mathlib.Core.List.{IsPrefix}
use Rattle.ls_event.specs.declared.event.Entry.{Entry}
use Rattle.ls_event.specs.declared.event.Taken.{Taken}
use Rattle.ls_event.specs.Slots.{Plan, Slot, enqueued, passed}
use Rattle.ls_event.specs.Cuts.{cut}
use Rattle.ls_mirror.specs.Client.{What}
use Rattle.ls_record.specs.Came.{Came, came_by}
use Rattle.ls_record.specs.Cutting.{Wanted, what_of_cut}
use Rattle.ls_record.specs.Lines.{came}
use Rattle.ls_record.specs.Records.{Item, LiveSlot, Board, Session, history_of, change, is_at, numbered, on_board}
use Rattle.ls_value.specs.Each.{Each}
use Rattle.ls_record.specs.Apart.{Apart}
use Rattle.ls_lawful.specs.Lawful.{LawfulSlot, LawfulLive, LawfulBoard, LawfulSession}
use Rattle.ls_record.proofs.Each.{each_map, each_at, each_take, each_drop, each_changed}
use Rattle.ls_value.proofs.Each.{each_append}
use Rattle.ls_record.proofs.Parts.{given_by}
use Rattle.ls_lawful.proofs.Keeps.{AfterCut}
use Rattle.ls_lawful.proofs.Modes.{keeps, after_cut, passed_plan}
use Rattle.ls_lawful.proofs.Frame.{Remains, Later, SameKey, is_at_swap, is_at_same, here, given_keeps}
use Rattle.ls_lawful.proofs.Sessions.{on_board_keeps, numbered_keeps}

-- a slot without the one of a place
without_at : (vs : List LiveSlot) (n : ℕ) (v : LiveSlot) → slice_get vs n ≡ Some v → Apart vs
    → Apart (take n vs ++ drop (suc n) vs) × Each (λ u. is_at v.sub v.rank u ≡ false) (take n vs ++ drop (suc n) vs)
without_at [] n v is a = absurd (let x : None ≡ Some v = is in cc)
without_at (x ∷ vs) zero v is a =
    let same : x ≡ v = cc in (a.1, subst (λ (y : LiveSlot). Each (λ u. is_at y.sub y.rank u ≡ false) vs) same a.0)
without_at (x ∷ vs) (suc n) v is a =
    let rest = without_at vs n v is a.1 in
    let away : is_at x.sub x.rank v ≡ false = each_at (λ u. is_at x.sub x.rank u ≡ false) n v vs is a.0 in (
      (
        each_append (λ u. is_at x.sub x.rank u ≡ false) (take n vs) (drop (suc n) vs) (each_take (λ u. is_at x.sub x.rank u ≡ false) n vs a.0)
            (each_drop (λ u. is_at x.sub x.rank u ≡ false) (suc n) vs a.0),
        rest.0,
      ),
      (is_at_swap x v away, rest.1),
    )

-- the slot of a place gave a line at a tick, and goes to the back
abbrev pub told_at : ℕ → ℕ → LiveSlot → Taken → What → Board → Board
told_at now n v t what b =
    given_by now b (take n b.round ++ drop (suc n) b.round)
    (Some (record { live = record v { slot = passed v.slot t }; came = came_by v.slot t what }))

pub told_keeps : (items : List Item) (now n : ℕ) (v : LiveSlot) (t : Taken) (what : What) (b : Board) → slice_get b.round n ≡ Some v
    → cut (history_of items v.item) v.slot ≡ Some t → what_of_cut v.wanted v.slot (came v.sub v.rank b.lines) t ≡ Some what → LawfulBoard items b
    → LawfulBoard items (told_at now n v t what b)
told_keeps items now n v t what b is cuts tells l =
    let live : LawfulLive items b.lines v = each_at (LawfulLive items b.lines) n v b.round is l.slots in
    let h : List Entry = history_of items v.item in
    let cs : List Came = came v.sub v.rank b.lines in
    let moved : LiveSlot = record v { slot = passed v.slot t } in
    let after : LawfulSlot h v.wanted (passed v.slot t) (came_by v.slot t what ∷ cs) =
    subst (λ (o : Option What). AfterCut LawfulSlot h v.wanted v.slot cs t o) tells
    (after_cut h v.wanted v.slot cs t (what_of_cut v.wanted v.slot cs t) ((keeps v.slot.plan.mode).pass h v.wanted v.slot cs t cuts live.came)) in
    let rest = without_at b.round n v is l.apart in
    given_keeps now items b (take n b.round ++ drop (suc n) b.round) (Some (record { live = moved; came = came_by v.slot t what }))
    (each_append (LawfulLive items b.lines) (take n b.round) (drop (suc n) b.round) (each_take (LawfulLive items b.lines) n b.round l.slots)
    (each_drop (LawfulLive items b.lines) (suc n) b.round l.slots))
    rest.0
    (here b.lines items now (came_by v.slot t what) moved live.declared (ap (λ (p : Plan). p.shape) (passed_plan v.slot t) ∙ live.shape) after, rest.1)

-- the slot of a place is another of its subscription and rank
each_same : (P : LiveSlot → Type 0) (f : LiveSlot → LiveSlot) (n : ℕ) (vs : List LiveSlot) → ((u : LiveSlot) → P u → P (f u)) → Each P vs → Each P (change n f vs)
each_same P f n [] keep e = tt
each_same P f zero (v ∷ vs) keep e = (keep v e.0, e.1)
each_same P f (suc n) (v ∷ vs) keep e = (e.0, each_same P f n vs keep e.1)

apart_changed : (f : LiveSlot → LiveSlot) → ((v : LiveSlot) → SameKey v (f v)) → (n : ℕ) (vs : List LiveSlot) → Apart vs → Apart (change n f vs)
apart_changed f same n [] a = tt
apart_changed f same zero (v ∷ vs) a = (
  each_map (λ u. is_at v.sub v.rank u ≡ false) (λ u. is_at (f v).sub (f v).rank u ≡ false) vs
      (λ u away. is_at_same v (f v) u u (same v) (refl, refl) away) a.0,
  a.1,
)
apart_changed f same (suc n) (v ∷ vs) a = (
  each_same (λ u. is_at v.sub v.rank u ≡ false) f n vs (λ u away. is_at_same v v u (f u) (refl, refl) (same u) away) a.0,
  apart_changed f same n vs a.1,
)

-- a change of the slot's record alone
abbrev pub with_slot : (Slot → Slot) → LiveSlot → LiveSlot
with_slot f v = record v { slot = f v.slot }

abbrev pub moved_at : ℕ → (Slot → Slot) → Board → Board
moved_at n f b = record b { round = change n (with_slot f) b.round }

moved_keeps : (items : List Item) (n : ℕ) (v : LiveSlot) (f : Slot → Slot) (b : Board) → slice_get b.round n ≡ Some v → (f v.slot).plan ≡ v.slot.plan
    → LawfulSlot (history_of items v.item) v.wanted (f v.slot) (came v.sub v.rank b.lines) → LawfulBoard items b → LawfulBoard items (moved_at n f b)
moved_keeps items n v f b is plan lawful l =
    record {
      apart = apart_changed (with_slot f) (λ u. (refl, refl)) n b.round l.apart;
      slots = each_changed (LawfulLive items b.lines) n (with_slot f) v b.round is
          (λ live. record { declared = live.declared; shape = ap (λ (p : Plan). p.shape) plan ∙ live.shape; came = lawful }) l.slots;
    }

-- a cut without a line is passed
pub silent_keeps : (items : List Item) (n : ℕ) (v : LiveSlot) (t : Taken) (b : Board) → slice_get b.round n ≡ Some v
    → cut (history_of items v.item) v.slot ≡ Some t → what_of_cut v.wanted v.slot (came v.sub v.rank b.lines) t ≡ None → LawfulBoard items b
    → LawfulBoard items (moved_at n (λ s. passed s t) b)
silent_keeps items n v t b is cuts silent l =
    let live : LawfulLive items b.lines v = each_at (LawfulLive items b.lines) n v b.round is l.slots in
    let h : List Entry = history_of items v.item in
    let cs : List Came = came v.sub v.rank b.lines in
    moved_keeps items n v (λ s. passed s t) b is (passed_plan v.slot t)
    (subst (λ (o : Option What). AfterCut LawfulSlot h v.wanted v.slot cs t o) silent
    (after_cut h v.wanted v.slot cs t (what_of_cut v.wanted v.slot cs t) ((keeps v.slot.plan.mode).pass h v.wanted v.slot cs t cuts live.came))) l

-- more events are enqueued
more_enqueued : (k : ℕ) (h : List Entry) (w : Wanted) (s : Slot) (cs : List Came) → s.last + k ≤ length h → LawfulSlot h w s cs
    → LawfulSlot h w (record s { last = s.last + k }) cs
more_enqueued zero h w s cs within l =
    let same : s.last ≡ s.last + zero = omega arith in subst (λ (n : ℕ). LawfulSlot h w (record s { last = n }) cs) same l
more_enqueued (suc k) h w s cs within l =
    let next : LawfulSlot h w (enqueued s) cs = (keeps s.plan.mode).enqueue h w s cs (omega (arith, within)) l in
    let same : s.last + 1 + k ≡ s.last + suc k = omega arith in
    subst (λ (n : ℕ). LawfulSlot h w (record s { last = n }) cs) same (more_enqueued k h w (enqueued s) cs (omega (arith, within)) next)

pub caught_up_keeps : (items : List Item) (n m : ℕ) (v : LiveSlot) (b : Board) → slice_get b.round n ≡ Some v → v.slot.last ≤ m
    → m ≤ length (history_of items v.item) → LawfulBoard items b → LawfulBoard items (moved_at n (λ s. record s { last = m }) b)
caught_up_keeps items n m v b is low high l =
    let live : LawfulLive items b.lines v = each_at (LawfulLive items b.lines) n v b.round is l.slots in
    let k : ℕ = m - v.slot.last in
    let same : v.slot.last + k ≡ m = omega (arith, low) in
    moved_keeps items n v (λ s. record s { last = m }) b is refl
    (subst (λ (j : ℕ). LawfulSlot (history_of items v.item) v.wanted (record v.slot { last = j }) (came v.sub v.rank b.lines)) same
    (more_enqueued k (history_of items v.item) v.wanted v.slot (came v.sub v.rank b.lines) (omega (arith, same, high)) live.came)) l

-- an item of which more was seen
abbrev pub seen_to : List Entry → Item → Item
seen_to h i = record i { history = h }

pub later_seen : (items : List Item) (k : ℕ) (h : List Entry) → IsPrefix (history_of items k) h → Later items (change k (seen_to h) items)
later_seen [] k h more n l = absurd (omega (arith, l))
later_seen (i ∷ items) zero h more zero l = record { declared = l; shape = refl; more = more.0; history = sym more.1 }
later_seen (i ∷ items) zero h more (suc n) l =
    record { declared = omega (arith, l); shape = refl; more = []; history = sym (append-nil (history_of items n)) }
later_seen (i ∷ items) (suc k) h more zero l =
    record { declared = omega arith; shape = refl; more = []; history = sym (append-nil i.history) }
later_seen (i ∷ items) (suc k) h more (suc n) l =
    let r : Remains items (change k (seen_to h) items) n = later_seen items k h more n (omega (arith, l)) in
    record { declared = omega (arith, r.declared); shape = r.shape; more = r.more; history = r.history }

-- the session's small steps
pub told_lawful : (items : List Item) (now n : ℕ) (v : LiveSlot) (t : Taken) (what : What) (s : Session) → slice_get s.board.round n ≡ Some v
    → cut (history_of items v.item) v.slot ≡ Some t → what_of_cut v.wanted v.slot (came v.sub v.rank s.board.lines) t ≡ Some what
    → LawfulSession items s → LawfulSession items (numbered (told_at now n v t what) s)
told_lawful items now n v t what s is cuts tells l =
    numbered_keeps items (told_at now n v t what) s (told_keeps items now n v t what s.board is cuts tells) (omega arith) l

pub silent_lawful : (items : List Item) (n : ℕ) (v : LiveSlot) (t : Taken) (s : Session) → slice_get s.board.round n ≡ Some v
    → cut (history_of items v.item) v.slot ≡ Some t → what_of_cut v.wanted v.slot (came v.sub v.rank s.board.lines) t ≡ None → LawfulSession items s
    → LawfulSession items (on_board (moved_at n (λ x. passed x t)) s)
silent_lawful items n v t s is cuts silent l =
    on_board_keeps items (moved_at n (λ x. passed x t)) s (silent_keeps items n v t s.board is cuts silent) (omega arith) l

pub caught_up_lawful : (items : List Item) (n m : ℕ) (v : LiveSlot) (s : Session) → slice_get s.board.round n ≡ Some v → v.slot.last ≤ m
    → m ≤ length (history_of items v.item) → LawfulSession items s → LawfulSession items (on_board (moved_at n (λ x. record x { last = m })) s)
caught_up_lawful items n m v s is low high l =
    on_board_keeps items (moved_at n (λ x. record x { last = m })) s (caught_up_keeps items n m v s.board is low high) (omega arith) l
