-- A session whose slots passed silent cuts is lawful as before, and so is what its clients decode.
use Rattle.std.proofs.Common.{◌≡◌, ℕ, zero, suc, List, [], ◌∷◌, refl, sym, ◌∙◌, ap, subst, false, Option, Some, None}
use Rattle.std.specs.FinMap as finite
use Rattle.ls_value.specs.declared.row.Value.{Value}
use Rattle.ls_event.specs.declared.event.Entry.{Entry}
use Rattle.ls_event.specs.declared.event.Mode.{Mode}
use Rattle.ls_event.specs.declared.event.Taken.{Taken}
use Rattle.ls_event.specs.Cuts.{cut}
use Rattle.ls_event.specs.Slots.{Plan, Slot, passed}
use Rattle.ls_mirror.specs.Client.{What}
use Rattle.ls_mirror.specs.Keys.{KeyTable}
use Rattle.ls_mirror.specs.Commands.{key_table}
use Rattle.ls_mirror.specs.declared.command.KeyPlaces.{KeyPlaces}
use Rattle.ls_record.specs.Came.{Came, whats}
use Rattle.ls_record.specs.Cutting.{Wanted, what_of_cut, schema_of}
use Rattle.ls_record.specs.Tables.{table_at}
use Rattle.ls_record.specs.Lines.{Line, came}
use Rattle.ls_record.specs.Quiet.{IsPast, ArePast, IsQuiet}
use Rattle.ls_record.specs.Records.{Item, LiveSlot, Session, history_of, is_at}
use Rattle.ls_value.specs.Each.{Each}
use Rattle.ls_record.specs.Apart.{Apart}
use Rattle.ls_lawful.specs.ClientKeys.{KeysAgree, KeysOf}
use Rattle.ls_lawful.specs.CommandMode.{RowAgrees, cursor_of_key}
use Rattle.ls_lawful.specs.Lawful.{LawfulOf, LawfulSlot, LawfulLive, LawfulSession, ClientDecodes, ClientsDecode}
use Rattle.ls_lawful.proofs.Keeps.{AfterCut}
use Rattle.ls_lawful.proofs.Modes.{keeps, after_cut, passed_plan}
use Rattle.ls_lawful.proofs.Frame.{SameKey, is_at_same}
use Rattle.ls_event.specs.declared.event.Mode.TheVariants as mode

-- one silent cut
abbrev after_passing : Taken → LiveSlot → LiveSlot
after_passing t u = record u { slot = passed u.slot t }

slot_after : (h : List Entry) (w : Wanted) (s : Slot) (cs : List Came) (t : Taken) → cut h s ≡ Some t → what_of_cut w s cs t ≡ None → LawfulSlot h w s cs
    → LawfulSlot h w (passed s t) cs
slot_after h w s cs t cuts silent l =
    subst (λ (o : Option What). AfterCut LawfulSlot h w s cs t o) silent
    (after_cut h w s cs t (what_of_cut w s cs t) ((keeps s.plan.mode).pass h w s cs t cuts l))

live_after : (items : List Item) (lines : List Line) (u : LiveSlot) (t : Taken) → cut (history_of items u.item) u.slot ≡ Some t
    → what_of_cut u.wanted u.slot (came u.sub u.rank lines) t ≡ None → LawfulLive items lines u → LawfulLive items lines (after_passing t u)
live_after items lines u t cuts silent l =
    record {
      declared = l.declared;
      shape = ap (λ (p : Plan). p.shape) (passed_plan u.slot t) ∙ l.shape;
      came = slot_after (history_of items u.item) u.wanted u.slot (came u.sub u.rank lines) t cuts silent l.came;
    }

-- a client's rows by key are those by which the words of lines are chosen
same_row : (h : List Entry) (w : Wanted) (s : Slot) (k : List ℕ) (o : Option ℕ) (a b : Option (List Value)) → RowAgrees h w s k a o → RowAgrees h w s k b o
    → a ≡ b
same_row h w s k None a b x y = x ∙ sym y
same_row h w s k (Some q) a b x y = x.2 ∙ sym y.2

keys_after : (h : List Entry) (w : Wanted) (s : Slot) (cs : List Came) (t : Taken) (keys : KeyTable) → s.plan.mode ≡ mode.Command
    → LawfulSlot h w s cs → LawfulSlot h w (passed s t) cs → KeysAgree h w s keys → KeysAgree h w (passed s t) keys
keys_after h w s cs t keys command l l' agree k =
    let before = (subst (λ (m : Mode). LawfulOf m h w s cs) command l).agrees k in
    let after = (subst (λ (m : Mode). LawfulOf m h w (passed s t) cs) (ap (λ (p : Plan). p.mode) (passed_plan s t) ∙ command) l').agrees k in
    let same : table_at (schema_of w s.plan) k (whats cs) ≡ finite.get keys k =
    same_row h w s k (cursor_of_key k s.key_cursors) (table_at (schema_of w s.plan) k (whats cs)) (finite.get keys k) before (agree k) in
    let plan : table_at (schema_of w (passed s t).plan) k (whats cs) ≡ table_at (schema_of w s.plan) k (whats cs) =
    ap (λ (p : Plan). table_at (schema_of w p) k (whats cs)) (passed_plan s t) in
    subst (λ (row : Option (List Value)). RowAgrees h w (passed s t) k row (cursor_of_key k (passed s t).key_cursors)) (plan ∙ same) after

keys_of_after : (m : Mode) (h : List Entry) (w : Wanted) (s : Slot) (cs : List Came) (t : Taken) (told : Option KeyPlaces) (ws : List What)
    → s.plan.mode ≡ m → LawfulSlot h w s cs → LawfulSlot h w (passed s t) cs → KeysOf m h w s told ws → KeysOf m h w (passed s t) told ws
keys_of_after mode.Command h w s cs t told ws command l l' k =
    record {
      places = k.places;
      are = k.are;
      key = k.key ∙ ap (λ (p : Plan). Some p.shape.key) (sym (passed_plan s t));
      command = k.command ∙ ap (λ (p : Plan). Some p.shape.command) (sym (passed_plan s t));
      rows = keys_after h w s cs t (key_table told ws) command l l' k.rows;
    }
keys_of_after mode.Merge h w s cs t told ws is l l' k = k
keys_of_after mode.Raw h w s cs t told ws is l l' k = k
keys_of_after mode.Distinct h w s cs t told ws is l l' k = k

decodes_after : (items : List Item) (lines : List Line) (u : LiveSlot) (t : Taken) → LawfulLive items lines u → LawfulLive items lines (after_passing t u)
    → ClientDecodes items lines u → ClientDecodes items lines (after_passing t u)
decodes_after items lines u t l l' d =
    let h : List Entry = history_of items u.item in
    record {
      lines = d.lines;
      read = d.read;
      came = d.came;
      schema = d.schema;
      most = d.most;
      keys = subst (λ (p : Plan). KeysOf p.mode h u.wanted (passed u.slot t) d.came.subscription.keyed (whats (came u.sub u.rank lines)))
          (sym (passed_plan u.slot t))
          (keys_of_after u.slot.plan.mode h u.wanted u.slot (came u.sub u.rank lines) t d.came.subscription.keyed (whats (came u.sub u.rank lines)) refl
          l.came l'.came d.keys);
    }

-- a slot that passed several
record LiveKept (items : List Item) (lines : List Line) (v w : LiveSlot) : Type 0 where
  same : SameKey v w
  lawful : LawfulLive items lines w
  decodes : ClientDecodes items lines v → ClientDecodes items lines w

past_kept : (n : ℕ) (items : List Item) (lines : List Line) (v w : LiveSlot) → IsPast n items lines v w → LawfulLive items lines v
    → LiveKept items lines v w
past_kept zero items lines v w is l =
    subst (λ (x : LiveSlot). LiveKept items lines v x) (sym is) (record { same = (refl, refl); lawful = l; decodes = λ d. d })
past_kept (suc n) items lines v w (u, t, past, cuts, silent, is) l =
    let k : LiveKept items lines v u = past_kept n items lines v u past l in
    let l' : LawfulLive items lines (after_passing t u) = live_after items lines u t cuts silent k.lawful in
    subst (λ (x : LiveSlot). LiveKept items lines v x) (sym is)
    (record { same = k.same; lawful = l'; decodes = λ d. decodes_after items lines u t k.lawful l' (k.decodes d) })

-- a round whose slots did
record RoundKept (items : List Item) (lines : List Line) (vs ws : List LiveSlot) : Type 0 where
  slots : Each (LawfulLive items lines) ws
  decode : Each (ClientDecodes items lines) vs → Each (ClientDecodes items lines) ws
  apart : Apart vs → Apart ws
  away : (x y : LiveSlot) → SameKey x y → Each (λ u. is_at x.sub x.rank u ≡ false) vs → Each (λ u. is_at y.sub y.rank u ≡ false) ws

all_kept : (items : List Item) (lines : List Line) (vs ws : List LiveSlot) → ArePast items lines vs ws → Each (LawfulLive items lines) vs
    → RoundKept items lines vs ws
all_kept items lines [] [] past l = record { slots = tt; decode = λ d. tt; apart = λ a. tt; away = λ x y same e. tt }
all_kept items lines [] (w ∷ ws) past l = absurd past
all_kept items lines (v ∷ vs) [] past l = absurd past
all_kept items lines (v ∷ vs) (w ∷ ws) past l =
    let k : LiveKept items lines v w = past_kept past.0.0 items lines v w past.0.1 l.0 in
    let rest : RoundKept items lines vs ws = all_kept items lines vs ws past.1 l.1 in
    record {
      slots = (k.lawful, rest.slots);
      decode = λ d. (k.decodes d.0, rest.decode d.1);
      apart = λ a. (rest.away v w k.same a.0, rest.apart a.1);
      away = λ x y same e. (is_at_same x y v w same k.same e.0, rest.away x y same e.1);
    }

-- a session whose slots passed silent cuts
pub record QuietKept (items : List Item) (s : Session) : Type 0 where
  pub session : LawfulSession items s
  pub clients : ClientsDecode items s

pub quiet_kept : (items : List Item) (s t : Session) → IsQuiet items s t → LawfulSession items s → ClientsDecode items s → QuietKept items t
quiet_kept items s t q l d =
    let k : RoundKept items s.board.lines s.board.round t.board.round = all_kept items s.board.lines s.board.round t.board.round q.round l.board.slots in
    subst (QuietKept items) (sym q.rest)
    (record {
      session = record {
        board = record { apart = k.apart l.board.apart; slots = k.slots };
        sent = l.sent;
        given_up = l.given_up;
        streams = l.streams;
      };
      clients = k.decode d;
    })
