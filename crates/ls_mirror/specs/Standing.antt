-- What a client's maps stand for: the live subscriptions and what came of their items, by the lines that were fed.
use Rattle.std.specs.Prelude.{◌≡◌, ◌==◌, ◌<◌, ◌^◌, ℕ, List, [], Bool, true, false, ◌&&◌, Option, None, Some, unwrap_or}
use Rattle.std.specs.Prelude.{is_some, nat_le, Result, MatchResult, Err, if◌then◌else◌}
use Rattle.std.specs.Option.{option_map}
use Rattle.std.specs.Ordering.{nat_cmp}
use Rattle.std.specs.BTreeMap.{BTreeMap}
use Rattle.std.specs.BTreeMap as tree
use Rattle.ls_line.specs.declared.line.Line.{Line}
use Rattle.ls_line.specs.declared.line.Line.TheVariants as line
use Rattle.ls_mirror.specs.declared.client.Client.{Client}
use Rattle.ls_mirror.specs.declared.subscription.Subscription.{Subscription}
use Rattle.ls_mirror.specs.declared.table.Table.{Table}
use Rattle.ls_mirror.specs.declared.refused.MirrorRefused.{MirrorRefused}
use Rattle.ls_mirror.specs.declared.refused.MirrorRefused.TheVariants as refused
use Rattle.ls_mirror.specs.declared.command.KeyPlaces.{KeyPlaces}
use Rattle.ls_mirror.specs.Client.{Begun, Heard, Coded, What, begun_as, begun_after, heard, heard_after}
use Rattle.ls_mirror.specs.Client.{heard_of, last_row, AreDecoded, HasCome}
use Rattle.ls_mirror.specs.Refusing.{IsBad}
use Rattle.ls_mirror.specs.Tables.{table_of, blank_table, IsTableAfter}

-- how a subscription began
abbrev pub begun_of : Subscription → Begun
begun_of s = record { items = s.items; fields = s.fields; keyed = s.places }

-- the table of an item: an item of which nothing came may have none
abbrev pub table_at : BTreeMap ℕ Table → ℕ → Table
table_at tables item = unwrap_or (tree.get nat_cmp tables item) blank_table

-- the subscription of a number, if it is live
abbrev pub subscription_at : BTreeMap ℕ Subscription → ℕ → Option Subscription
subscription_at subscriptions sub = tree.get nat_cmp subscriptions sub

-- a table of an item is that of what came
pub record StandsTable (fields : ℕ) (places : Option KeyPlaces) (hs : List Heard) (t : Table) : Type 0 where
  pub whats : List What
  pub decoded : AreDecoded fields hs whats
  pub is : t ≡ table_of places whats

-- a client stands for the lines that it was fed, the newest first
pub record StandsClient (client : Client) (lines : List Line) : Type 0 where
  pub blank : client.blank ≡ blank_table
  pub live : (sub : ℕ) → option_map begun_of (subscription_at client.subscriptions sub) ≡ begun_as sub lines
  pub small : (sub : ℕ) (s : Subscription) → subscription_at client.subscriptions sub ≡ Some s → s.fields < 2 ^ 64
  pub come : (sub item : ℕ) (s : Subscription) → subscription_at client.subscriptions sub ≡ Some s
      → StandsTable s.fields s.places (heard sub item lines) (table_at s.tables item)

-- the table of what came of an item of a live subscription
pub record IsTableOf (sub item : ℕ) (lines : List Line) (t : Table) : Type 0 where
  pub whats : List What
  pub come : HasCome sub item lines whats
  pub is : t ≡ table_of come.subscription.keyed whats

-- whether a live subscription has an item
abbrev pub has_item : Option Begun → ℕ → Bool
has_item None item = false
has_item (Some b) item = nat_le 1 item && nat_le item b.items

-- the refusal of what a line names, unless it is known
abbrev pub unless_known : Bool → ℕ → ℕ → Option MirrorRefused
unless_known known sub item = if known then None else Some (refused.Unknown sub item)

-- the refusal of a line that names a subscription which is not live, or an item which no live one has
abbrev pub unknown_of : List Line → Line → Option MirrorRefused
unknown_of lines (line.Unsub s) = unless_known (is_some (begun_as s lines)) s 0
unknown_of lines (line.Conf s frequency filter) = unless_known (is_some (begun_as s lines)) s 0
unknown_of lines (line.Eos s i) = unless_known (has_item (begun_as s lines) i) s i
unknown_of lines (line.Cs s i) = unless_known (has_item (begun_as s lines) i) s i
unknown_of lines (line.Ov s i lost) = unless_known (has_item (begun_as s lines) i) s i
unknown_of lines (line.U s i coded) = unless_known (has_item (begun_as s lines) i) s i
unknown_of lines l = None

-- another refusal than that of an unknown name
abbrev pub IsOther : MirrorRefused → Type 0
IsOther (refused.Unknown s i) = ⊥
IsOther refused.BadFields = Unit {0}
IsOther refused.NoMemory = Unit {0}

-- the refusal of an unknown name is answered exactly where a name is unknown
abbrev pub AnswersUnknown : {X : Type 0} → Option MirrorRefused → Result X MirrorRefused → Type 0
AnswersUnknown (Some e) answer = answer ≡ Err e
AnswersUnknown None answer = MatchResult answer (λ _. Unit {0}) IsOther

-- what is heard of an item can't be taken after what came
abbrev pub IsBadHeard : ℕ → ℕ → List Line → Heard → Type 0
IsBadHeard sub item lines h = (whats : List What) × (come : HasCome sub item lines whats)
    × IsBad come.subscription.fields come.subscription.keyed (last_row whats) h

-- a U line that can't be taken after what came
abbrev pub IsBadLine : List Line → Line → Type 0
IsBadLine lines (line.U s i coded) = IsBadHeard s i lines (Coded coded)
IsBadLine lines l = ⊥

-- what is heard of an item takes a subscription to the next
pub record IsSubscriptionAfter (item : ℕ) (h : Heard) (old new : Subscription) : Type 0 where
  pub items : new.items ≡ old.items
  pub fields : new.fields ≡ old.fields
  pub places : new.places ≡ old.places
  pub moves : IsTableAfter old.fields old.places h (table_at old.tables item) (table_at new.tables item)
  pub others : (q : ℕ) → (q == item) ≡ false → table_at new.tables q ≡ table_at old.tables q

-- two subscriptions with the same tables
pub record IsSame (old new : Subscription) : Type 0 where
  pub items : new.items ≡ old.items
  pub fields : new.fields ≡ old.fields
  pub places : new.places ≡ old.places
  pub tables : (q : ℕ) → table_at new.tables q ≡ table_at old.tables q

-- what is heard of an item of a subscription takes the live subscriptions to the next
pub record AreSubscriptionsAfter (sub item : ℕ) (h : Heard) (old new : BTreeMap ℕ Subscription) : Type 0 where
  pub before : Subscription
  pub after : Subscription
  pub was : subscription_at old sub ≡ Some before
  pub is : subscription_at new sub ≡ Some after
  pub hears : IsSubscriptionAfter item h before after
  pub others : (q : ℕ) → (q == sub) ≡ false → subscription_at new q ≡ subscription_at old q

-- the same subscription, or none
abbrev pub AreSame : Option Subscription → Option Subscription → Type 0
AreSame None None = Unit {0}
AreSame None (Some t) = ⊥
AreSame (Some s) None = ⊥
AreSame (Some s) (Some t) = IsSame s t

-- what is heard of an item can't be taken by the subscription of its number
abbrev pub IsBadAt : Option Subscription → ℕ → Heard → Type 0
IsBadAt None item h = ⊥
IsBadAt (Some s) item h = (has_item (Some (begun_of s)) item ≡ true)
    × IsBad s.fields s.places (table_at s.tables item).last h

-- a line by which a subscription begins or ends
pub record BeginsOrEnds (l : Line) (sub : ℕ) (to : Option Begun) : Type 0 where
  pub begins : (s : ℕ) (before : Option Begun) → begun_after s l before ≡ (if s == sub then to else before)
  pub hears : (s i : ℕ) (before : List Heard) → heard_after s i l before ≡ (if s == sub then [] else before)

-- a line by which something is heard of an item
pub record IsHeardOf (l : Line) (sub item : ℕ) (h : Heard) : Type 0 where
  pub begins : (s : ℕ) (before : Option Begun) → begun_after s l before ≡ before
  pub hears : (s i : ℕ) (before : List Heard) → heard_after s i l before ≡ heard_of ((s == sub) && (i == item)) h before
