-- The replies to a feed's lines, by what the adapter's passes have seen of the items (this project's profile).
use Rattle.std.specs.Prelude.{◌≡◌, ◌⊎◌, ⊤, ℕ, List, [], ◌∷◌, ◌++◌, Option, None, Some, slice_get, flat_map, codes}
use Rattle.std.specs.Prelude.{Result, Ok, Err}
use Rattle.std.specs.Fmt.{decimal}
use mathlib.Core.List.{IsPrefix}
use Rattle.ls_event.specs.declared.event.Entry.{Entry}
use Rattle.ls_event.specs.declared.event.PublishRefused.{PublishRefused}
use Rattle.ls_event.specs.declared.event.PublishRefused.TheVariants as refused
use Rattle.ls_event.specs.declared.item.ItemDef.{ItemDef}
use Rattle.ls_live.specs.Live.{Pass, IsPassFor, cause_in, entry_of}
use Rattle.ls_shared.specs.Offers.{HasOnce}
use Rattle.ls_feed.specs.declared.offer.Offer.{Offer}
use Rattle.ls_feed.specs.declared.reply.Bad.{Bad}
use Rattle.ls_feed.specs.declared.reply.Bad.TheVariants as bad
use Rattle.ls_feed.specs.declared.reply.FeedReply.{FeedReply}
use Rattle.ls_feed.specs.declared.reply.FeedReply.TheVariants as reply
use Rattle.ls_feed.specs.Offers.{offer_of}

-- the number of a cause in `bad` replies
abbrev pub code_of : Bad → ℕ
code_of bad.Malformed = 1
code_of bad.UnknownItem = 2
code_of bad.UnknownField = 3
code_of bad.NoKey = 4
code_of bad.BadCommand = 5
code_of bad.TooManyKeys = 6
code_of bad.TooLong = 7
code_of bad.Spent = 8
code_of bad.NoMemory = 9

-- a reply's words: `ok`, `repeated` or `bad`, and a number
abbrev pub words_of_reply : FeedReply → List ℕ
words_of_reply (reply.Published number) = codes "ok " ++ decimal number
words_of_reply (reply.Repeated last) = codes "repeated " ++ decimal last
words_of_reply (reply.Bad cause) = codes "bad " ++ decimal (code_of cause)

-- a reply's line, with its LF
abbrev pub text_of : FeedReply → List ℕ
text_of r = words_of_reply r ++ 10 ∷ []

-- the lines of replies
abbrev pub texts_of : List FeedReply → List ℕ
texts_of replies = flat_map text_of replies

-- the pass of the item of a number, where a line named the item
abbrev pub pass_found : Option (Option Pass) → Option Pass
pass_found None = None
pass_found (Some p) = p

abbrev pub pass_at : List (Option Pass) → ℕ → Option Pass
pass_at ps item = pass_found (slice_get ps item)

-- what a pass has seen of its item; nothing, where there is none
abbrev pub seen_by : Option Pass → List Entry
seen_by None = []
seen_by (Some p) = p.list

-- why an offer is refused behind what its item's pass has seen, as the first cause of the order; no slot lags behind it
abbrev pub cause_of : Offer → Pass → Option PublishRefused
cause_of o p = cause_in p.shape p.list (entry_of p.adapter o.seq o.event)

-- what a reply to an offer says of the item's pass behind it: `ok` that the event stands there at that number, and no
-- other one of the adapter with that seq; the others that it is refused for that cause; memory may be wanting at any
-- time
abbrev pub TrueOf : Offer → Pass → FeedReply → Type 0
TrueOf o p (reply.Published number) = HasOnce p.list number p.adapter o.seq o.event
TrueOf o p (reply.Repeated last) = cause_of o p ≡ Some (refused.Repeated last)
TrueOf o p (reply.Bad bad.Malformed) = ⊥
TrueOf o p (reply.Bad bad.UnknownItem) = ⊥
TrueOf o p (reply.Bad bad.UnknownField) = ⊥
TrueOf o p (reply.Bad bad.NoKey) = cause_of o p ≡ Some refused.NoKey
TrueOf o p (reply.Bad bad.BadCommand) = cause_of o p ≡ Some refused.BadCommand
TrueOf o p (reply.Bad bad.TooManyKeys) = cause_of o p ≡ Some refused.TooManyKeys
TrueOf o p (reply.Bad bad.TooLong) = (bytes : ℕ) × (cause_of o p ≡ Some (refused.TooLong bytes))
TrueOf o p (reply.Bad bad.Spent) = cause_of o p ≡ Some refused.Spent
TrueOf o p (reply.Bad bad.NoMemory) = ⊤

-- an adapter's pass of the item of a number, which the register shows at the pass's place
pub record IsPassOf (items : List ItemDef) (adapter item : ℕ) (p : Pass) : Type 0 where
  pub of : IsPassFor items item p
  pub adapter_is : p.adapter ≡ adapter

-- each pass is that of its item, by the adapter
abbrev pub ArePasses : List ItemDef → ℕ → List (Option Pass) → Type 0
ArePasses items adapter ps = (item : ℕ) (p : Pass) → pass_at ps item ≡ Some p → IsPassOf items adapter item p

-- no pass has changed
abbrev pub Unchanged : List (Option Pass) → List (Option Pass) → Type 0
Unchanged ps qs = (item : ℕ) → pass_at qs item ≡ pass_at ps item

-- an offer was made by its item's pass, which has seen what it had and maybe more, and the reply is true of it; all
-- other passes are as before
pub record Offered (items : List ItemDef) (adapter : ℕ) (o : Offer) (r : FeedReply) (ps qs : List (Option Pass))
    : Type 0 where
  pub pass : Pass
  pub is : pass_at qs o.item ≡ Some pass
  pub of : IsPassOf items adapter o.item pass
  pub grows : IsPrefix (seen_by (pass_at ps o.item)) pass.list
  pub says : TrueOf o pass r
  pub others : (item : ℕ) → (item ≡ o.item → ⊥) → pass_at qs item ≡ pass_at ps item

-- a reply to what a line offers
abbrev pub RepliesBy : List ItemDef → ℕ → Result Offer Bad → FeedReply → List (Option Pass) → List (Option Pass) → Type 0
RepliesBy items adapter (Ok o) r ps qs =
    Offered items adapter o r ps qs ⊎ ((r ≡ reply.Bad bad.NoMemory) × Unchanged ps qs)
RepliesBy items adapter (Err cause) r ps qs =
    ((r ≡ reply.Bad cause) ⊎ (r ≡ reply.Bad bad.NoMemory)) × Unchanged ps qs

-- a reply to a line of an adapter's
abbrev pub RepliesTo : List ItemDef → ℕ → List ℕ → FeedReply → List (Option Pass) → List (Option Pass) → Type 0
RepliesTo items adapter line r ps qs = RepliesBy items adapter (offer_of items line) r ps qs

-- one reply for each line, in order
abbrev pub Replies : List ItemDef → ℕ → List (List ℕ) → List FeedReply → List (Option Pass) → List (Option Pass) → Type 0
Replies items adapter [] [] ps qs = qs ≡ ps
Replies items adapter [] (r ∷ rs) ps qs = ⊥
Replies items adapter (line ∷ lines) [] ps qs = ⊥
Replies items adapter (line ∷ lines) (r ∷ rs) ps qs =
    (ms : List (Option Pass)) × RepliesTo items adapter line r ps ms × Replies items adapter lines rs ms qs
