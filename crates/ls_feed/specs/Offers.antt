-- What a line of a feed offers (this project's profile).
use Rattle.std.specs.Prelude.{◌≡◌, ◌⊎◌, ℕ, ◌-◌, ◌^◌, List, [], ◌∷◌, Bool, true, false, ◌&&◌, Option, None, Some}
use Rattle.std.specs.Prelude.{slice_get, length, Result, Ok, Err, if◌then◌else◌}
use Rattle.std.specs.Borrow.{Bor}
use Rattle.ls_value.specs.Values.{place_of}
use Rattle.ls_words.specs.Words.{divided}
use Rattle.ls_words.specs.Numbers.{number_in}
use Rattle.ls_event.specs.declared.event.Event.{Event}
use Rattle.ls_event.specs.declared.event_text.EventRefused.{EventRefused}
use Rattle.ls_event.specs.declared.event_text.EventRefused.TheVariants as event
use Rattle.ls_event.specs.declared.item.ItemDef.{ItemDef}
use Rattle.ls_event.specs.EventText.{event_of}
use Rattle.ls_event.specs.History.{HasFields}
use Rattle.ls_config.specs.Items.{names_of}
use Rattle.ls_feed.specs.declared.offer.Offer.{Offer}
use Rattle.ls_feed.specs.declared.reply.Bad.{Bad}
use Rattle.ls_feed.specs.declared.reply.Bad.TheVariants as bad

-- the three words of a line: an item's name, a seq, and an event's text
pub record Words : Type 0 where
  pub name : List ℕ
  pub seq : List ℕ
  pub event : List ℕ

-- a word has a byte at least
abbrev pub is_word : List ℕ → Bool
is_word [] = false
is_word (b ∷ bs) = true

-- these as three words, if they are three and each is one
abbrev pub words_in : List (List ℕ) → Option Words
words_in (name ∷ seq ∷ event ∷ []) =
    if is_word name && is_word seq && is_word event
    then Some (record { name = name; seq = seq; event = event }) else None
words_in pieces = None

-- the three words of a line, divided by single spaces
abbrev pub words_of : List ℕ → Option Words
words_of line = words_in (divided 32 line)

-- the words that three slices are
abbrev pub said : Bor (List ℕ) × Bor (List ℕ) × Bor (List ℕ) → Words
said ws = record { name = ws.0.now; seq = ws.1.now; event = ws.2.now }

-- why an event's text is refused
abbrev pub event_bad : EventRefused → Bad
event_bad (event.BadPair at) = bad.Malformed
event_bad (event.UnknownField at) = bad.UnknownField
event_bad (event.TwiceField at) = bad.Malformed
event_bad (event.BadText at) = bad.Malformed
event_bad event.NoMemory = bad.NoMemory

-- the fields of an item
abbrev pub fields_of : Option ItemDef → List (List ℕ)
fields_of None = []
fields_of (Some def) = def.fields

-- an offer of this event, if the text said one
abbrev pub offer_with : ℕ → ℕ → Result Event EventRefused → Result Offer Bad
offer_with item seq (Ok e) = Ok (record { item = item; seq = seq; event = e })
offer_with item seq (Err cause) = Err (event_bad cause)

-- an offer on the item of this number, from 0, if there is one
abbrev pub offer_on : List ItemDef → Option ℕ → ℕ → List ℕ → Result Offer Bad
offer_on items None seq text = Err bad.UnknownItem
offer_on items (Some item) seq text = offer_with item seq (event_of (fields_of (slice_get items item)) text)

-- an offer with this seq, if it is a number from 1
abbrev pub offer_by : List ItemDef → Words → Option ℕ → Result Offer Bad
offer_by items w None = Err bad.Malformed
offer_by items w (Some seq) = offer_on items (place_of (names_of items) w.name) seq w.event

-- what words offer
abbrev pub offer_said : List ItemDef → Option Words → Result Offer Bad
offer_said items None = Err bad.Malformed
offer_said items (Some w) = offer_by items w (number_in w.seq 1 (2 ^ 64 - 1))

-- what a line offers, or the first cause that stands against it: its words and the seq first, then the item's name, and
-- then the event
abbrev pub offer_of : List ItemDef → List ℕ → Result Offer Bad
offer_of items line = offer_said items (words_of line)

-- an offer is on one of the items, and its event has that item's fields
pub record FitsItem (items : List ItemDef) (o : Offer) : Type 0 where
  pub def : ItemDef
  pub declared : slice_get items o.item ≡ Some def
  pub fits : HasFields (length def.fields) o.event

-- an answer is what was to be answered, or that memory was refused
abbrev pub AnswersOffer : Result Offer Bad → Result Offer Bad → Type 0
AnswersOffer want (Ok o) = want ≡ Ok o
AnswersOffer want (Err cause) = (cause ≡ bad.NoMemory) ⊎ (want ≡ Err cause)
