-- Lines of a feed and their replies, computed by the definitions alone.
use Rattle.std.proofs.Common.{◌≡◌, ℕ, List, [], ◌∷◌, ◌++◌, refl}
use Rattle.std.specs.Prelude.{None, Some, Ok, Err, codes}
use Rattle.std.specs.Fmt.{digits}
use Rattle.std.specs.Str.{is_utf8, chars}
use Rattle.percent_encoding.specs.Percent.{percent_decode}
use Rattle.atomic_table.specs.Seated.{TableId}
use Rattle.ls_value.specs.declared.row.Cell.TheVariants as cell
use Rattle.ls_event.specs.declared.event.Event.TheVariants.{Update, Clear}
use Rattle.ls_event.specs.declared.event.PublishRefused.TheVariants as refused
use Rattle.ls_event.specs.declared.item.ItemDef.{ItemDef}
use Rattle.ls_event.specs.declared.item.Kind.TheVariants as kind
use Rattle.ls_event.specs.Shapes.{shape_of}
use Rattle.ls_live.specs.Live.{Pass}
use Rattle.ls_feed.specs.declared.offer.Offer.{Offer}
use Rattle.ls_feed.specs.declared.reply.Bad.TheVariants as bad
use Rattle.ls_feed.specs.declared.reply.FeedReply.TheVariants as reply
use Rattle.ls_feed.specs.Lines.{hello_of}
use Rattle.ls_feed.specs.Offers.{offer_of}
use Rattle.ls_feed.specs.Replies.{cause_of, text_of}

least_adapter : hello_of (codes "feed 1") ≡ Some 1
least_adapter = refl

greatest_adapter : hello_of (codes "feed 64") ≡ Some 64
greatest_adapter = refl

no_adapter : hello_of (codes "feed 0") ≡ None
no_adapter = refl

adapter_beyond : hello_of (codes "feed 65") ≡ None
adapter_beyond = refl

no_number : hello_of (codes "feed 1x") ≡ None
no_number = refl

two_spaces : hello_of (codes "feed  1") ≡ None
two_spaces = refl

-- one item of one field
abbrev def : ItemDef
def = record { name = codes "q"; kind = kind.Merge; fields = codes "a" ∷ [] }

abbrev items : List ItemDef
items = def ∷ []

abbrev said : ℕ → List ℕ → Offer
said seq text = record { item = 0; seq = seq; event = Update (cell.Text text ∷ []) }

published : offer_of items (codes "q 1 a=x") ≡ Ok (said 1 (codes "x"))
unfolding is_utf8 chars percent_decode lib.Utf8.encode
published = refl

published_again : offer_of items (codes "q 1 a=y") ≡ Ok (said 1 (codes "y"))
unfolding is_utf8 chars percent_decode lib.Utf8.encode
published_again = refl

cleared : offer_of items (codes "q 2 !") ≡ Ok (record { item = 0; seq = 2; event = Clear })
cleared = refl

unknown_field : offer_of items (codes "q 2 b=1") ≡ Err bad.UnknownField
unknown_field = refl

unknown_item : offer_of items (codes "z 1 a=1") ≡ Err bad.UnknownItem
unknown_item = refl

no_seq : offer_of items (codes "q x a=1") ≡ Err bad.Malformed
no_seq = refl

-- the words and the seq come before the item's name, and that before the event
no_seq_no_item : offer_of items (codes "z x a=1") ≡ Err bad.Malformed
no_seq_no_item = refl

no_item_no_event : offer_of items (codes "z 1 a") ≡ Err bad.UnknownItem
no_item_no_event = refl

twice : offer_of items (codes "q 2 a=1&a=2") ≡ Err bad.Malformed
unfolding is_utf8 chars percent_decode lib.Utf8.encode
twice = refl

four_words : offer_of items (codes "q 2 a=1 b") ≡ Err bad.Malformed
four_words = refl

an_empty_word : offer_of items (codes "q  2 a=1") ≡ Err bad.Malformed
an_empty_word = refl

no_words : offer_of items [] ≡ Err bad.Malformed
no_words = refl

-- what the adapter's pass has seen after the first of these lines
abbrev seen : TableId → Pass
seen table = record {
  adapter = 1;
  item = 0;
  place = None;
  table = table;
  shape = shape_of def;
  list = record { adapter = 1; seq = 1; event = Update (cell.Text (codes "x") ∷ []) } ∷ [];
}

repeated : (table : TableId) → cause_of (said 1 (codes "y")) (seen table) ≡ Some (refused.Repeated 1)
repeated table = refl

not_refused : (table : TableId) → cause_of (said 2 (codes "y")) (seen table) ≡ None
not_refused table = refl

ok_text : text_of (reply.Published 1) ≡ codes "ok 1" ++ 10 ∷ []
unfolding digits
ok_text = refl

repeated_text : text_of (reply.Repeated 18) ≡ codes "repeated 18" ++ 10 ∷ []
unfolding digits
repeated_text = refl

bad_text : text_of (reply.Bad bad.UnknownField) ≡ codes "bad 3" ++ 10 ∷ []
unfolding digits
bad_text = refl
