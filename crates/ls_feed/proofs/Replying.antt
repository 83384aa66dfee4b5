-- Replies one after another.
use Rattle.std.proofs.Common.{◌≡◌, ℕ, List, [], ◌∷◌, ◌++◌, refl, ◌∙◌, ap, append-nil, subst}
use Rattle.std.specs.Prelude.{Option}
use Rattle.std.proofs.lemmas.Grind.{flat_map-append}
use Rattle.ls_event.specs.declared.item.ItemDef.{ItemDef}
use Rattle.ls_live.specs.Live.{Pass}
use Rattle.ls_feed.specs.declared.reply.FeedReply.{FeedReply}
use Rattle.ls_feed.specs.Replies.{Replies, RepliesTo, texts_of, text_of}
use Rattle.ls_feed.specs.Feeding.{Greeted}

replies_on : (items : List ItemDef) (adapter : ℕ) (lines : List (List ℕ)) (rs : List FeedReply) (line : List ℕ) (r : FeedReply) (ps ms qs : List (Option Pass))
    → Replies items adapter lines rs ps ms → RepliesTo items adapter line r ms qs
    → Replies items adapter (lines ++ line ∷ []) (rs ++ r ∷ []) ps qs
replies_on items adapter [] [] line r ps ms qs before one = (qs, subst (λ (xs : List (Option Pass)). RepliesTo items adapter line r xs qs) before one, refl)
replies_on items adapter [] (x ∷ rs) line r ps ms qs before one = absurd before
replies_on items adapter (l ∷ lines) [] line r ps ms qs before one = absurd before
replies_on items adapter (l ∷ lines) (x ∷ rs) line r ps ms qs before one =
    (before.0, before.1, replies_on items adapter lines rs line r before.0 ms qs before.2 one)

-- one more line is answered behind others
pub greeted_on : (items : List ItemDef) (adapter : ℕ) (lines : List (List ℕ)) (rs : List FeedReply) (line : List ℕ) (r : FeedReply) (ps qs : List (Option Pass))
    → Greeted items adapter lines rs ps → RepliesTo items adapter line r ps qs
    → Greeted items adapter (lines ++ line ∷ []) (rs ++ r ∷ []) qs
greeted_on items adapter lines rs line r ps qs g one = record {
  first = g.first;
  behind = g.behind ++ line ∷ [];
  are = ap (λ ls. ls ++ line ∷ []) g.are;
  answered = record {
    hello = g.answered.hello;
    replied = replies_on items adapter g.behind rs line r [] ps qs g.answered.replied one;
  };
}

-- the texts of replies, and of one more
pub texts_on : (rs : List FeedReply) (r : FeedReply) → texts_of (rs ++ r ∷ []) ≡ texts_of rs ++ text_of r
texts_on rs r = flat_map-append text_of rs (r ∷ []) ∙ ap (λ t. texts_of rs ++ t) (append-nil (text_of r))
