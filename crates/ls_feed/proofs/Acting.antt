-- What a line makes of who feeds, and of what was written.
use Rattle.std.proofs.Common.{◌≡◌, ℕ, List, [], ◌∷◌, ◌++◌, refl, sym, ◌∙◌, ap, subst, append_assoc, append-nil, take, drop}
use Rattle.std.specs.Prelude.{Option, None, Some}
use Rattle.std.proofs.lemmas.List.{take-append-drop}
use Rattle.std.specs.Io.KnownBytes.{Appends}
use mathlib.Core.List.{IsPrefix}
use Rattle.ls_outside.proofs.Bytes.{appends_on}
use Rattle.ls_event.specs.declared.item.ItemDef.{ItemDef}
use Rattle.ls_live.specs.Live.{Pass}
use Rattle.ls_feed.specs.declared.feed.Fed.{Fed}
use Rattle.ls_feed.specs.declared.feed.Fed.TheVariants as fed
use Rattle.ls_feed.specs.declared.reply.FeedReply.{FeedReply}
use Rattle.ls_feed.specs.Lines.{hello_of}
use Rattle.ls_feed.specs.Replies.{ArePasses, Replies, RepliesTo, texts_of, text_of}
use Rattle.ls_feed.specs.Feeding.{Feeder, IsFeeder, Greeted, AnsweredSo, Wrote, WroteNone, Acts, Sends}
use Rattle.ls_feed.proofs.Replying.{greeted_on, texts_on}

-- the passes of an adapter that said its hello
pub passes_of : (items : List ItemDef) (f g : Feeder) (adapter : ℕ) → g ≡ f → g.adapter ≡ Some adapter
    → IsFeeder items f.adapter f.passes → ArePasses items adapter g.passes
passes_of items f g adapter same is ready =
    (subst (λ (a : Option ℕ). IsFeeder items a g.passes) is
    (subst (λ (x : Feeder). IsFeeder items x.adapter x.passes) (sym same) ready)).are

-- a part of a text behind others
pub prefix_behind : (front part all : List ℕ) → IsPrefix part all → IsPrefix (front ++ part) (front ++ all)
prefix_behind front part all x = (x.0, append_assoc front part x.0 ∙ ap (λ t. front ++ t) x.1)

pub prefix_all : (text : List ℕ) → IsPrefix text text
prefix_all text = ([], append-nil text)

pub prefix_front : (text more : List ℕ) → IsPrefix text (text ++ more)
prefix_front text more = (more, refl)

-- nothing more was written
pub appends_none : (a b c : Option (List ℕ)) (x : List ℕ) → Appends a b x → Appends b c [] → Appends a c x
appends_none a b c x p q = subst (λ t. Appends a c t) (append-nil x) (appends_on a b c x [] p q)

-- a hello
pub greeted_first : (items : List ItemDef) (adapter : ℕ) (lines : List (List ℕ)) (rs : List FeedReply) (line : List ℕ) (ps : List (Option Pass))
    → AnsweredSo items None lines rs ps → hello_of line ≡ Some adapter → Greeted items adapter (lines ++ line ∷ []) rs ps
greeted_first items adapter lines rs line ps so hello = record {
  first = line;
  behind = [];
  are = ap (λ ls. ls ++ line ∷ []) so.0;
  answered = record {
    hello = hello;
    replied = subst (λ (r : List FeedReply). Replies items adapter [] r [] ps) (sym so.1.none) so.1.unseen;
  };
}

-- a first line, where no hello came
pub first_greets : (items : List ItemDef) (f : Feeder) (adapter : ℕ) (lines : List (List ℕ)) (line : List ℕ) (held now : Option (List ℕ))
    → f.adapter ≡ None → hello_of line ≡ Some adapter → Wrote items f lines held now
    → Wrote items (record { adapter = Some adapter; passes = f.passes }) (lines ++ line ∷ []) held now
first_greets items f adapter lines line held now none hello w = record {
  replies = w.replies;
  answers = greeted_first items adapter lines w.replies line f.passes
      (subst (λ (a : Option ℕ). AnsweredSo items a lines w.replies f.passes) none w.answers) hello;
  appends = w.appends;
}

pub first_other : (items : List ItemDef) (f : Feeder) (lines : List (List ℕ)) (line : List ℕ) (held now : Option (List ℕ))
    → f.adapter ≡ None → hello_of line ≡ None → Wrote items f lines held now → WroteNone f lines line held now
first_other items f lines line held now none other w =
    let so : AnsweredSo items None lines w.replies f.passes =
    subst (λ (a : Option ℕ). AnsweredSo items a lines w.replies f.passes) none w.answers in
    record {
      none = so.0;
      other = other;
      unseen = so.1.unseen;
      appends = subst (λ (r : List FeedReply). Appends held now (texts_of r)) so.1.none w.appends;
    }

-- a line of an adapter's has its reply
more : (items : List ItemDef) (f f' : Feeder) (adapter : ℕ) (lines : List (List ℕ)) (line : List ℕ) (rs : List FeedReply) (r : FeedReply)
    → f.adapter ≡ Some adapter → f'.adapter ≡ Some adapter → RepliesTo items adapter line r f.passes f'.passes
    → AnsweredSo items f.adapter lines rs f.passes → AnsweredSo items f'.adapter (lines ++ line ∷ []) (rs ++ r ∷ []) f'.passes
more items f f' adapter lines line rs r was is one so =
    let g : Greeted items adapter lines rs f.passes = subst (λ (a : Option ℕ). AnsweredSo items a lines rs f.passes) was so in
    subst (λ (a : Option ℕ). AnsweredSo items a (lines ++ line ∷ []) (rs ++ r ∷ []) f'.passes) (sym is)
    (greeted_on items adapter lines rs line r f.passes f'.passes g one)

-- and the reply was sent
pub acted : (items : List ItemDef) (f f' : Feeder) (adapter : ℕ) (a : Fed) (lines : List (List ℕ)) (line : List ℕ) (r : FeedReply) (held h0 h1 : Option (List ℕ))
    → f.adapter ≡ Some adapter → f'.adapter ≡ Some adapter → RepliesTo items adapter line r f.passes f'.passes → Sends a h0 h1 (text_of r)
    → Wrote items f lines held h0 → Acts items a f' lines line held h1
acted items f f' adapter fed.All lines line r held h0 h1 was is one sent w = record {
  replies = w.replies ++ r ∷ [];
  answers = more items f f' adapter lines line w.replies r was is one w.answers;
  appends = subst (λ t. Appends held h1 t) (sym (texts_on w.replies r))
      (appends_on held h0 h1 (texts_of w.replies) (text_of r) w.appends sent);
}
acted items f f' adapter fed.BadHello lines line r held h0 h1 was is one sent w = absurd sent
acted items f f' adapter fed.LongLine lines line r held h0 h1 was is one sent w = sent
acted items f f' adapter fed.WriteFault lines line r held h0 h1 was is one sent w = record {
  replies = w.replies ++ r ∷ [];
  written = texts_of w.replies ++ sent.0;
  answers = more items f f' adapter lines line w.replies r was is one w.answers;
  appends = appends_on held h0 h1 (texts_of w.replies) sent.0 w.appends sent.2;
  part = subst (λ t. IsPrefix (texts_of w.replies ++ sent.0) t) (sym (texts_on w.replies r))
      (prefix_behind (texts_of w.replies) sent.0 (text_of r) sent.1);
}
acted items f f' adapter fed.NoMemory lines line r held h0 h1 was is one sent w = record {
  replies = w.replies ++ r ∷ [];
  written = texts_of w.replies;
  answers = more items f f' adapter lines line w.replies r was is one w.answers;
  appends = appends_none held h0 h1 (texts_of w.replies) w.appends sent;
  part = subst (λ t. IsPrefix (texts_of w.replies) t) (sym (texts_on w.replies r)) (prefix_front (texts_of w.replies) (text_of r));
}

-- a part of a text was written
pub part_sent : (held now : Option (List ℕ)) (text piece : List ℕ) → piece ≡ text → (k : ℕ) → Appends held now (take k piece)
    → Sends fed.WriteFault held now text
part_sent held now text piece is k wrote = (take k piece, (drop k piece, take-append-drop k piece ∙ is), wrote)
