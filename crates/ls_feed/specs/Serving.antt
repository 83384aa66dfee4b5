-- What came of a feed, by its bytes, its replies and the adapter's passes (this project's profile).
use Rattle.std.specs.Prelude.{◌≡◌, ◌⊎◌, ◌≤◌, ℕ, List, [], ◌∷◌, ◌++◌, length, Option, Some}
use Rattle.std.specs.Io.KnownBytes.{Consumes, Appends}
use mathlib.Core.List.{IsPrefix}
use Rattle.ls_event.specs.declared.item.ItemDef.{ItemDef}
use Rattle.ls_live.specs.Live.{Pass}
use Rattle.ls_feed.specs.declared.report.FeedEnd.{FeedEnd}
use Rattle.ls_feed.specs.declared.report.FeedEnd.TheVariants as end
use Rattle.ls_feed.specs.declared.limits.TheConstants.{LONGEST_LINE}
use Rattle.ls_feed.specs.declared.reply.FeedReply.{FeedReply}
use Rattle.ls_feed.specs.declared.reply.FeedReply.TheVariants as reply
use Rattle.ls_feed.specs.declared.reply.Bad.TheVariants as bad
use Rattle.ls_lines.specs.Lines.{IsPlain}
use Rattle.ls_feed.specs.Lines.{AreLines, AreTooLong, BeginOtherwise, hello_of}
use Rattle.ls_feed.specs.Replies.{Replies, texts_of, text_of}

-- nothing was said and no pass made
pub record Silent (replies : List FeedReply) (ps : List (Option Pass)) : Type 0 where
  pub none : replies ≡ []
  pub unseen : ps ≡ []

-- the first line is a hello, and each line behind it has its reply, in order
pub record Answered (items : List ItemDef) (adapter : ℕ) (first : List ℕ) (lines : List (List ℕ)) (replies : List FeedReply)
    (ps : List (Option Pass)) : Type 0 where
  pub hello : hello_of first ≡ Some adapter
  pub replied : Replies items adapter lines replies [] ps

-- the replies to a feed's lines, the first of which is its hello
abbrev pub Answers : List ItemDef → List (List ℕ) → List FeedReply → List (Option Pass) → Type 0
Answers items [] replies ps = Silent replies ps
Answers items (first ∷ lines) replies ps = (adapter : ℕ) × Answered items adapter first lines replies ps

-- what was read is whole lines and a part of a line, and each line behind the hello was answered
pub record AllAnswered (items : List ItemDef) (read written : List ℕ) (ps : List (Option Pass)) : Type 0 where
  pub lines : List (List ℕ)
  pub rest : List ℕ
  pub replies : List FeedReply
  pub are : AreLines read lines rest
  pub plain : IsPlain rest
  pub short : length rest ≤ LONGEST_LINE
  pub answers : Answers items lines replies ps
  pub text : written ≡ texts_of replies

-- the first line isn't a hello, or too long to be one, and nothing was written
pub record NotGreeted (read written : List ℕ) (ps : List (Option Pass)) : Type 0 where
  pub first : BeginOtherwise read ⊎ AreTooLong read
  pub silent : written ≡ []
  pub unseen : ps ≡ []

-- the lines before one that is too long were answered, and that one by `bad 1`
pub record EndsTooLong (items : List ItemDef) (read written : List ℕ) (ps : List (Option Pass)) : Type 0 where
  pub first : List ℕ
  pub lines : List (List ℕ)
  pub rest : List ℕ
  pub replies : List FeedReply
  pub are : AreLines read (first ∷ lines) rest
  pub long : AreTooLong rest
  pub answers : Answers items (first ∷ lines) replies ps
  pub text : written ≡ texts_of replies ++ text_of (reply.Bad bad.Malformed)

-- what is written to a line that wasn't acted on: nothing, but to one that is too long `bad 1`
abbrev pub LastText : List ℕ → List ℕ → Type 0
LastText rest text = (text ≡ []) ⊎ (AreTooLong rest × (text ≡ text_of (reply.Bad bad.Malformed)))

-- the first lines were acted on, and of their replies a part was written, from the front
pub record PartAnswered (items : List ItemDef) (read written : List ℕ) (ps : List (Option Pass)) : Type 0 where
  pub lines : List (List ℕ)
  pub rest : List ℕ
  pub replies : List FeedReply
  pub last : List ℕ
  pub are : AreLines read lines rest
  pub answers : Answers items lines replies ps
  pub last_is : LastText rest last
  pub part : IsPrefix written (texts_of replies ++ last)

-- what an end says of what was read and written, and of the passes
abbrev pub Outcome : List ItemDef → FeedEnd → List ℕ → List ℕ → List (Option Pass) → Type 0
Outcome items end.Closed read written ps = AllAnswered items read written ps
Outcome items end.ReadFault read written ps = AllAnswered items read written ps
Outcome items end.Stopped read written ps = AllAnswered items read written ps
Outcome items end.BadHello read written ps = NotGreeted read written ps
Outcome items end.LongLine read written ps = EndsTooLong items read written ps
Outcome items end.WriteFault read written ps = PartAnswered items read written ps
Outcome items end.NoMemory read written ps = PartAnswered items read written ps

-- some bytes were read and some were written, as the end says
pub record Served (items : List ItemDef) (ending : FeedEnd) (left left' held held' : Option (List ℕ))
    (ps : List (Option Pass)) : Type 0 where
  pub read : List ℕ
  pub written : List ℕ
  pub consumes : Consumes left left' read
  pub appends : Appends held held' written
  pub outcome : Outcome items ending read written ps
