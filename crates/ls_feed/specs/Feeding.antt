-- A feed in the middle of its bytes.
use Rattle.std.specs.Prelude.{◌≡◌, ◌≤◌, ℕ, List, [], ◌∷◌, ◌++◌, length, take, Option, None, Some}
use Rattle.std.specs.Prelude.{Result, Ok, Err}
use Rattle.std.specs.Io.KnownBytes.{Appends}
use mathlib.Core.List.{IsPrefix}
use Rattle.ls_event.specs.declared.item.ItemDef.{ItemDef}
use Rattle.ls_event.specs.declared.limits.TheConstants.{MOST_ADAPTERS}
use Rattle.ls_live.specs.Live.{Pass}
use Rattle.ls_feed.specs.declared.feed.Fed.{Fed}
use Rattle.ls_feed.specs.declared.feed.Fed.TheVariants as fed
use Rattle.ls_feed.specs.declared.limits.TheConstants.{LONGEST_LINE}
use Rattle.ls_feed.specs.declared.reply.FeedReply.{FeedReply}
use Rattle.ls_feed.specs.declared.report.FeedEnd.{FeedEnd}
use Rattle.ls_feed.specs.declared.report.FeedEnd.TheVariants as end
use Rattle.ls_lines.specs.Lines.{IsPlain}
use Rattle.ls_feed.specs.Lines.{AreLines, hello_of}
use Rattle.ls_feed.specs.Replies.{ArePasses, texts_of}
use Rattle.ls_feed.specs.Serving.{Silent, Answered, Outcome}

-- who feeds: the adapter, once its hello came, and its passes
pub record Feeder : Type 0 where
  pub adapter : Option ℕ
  pub passes : List (Option Pass)

-- what is kept between two pieces: who feeds, and the bytes behind the last line that ended
pub record KeptFeed : Type 0 where
  pub feeder : Feeder
  pub carry : List ℕ

-- an adapter that said its hello, and its passes
pub record IsKnown (items : List ItemDef) (adapter : ℕ) (ps : List (Option Pass)) : Type 0 where
  pub least : 1 ≤ adapter
  pub most : adapter ≤ MOST_ADAPTERS
  pub are : ArePasses items adapter ps

-- a feeder is known, or has no passes yet
abbrev pub IsFeeder : List ItemDef → Option ℕ → List (Option Pass) → Type 0
IsFeeder items None ps = ps ≡ []
IsFeeder items (Some adapter) ps = IsKnown items adapter ps

-- what is kept may go on: a part of a line that isn't too long
pub record IsReady (items : List ItemDef) (k : KeptFeed) : Type 0 where
  pub feeder : IsFeeder items k.feeder.adapter k.feeder.passes
  pub plain : IsPlain k.carry
  pub short : length k.carry ≤ LONGEST_LINE

-- a hello and the lines behind it were answered
pub record Greeted (items : List ItemDef) (adapter : ℕ) (lines : List (List ℕ)) (replies : List FeedReply)
    (ps : List (Option Pass)) : Type 0 where
  pub first : List ℕ
  pub behind : List (List ℕ)
  pub are : lines ≡ first ∷ behind
  pub answered : Answered items adapter first behind replies ps

-- these lines were answered so, by who feeds
abbrev pub AnsweredSo : List ItemDef → Option ℕ → List (List ℕ) → List FeedReply → List (Option Pass) → Type 0
AnsweredSo items None lines replies ps = (lines ≡ []) × Silent replies ps
AnsweredSo items (Some adapter) lines replies ps = Greeted items adapter lines replies ps

-- these lines were answered, and so much of their replies was written
pub record Wrote (items : List ItemDef) (f : Feeder) (lines : List (List ℕ)) (held held' : Option (List ℕ))
    : Type 0 where
  pub replies : List FeedReply
  pub answers : AnsweredSo items f.adapter lines replies f.passes
  pub appends : Appends held held' (texts_of replies)

-- these lines were answered, and a part of their replies was written, from the front
pub record WrotePart (items : List ItemDef) (f : Feeder) (lines : List (List ℕ)) (held held' : Option (List ℕ))
    : Type 0 where
  pub replies : List FeedReply
  pub written : List ℕ
  pub answers : AnsweredSo items f.adapter lines replies f.passes
  pub appends : Appends held held' written
  pub part : IsPrefix written (texts_of replies)

-- a line is no hello where one is due
pub record WroteNone (f : Feeder) (lines : List (List ℕ)) (line : List ℕ) (held held' : Option (List ℕ)) : Type 0 where
  pub none : lines ≡ []
  pub other : hello_of line ≡ None
  pub unseen : f.passes ≡ []
  pub appends : Appends held held' []

-- what an answer says of a line behind others, and of who feeds behind it
abbrev pub Acts : List ItemDef → Fed → Feeder → List (List ℕ) → List ℕ → Option (List ℕ) → Option (List ℕ) → Type 0
Acts items fed.All f lines line held held' = Wrote items f (lines ++ line ∷ []) held held'
Acts items fed.BadHello f lines line held held' = WroteNone f lines line held held'
Acts items fed.LongLine f lines line held held' = ⊥
Acts items fed.WriteFault f lines line held held' = WrotePart items f (lines ++ line ∷ []) held held'
Acts items fed.NoMemory f lines line held held' = WrotePart items f (lines ++ line ∷ []) held held'

-- all lines that ended in these bytes were answered
pub record Stands (items : List ItemDef) (k : KeptFeed) (read : List ℕ) (held held' : Option (List ℕ)) : Type 0 where
  pub lines : List (List ℕ)
  pub are : AreLines read lines k.carry
  pub wrote : Wrote items k.feeder lines held held'

-- a feed has ended in these bytes
pub record Ends (items : List ItemDef) (ending : FeedEnd) (ps : List (Option Pass)) (read : List ℕ)
    (held held' : Option (List ℕ)) : Type 0 where
  pub written : List ℕ
  pub appends : Appends held held' written
  pub outcome : Outcome items ending read written ps

-- what an answer says of the bytes so far, and of what is kept
abbrev pub Goes : List ItemDef → Fed → KeptFeed → List ℕ → Option (List ℕ) → Option (List ℕ) → Type 0
Goes items fed.All k read held held' = Stands items k read held held'
Goes items fed.BadHello k read held held' = Ends items end.BadHello k.feeder.passes read held held'
Goes items fed.LongLine k read held held' = Ends items end.LongLine k.feeder.passes read held held'
Goes items fed.WriteFault k read held held' = Ends items end.WriteFault k.feeder.passes read held held'
Goes items fed.NoMemory k read held held' = Ends items end.NoMemory k.feeder.passes read held held'

-- what an answer says of the bytes before a piece and of its first ones: so many were taken, or the feed ends in it
abbrev pub GoesNext : List ItemDef → Result ℕ Fed → KeptFeed → List ℕ → List ℕ → Option (List ℕ) → Option (List ℕ) → Type 0
GoesNext items (Ok used) k read piece held held' = Stands items k (read ++ take used piece) held held'
GoesNext items (Err stopped) k read piece held held' = Goes items stopped k (read ++ piece) held held'

-- how a feed ends that doesn't go on
abbrev pub end_at : Fed → FeedEnd
end_at fed.All = end.Closed
end_at fed.BadHello = end.BadHello
end_at fed.LongLine = end.LongLine
end_at fed.WriteFault = end.WriteFault
end_at fed.NoMemory = end.NoMemory

-- what an answer says of a text that was to be written
abbrev pub Sends : Fed → Option (List ℕ) → Option (List ℕ) → List ℕ → Type 0
Sends fed.All held held' text = Appends held held' text
Sends fed.BadHello held held' text = ⊥
Sends fed.LongLine held held' text = ⊥
Sends fed.WriteFault held held' text = (part : List ℕ) × IsPrefix part text × Appends held held' part
Sends fed.NoMemory held held' text = Appends held held' []

-- what an answer says of a line that is too long: to one behind a hello `bad 1` was written
abbrev pub SaysTooLong : Fed → Option ℕ → Option (List ℕ) → Option (List ℕ) → List ℕ → Type 0
SaysTooLong fed.All adapter held held' text = ⊥
SaysTooLong fed.BadHello adapter held held' text = (adapter ≡ None) × Appends held held' []
SaysTooLong fed.LongLine None held held' text = ⊥
SaysTooLong fed.LongLine (Some adapter) held held' text = Appends held held' text
SaysTooLong fed.WriteFault None held held' text = ⊥
SaysTooLong fed.WriteFault (Some adapter) held held' text = Sends fed.WriteFault held held' text
SaysTooLong fed.NoMemory None held held' text = ⊥
SaysTooLong fed.NoMemory (Some adapter) held held' text = Sends fed.NoMemory held held' text
