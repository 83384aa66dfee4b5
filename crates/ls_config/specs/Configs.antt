-- The config of a server, line by line (this project's profile).
use Rattle.std.specs.Prelude.{◌≡◌, ◌⊎◌, ◌==◌, ℕ, ◌+◌, List, [], ◌∷◌, ◌++◌, Bool, true, false, ◌&&◌, not, Option, None}
use Rattle.std.specs.Prelude.{Some, Result, Ok, Err, codes, if◌then◌else◌}
use Rattle.ls_value.specs.Values.{text_eq}
use Rattle.ls_words.specs.Words.{divided, is_name}
use Rattle.ls_event.specs.declared.item.ItemDef.{ItemDef}
use Rattle.ls_config.specs.declared.config.Config.{Config}
use Rattle.ls_config.specs.declared.reading.ConfigRefused.{ConfigRefused}
use Rattle.ls_config.specs.declared.reading.ConfigRefused.TheVariants as refused
use Rattle.ls_config.specs.declared.reading.Draft.{Draft}
use Rattle.ls_config.specs.Items.{item_said, may_follow}

-- a line that is empty or begins with `#` is skipped
abbrev pub is_skipped : List ℕ → Bool
is_skipped [] = true
is_skipped (b ∷ bs) = b == 35

-- before the first line
abbrev pub nothing : Draft
nothing = record { set = None; begun = false; items = [] }

-- a draft whose set has this name, if it is one
abbrev pub with_name : Draft → List ℕ → Option Draft
with_name d name = if is_name name then Some (record { set = Some name; begun = true; items = d.items }) else None

-- `set <name>`: only the first line that isn't skipped may be one
abbrev pub with_set : Draft → List ℕ → List ℕ → Option Draft
with_set d word name = if text_eq word (codes "set") && not d.begun then with_name d name else None

-- one more item
abbrev pub with_item : Draft → Option ItemDef → Option Draft
with_item d None = None
with_item d (Some i) =
    if may_follow d.items i.name then Some (record { set = d.set; begun = true; items = d.items ++ i ∷ [] }) else None

-- behind a line of these words
abbrev pub with_words : Draft → List (List ℕ) → Option Draft
with_words d (word ∷ name ∷ []) = with_set d word name
with_words d (name ∷ word ∷ fields ∷ []) = with_item d (item_said name word fields)
with_words d words = None

-- behind a line; its words are divided by single spaces
abbrev pub with_line : Draft → List ℕ → Option Draft
with_line d line = if is_skipped line then Some d else with_words d (divided 32 line)

-- what all lines say behind a draft, or the first of them that is outside the format; lines are counted from 1, and so
-- many came before
abbrev pub with_lines : ℕ → Option Draft → List (List ℕ) → Result Draft ConfigRefused
with_lines before None lines = Err (refused.BadConfig before)
with_lines before (Some d) [] = Ok d
with_lines before (Some d) (line ∷ lines) = with_lines (before + 1) (with_line d line) lines

-- the set's name; it is `DEFAULT` without a `set` line
abbrev pub set_of : Option (List ℕ) → List ℕ
set_of None = codes "DEFAULT"
set_of (Some name) = name

-- the config that a draft of all lines says
abbrev pub config_from : Result Draft ConfigRefused → Result Config ConfigRefused
config_from (Ok d) = Ok (record { set = set_of d.set; items = d.items })
config_from (Err cause) = Err cause

-- the config that bytes say, whose lines are divided by LF, or the first line that is outside the format
abbrev pub config_of : List ℕ → Result Config ConfigRefused
config_of bytes = config_from (with_lines 0 (Some nothing) (divided 10 bytes))

-- an answer is what was to be answered, or that memory was refused
abbrev pub Answers : {A : Type 0} → Result A ConfigRefused → Result A ConfigRefused → Type 0
Answers want (Ok given) = want ≡ Ok given
Answers want (Err cause) = (cause ≡ refused.NoMemory) ⊎ (want ≡ Err cause)
