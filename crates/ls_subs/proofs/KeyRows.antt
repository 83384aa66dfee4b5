-- The rows by key that are kept of a client are its own.
use Rattle.std.proofs.Common.{◌≡◌, ℕ, List, ◌∷◌, ◌∙◌, ap, cond, Option, Some, None}
use Rattle.std.specs.FinMap as finite
use Rattle.std.specs.FinMap.{get-empty}
use Rattle.std.specs.Ordering.{nat_cmp}
use Rattle.std.specs.Cmp.Lexicographic.{slice_cmp}
use Rattle.ls_value.specs.declared.row.Value.{Value}
use Rattle.ls_mirror.specs.declared.command.KeyPlaces.{KeyPlaces}
use Rattle.ls_value.specs.Values.{text_eq, value_at}
use Rattle.ls_mirror.specs.Client.{What, Row, Lost, Cleared, End}
use Rattle.ls_mirror.specs.Keys.{KeyTable}
use Rattle.ls_mirror.proofs.KeyRows.{get_inserted, get_removed}
use Rattle.ls_record.specs.Tables.{text_or_empty, kept_of}
use Rattle.ls_subs.specs.Subscription.{table_set, keyed_with, HoldsKeys}

get_set : (table : KeyTable) (a : List ℕ) (o : Option (List Value)) (k : List ℕ) → finite.get (table_set table a o) k
    ≡ cond (text_eq a k) o (finite.get table k)
get_set table a None k = get_removed table a k
get_set table a (Some row) k = get_inserted table a row k

-- what comes changes the rows by key as it changes the client's
pub holds_more : (keys : Option KeyPlaces) (table : KeyTable) (ws : List What) (what : What) → HoldsKeys keys table ws
    → HoldsKeys keys (keyed_with keys table what) (what ∷ ws)
holds_more None table ws what holds = tt
holds_more (Some at) table ws (Row row) holds = λ k.
    get_set table (text_or_empty (value_at row at.key)) (kept_of at row) k
    ∙ ap (λ o. cond (text_eq (text_or_empty (value_at row at.key)) k) (kept_of at row) o) (holds k)
holds_more (Some at) table ws (Lost n) holds = holds
holds_more (Some at) table ws Cleared holds = λ k. get-empty (slice_cmp nat_cmp) k
holds_more (Some at) table ws End holds = holds
