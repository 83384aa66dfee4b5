-- The table of what came, one line later.
use Rattle.std.proofs.Common.{◌≡◌, ℕ, ◌+◌, sum_by, List, ◌∷◌, Option, ap, ◌∙◌, arith}
use Rattle.std.proofs.lemmas.List.Sums.{sum_by-cons}
use Rattle.ls_mirror.specs.declared.table.Table.{Table}
use Rattle.ls_value.specs.declared.row.Value.{Value}
use Rattle.ls_mirror.specs.Keys.{KeyTable}
use Rattle.ls_mirror.specs.declared.command.KeyPlaces.{KeyPlaces}
use Rattle.ls_mirror.specs.Client.{What, Row, Lost, Cleared, End, Heard, Coded, Missed, Emptied, Ended, AreDecoded, last_row}
use Rattle.ls_mirror.specs.Tables.{capped, table_of, table_after, lost_by, updates_by, IsDecoded, IsTableAfter}
use Rattle.ls_mirror.specs.Standing.{StandsTable}

same_table : (last : Option (List Value)) (keys : KeyTable) (a b m n : ℕ) → a ≡ b → m ≡ n
    → ◌≡◌ {A = Table} (record { last = last; keys = keys; lost = a; updates = m }) (record { last = last; keys = keys; lost = b; updates = n })
same_table last keys a b m n e f i = record { last = last; keys = keys; lost = e i; updates = f i }

counted_more : (n k m : ℕ) → m ≡ k + n → capped (capped n + k) ≡ capped m
counted_more n k m e = omega (arith, e)

lost_sum : (w : What) (ws : List What) → sum_by lost_by (w ∷ ws) ≡ lost_by w + sum_by lost_by ws
lost_sum w ws = sum_by-cons lost_by w ws

updates_sum : (w : What) (ws : List What) → sum_by updates_by (w ∷ ws) ≡ updates_by w + sum_by updates_by ws
updates_sum w ws = sum_by-cons updates_by w ws

kept : (n m : ℕ) → m ≡ 0 + n → capped n ≡ capped m
kept n m e = omega (arith, e)

pub table_more : (places : Option KeyPlaces) (w : What) (ws : List What) → table_after w places (table_of places ws) ≡ table_of places (w ∷ ws)
table_more places (Row row) ws = same_table _ _ _ _ _ _ (kept _ _ (lost_sum (Row row) ws)) (counted_more _ 1 _ (updates_sum (Row row) ws))
table_more places (Lost k) ws = same_table _ _ _ _ _ _ (counted_more _ k _ (lost_sum (Lost k) ws)) (kept _ _ (updates_sum (Lost k) ws))
table_more places Cleared ws = same_table _ _ _ _ _ _ (kept _ _ (lost_sum Cleared ws)) (kept _ _ (updates_sum Cleared ws))
table_more places End ws = same_table _ _ _ _ _ _ (kept _ _ (lost_sum End ws)) (kept _ _ (updates_sum End ws))

decoded_more : (fields : ℕ) (h : Heard) (hs : List Heard) (w : What) (ws : List What) → IsDecoded fields (last_row ws) h w → AreDecoded fields hs ws
    → AreDecoded fields (h ∷ hs) (w ∷ ws)
decoded_more fields (Coded coded) hs (Row row) ws t d = (t, d)
decoded_more fields (Coded coded) hs (Lost k) ws t d = absurd t
decoded_more fields (Coded coded) hs Cleared ws t d = absurd t
decoded_more fields (Coded coded) hs End ws t d = absurd t
decoded_more fields (Missed lost) hs (Row row) ws t d = absurd t
decoded_more fields (Missed lost) hs (Lost k) ws t d = (t, d)
decoded_more fields (Missed lost) hs Cleared ws t d = absurd t
decoded_more fields (Missed lost) hs End ws t d = absurd t
decoded_more fields Emptied hs (Row row) ws t d = absurd t
decoded_more fields Emptied hs (Lost k) ws t d = absurd t
decoded_more fields Emptied hs Cleared ws t d = d
decoded_more fields Emptied hs End ws t d = absurd t
decoded_more fields Ended hs (Row row) ws t d = absurd t
decoded_more fields Ended hs (Lost k) ws t d = absurd t
decoded_more fields Ended hs Cleared ws t d = absurd t
decoded_more fields Ended hs End ws t d = d

pub shows_more : (fields : ℕ) (places : Option KeyPlaces) (h : Heard) (hs : List Heard) (old new : Table) → StandsTable fields places hs old
    → IsTableAfter fields places h old new → StandsTable fields places (h ∷ hs) new
shows_more fields places h hs old new shown (w, tells, is) = record {
  whats = w ∷ shown.whats;
  decoded = decoded_more fields h hs w shown.whats (rw shown.is at tells) shown.decoded;
  is = is ∙ ap (table_after w places) shown.is ∙ table_more places w shown.whats;
}
