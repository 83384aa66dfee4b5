-- What came is determined by what was heard.
use Rattle.std.proofs.Common.{◌≡◌, ℕ, ◌<◌, ◌^◌, length, take, drop, List, [], ◌∷◌, Option, sym, refl, ap, ◌∙◌, arith, subst, unwrap_or, length-take-le}
use Rattle.std.proofs.lemmas.List.{length-take, length-drop}
use Rattle.ls_value.specs.declared.row.Value.{Value}
use Rattle.ls_update.specs.Reading.{Reads, Says, unchanged, run, null, empty, text, HasFields, row_before, tokens_of}
use Rattle.ls_update.proofs.ReadBack.{length_before}
use Rattle.ls_update.proofs.Exact.{one_row}
use Rattle.ls_mirror.specs.Client.{Heard, Coded, Missed, Emptied, Ended, What, Row, Lost, Cleared, End, AreDecoded, HasCome, heard, last_row}
use Rattle.ls_mirror.specs.Tables.{IsDecoded, table_of}
use Rattle.ls_mirror.specs.Standing.{IsTableOf}
use Rattle.ls_mirror.specs.declared.table.Table.{Table}
use Rattle.ls_line.specs.declared.line.Line.{Line}

said_length : (before now : List Value) (token : List ℕ) → Says before token now → length now ≡ length before
said_length before now token (unchanged one t is) = ap length is
said_length before now token (run some t is) = ap length is
said_length before now token (null one t is) = ap length is ∙ sym one
said_length before now token (empty one t is) = ap length is ∙ sym one
said_length before now token (text one t u is) = ap length is ∙ sym one

pub reads_length : (prev row : List Value) (tokens : List (List ℕ)) → Reads prev tokens row → length row ≡ length prev
reads_length prev row [] (x, y) = ap length y ∙ sym (ap length x)
reads_length prev row (t ∷ ts) (k, within, says, rest) =
    let first : length (take k row) ≡ length (take k prev) = said_length (take k prev) (take k row) t says in
    let others : length (drop k row) ≡ length (drop k prev) = reads_length (drop k prev) (drop k row) ts rest in
    let a = length-take k row in
    let b = length-take-le k prev within in
    let d = length-drop k row in
    let e = length-drop k prev in
    omega (arith, first, others, a, b, d, e, within)

pub decoded_parts : (fields : ℕ) (h : Heard) (hs : List Heard) (w : What) (ws : List What) → AreDecoded fields (h ∷ hs) (w ∷ ws)
    → IsDecoded fields (last_row ws) h w × AreDecoded fields hs ws
decoded_parts fields (Coded coded) hs (Row row) ws d = d
decoded_parts fields (Coded coded) hs (Lost k) ws d = absurd d
decoded_parts fields (Coded coded) hs Cleared ws d = absurd d
decoded_parts fields (Coded coded) hs End ws d = absurd d
decoded_parts fields (Missed lost) hs (Row row) ws d = absurd d
decoded_parts fields (Missed lost) hs (Lost k) ws d = d
decoded_parts fields (Missed lost) hs Cleared ws d = absurd d
decoded_parts fields (Missed lost) hs End ws d = absurd d
decoded_parts fields Emptied hs (Row row) ws d = absurd d
decoded_parts fields Emptied hs (Lost k) ws d = absurd d
decoded_parts fields Emptied hs Cleared ws d = (tt, d)
decoded_parts fields Emptied hs End ws d = absurd d
decoded_parts fields Ended hs (Row row) ws d = absurd d
decoded_parts fields Ended hs (Lost k) ws d = absurd d
decoded_parts fields Ended hs Cleared ws d = absurd d
decoded_parts fields Ended hs End ws d = (tt, d)

none_decoded : (fields : ℕ) (h : Heard) (hs : List Heard) → AreDecoded fields (h ∷ hs) [] → ⊥
none_decoded fields (Coded coded) hs d = d
none_decoded fields (Missed lost) hs d = d
none_decoded fields Emptied hs d = d
none_decoded fields Ended hs d = d

-- a row has as many fields as the row before
told_length : (fields : ℕ) (last : Option (List Value)) (h : Heard) (row : List Value) → HasFields fields last → IsDecoded fields last h (Row row)
    → length row ≡ fields
told_length fields last (Coded coded) row has reads = reads_length (row_before fields last) row (tokens_of coded) reads ∙ length_before last fields has
told_length fields last (Missed lost) row has t = absurd t
told_length fields last Emptied row has t = absurd t
told_length fields last Ended row has t = absurd t

pub last_length : (fields : ℕ) (hs : List Heard) (ws : List What) → AreDecoded fields hs ws → HasFields fields (last_row ws)
last_length fields hs [] d = tt
last_length fields [] (w ∷ ws) d = absurd d
last_length fields (h ∷ hs) (Row row ∷ ws) d =
    let parts = decoded_parts fields h hs (Row row) ws d in
    told_length fields (last_row ws) h row (last_length fields hs ws parts.1) parts.0
last_length fields (h ∷ hs) (Lost k ∷ ws) d = last_length fields hs ws (decoded_parts fields h hs (Lost k) ws d).1
last_length fields (h ∷ hs) (Cleared ∷ ws) d = last_length fields hs ws (decoded_parts fields h hs Cleared ws d).1
last_length fields (h ∷ hs) (End ∷ ws) d = last_length fields hs ws (decoded_parts fields h hs End ws d).1

told_row : (fields : ℕ) (last : Option (List Value)) (coded : List ℕ) (w : What) → IsDecoded fields last (Coded coded) w
    → (row : List Value) × (w ≡ Row row) × Reads (row_before fields last) (tokens_of coded) row
told_row fields last coded (Row row) t = (row, refl, t)
told_row fields last coded (Lost k) t = absurd t
told_row fields last coded Cleared t = absurd t
told_row fields last coded End t = absurd t

told_lost : (fields : ℕ) (last : Option (List Value)) (lost : ℕ) (w : What) → IsDecoded fields last (Missed lost) w → w ≡ Lost lost
told_lost fields last lost (Row row) t = absurd t
told_lost fields last lost (Lost k) t = ap (λ n. Lost n) t
told_lost fields last lost Cleared t = absurd t
told_lost fields last lost End t = absurd t

told_cleared : (fields : ℕ) (last : Option (List Value)) (w : What) → IsDecoded fields last Emptied w → w ≡ Cleared
told_cleared fields last (Row row) t = absurd t
told_cleared fields last (Lost k) t = absurd t
told_cleared fields last Cleared t = refl
told_cleared fields last End t = absurd t

told_end : (fields : ℕ) (last : Option (List Value)) (w : What) → IsDecoded fields last Ended w → w ≡ End
told_end fields last (Row row) t = absurd t
told_end fields last (Lost k) t = absurd t
told_end fields last Cleared t = absurd t
told_end fields last End t = refl

one_told : (fields : ℕ) (last : Option (List Value)) (h : Heard) (w v : What) → fields < 2 ^ 64 → HasFields fields last → IsDecoded fields last h w
    → IsDecoded fields last h v → w ≡ v
one_told fields last (Coded coded) w v small has t u =
    let a = told_row fields last coded w t in
    let b = told_row fields last coded v u in
    let n = length_before last fields has in
    let same : a.0 ≡ b.0 = one_row (row_before fields last) a.0 b.0 (tokens_of coded) (omega (arith, n, small)) a.2 b.2 in
    a.1 ∙ ap (λ r. Row r) same ∙ sym b.1
one_told fields last (Missed lost) w v small has t u = told_lost fields last lost w t ∙ sym (told_lost fields last lost v u)
one_told fields last Emptied w v small has t u = told_cleared fields last w t ∙ sym (told_cleared fields last v u)
one_told fields last Ended w v small has t u = told_end fields last w t ∙ sym (told_end fields last v u)

-- what was heard is decoded in one way
pub one_decoded : (fields : ℕ) (hs : List Heard) (ws vs : List What) → fields < 2 ^ 64 → AreDecoded fields hs ws → AreDecoded fields hs vs → ws ≡ vs
one_decoded fields [] [] [] small d e = refl
one_decoded fields [] [] (v ∷ vs) small d e = absurd e
one_decoded fields [] (w ∷ ws) vs small d e = absurd d
one_decoded fields (h ∷ hs) [] vs small d e = absurd (none_decoded fields h hs d)
one_decoded fields (h ∷ hs) (w ∷ ws) [] small d e = absurd (none_decoded fields h hs e)
one_decoded fields (h ∷ hs) (w ∷ ws) (v ∷ vs) small d e =
    let a = decoded_parts fields h hs w ws d in
    let b = decoded_parts fields h hs v vs e in
    let rest : ws ≡ vs = one_decoded fields hs ws vs small a.1 b.1 in
    let told : IsDecoded fields (last_row ws) h v = rw rest b.0 in
    let first : w ≡ v = one_told fields (last_row ws) h w v small (last_length fields hs ws a.1) a.0 told in
    ap (λ x. x ∷ ws) first ∙ ap (λ xs. v ∷ xs) rest

pub one_come : (sub item : ℕ) (lines : List Line) (ws vs : List What) (a : HasCome sub item lines ws) → a.subscription.fields < 2 ^ 64
    → HasCome sub item lines vs → vs ≡ ws
one_come sub item lines ws vs a small b =
    let same : b.subscription ≡ a.subscription = ap (λ o. unwrap_or o b.subscription) (sym b.is_live ∙ a.is_live) in
    one_decoded a.subscription.fields (heard sub item lines) vs ws small (subst (λ s. AreDecoded s.fields (heard sub item lines) vs) same b.decoded) a.decoded

pub one_table : (sub item : ℕ) (lines : List Line) (t u : Table) (a : IsTableOf sub item lines t) → a.come.subscription.fields < 2 ^ 64
    → IsTableOf sub item lines u → u ≡ t
one_table sub item lines t u a small b =
    let same : b.come.subscription ≡ a.come.subscription = ap (λ o. unwrap_or o b.come.subscription) (sym b.come.is_live ∙ a.come.is_live) in
    let whats : b.whats ≡ a.whats = one_come sub item lines a.whats b.whats a.come small b.come in
    b.is ∙ ap (λ s. table_of s.keyed b.whats) same ∙ ap (λ ws. table_of a.come.subscription.keyed ws) whats ∙ sym a.is
