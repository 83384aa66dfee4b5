-- A line that tells of a light cut is short.
use Rattle.std.proofs.Common.{◌≡◌, ℕ, zero, suc, ◌+◌, ◌*◌, ◌<◌, ◌≤◌, ◌^◌, ◌&&◌, List, [], ◌∷◌, ◌++◌, length, set}
use Rattle.std.proofs.Common.{refl, ◌∙◌, ap, subst, arith, Bool, true, false, cond, Option, Some, None, nat_le}
use Rattle.std.proofs.Common.{sum_by, flat_map, replicate, decimal, codes, length-append, length-set}
use Rattle.std.proofs.lemmas.List.{length-replicate}
use Rattle.std.proofs.lemmas.Fmt.{length-decimal-le}
use Rattle.std.proofs.lemmas.List.Sums.{sum_by-cons}
use Rattle.std.specs.List.{join_with_byte}
use Rattle.std.specs.Option.{option_map_or}
use Rattle.ls_value.specs.declared.row.Value.{Value}
use Rattle.ls_value.specs.declared.row.Cell.{Cell}
use Rattle.ls_value.specs.Values.{applied, kept_or_taken, nulls, projected, projected_cells, value_eq, row_eq}
use Rattle.ls_value.specs.Values.{weight_of, weight_of_value, weight_of_cell}
use Rattle.ls_value.proofs.Rows.{applied_length, projected_length, value_eq_same}
use Rattle.ls_value.specs.declared.limits.TheConstants.{GREATEST_NUMBER}
use Rattle.ls_event.specs.declared.event.Taken.{Taken}
use Rattle.ls_event.specs.declared.limits.TheConstants.{MOST_FIELDS, MOST_WEIGHT}
use Rattle.ls_event.specs.Slots.{Slot}
use Rattle.ls_update.specs.Fields.{escape, spell, is_escaped, is_escaped_first, spelled_value, changed_fields}
use Rattle.ls_update.specs.Fields.{run_tokens, tokens_after, coded_against, spelled}
use Rattle.ls_update.specs.Reading.{HasFields}
use Rattle.ls_mirror.specs.declared.command.KeyPlaces.{KeyPlaces}
use Rattle.ls_mirror.specs.Client.{What, Row, Lost, Cleared, End, row_or}
use Rattle.ls_line.specs.declared.limits.TheConstants.{LONGEST_TEXT}
use Rattle.ls_record.specs.Came.{Came, whats}
use Rattle.ls_record.specs.Lines.{last_row, tells_text}
use Rattle.ls_record.specs.Tables.{with_word, delete_row, what_of_key, table_at, projected_row}
use Rattle.ls_record.specs.Cutting.{Wanted, schema_of, client_row, what_of_change, what_of_cut}
use Rattle.ls_record.specs.Light.{IsLight, IsLightRow}
use Rattle.ls_value.specs.declared.row.Value.TheVariants as value
use Rattle.ls_value.specs.declared.row.Cell.TheVariants as cell
use Rattle.ls_event.specs.declared.event.Taken.TheVariants as taken

-- a byte becomes three at most, and a value three times its bytes, or one byte

spell_length : (test : ℕ → Bool) (b : ℕ) → length (spell test b) ≤ 3
spell_length test b = by_test (test b)
  where
    by_test : (v : Bool) → length (cond v (escape b) (b ∷ [])) ≤ 3
    by_test true = omega arith
    by_test false = omega arith

text_length : (bs : List ℕ) → length (flat_map (spell is_escaped) bs) ≤ 3 * length bs
text_length [] = omega arith
text_length (b ∷ bs) =
    omega (arith, spell_length is_escaped b, text_length bs, length-append (spell is_escaped b) (flat_map (spell is_escaped) bs))

value_length : (v : Value) → length (spelled_value v) ≤ 3 * weight_of_value v + 1
value_length value.Null = omega arith
value_length (value.Text []) = omega arith
value_length (value.Text (b ∷ bs)) =
    omega (arith, spell_length is_escaped_first b, text_length bs, length-append (spell is_escaped_first b) (flat_map (spell is_escaped) bs))

-- the bytes of tokens, each with a divider

abbrev cost : List (List ℕ) → ℕ
cost [] = 0
cost (t ∷ ts) = length t + 1 + cost ts

join_length : (ts : List (List ℕ)) → length (join_with_byte 124 ts) ≤ cost ts
join_length [] = omega arith
join_length (t ∷ []) = omega arith
join_length (t ∷ u ∷ ts) = omega (arith, join_length (u ∷ ts), length-append t (124 ∷ join_with_byte 124 (u ∷ ts)))

cost-append : (ts us : List (List ℕ)) → cost (ts ++ us) ≡ cost ts + cost us
cost-append [] us = omega arith
cost-append (t ∷ ts) us = omega (arith, cost-append ts us)

cost_empty : (k : ℕ) → cost (replicate k []) ≡ k
cost_empty zero = refl
cost_empty (suc k) = omega (arith, cost_empty k)

-- a run of unchanged fields takes no more bytes than it has fields, or than a number takes

run_cost : (k : ℕ) → k < 2 ^ 64 → cost (run_tokens k) ≤ k + 22
run_cost k small = by_test (nat_le k 2)
  where
    by_test : (v : Bool) → cost (cond v (replicate k []) ((94 ∷ decimal k) ∷ [])) ≤ k + 22
    by_test true = omega (arith, cost_empty k)
    by_test false = omega (arith, length-decimal-le 20 k (omega arith) (omega arith) small)

-- so many bytes are enough for fields, of which a value's bytes become three

abbrev most : List (Option Value) → ℕ
most [] = 0
most (None ∷ fields) = 25 + most fields
most (Some v ∷ fields) = 25 + 3 * weight_of_value v + most fields

tokens_cost : (k : ℕ) (fields : List (Option Value)) → k + length fields < 2 ^ 64 → cost (tokens_after k fields) ≤ k + 22 + most fields
tokens_cost k [] small = omega (arith, run_cost k (omega arith))
tokens_cost k (None ∷ fields) small = omega (arith, tokens_cost (k + 1) fields (omega (arith, small)))
tokens_cost k (Some v ∷ fields) small =
    omega (
      arith,
      cost-append (run_tokens k) (spelled_value v ∷ tokens_after 0 fields),
      run_cost k (omega arith),
      value_length v,
      tokens_cost 0 fields (omega (arith, small)),
    )

changed_length : (prev row : List Value) → length (changed_fields prev row) ≡ length row
changed_length prev [] = refl
changed_length [] (v ∷ row) = ap (λ n. suc n) (changed_length [] row)
changed_length (p ∷ prev) (v ∷ row) = ap (λ n. suc n) (changed_length prev row)

most_if : (test : Bool) (v : Value) (fields : List (Option Value)) → most (cond test None (Some v) ∷ fields) ≤ 25 + 3 * weight_of_value v + most fields
most_if true v fields = omega arith
most_if false v fields = omega arith

-- the changed fields of a row weigh no more than the row

most_row : (prev row : List Value) → most (changed_fields prev row) ≤ 25 * length row + 3 * weight_of row
most_row prev [] = omega arith
most_row [] (v ∷ row) = omega (arith, most_row [] row, sum_by-cons weight_of_value v row)
most_row (p ∷ prev) (v ∷ row) =
    omega (arith, most_if (value_eq p v) v (changed_fields prev row), most_row prev row, sum_by-cons weight_of_value v row)

-- those that cells make weigh no more than the cells

most_same : (v : Value) (fields : List (Option Value)) → most (cond (value_eq v v) None (Some v) ∷ fields) ≡ 25 + most fields
most_same v fields = rw (value_eq_same v) refl

most_kept : (row : List Value) → most (changed_fields row row) ≤ 25 * length row
most_kept [] = omega arith
most_kept (v ∷ row) = omega (arith, most_same v (changed_fields row row), most_kept row)

most_cell : (v : Value) (c : Cell) (fields : List (Option Value))
    → most (cond (value_eq v (kept_or_taken v c)) None (Some (kept_or_taken v c)) ∷ fields) ≤ 25 + 3 * weight_of_cell c + most fields
most_cell v cell.Same fields = omega (arith, most_same v fields)
most_cell v cell.Null fields = most_if (value_eq v value.Null) value.Null fields
most_cell v (cell.Text t) fields = most_if (value_eq v (value.Text t)) (value.Text t) fields

most_applied : (row : List Value) (cells : List Cell) → most (changed_fields row (applied row cells)) ≤ 25 * length row + 3 * sum_by weight_of_cell cells
most_applied [] cells = omega arith
most_applied (v ∷ row) [] = omega (arith, most_kept (v ∷ row))
most_applied (v ∷ row) (c ∷ cells) =
    omega
    (arith, most_cell v c (changed_fields row (applied row cells)), most_applied row cells, sum_by-cons weight_of_cell c cells)

-- as does a row that cells make of nulls

cell_weight : (c : Cell) → weight_of_value (kept_or_taken value.Null c) ≤ weight_of_cell c
cell_weight cell.Same = omega arith
cell_weight cell.Null = omega arith
cell_weight (cell.Text t) = omega arith

pub nulls_weight : (n : ℕ) → weight_of (nulls n) ≡ 0
nulls_weight zero = refl
nulls_weight (suc n) = omega (arith, sum_by-cons weight_of_value value.Null (nulls n), nulls_weight n)

applied_weight : (n : ℕ) (cells : List Cell) → weight_of (applied (nulls n) cells) ≤ sum_by weight_of_cell cells
applied_weight zero cells = omega arith
applied_weight (suc n) [] = omega (arith, nulls_weight (suc n))
applied_weight (suc n) (c ∷ cells) =
    omega (
      arith,
      applied_weight n cells,
      cell_weight c,
      sum_by-cons weight_of_cell c cells,
      sum_by-cons weight_of_value (kept_or_taken value.Null c) (applied (nulls n) cells),
    )

-- a row with one value more weighs no more than both

set_weight : (row : List Value) (i : ℕ) (v : Value) → weight_of (set row i v) ≤ weight_of row + weight_of_value v
set_weight [] i v = omega arith
set_weight (x ∷ row) zero v = omega (arith, sum_by-cons weight_of_value x row, sum_by-cons weight_of_value v row)
set_weight (x ∷ row) (suc i) v =
    omega (arith, set_weight row i v, sum_by-cons weight_of_value x row, sum_by-cons weight_of_value x (set row i v))

-- a row of so many fields whose changed ones take so many bytes

coded_length : (prev : Option (List Value)) (row : List Value) (n : ℕ) → length row ≤ MOST_FIELDS
    → most (changed_fields (coded_against prev) row) ≤ 25 * length row + 3 * n → length (spelled prev row) ≤ 1622 + 3 * n
coded_length prev row n few enough =
    let fields = changed_fields (coded_against prev) row in
    let long = changed_length (coded_against prev) row in
    omega (arith, join_length (tokens_after 0 fields), tokens_cost 0 fields (omega (arith, long)), few, enough)

-- the text of a line that tells, by what it tells

number_length : (n : ℕ) → n < 2 ^ 61 → length (decimal n) ≤ 20
number_length n small = length-decimal-le 20 n (omega arith) (omega arith) (omega arith)

then_length : (text more : List ℕ) → length (text ++ 44 ∷ more) ≡ length text + 1 + length more
then_length text more = omega (arith, length-append text (44 ∷ more))

u_length : (prev : Option (List Value)) (sub rank : ℕ) (row : List Value) → sub < 2 ^ 32 → rank < 2 ^ 32
    → length (tells_text prev sub rank (Row row)) ≤ 44 + length (spelled prev row)
u_length prev sub rank row a b =
    omega (
      arith,
      number_length sub (omega arith),
      number_length rank (omega arith),
      then_length (codes "U") (decimal sub),
      then_length (codes "U" ++ 44 ∷ decimal sub) (decimal rank),
      then_length ((codes "U" ++ 44 ∷ decimal sub) ++ 44 ∷ decimal rank) (spelled prev row),
    )

ov_length : (prev : Option (List Value)) (sub rank k : ℕ) → sub < 2 ^ 32 → rank < 2 ^ 32 → k ≤ GREATEST_NUMBER
    → length (tells_text prev sub rank (Lost k)) ≤ LONGEST_TEXT
ov_length prev sub rank k a b c =
    omega (
      arith,
      number_length sub (omega arith),
      number_length rank (omega arith),
      number_length k (omega arith),
      then_length (codes "OV") (decimal sub),
      then_length (codes "OV" ++ 44 ∷ decimal sub) (decimal rank),
      then_length ((codes "OV" ++ 44 ∷ decimal sub) ++ 44 ∷ decimal rank) (decimal k),
    )

cs_length : (prev : Option (List Value)) (sub rank : ℕ) → sub < 2 ^ 32 → rank < 2 ^ 32 → length (tells_text prev sub rank Cleared) ≤ LONGEST_TEXT
cs_length prev sub rank a b =
    omega (
      arith,
      number_length sub (omega arith),
      number_length rank (omega arith),
      then_length (codes "CS") (decimal sub),
      then_length (codes "CS" ++ 44 ∷ decimal sub) (decimal rank),
    )

eos_length : (prev : Option (List Value)) (sub rank : ℕ) → sub < 2 ^ 32 → rank < 2 ^ 32 → length (tells_text prev sub rank End) ≤ LONGEST_TEXT
eos_length prev sub rank a b =
    omega (
      arith,
      number_length sub (omega arith),
      number_length rank (omega arith),
      then_length (codes "EOS") (decimal sub),
      then_length (codes "EOS" ++ 44 ∷ decimal sub) (decimal rank),
    )

-- the line of a row of so many fields whose changed ones take so many bytes

row_is_short : (prev : Option (List Value)) (row : List Value) (sub rank n : ℕ) → length row ≤ MOST_FIELDS → sub < 2 ^ 32 → rank < 2 ^ 32
    → most (changed_fields (coded_against prev) row) ≤ 25 * length row + 3 * n → n ≤ MOST_WEIGHT + 6
    → length (tells_text prev sub rank (Row row)) ≤ LONGEST_TEXT
row_is_short prev row sub rank n few a b enough light =
    omega (arith, u_length prev sub rank row a b, coded_length prev row n few enough)

-- and of one that weighs no more than an event may and a word

light_is_short : (prev : Option (List Value)) (row : List Value) (sub rank : ℕ) → length row ≤ MOST_FIELDS → sub < 2 ^ 32 → rank < 2 ^ 32
    → weight_of row ≤ MOST_WEIGHT + 6 → length (tells_text prev sub rank (Row row)) ≤ LONGEST_TEXT
light_is_short prev row sub rank few a b light =
    row_is_short prev row sub rank (weight_of row) few a b (most_row (coded_against prev) row) light

-- a row of a schema's places with a command's word

word_is_short : (at : KeyPlaces) (word : List ℕ) (prev : Option (List Value)) (row : List Value) (places : List ℕ) (sub rank : ℕ)
    → length places ≤ MOST_FIELDS → sub < 2 ^ 32 → rank < 2 ^ 32 → length word ≤ 6 → weight_of (projected row places) ≤ MOST_WEIGHT
    → length (tells_text prev sub rank (Row (with_word at word (projected row places)))) ≤ LONGEST_TEXT
word_is_short at word prev row places sub rank few a b short light =
    light_is_short prev (with_word at word (projected row places)) sub rank
    (omega (arith, length-set (projected row places) at.command (value.Text word), projected_length row places)) a b
    (omega (arith, set_weight (projected row places) at.command (value.Text word)))

delete_is_short : (at : KeyPlaces) (fields : ℕ) (key : List ℕ) (prev : Option (List Value)) (sub rank : ℕ) → fields ≤ MOST_FIELDS
    → sub < 2 ^ 32 → rank < 2 ^ 32 → length key ≤ MOST_WEIGHT → length (tells_text prev sub rank (Row (delete_row at fields key))) ≤ LONGEST_TEXT
delete_is_short at fields key prev sub rank few a b short =
    let keyed : List Value = set (nulls fields) at.key (value.Text key) in
    light_is_short prev (delete_row at fields key) sub rank
    (omega (
      arith,
      length-set keyed at.command (value.Text (codes "DELETE")),
      length-set (nulls fields) at.key (value.Text key),
      length-replicate fields value.Null,
    )) a b
    (omega
    (arith, set_weight keyed at.command (value.Text (codes "DELETE")), set_weight (nulls fields) at.key (value.Text key), nulls_weight fields))

-- the line that a cut makes, if it makes one, is short
abbrev AllShort : Option (List Value) → ℕ → ℕ → Option What → Type 0
AllShort prev sub rank None = Unit {0}
AllShort prev sub rank (Some what) = length (tells_text prev sub rank what) ≤ LONGEST_TEXT

key_is_short : (at : KeyPlaces) (places key : List ℕ) (old row prev : Option (List Value)) (sub rank : ℕ) → length places ≤ MOST_FIELDS
    → sub < 2 ^ 32 → rank < 2 ^ 32 → length key ≤ MOST_WEIGHT → IsLightRow places row
    → AllShort prev sub rank (what_of_key at (length places) key old (projected_row places row))
key_is_short at places key None None prev sub rank few a b short light = tt
key_is_short at places key None (Some r) prev sub rank few a b short light =
    word_is_short at (codes "ADD") prev r places sub rank few a b (omega arith) light
key_is_short at places key (Some old) None prev sub rank few a b short light =
    delete_is_short at (length places) key prev sub rank few a b short
key_is_short at places key (Some old) (Some r) prev sub rank few a b short light = by_test (row_eq old (projected r places))
  where
    by_test : (v : Bool) → AllShort prev sub rank (cond v None (Some (Row (with_word at (codes "UPDATE") (projected r places)))))
    by_test true = tt
    by_test false = word_is_short at (codes "UPDATE") prev r places sub rank few a b (omega arith) light

-- that of a change: the fields that its cells leave stay unchanged

applied_is_short : (prev : Option (List Value)) (n : ℕ) (cells : List Cell) (sub rank : ℕ) → n ≤ MOST_FIELDS → HasFields n prev
    → sub < 2 ^ 32 → rank < 2 ^ 32 → sum_by weight_of_cell cells ≤ MOST_WEIGHT
    → length (tells_text prev sub rank (Row (applied (option_map_or (λ r. r) prev (nulls n)) cells))) ≤ LONGEST_TEXT
applied_is_short None n cells sub rank few wide a b light =
    light_is_short None (applied (nulls n) cells) sub rank
    (omega (arith, applied_length (nulls n) cells, length-replicate n value.Null)) a b (omega (arith, applied_weight n cells))
applied_is_short (Some row) n cells sub rank few wide a b light =
    row_is_short (Some row) (applied row cells) sub rank (sum_by weight_of_cell cells) (omega (arith, applied_length row cells)) a b
    (omega (arith, applied_length row cells, most_applied row cells)) (omega arith)

change_is_short : (started : Bool) (old new : List Value) (prev : Option (List Value)) (sub rank : ℕ)
    → length (tells_text prev sub rank (Row new)) ≤ LONGEST_TEXT → AllShort prev sub rank (what_of_change started old new)
change_is_short started old new prev sub rank short = by_test (started && row_eq old new)
  where
    by_test : (v : Bool) → AllShort prev sub rank (cond v None (Some (Row new)))
    by_test true = tt
    by_test false = short

all_short : (w : Wanted) (s : Slot) (cs : List Came) (t : Taken) (sub rank : ℕ) → length w.places ≤ MOST_FIELDS
    → HasFields (length w.places) (last_row cs) → IsLight w.places t → sub < 2 ^ 32 → rank < 2 ^ 32
    → AllShort (last_row cs) sub rank (what_of_cut w s cs t)
all_short w s cs (taken.Row row upto) sub rank few wide light a b =
    light_is_short (last_row cs) (projected row w.places) sub rank (omega (arith, projected_length row w.places)) a b (omega arith)
all_short w s cs (taken.Lost count upto) sub rank few wide light a b = ov_length (last_row cs) sub rank count a b light
all_short w s cs (taken.Change cells upto) sub rank few wide light a b =
    change_is_short s.has_started (client_row (length w.places) cs) (applied (client_row (length w.places) cs) (projected_cells cells w.places))
    (last_row cs) sub rank (applied_is_short (last_row cs) (length w.places) (projected_cells cells w.places) sub rank few wide a b light)
all_short w s cs (taken.Key key row upto) sub rank few wide light a b =
    key_is_short (schema_of w s.plan) w.places key (table_at (schema_of w s.plan) key (whats cs)) row (last_row cs) sub rank few a b light.0 light.1
all_short w s cs (taken.Cleared upto) sub rank few wide light a b = cs_length (last_row cs) sub rank a b
all_short w s cs taken.EndOfSnapshot sub rank few wide light a b = eos_length (last_row cs) sub rank a b

-- the line of a light cut has no more bytes than a line may have; the client's row has a value for each place
pub line_is_short : (w : Wanted) (s : Slot) (cs : List Came) (t : Taken) (what : What) (sub rank : ℕ) → length w.places ≤ MOST_FIELDS
    → HasFields (length w.places) (last_row cs) → IsLight w.places t → sub < 2 ^ 32 → rank < 2 ^ 32 → what_of_cut w s cs t ≡ Some what
    → length (tells_text (last_row cs) sub rank what) ≤ LONGEST_TEXT
line_is_short w s cs t what sub rank few wide light a b is =
    subst (AllShort (last_row cs) sub rank) is (all_short w s cs t sub rank few wide light a b)

-- the row that comes by a cut has a value for each place
abbrev AllWide : ℕ → Option (List Value) → Option What → Type 0
AllWide n prev None = Unit {0}
AllWide n prev (Some what) = HasFields n (row_or what prev)

change_is_wide : (n : ℕ) (prev : Option (List Value)) (started : Bool) (old new : List Value) → length new ≡ n
    → AllWide n prev (what_of_change started old new)
change_is_wide n prev started old new long = by_test (started && row_eq old new)
  where
    by_test : (v : Bool) → AllWide n prev (cond v None (Some (Row new)))
    by_test true = tt
    by_test false = long

key_is_wide : (at : KeyPlaces) (places key : List ℕ) (old row prev : Option (List Value))
    → AllWide (length places) prev (what_of_key at (length places) key old (projected_row places row))
key_is_wide at places key None None prev = tt
key_is_wide at places key None (Some r) prev =
    length-set (projected r places) at.command (value.Text (codes "ADD")) ∙ projected_length r places
key_is_wide at places key (Some old) None prev =
    length-set (set (nulls (length places)) at.key (value.Text key)) at.command (value.Text (codes "DELETE"))
    ∙ length-set (nulls (length places)) at.key (value.Text key) ∙ length-replicate (length places) value.Null
key_is_wide at places key (Some old) (Some r) prev = by_test (row_eq old (projected r places))
  where
    by_test : (v : Bool) → AllWide (length places) prev (cond v None (Some (Row (with_word at (codes "UPDATE") (projected r places)))))
    by_test true = tt
    by_test false = length-set (projected r places) at.command (value.Text (codes "UPDATE")) ∙ projected_length r places

client_wide : (n : ℕ) (prev : Option (List Value)) → HasFields n prev → length (option_map_or (λ r. r) prev (nulls n)) ≡ n
client_wide n None wide = length-replicate n value.Null
client_wide n (Some row) wide = wide

all_wide : (w : Wanted) (s : Slot) (cs : List Came) (t : Taken) → HasFields (length w.places) (last_row cs)
    → AllWide (length w.places) (last_row cs) (what_of_cut w s cs t)
all_wide w s cs (taken.Row row upto) wide = projected_length row w.places
all_wide w s cs (taken.Lost count upto) wide = wide
all_wide w s cs (taken.Change cells upto) wide =
    change_is_wide (length w.places) (last_row cs) s.has_started (client_row (length w.places) cs)
    (applied (client_row (length w.places) cs) (projected_cells cells w.places))
    (applied_length (client_row (length w.places) cs) (projected_cells cells w.places) ∙ client_wide (length w.places) (last_row cs) wide)
all_wide w s cs (taken.Key key row upto) wide =
    key_is_wide (schema_of w s.plan) w.places key (table_at (schema_of w s.plan) key (whats cs)) row (last_row cs)
all_wide w s cs (taken.Cleared upto) wide = wide
all_wide w s cs taken.EndOfSnapshot wide = wide

pub row_is_wide : (w : Wanted) (s : Slot) (cs : List Came) (t : Taken) (what : What) → HasFields (length w.places) (last_row cs)
    → what_of_cut w s cs t ≡ Some what → HasFields (length w.places) (row_or what (last_row cs))
row_is_wide w s cs t what wide is = subst (AllWide (length w.places) (last_row cs)) is (all_wide w s cs t wide)
