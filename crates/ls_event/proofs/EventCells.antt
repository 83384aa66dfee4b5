-- The cells of an event's text, pair by pair.
use Rattle.std.proofs.Common.{◌≡◌, ◌==◌, ◌<◌, ◌≤◌, ℕ, zero, suc, ◌+◌, List, [], ◌∷◌, ◌++◌, length, replicate, set, Bool, true, false, ◌||◌, Option, None, Some}
use Rattle.std.proofs.Common.{IfSome, option_and_then, cond, Result, Ok, Err, refl, sym, ap, ◌∙◌, arith, append-nil, append_assoc}
use Rattle.std.proofs.lemmas.Bool.{eqb-true, eq-eqb}
use Rattle.std.proofs.lemmas.List.{length-append}
use Rattle.percent_encoding.specs.Percent.{percent_decode}
use Rattle.ls_value.specs.Values.{cell_at, place_of}
use Rattle.ls_value.specs.declared.row.Cell.{Cell}
use Rattle.ls_value.specs.declared.row.Cell.TheVariants as cell
use Rattle.ls_value.proofs.Rows.{place_of_within}
use Rattle.ls_words.specs.Words.{Halves}
use Rattle.ls_words.proofs.Dividing.{pieces_at_most}
use Rattle.ls_event.specs.Cuts.{says}
use Rattle.ls_event.specs.EventText.{table, cell_named, is_named, is_found_at, is_textual, field_of, cells_of, value_said, halves_of, cell_said, pairs_of}
use Rattle.ls_event.specs.EventText.{pair_cause, first_cause, cells_behind}
use Rattle.ls_event.specs.declared.event_text.EventRefused.{EventRefused}
use Rattle.ls_event.specs.declared.event_text.EventRefused.TheVariants as refused

-- a table without a change of its value
pub table_same : (from n : ℕ) → table (λ p. cell.Same) from n ≡ replicate n cell.Same
table_same from zero = refl
table_same from (suc n) = ap (λ (cs : List Cell). cell.Same ∷ cs) (table_same (from + 1) n)

-- what a table has at a place
pub table_at : (f : ℕ → Cell) (from n i : ℕ) → i < n → cell_at (table f from n) i ≡ f (from + i)
table_at f from zero i h = absurd (omega (arith, h))
table_at f from (suc n) zero h = ap f (omega arith)
table_at f from (suc n) (suc i) h = table_at f (from + 1) n i (omega (arith, h)) ∙ ap f (omega arith)

-- tables of equal values
pub table_eq : (f g : ℕ → Cell) (from n : ℕ) → ((j : ℕ) → from ≤ j → f j ≡ g j) → table f from n ≡ table g from n
table_eq f g from zero e = refl
table_eq f g from (suc n) e =
    let a : f from ≡ g from = e from (omega arith) in
    let b : table f (from + 1) n ≡ table g (from + 1) n = table_eq f g (from + 1) n (λ j h. e j (omega (arith, h))) in
    rw (a, b) refl

-- a table that differs from another at one place
pub table_set : (f g : ℕ → Cell) (from n i : ℕ) → i < n → ((j : ℕ) → (j ≡ from + i → ⊥) → f j ≡ g j) → set (table f from n) i (g (from + i)) ≡ table g from n
table_set f g from zero i h e = absurd (omega (arith, h))
table_set f g from (suc n) zero h e =
    let a : from + 0 ≡ from = omega arith in
    let b : table f (from + 1) n ≡ table g (from + 1) n = table_eq f g (from + 1) n (λ j h. e j (λ is. omega (arith, h, is))) in
    rw (a, b) refl
table_set f g from (suc n) (suc i) h e =
    let a : f from ≡ g from = e from (λ is. omega (arith, is)) in
    let b : from + suc i ≡ from + 1 + i = omega arith in
    let c : set (table f (from + 1) n) i (g (from + 1 + i)) ≡ table g (from + 1) n =
    table_set f g (from + 1) n i (omega (arith, h)) (λ j d. e j (λ is. d (omega (arith, is)))) in
    rw (a, b, c) refl

-- a value says something
says_said : (value : List ℕ) → says (cell_said value) ≡ true
says_said [] = refl
says_said (b ∷ []) = by_test (b == 35) (b == 36)
  where
    by_test : (v w : Bool) → says (cond v cell.Null (cond w (cell.Text []) (cell.Text (percent_decode (b ∷ []))))) ≡ true
    by_test true w = refl
    by_test false true = refl
    by_test false false = refl
says_said (b ∷ c ∷ bs) = refl

-- a pair that names a field says something of it
says_named : (fields : List (List ℕ)) (place : ℕ) (o : Option Halves) → is_found_at place (option_and_then (λ h. place_of fields h.front) o) ≡ true
    → says (value_said o) ≡ true
says_named fields place None h = cc
says_named fields place (Some halves) h = says_said halves.back

-- the cell of a field says something where one of the pairs names it
named_says : (fields pairs : List (List ℕ)) (place : ℕ) → says (cell_named fields pairs place) ≡ is_named fields place pairs
named_says fields [] place = refl
named_says fields (pair ∷ pairs) place = by_test (is_found_at place (field_of fields pair)) refl (named_says fields pairs place)
  where
    by_test : (v : Bool) → is_found_at place (field_of fields pair) ≡ v → says (cell_named fields pairs place) ≡ is_named fields place pairs
        → says (cond v (value_said (halves_of pair)) (cell_named fields pairs place)) ≡ (v || is_named fields place pairs)
    by_test true e others = says_named fields place (halves_of pair) e
    by_test false e others = others

-- one more pair, where none before it names the field
last_named : (fields before : List (List ℕ)) (pair : List ℕ) (place : ℕ) → is_named fields place before ≡ false
    → is_found_at place (field_of fields pair) ≡ true
    → cell_named fields (before ++ pair ∷ []) place ≡ value_said (halves_of pair)
last_named fields [] pair place none is = rw is refl
last_named fields (p ∷ before) pair place none is = by_test (is_found_at place (field_of fields p)) none (λ h. last_named fields before pair place h is)
  where
    by_test : (v : Bool) → (v || is_named fields place before) ≡ false → (is_named fields place before ≡ false
        → cell_named fields (before ++ pair ∷ []) place ≡ value_said (halves_of pair))
        → cond v (value_said (halves_of p)) (cell_named fields (before ++ pair ∷ []) place) ≡ value_said (halves_of pair)
    by_test true h others = cc
    by_test false h others = others h

-- one more pair of another field
other_named : (fields before : List (List ℕ)) (pair : List ℕ) (place : ℕ) → is_found_at place (field_of fields pair) ≡ false
    → cell_named fields before place ≡ cell_named fields (before ++ pair ∷ []) place
other_named fields [] pair place is = rw is refl
other_named fields (p ∷ before) pair place is = ap (λ (c : Cell). cond (is_found_at place (field_of fields p)) (value_said (halves_of p)) c)
    (other_named fields before pair place is)

at_other : (i j : ℕ) → (j ≡ i → ⊥) → (i == j) ≡ false
at_other i j h = by_test (i == j) refl
  where
    by_test : (v : Bool) → (i == j) ≡ v → v ≡ false
    by_test true e = absurd (h (sym (eqb-true i j e)))
    by_test false e = refl

-- the cells with one more pair
cells_next : (fields before : List (List ℕ)) (pair : List ℕ) (place : ℕ) (h : Halves) → halves_of pair ≡ Some h → place_of fields h.front ≡ Some place
    → place < length fields → is_named fields place before ≡ false → set (cells_of fields before) place (cell_said h.back)
    ≡ cells_of fields (before ++ pair ∷ [])
cells_next fields before pair place h is at within none =
    let f : field_of fields pair ≡ Some place = rw is at in
    let t : is_found_at place (field_of fields pair) ≡ true = rw f (eq-eqb place place refl) in
    let c : cell_named fields (before ++ pair ∷ []) place ≡ cell_said h.back = last_named fields before pair place none t ∙ ap value_said is in
    let z : 0 + place ≡ place = omega arith in
    let s = table_set (cell_named fields before) (cell_named fields (before ++ pair ∷ [])) 0 (length fields) place within
    (λ j d. other_named fields before pair j (rw f (at_other place j (λ is. d (omega (arith, is)))))) in
    rw (z, c) at s

-- how the pairs so far, those to come, and the cells stand
pub record Going (fields : List (List ℕ)) (text : List ℕ) (rest : List (List ℕ)) (at : ℕ) (cells : List Cell) : Type 0 where
  pub before : List (List ℕ)
  pub all : before ++ rest ≡ pairs_of text
  pub count : length before ≡ at
  pub said : cells ≡ cells_of fields before
  pub causes : first_cause fields before rest ≡ first_cause fields [] (pairs_of text)

pub going_first : (fields : List (List ℕ)) (text : List ℕ) (cells : List Cell) → cells ≡ replicate (length fields) cell.Same
    → Going fields text (pairs_of text) 0 cells
going_first fields text cells h = record { before = []; all = refl; count = refl; said = h ∙ sym (table_same 0 (length fields)); causes = refl }

-- what a pair does to the cells, by its cause
record Next (fields before : List (List ℕ)) (at : ℕ) (pair : List ℕ) (answer : Result (List Cell) EventRefused) : Type 0 where
  ok : (cells : List Cell) → answer ≡ Ok cells → (pair_cause fields before at pair ≡ None) × (cells ≡ cells_of fields (before ++ pair ∷ []))
  err : (e : EventRefused) → answer ≡ Err e → pair_cause fields before at pair ≡ Some e

next : (fields before : List (List ℕ)) (at : ℕ) (pair : List ℕ) → Next fields before at pair (cells_behind fields (cells_of fields before) at pair)
next fields before at pair = by_halves (halves_of pair) refl
  where
    by_cell : (place : ℕ) (h : Halves) → halves_of pair ≡ Some h → place_of fields h.front ≡ Some place → place < length fields
        → (v : Bool) → is_named fields place before ≡ v → says (cell_at (cells_of fields before) place) ≡ v → (w : Bool) → is_textual (cell_said h.back) ≡ w
        → Next fields before at pair (cells_behind fields (cells_of fields before) at pair)
    by_cell place h is p within true e n w t =
        let a : cells_behind fields (cells_of fields before) at pair ≡ Err (refused.TwiceField at) = rw (is, p, n) refl in
        let c : pair_cause fields before at pair ≡ Some (refused.TwiceField at) = rw (is, p, e) refl in
        record { ok = λ cells o. cc; err = λ x o. cc }
    by_cell place h is p within false e n true t =
        let a : cells_behind fields (cells_of fields before) at pair ≡ Ok (set (cells_of fields before) place (cell_said h.back)) = rw (is, p, n, t) refl in
        let c : pair_cause fields before at pair ≡ None = rw (is, p, e, t) refl in
        let s = cells_next fields before pair place h is p within e in
        record { ok = λ cells o. (c, (let b : set (cells_of fields before) place (cell_said h.back) ≡ cells = cc in sym b ∙ s)); err = λ x o. cc }
    by_cell place h is p within false e n false t =
        let a : cells_behind fields (cells_of fields before) at pair ≡ Err (refused.BadText at) = rw (is, p, n, t) refl in
        let c : pair_cause fields before at pair ≡ Some (refused.BadText at) = rw (is, p, e, t) refl in
        record { ok = λ cells o. cc; err = λ x o. cc }

    by_place : (h : Halves) → halves_of pair ≡ Some h → (o : Option ℕ) → place_of fields h.front ≡ o → IfSome o (λ i. i < length fields)
        → Next fields before at pair (cells_behind fields (cells_of fields before) at pair)
    by_place h is None p within =
        let a : cells_behind fields (cells_of fields before) at pair ≡ Err (refused.UnknownField at) = rw (is, p) refl in
        let c : pair_cause fields before at pair ≡ Some (refused.UnknownField at) = rw (is, p) refl in
        record { ok = λ cells o. cc; err = λ x o. cc }
    by_place h is (Some place) p within =
        let a : cell_at (cells_of fields before) place ≡ cell_named fields before place =
        table_at (cell_named fields before) 0 (length fields) place within
        ∙ ap (cell_named fields before) (let z : 0 + place ≡ place = omega arith in z) in
        let n : says (cell_at (cells_of fields before) place) ≡ is_named fields place before = ap says a ∙ named_says fields before place in
        by_cell place h is p within (is_named fields place before) refl n (is_textual (cell_said h.back)) refl

    by_halves : (o : Option Halves) → halves_of pair ≡ o → Next fields before at pair (cells_behind fields (cells_of fields before) at pair)
    by_halves None is =
        let a : cells_behind fields (cells_of fields before) at pair ≡ Err (refused.BadPair at) = rw is refl in
        let c : pair_cause fields before at pair ≡ Some (refused.BadPair at) = rw is refl in
        record { ok = λ cells o. cc; err = λ x o. cc }
    by_halves (Some h) is = by_place h is (place_of fields h.front) refl (place_of_within fields h.front)

pub going_next : (fields : List (List ℕ)) (text pair : List ℕ) (rest : List (List ℕ)) (at : ℕ) (cells more : List Cell)
    → Going fields text (pair ∷ rest) at cells → cells_behind fields cells (at + 1) pair ≡ Ok more → Going fields text rest (at + 1) more
going_next fields text pair rest at cells more g h =
    let n = next fields g.before (at + 1) pair in
    let d = n.ok more (rw g.said at h) in
    record {
      before = g.before ++ pair ∷ [];
      all = append_assoc g.before (pair ∷ []) rest ∙ g.all;
      count = length-append g.before (pair ∷ []) ∙ ap (λ (k : ℕ). k + 1) g.count;
      said = d.1;
      causes = (let c = g.causes in rw (g.count, d.0) at c);
    }

pub going_wrong : (fields : List (List ℕ)) (text pair : List ℕ) (rest : List (List ℕ)) (at : ℕ) (cells : List Cell) (e : EventRefused)
    → Going fields text (pair ∷ rest) at cells → cells_behind fields cells (at + 1) pair ≡ Err e → first_cause fields [] (pairs_of text) ≡ Some e
going_wrong fields text pair rest at cells e g h =
    let n = next fields g.before (at + 1) pair in
    let d = n.err e (rw g.said at h) in
    sym g.causes ∙ rw (g.count, d) refl

pub going_whole : (fields : List (List ℕ)) (text : List ℕ) (at : ℕ) (cells : List Cell) → Going fields text [] at cells
    → (first_cause fields [] (pairs_of text) ≡ None) × (cells ≡ cells_of fields (pairs_of text))
going_whole fields text at cells g =
    let a : g.before ≡ pairs_of text = sym (append-nil g.before) ∙ g.all in
    (sym g.causes, g.said ∙ ap (cells_of fields) a)

-- a pair to come has its number among all, which are at most one more than the bytes
pub going_within : (fields : List (List ℕ)) (text pair : List ℕ) (rest : List (List ℕ)) (at : ℕ) (cells : List Cell) → Going fields text (pair ∷ rest) at cells
    → at ≤ length text
going_within fields text pair rest at cells g =
    let a : length (g.before ++ pair ∷ rest) ≡ length (pairs_of text) = ap length g.all in
    let b = length-append g.before (pair ∷ rest) in
    let c = pieces_at_most 38 text in
    let d = g.count in
    omega (arith, a, b, c, d)
