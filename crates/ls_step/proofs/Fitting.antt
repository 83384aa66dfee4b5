-- What a line asks for fits what was known before it: proved on the definitions alone.
use Rattle.std.proofs.Common.{◌≡◌, ℕ, zero, suc, ◌+◌, ◌<◌, ◌≤◌, List, [], ◌∷◌, ◌++◌, length, refl, ap, arith, Bool, true, false, ◌&&◌, subst, cond, Option}
use Rattle.std.proofs.Common.{Some, None, IfSome, option_map, codes, Ok}
use Rattle.std.specs.Prelude.{nat_le, nat_lt, is_none, unwrap_or, option_and_then}
use Rattle.std.specs.Option.{option_or}
use Rattle.std.specs.List.{list_all}
use Rattle.std.proofs.lemmas.List.{length-map}
use Rattle.std.proofs.lemmas.Bool.Decides.{nat_tests}
use Rattle.ls_value.specs.Values.{text_eq}
use Rattle.ls_value.specs.declared.row.Cell.{Cell}
use Rattle.ls_value.proofs.Rows.{and_left, and_right, place_of_within}
use Rattle.ls_words.specs.Numbers.{number_in, number_of, within}
use Rattle.ls_words.specs.Words.{Halves, divided, split_once, is_name, name_of}
use Rattle.ls_event.specs.declared.event.Event.TheVariants.{Clear as Cleared}
use Rattle.ls_event.specs.declared.event_text.EventRefused.{EventRefused}
use Rattle.ls_event.specs.declared.event_text.EventRefused.TheVariants as refused
use Rattle.ls_event.specs.EventText.{event_of, update_of, first_cause, pair_cause, cells_of, cell_named, value_said, halves_of, field_of}
use Rattle.ls_event.specs.EventText.{is_found_at, is_named, is_textual, pairs_of, table}
use Rattle.ls_event.specs.declared.item.ItemDef.{ItemDef}
use Rattle.ls_config.specs.Items.{kind_said, are_fields, is_item, item_said, may_follow}
use Rattle.ls_config.proofs.Sound.{said_item}
use Rattle.ls_event.specs.declared.limits.TheConstants.{MOST_FIELDS, MOST_ADAPTERS}
use Rattle.ls_step.specs.declared.limits.TheConstants.{GREATEST_IN_LINE, MOST_TIMES}
use Rattle.ls_step.specs.Grammar.{Known, number_from, times_of, adapter_of, link_of, is_new, item_names, item_of, connection_of, fields_of, once, so_often}
use Rattle.ls_step.specs.Grammar.{set_line, new_item, item_line, tick_line, conn_line, open_line, behind, add_said, add_line, request_line, update_in}
use Rattle.ls_step.specs.Grammar.{publish_line, clear_line, enqueue_line, take_line, lose_line, is, two_words, three_words, four_words, five_words, more_words}
use Rattle.ls_step.specs.Grammar.{words_of, request_named, request_on, asked_behind, line_of}
use Rattle.ls_step.specs.Ranges.{Fits, RepeatFits, NewItem, NewConnection}
use Rattle.ls_step.specs.declared.step.Step.{Step}
use Rattle.ls_step.specs.declared.step.Step.TheVariants as step
use Rattle.ls_step.specs.declared.step.Repeat.{Repeat}

-- an answer that is kept under a test, one of two, and a chain
kept : {A : Type 0} (P : A → Type 0) (b : Bool) (a : A) → (b ≡ true → P a) → IfSome (cond b (Some a) None) P
kept P true a h = h refl
kept P false a h = tt

one_of : {A : Type 0} (P : A → Type 0) (b : Bool) (x y : Option A) → IfSome x P → IfSome y P → IfSome (cond b x y) P
one_of P true x y h j = h
one_of P false x y h j = j

chained : {A B : Type 0} (Q : A → Type 0) (P : B → Type 0) (f : A → Option B) (o : Option A) → IfSome o Q → ((a : A) → Q a → IfSome (f a) P)
    → IfSome (option_and_then f o) P
chained Q P f None h j = tt
chained Q P f (Some a) h j = j a h

made : {A B : Type 0} (Q : A → Type 0) (P : B → Type 0) (f : A → B) (o : Option A) → IfSome o Q → ((a : A) → Q a → P (f a)) → IfSome (option_map f o) P
made Q P f None h j = tt
made Q P f (Some a) h j = j a h

anything : {A : Type 0} (o : Option A) → IfSome o (λ a. Unit {0})
anything None = tt
anything (Some a) = tt

none_of : (o : Option ℕ) → is_none o ≡ true → o ≡ None
none_of None h = refl
none_of (Some n) h = cc

-- numbers
abbrev Within : ℕ → ℕ → ℕ → Type 0
Within low high n = (low ≤ n) × (n ≤ high)

number_within : (low high : ℕ) (text : List ℕ) → IfSome (number_in text low high) (Within low high)
number_within low high text = chained (λ n. Unit {0}) (Within low high) (λ n. within n low high) (number_of text) (anything (number_of text))
    (λ n u. kept (Within low high) (nat_le low n && nat_le n high) n (λ h. bounds n (and_left _ _ h) (and_right _ _ h)))
  where
    bounds : (n : ℕ) → nat_le low n ≡ true → nat_le n high ≡ true → (low ≤ n) × (n ≤ high)
    bounds n h j = (grind (arith, nat_tests), grind (arith, nat_tests))

-- how often
once_fits : (k : Known) (o : Option Step) → IfSome o (Fits k) → IfSome (once o) (RepeatFits k)
once_fits k None h = tt
once_fits k (Some s) h = record { fits = h; some = omega arith; most = omega arith }

often_fits : (k : Known) (o : Option Step) (times : Option ℕ) → IfSome o (Fits k) → IfSome times (Within 1 MOST_TIMES)
    → IfSome (so_often o times) (RepeatFits k)
often_fits k None times h t = tt
often_fits k (Some s) None h t = tt
often_fits k (Some s) (Some n) h t = record { fits = h; some = t.0; most = t.1 }

-- new names
below : (n m : ℕ) → nat_lt n m ≡ true → n < m
below n m h = grind (arith, nat_tests)

at_most : (n m : ℕ) → nat_le n m ≡ true → n ≤ m
at_most n m h = grind (arith, nat_tests)

new_connection : (k : Known) (name : List ℕ) → is_new k.connections name ≡ true → NewConnection k name
new_connection k name h = record {
  few = below _ _ (and_left _ _ (and_left _ _ h));
  named = and_right _ _ (and_left _ _ h);
  new = none_of _ (and_right _ _ h);
}

new_item_fits : (k : Known) (i : ItemDef) → is_item i ≡ true → may_follow k.items i.name ≡ true → NewItem k i.name i.kind i.fields
new_item_fits k i f h =
    let fields : are_fields i.fields ≡ true = and_right _ _ (and_left _ _ f) in
    record {
      few = below _ _ (and_left _ _ h);
      named = and_left _ _ (and_left _ _ f);
      new = none_of _ (and_right _ _ h);
      some = at_most 1 (length i.fields) (and_left _ _ (and_left _ _ (and_left _ _ fields)));
      most = at_most (length i.fields) MOST_FIELDS (and_right _ _ (and_left _ _ (and_left _ _ fields)));
      field_names = and_right _ _ fields;
      distinct = and_right _ _ (and_left _ _ fields);
      keys = and_right _ _ f;
    }

item_within : (k : Known) (name : List ℕ) → IfSome (item_of k name) (λ i. i < length k.items)
item_within k name = subst (λ (n : ℕ). IfSome (item_of k name) (λ i. i < n)) (length-map k.items (λ i. i.name)) (place_of_within (item_names k) name)

-- the cells of an update
table_length : (f : ℕ → Cell) (from n : ℕ) → length (table f from n) ≡ n
table_length f from zero = refl
table_length f from (suc n) = ap suc (table_length f (from + 1) n)

table_all : (p : Cell → Bool) (f : ℕ → Cell) → ((j : ℕ) → p (f j) ≡ true) → (from n : ℕ) → list_all p (table f from n) ≡ true
table_all p f h from zero = refl
table_all p f h from (suc n) = let a : p (f from) ≡ true = h from in let b : list_all p (table f (from + 1) n) ≡ true =
    table_all p f h (from + 1) n in rw (a, b) refl

none_first : (o p : Option EventRefused) → option_or o p ≡ None → o ≡ None
none_first None p h = refl
none_first (Some e) p h = cc

none_second : (o p : Option EventRefused) → option_or o p ≡ None → p ≡ None
none_second None p h = h
none_second (Some e) p h = cc

said_textual : (fields before : List (List ℕ)) (at : ℕ) (pair : List ℕ) → pair_cause fields before at pair ≡ None
    → is_textual (value_said (halves_of pair)) ≡ true
said_textual fields before at pair h =
    by_tests (is_none (halves_of pair)) (is_none (field_of fields pair)) (is_named fields (unwrap_or (field_of fields pair) 0) before)
    (is_textual (value_said (halves_of pair))) h
  where
    by_tests : (a b v w : Bool)
        → cond a (Some (refused.BadPair at)) (cond b (Some (refused.UnknownField at))
        (cond v (Some (refused.TwiceField at)) (cond w None (Some (refused.BadText at))))) ≡ None
        → w ≡ true
    by_tests true b v w h = cc
    by_tests false true v w h = cc
    by_tests false false true w h = cc
    by_tests false false false true h = refl
    by_tests false false false false h = cc

named_textual : (fields before pairs : List (List ℕ)) → first_cause fields before pairs ≡ None → (place : ℕ) → is_textual (cell_named fields pairs place) ≡ true
named_textual fields before [] h place = refl
named_textual fields before (pair ∷ pairs) h place =
    by_test (is_found_at place (field_of fields pair)) (said_textual fields before (length before + 1) pair (none_first _ _ h))
    (named_textual fields (before ++ pair ∷ []) pairs (none_second _ _ h) place)
  where
    by_test : (v : Bool) → is_textual (value_said (halves_of pair)) ≡ true → is_textual (cell_named fields pairs place) ≡ true
        → is_textual (cond v (value_said (halves_of pair)) (cell_named fields pairs place)) ≡ true
    by_test true a b = a
    by_test false a b = b

abbrev Whole : List (List ℕ) → List Cell → Type 0
Whole fields cells = (length cells ≡ length fields) × (list_all is_textual cells ≡ true)

update_fits : (fields : List (List ℕ)) (text : List ℕ) → IfSome (update_in (event_of fields text)) (Whole fields)
update_fits fields text = by_test (text_eq text (codes "!")) (first_cause fields [] (pairs_of text)) refl
  where
    by_test : (v : Bool) (o : Option EventRefused) → first_cause fields [] (pairs_of text) ≡ o
        → IfSome (update_in (cond v (Ok Cleared) (update_of o (cells_of fields (pairs_of text))))) (Whole fields)
    by_test true o h = tt
    by_test false (Some e) h = tt
    by_test false None h = (
      table_length (cell_named fields (pairs_of text)) 0 (length fields),
      table_all is_textual (cell_named fields (pairs_of text))
          (named_textual fields [] (pairs_of text) h) 0 (length fields),
    )

-- the lines, one by one
set_fits : (k : Known) (name : List ℕ) → IfSome (set_line name) (Fits k)
set_fits k name = made (λ n. is_name n ≡ true) (Fits k) (λ n. step.Set n) (name_of name)
    (kept (λ n. is_name n ≡ true) (is_name name) name (λ h. h)) (λ n h. h)

item_fits : (k : Known) (name word fields : List ℕ) → IfSome (item_line k name word fields) (Fits k)
item_fits k name word fields =
    chained (λ i. is_item i ≡ true) (Fits k) (new_item k) (item_said name word fields) (said_item name (divided 44 fields) (kind_said word))
    (λ i f. kept (Fits k) (may_follow k.items i.name) (step.Item i.name i.kind i.fields) (λ h. new_item_fits k i f h))

tick_fits : (k : Known) (text : List ℕ) → IfSome (tick_line k text) (Fits k)
tick_fits k text = made (Within k.tick GREATEST_IN_LINE) (Fits k) (λ n. step.Tick n) (number_from k.tick text) (number_within k.tick GREATEST_IN_LINE text)
    (λ n w. record { later = w.0; most = w.1 })

conn_fits : (k : Known) (name word : List ℕ) → IfSome (conn_line k name word) (Fits k)
conn_fits k name word =
    chained (λ l. Unit {0}) (Fits k) _ (link_of word) (anything (link_of word)) (λ l u. kept (Fits k) (is_new k.connections name) (step.Conn name l)
    (λ h. new_connection k name h))

open_fits : (k : Known) (name : List ℕ) → IfSome (open_line k name) (Fits k)
open_fits k name = kept (Fits k) (is_new k.connections name) (step.Open name) (λ h. new_connection k name h)

add_fits : (k : Known) (c sub items fields word : List ℕ) (words : List (List ℕ)) → IfSome (add_line k c sub items fields word words) (Fits k)
add_fits k c sub items fields word words =
    chained (λ n. n < length k.connections) (Fits k) _ (connection_of k c) (place_of_within k.connections c)
    (λ n d. made (λ a. Unit {0}) (Fits k) (λ a. step.Add n a) (add_said sub items fields word words) (anything (add_said sub items fields word words))
    (λ a u. d))

request_fits : (k : Known) (c name parameters : List ℕ) → IfSome (request_line k c name parameters) (Fits k)
request_fits k c name parameters =
    chained (λ n. n < length k.connections) (Fits k) _ (connection_of k c) (place_of_within k.connections c)
    (λ n d. kept (Fits k) (is_name name) (step.Request n name parameters) (λ h. record { declared = d; named = h }))

publish_fits : (k : Known) (adapter seq item event : List ℕ) → IfSome (publish_line k adapter seq item event) (Fits k)
publish_fits k adapter seq item event =
    chained (Within 1 MOST_ADAPTERS) (Fits k) _ (adapter_of adapter) (number_within 1 MOST_ADAPTERS adapter)
    (λ a l. chained (Within 1 GREATEST_IN_LINE) (Fits k) _ (number_from 1 seq) (number_within 1 GREATEST_IN_LINE seq)
    (λ s m. chained (λ i. i < length k.items) (Fits k) _ (item_of k item) (item_within k item)
    (λ i d. made (Whole (fields_of k.items i)) (Fits k) (λ cells. step.Publish a s i cells) (update_in (event_of (fields_of k.items i) event))
    (update_fits (fields_of k.items i) event)
    (λ cells w. record { published = record { some = l.0; most = l.1; first = m.0; last = m.1; declared = d }; whole = w.0; textual = w.1 }))))

clear_fits : (k : Known) (adapter seq item : List ℕ) → IfSome (clear_line k adapter seq item) (Fits k)
clear_fits k adapter seq item =
    chained (Within 1 MOST_ADAPTERS) (Fits k) _ (adapter_of adapter) (number_within 1 MOST_ADAPTERS adapter)
    (λ a l. chained (Within 1 GREATEST_IN_LINE) (Fits k) _ (number_from 1 seq) (number_within 1 GREATEST_IN_LINE seq)
    (λ s m. made (λ i. i < length k.items) (Fits k) (λ i. step.Clear a s i) (item_of k item) (item_within k item)
    (λ i d. record { some = l.0; most = l.1; first = m.0; last = m.1; declared = d })))

enqueue_fits : (k : Known) (c sub rank : List ℕ) → IfSome (enqueue_line k c sub rank) (Fits k)
enqueue_fits k c sub rank =
    chained (λ n. n < length k.connections) (Fits k) _ (connection_of k c) (place_of_within k.connections c)
    (λ n d. chained (Within 0 GREATEST_IN_LINE) (Fits k) _ (number_from 0 sub) (number_within 0 GREATEST_IN_LINE sub)
    (λ s l. made (Within 0 GREATEST_IN_LINE) (Fits k) (λ p. step.Enqueue n s p) (number_from 0 rank) (number_within 0 GREATEST_IN_LINE rank)
    (λ p m. record { declared = d; sub_most = l.1; rank_most = m.1 })))

take_fits : (k : Known) (c : List ℕ) → IfSome (take_line k c) (Fits k)
take_fits k c = made (λ n. n < length k.connections) (Fits k) (λ n. step.Take n) (connection_of k c) (place_of_within k.connections c) (λ n d. d)

lose_fits : (k : Known) (c : List ℕ) → IfSome (lose_line k c) (Fits k)
lose_fits k c = made (λ n. n < length k.connections) (Fits k) (λ n. step.Lose n) (connection_of k c) (place_of_within k.connections c) (λ n d. d)

-- the lines by their words
two_fit : (k : Known) (w a : List ℕ) → IfSome (two_words k w a) (Fits k)
two_fit k w a =
    one_of (Fits k) (is w (codes "set")) _ _ (set_fits k a)
    (one_of (Fits k) (is w (codes "tick")) _ _ (tick_fits k a)
    (one_of (Fits k) (is w (codes "open")) _ _ (open_fits k a)
    (one_of (Fits k) (is w (codes "take")) _ _ (take_fits k a)
    (one_of (Fits k) (is w (codes "lose")) _ None (lose_fits k a) tt))))

three_fit : (k : Known) (w a b : List ℕ) → IfSome (three_words k w a b) (RepeatFits k)
three_fit k w a b =
    one_of (RepeatFits k) (is w (codes "conn")) _ _ (once_fits k (conn_line k a b) (conn_fits k a b))
    (one_of (RepeatFits k) (is w (codes "take")) _ None (often_fits k (take_line k a) (times_of b) (take_fits k a) (number_within 1 MOST_TIMES b)) tt)

four_fit : (k : Known) (w a b c : List ℕ) → IfSome (four_words k w a b c) (Fits k)
four_fit k w a b c =
    one_of (Fits k) (is w (codes "item")) _ _ (item_fits k a b c)
    (one_of (Fits k) (is w (codes "clear")) _ _ (clear_fits k a b c)
    (one_of (Fits k) (is w (codes "enq")) _ None (enqueue_fits k a b c) tt))

five_fit : (k : Known) (w a b c d : List ℕ) → IfSome (five_words k w a b c d) (RepeatFits k)
five_fit k w a b c d =
    one_of (RepeatFits k) (is w (codes "pub")) _ _ (once_fits k (publish_line k a b c d) (publish_fits k a b c d))
    (one_of (RepeatFits k) (is w (codes "enq")) _ None (often_fits k (enqueue_line k a b c) (times_of d) (enqueue_fits k a b c) (number_within 1 MOST_TIMES d))
    tt)

more_fit : (k : Known) (w a b c d e : List ℕ) (words : List (List ℕ)) → IfSome (more_words k (w ∷ a ∷ b ∷ c ∷ d ∷ e ∷ words)) (Fits k)
more_fit k w a b c d e words = one_of (Fits k) (is w (codes "add")) _ None (add_fits k a b c d e words) tt

words_fit : (k : Known) (words : List (List ℕ)) → IfSome (words_of k words) (RepeatFits k)
words_fit k [] = tt
words_fit k (w ∷ []) = tt
words_fit k (w ∷ a ∷ []) = once_fits k (two_words k w a) (two_fit k w a)
words_fit k (w ∷ a ∷ b ∷ []) = three_fit k w a b
words_fit k (w ∷ a ∷ b ∷ c ∷ []) = once_fits k (four_words k w a b c) (four_fit k w a b c)
words_fit k (w ∷ a ∷ b ∷ c ∷ d ∷ []) = five_fit k w a b c d
words_fit k (w ∷ a ∷ b ∷ c ∷ d ∷ e ∷ words) = once_fits k (more_words k (w ∷ a ∷ b ∷ c ∷ d ∷ e ∷ words)) (more_fit k w a b c d e words)

requested : (k : Known) (o : Option Halves) → IfSome (request_on k o) (Fits k)
requested k None = tt
requested k (Some h) = by_name (split_once 32 h.back)
  where
    by_name : (o : Option Halves) → IfSome (request_named k h.front h.back o) (Fits k)
    by_name None = request_fits k h.front h.back []
    by_name (Some n) = request_fits k h.front n.front n.back

pub line_fits : (k : Known) (line : List ℕ) → IfSome (line_of k line) (RepeatFits k)
line_fits k line = by_rest (behind (codes "req ") line)
  where
    by_rest : (o : Option (List ℕ)) → IfSome (asked_behind k line o) (RepeatFits k)
    by_rest None = words_fit k (divided 32 line)
    by_rest (Some rest) = once_fits k (request_on k (split_once 32 rest)) (requested k (split_once 32 rest))

-- the same, where a line's answer is known
pub line_fits_is : (k : Known) (line : List ℕ) (r : Repeat) → line_of k line ≡ Some r → RepeatFits k r
line_fits_is k line r h = subst (λ (o : Option Repeat). IfSome o (RepeatFits k)) h (line_fits k line)
