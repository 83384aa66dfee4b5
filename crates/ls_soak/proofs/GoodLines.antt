-- No line of a soak's script is bad: each is one of the grammar's, and names what was declared.
use Rattle.std.proofs.Common.{◌≡◌, ◌==◌, ℕ, zero, suc, ◌+◌, ◌^◌, ◌<◌, ◌≤◌, List, [], ◌∷◌, ◌++◌, Bool, true, false, ◌&&◌, not}
use Rattle.std.proofs.Common.{Option, Some, None, option_and_then, option_map, refl, sym, ◌∙◌, ap, subst, arith, cond, codes, append_assoc}
use Rattle.std.specs.Prelude.{is_some, nat_le, nat_lt, slice_index_or, if◌then◌else◌}
use Rattle.std.specs.Fmt.{digits, decimal}
use Rattle.std.specs.Str.{is_utf8, chars}
use lib.Utf8.{encode}
use Rattle.percent_encoding.specs.Percent.{percent_decode}
use Rattle.std.proofs.lemmas.Bool.{eqb-true, eqb-false}
use Rattle.std.proofs.lemmas.Bool.Decides.{nat_tests}
use Rattle.std.proofs.lemmas.List.Splits.{slice_split_at}
use Rattle.std.proofs.lemmas.List.Sums.{AllPass-from_list_all}
use Rattle.ls_value.proofs.Rows.{and_left, and_right}
use Rattle.ls_value.specs.declared.row.Cell.{Cell}
use Rattle.ls_event.specs.declared.item.Kind.TheVariants as mode_of
use Rattle.ls_words.specs.Words.{divided}
use Rattle.ls_words.specs.Numbers.{is_digit}
use Rattle.ls_words.proofs.ReadBack.{decimal-digits, number_in-decimal}
use Rattle.ls_event.specs.EventText.{event_of}
use Rattle.ls_step.specs.declared.step.Step.{Step}
use Rattle.ls_step.specs.declared.step.Step.TheVariants as step
use Rattle.ls_step.specs.declared.step.Repeat.{Repeat}
use Rattle.ls_step.specs.declared.limits.TheConstants.{GREATEST_IN_LINE}
use Rattle.ls_step.specs.Grammar.{Known, nothing, known_after, is_skipped, line_of, words_of, update_in, fields_of, item_of, number_from}
use Rattle.ls_soak.specs.Drawing.{opening, event_said, publish_line, enqueue_line, take_line, other_line, line_by, drawn}
use Rattle.ls_soak.specs.declared.drawing.Choice.{Choice}
use Rattle.ls_soak.specs.Drawing.{choice_of, following, script}
use Rattle.ls_world.specs.World.{World, empty}
use Rattle.ls_world.specs.Steps.{does}
use Rattle.ls_world.specs.Script.{known_of, with_line_read, has_bad_line}
use Rattle.ls_world.proofs.Knowing.{known_does}

-- what is known behind a line that isn't skipped, where it is one of the grammar's
abbrev pub known_behind : Known → Option Repeat → Option Known
known_behind k None = None
known_behind k (Some r) = Some (known_after k r.step)

abbrev pub reads_line : Known → List ℕ → Option Known
reads_line k line = if is_skipped line then None else known_behind k (line_of k line)

-- what is known behind lines
abbrev pub reads : Known → List (List ℕ) → Option Known
reads k [] = Some k
reads k (line ∷ lines) = option_and_then (λ known. reads known lines) (reads_line k line)

-- what is known behind the lines that open
abbrev pub opened : Known
opened = record {
  items =
      record { name = codes "m"; kind = mode_of.Merge; fields = codes "a" ∷ codes "b" ∷ codes "c" ∷ [] }
      ∷ record { name = codes "d"; kind = mode_of.Distinct; fields = codes "a" ∷ codes "b" ∷ [] }
      ∷ record { name = codes "k"; kind = mode_of.Command; fields = codes "key" ∷ codes "command" ∷ codes "a" ∷ [] } ∷ [];
  connections = codes "c" ∷ codes "e" ∷ [];
  tick = 0;
}

pub opens : reads nothing opening ≡ Some opened
unfolding digits
opens = refl

-- a step that declares nothing
abbrev declares : Step → Bool
declares (step.Set name) = false
declares (step.Item name kind fields) = true
declares (step.Tick ms) = true
declares (step.Conn name l) = true
declares (step.Open name) = true
declares (step.Add connection words) = false
declares (step.Request connection name parameters) = false
declares (step.Publish adapter seq item cells) = false
declares (step.Clear adapter seq item) = false
declares (step.Enqueue connection sub rank) = false
declares (step.Take connection) = false
declares (step.Lose connection) = false

declares_not : (k : Known) (s : Step) → declares s ≡ false → known_after k s ≡ k
declares_not k (step.Set name) h = refl
declares_not k (step.Item name kind fields) h = absurd (cc h)
declares_not k (step.Tick ms) h = absurd (cc h)
declares_not k (step.Conn name l) h = absurd (cc h)
declares_not k (step.Open name) h = absurd (cc h)
declares_not k (step.Add connection words) h = refl
declares_not k (step.Request connection name parameters) h = refl
declares_not k (step.Publish adapter seq item cells) h = refl
declares_not k (step.Clear adapter seq item) h = refl
declares_not k (step.Enqueue connection sub rank) h = refl
declares_not k (step.Take connection) h = refl
declares_not k (step.Lose connection) h = refl

-- whether a line is read, and declares nothing
abbrev is_plain_step : Option Repeat → Bool
is_plain_step None = false
is_plain_step (Some r) = not (declares r.step)

abbrev is_plain_line : List ℕ → Bool
is_plain_line line = not (is_skipped line) && is_plain_step (line_of opened line)

not_true : (b : Bool) → not b ≡ true → b ≡ false
not_true true h = cc h
not_true false h = refl

step_reads : (o : Option Repeat) → is_plain_step o ≡ true → known_behind opened o ≡ Some opened
step_reads None h = absurd (cc h)
step_reads (Some r) h = ap (λ k. Some k) (declares_not opened r.step (not_true (declares r.step) h))

line_reads : (line : List ℕ) → is_plain_line line ≡ true → reads_line opened line ≡ Some opened
line_reads line h =
    let skips : is_skipped line ≡ false = not_true (is_skipped line) (and_left (not (is_skipped line)) (is_plain_step (line_of opened line)) h) in
    rw skips (step_reads (line_of opened line) (and_right (not (is_skipped line)) (is_plain_step (line_of opened line)) h))

-- what holds of each number below another one
abbrev all_below : ℕ → (ℕ → Bool) → Bool
all_below zero f = true
all_below (suc n) f = f n && all_below n f

below_step : (n : ℕ) (f : ℕ → Bool) (m : ℕ) (t : Bool) → (m == n) ≡ t → f n ≡ true → (m < n → f m ≡ true) → m < suc n → f m ≡ true
below_step n f m true t h rest l = subst (λ (i : ℕ). f i ≡ true) (sym (eqb-true m n t)) h
below_step n f m false t h rest l = rest (let u = eqb-false m n t in grind (arith, nat_tests))

below : (n : ℕ) (f : ℕ → Bool) (m : ℕ) → all_below n f ≡ true → m < n → f m ≡ true
below zero f m h l = absurd (omega (arith, l))
below (suc n) f m h l =
    below_step n f m (m == n) refl (and_left (f n) (all_below n f) h) (λ less. below n f m (and_right (f n) (all_below n f) h) less) l

-- a number's digits are one word
digit_no_space : (b : ℕ) → is_digit b ≡ true → (b == 32) ≡ false
digit_no_space b h =
    let least : nat_le 48 b ≡ true = and_left (nat_le 48 b) (nat_le b 57) h in
    grind (arith, nat_tests)

number_word : (n : ℕ) (rest : List ℕ) → n < 2 ^ 64 → divided 32 (decimal n ++ 32 ∷ rest) ≡ decimal n ∷ divided 32 rest
number_word n rest small =
    slice_split_at (λ b. b == 32) (decimal n) 32 rest
    (λ k d within. digit_no_space (slice_index_or (decimal n) k d) (AllPass-from_list_all is_digit (decimal n) (decimal-digits n small) k d within)) refl

seq_read : (n : ℕ) → 1 ≤ n → n ≤ GREATEST_IN_LINE → number_from 1 (decimal n) ≡ Some n
seq_read n low high = number_in-decimal 1 GREATEST_IN_LINE n low high (omega (arith, high))

small_enough : (n : ℕ) → n ≤ GREATEST_IN_LINE → n < 2 ^ 64
small_enough n h = omega (arith, h)

-- whether words behind a seq say an item and an update of it
abbrev update_said : List ℕ → List ℕ → Option (List Cell)
update_said item event = option_and_then (λ i. update_in (event_of (fields_of opened.items i) event)) (item_of opened item)

abbrev says_update : List (List ℕ) → Bool
says_update [] = false
says_update (item ∷ []) = false
says_update (item ∷ event ∷ []) = is_some (update_said item event)
says_update (item ∷ event ∷ word ∷ words) = false

-- whether a text is a space, and such words behind it
abbrev publishes : List ℕ → Bool
publishes [] = false
publishes (b ∷ text) = (b == 32) && says_update (divided 32 text)

-- the events of all kinds and values
events : all_below 3 (λ kind. all_below 50 (λ value. publishes (event_said kind value))) ≡ true
unfolding digits percent_decode is_utf8 chars encode
events = refl

publish_step : (n i : ℕ) (o : Option (List Cell)) → is_some o ≡ true
    → is_plain_step (option_map {T = Step} {U = Repeat} (λ s. record { step = s; times = 1 }) (option_map (λ cells. step.Publish 1 n i cells) o)) ≡ true
publish_step n i None h = absurd (cc h)
publish_step n i (Some cells) h = refl

publish_item : (n : ℕ) (item event : List ℕ) (o : Option ℕ)
    → is_some (option_and_then (λ i. update_in (event_of (fields_of opened.items i) event)) o) ≡ true
    → is_plain_step (option_map {T = Step} {U = Repeat} (λ s. record { step = s; times = 1 })
    (option_and_then (λ i. option_map (λ cells. step.Publish 1 n i cells) (update_in (event_of (fields_of opened.items i) event))) o)) ≡ true
publish_item n item event None h = absurd (cc h)
publish_item n item event (Some i) h = publish_step n i (update_in (event_of (fields_of opened.items i) event)) h

publish_words : (n : ℕ) (words : List (List ℕ)) → 1 ≤ n → n ≤ GREATEST_IN_LINE → says_update words ≡ true
    → is_plain_step (words_of opened (codes "pub" ∷ codes "1" ∷ decimal n ∷ words)) ≡ true
publish_words n [] low high h = absurd (cc h)
publish_words n (item ∷ []) low high h = absurd (cc h)
publish_words n (item ∷ event ∷ []) low high h = rw (seq_read n low high) (publish_item n item event (item_of opened item) h)
publish_words n (item ∷ event ∷ word ∷ words) low high h = absurd (cc h)

publish_text : (n : ℕ) (text : List ℕ) → 1 ≤ n → n ≤ GREATEST_IN_LINE → says_update (divided 32 text) ≡ true
    → is_plain_line (codes "pub 1 " ++ (decimal n ++ 32 ∷ text)) ≡ true
publish_text n text low high h =
    subst (λ (ws : List (List ℕ)). is_plain_step (words_of opened (codes "pub" ∷ codes "1" ∷ ws)) ≡ true)
    (sym (number_word n text (small_enough n high))) (publish_words n (divided 32 text) low high h)

publish_event : (n : ℕ) (event : List ℕ) → 1 ≤ n → n ≤ GREATEST_IN_LINE → publishes event ≡ true
    → is_plain_line (codes "pub 1 " ++ (decimal n ++ event)) ≡ true
publish_event n [] low high h = absurd (cc h)
publish_event n (b ∷ text) low high h =
    let space : b ≡ 32 = eqb-true b 32 (and_left (b == 32) (says_update (divided 32 text)) h) in
    subst (λ (c : ℕ). is_plain_line (codes "pub 1 " ++ (decimal n ++ c ∷ text)) ≡ true) (sym space)
    (publish_text n text low high (and_right (b == 32) (says_update (divided 32 text)) h))

publish_plain : (n kind value : ℕ) → 1 ≤ n → n ≤ GREATEST_IN_LINE → kind < 3 → value < 50 → is_plain_line (publish_line n kind value) ≡ true
publish_plain n kind value low high k v =
    subst (λ (t : List ℕ). is_plain_line t ≡ true) (sym (append_assoc (codes "pub 1 ") (decimal n) (event_said kind value)))
    (publish_event n (event_said kind value) low high
    (below 50 (λ v. publishes (event_said kind v)) value (below 3 (λ k. all_below 50 (λ v. publishes (event_said k v))) kind events k) v))

-- the lines without a number of their own
enqueues : all_below 3 (λ kind. all_below 50 (λ value. is_plain_line (enqueue_line kind value))) ≡ true
unfolding digits
enqueues = refl

takes : all_below 50 (λ value. is_plain_line (take_line value)) ≡ true
takes = refl

others : (n : ℕ) → all_below 2 (λ kind. all_below 50 (λ value. is_plain_line (other_line n (suc kind) value))) ≡ true
unfolding digits
others n = refl

clear_words : (n : ℕ) → 1 ≤ n → n ≤ GREATEST_IN_LINE
    → is_plain_step (words_of opened (codes "clear" ∷ codes "1" ∷ decimal n ∷ codes "k" ∷ [])) ≡ true
clear_words n low high = rw (seq_read n low high) refl

clear_plain : (n value : ℕ) → 1 ≤ n → n ≤ GREATEST_IN_LINE → is_plain_line (other_line n 0 value) ≡ true
clear_plain n value low high =
    subst (λ (t : List ℕ). is_plain_line t ≡ true) (sym (append_assoc (codes "clear 1 ") (decimal n) (codes " k")))
    (subst (λ (ws : List (List ℕ)). is_plain_step (words_of opened (codes "clear" ∷ codes "1" ∷ ws)) ≡ true)
    (sym (number_word n (codes "k") (small_enough n high))) (clear_words n low high))

other_plain : (n kind value : ℕ) → 1 ≤ n → n ≤ GREATEST_IN_LINE → kind < 3 → value < 50 → is_plain_line (other_line n kind value) ≡ true
other_plain n zero value low high k v = clear_plain n value low high
other_plain n (suc kind) value low high k v =
    below 50 (λ v. is_plain_line (other_line n (suc kind) v)) value
    (below 2 (λ k. all_below 50 (λ v. is_plain_line (other_line n (suc k) v))) kind (others n) (omega (arith, k))) v

enqueue_plain : (kind value : ℕ) → kind < 3 → value < 50 → is_plain_line (enqueue_line kind value) ≡ true
enqueue_plain kind value k v =
    below 50 (λ v. is_plain_line (enqueue_line kind v)) value
    (below 3 (λ k. all_below 50 (λ v. is_plain_line (enqueue_line k v))) kind enqueues k) v

either : (t : Bool) (x y : List ℕ) → is_plain_line x ≡ true → is_plain_line y ≡ true → is_plain_line (cond t x y) ≡ true
either true x y h k = h
either false x y h k = k

line_plain : (n : ℕ) (c : Choice) → 1 ≤ n → n ≤ GREATEST_IN_LINE → c.kind < 3 → c.value < 50 → is_plain_line (line_by n c) ≡ true
line_plain n c low high k v =
    either (nat_lt c.act 4) (publish_line n c.kind c.value)
    (cond (nat_lt c.act 7) (enqueue_line c.kind c.value) (cond (nat_lt c.act 9) (take_line c.value) (other_line n c.kind c.value)))
    (publish_plain n c.kind c.value low high k v)
    (either (nat_lt c.act 7) (enqueue_line c.kind c.value) (cond (nat_lt c.act 9) (take_line c.value) (other_line n c.kind c.value))
    (enqueue_plain c.kind c.value k v)
    (either (nat_lt c.act 9) (take_line c.value) (other_line n c.kind c.value)
    (below 50 (λ v. is_plain_line (take_line v)) c.value takes v) (other_plain n c.kind c.value low high k v)))

drawn_reads : (n x before : ℕ) → before + n ≤ GREATEST_IN_LINE → reads opened (drawn x before n) ≡ Some opened
drawn_reads zero x before most = refl
drawn_reads (suc n) x before most =
    let line : List ℕ = line_by (before + 1) (choice_of (following x)) in
    let plain : is_plain_line line ≡ true =
    line_plain (before + 1) (choice_of (following x)) (omega arith) (omega (arith, most)) (omega arith) (omega arith) in
    rw (line_reads line plain) (drawn_reads n (following x) (before + 1) (omega (arith, most)))

reads_step : (o : Option Known) (xs ys : List (List ℕ)) (known : Known)
    → ((v : Known) → reads v xs ≡ Some known → reads v (xs ++ ys) ≡ reads known ys)
    → option_and_then (λ v. reads v xs) o ≡ Some known → option_and_then (λ v. reads v (xs ++ ys)) o ≡ reads known ys
reads_step None xs ys known go h = absurd (cc h)
reads_step (Some v) xs ys known go h = go v h

reads_on : (xs ys : List (List ℕ)) (k known : Known) → reads k xs ≡ Some known → reads k (xs ++ ys) ≡ reads known ys
reads_on [] ys k known h = let e : k ≡ known = cc h in ap (λ v. reads v ys) e
reads_on (x ∷ xs) ys k known h = reads_step (reads_line k x) xs ys known (λ v. reads_on xs ys v known) h

script_reads : (start steps : ℕ) → steps ≤ GREATEST_IN_LINE → reads nothing (script start steps) ≡ Some opened
script_reads start steps most =
    reads_on opening (drawn start 0 steps) nothing opened opens ∙ drawn_reads steps start 0 (omega (arith, most))

-- lines that are read aren't bad
good_step : (w : World) (line : List ℕ) (lines : List (List ℕ)) (known : Known) (b : Bool) (o : Option Repeat) → is_skipped line ≡ b
    → line_of (known_of w) line ≡ o → ((v : World) → reads (known_of v) lines ≡ Some known → has_bad_line v lines ≡ false)
    → reads (known_of w) (line ∷ lines) ≡ Some known → has_bad_line w (line ∷ lines) ≡ false
good_step w line lines known true o skips is go h = absurd (let e = rw skips at h in cc e)
good_step w line lines known false None skips is go h = absurd (let e = rw (skips, is) at h in cc e)
good_step w line lines known false (Some r) skips is go h =
    let after : World = (does (with_line_read w) r.step r.times).after in
    let e : reads (known_after (known_of w) r.step) lines ≡ Some known = rw (skips, is) at h in
    rw (skips, is) (go after (ap (λ k. reads k lines) (known_does (with_line_read w) r.step r.times) ∙ e))

pub good_lines : (lines : List (List ℕ)) (w : World) (known : Known) → reads (known_of w) lines ≡ Some known → has_bad_line w lines ≡ false
good_lines [] w known h = refl
good_lines (line ∷ lines) w known h =
    good_step w line lines known (is_skipped line) (line_of (known_of w) line) refl refl (λ v. good_lines lines v known) h

-- no line of the script is bad
pub script_good : (start steps : ℕ) → steps ≤ GREATEST_IN_LINE → has_bad_line empty (script start steps) ≡ false
script_good start steps most = good_lines (script start steps) empty opened (script_reads start steps most)
