-- The parts of a line's text are found again between its commas.
use Rattle.std.proofs.Common.{◌≡◌, ◌==◌, ◌<◌, ◌≤◌, ℕ, ◌+◌, List, [], ◌∷◌, ◌++◌, length, map, drop, get_or, Bool}
use Rattle.std.proofs.Common.{true, false, ◌&&◌, ◌||◌, not, nat_le, nat_eq, cond, None, Some, refl, sym, ap, subst, ◌∙◌}
use Rattle.std.proofs.Common.{arith, append-nil, append_assoc}
use Rattle.std.proofs.lemmas.Bool.Decides.{nat_tests}
use Rattle.std.proofs.lemmas.List.{at_drop_all, at_drop_more}
use Rattle.std.proofs.lemmas.Str.{is_utf8-from_IsUtf8}
use Rattle.ls_line.specs.declared.table.Lent.{Lent}
use Rattle.std.specs.Fmt.{decimal}
use Rattle.std.specs.List.{list_all}
use Rattle.ls_value.proofs.Rows.{and_left, and_right, text_eq_same}
use Rattle.ls_line.specs.declared.line.Line.{Line}
use Rattle.ls_line.specs.declared.table.Tag.{Tag}
use Rattle.ls_line.specs.declared.table.Word.TheVariants as word
use Rattle.ls_line.specs.declared.table.Kind.{Kind}
use Rattle.ls_line.specs.declared.table.Kind.TheVariants as kind
use Rattle.ls_line.specs.Forms.{tag_of, kinds_of, line_with, is_rest}
use Rattle.ls_line.specs.Lines.{Part, Fixed, Ordinal, Count, Text, Message, Coded, part_text, lent_text, then_texts}
use Rattle.ls_line.specs.Lines.{shape_of, text_of_line, is_text_byte, IsInRange, AreInRange, IsWritable}
use Rattle.ls_line.specs.Pieces.{first_piece, behind, commas}
use Rattle.ls_line.specs.Reading.{piece, has_rest, has_parts, is_bad_number, is_bad_text, first_bad, cause_behind}
use Rattle.ls_line.specs.Reading.{part_of, parts_of, Says}
use Rattle.ls_value.specs.declared.limits.TheConstants.{GREATEST_ORDINAL, GREATEST_NUMBER}
use Rattle.ls_words.specs.Numbers.{is_digit}
use Rattle.ls_words.proofs.ReadBack.{decimal-digits, number_in-decimal}

-- any byte but a comma
abbrev pub is_no_comma : ℕ → Bool
is_no_comma b = not (b == 44)

digit_no_comma : (b : ℕ) → is_digit b ≡ true → is_no_comma b ≡ true
digit_no_comma b h = grind (arith, nat_tests)

digits_free : (text : List ℕ) → list_all is_digit text ≡ true → list_all is_no_comma text ≡ true
digits_free [] h = refl
digits_free (b ∷ text) h =
    let a = digit_no_comma b (and_left (is_digit b) (list_all is_digit text) h) in
    let c = digits_free text (and_right (is_digit b) (list_all is_digit text) h) in
    rw (a, c) refl

-- a number's digits hold no comma
decimal-free : (n : ℕ) → n ≤ GREATEST_NUMBER → list_all is_no_comma (decimal n) ≡ true
decimal-free n h = digits_free (decimal n) (decimal-digits n (omega (arith, h)))

abbrev pub is_free : List ℕ → Bool
is_free text = list_all is_no_comma text

pub was_false : (v : Bool) → not v ≡ true → v ≡ false
was_false true h = cc
was_false false h = refl

no_comma : (x : ℕ) (text : List ℕ) → is_free (x ∷ text) ≡ true → (x == 44) ≡ false
no_comma x text h = was_false (x == 44) (and_left (is_no_comma x) (is_free text) h)

rest_free : (x : ℕ) (text : List ℕ) → is_free (x ∷ text) ≡ true → is_free text ≡ true
rest_free x text h = and_right (is_no_comma x) (is_free text) h

first_piece-comma : (text rest : List ℕ) → is_free text ≡ true → first_piece (text ++ 44 ∷ rest) ≡ text
first_piece-comma [] rest h = refl
first_piece-comma (x ∷ text) rest h =
    rw (no_comma x text h) (ap (λ t. x ∷ t) (first_piece-comma text rest (rest_free x text h)))

first_piece-free : (text : List ℕ) → is_free text ≡ true → first_piece text ≡ text
first_piece-free [] h = refl
first_piece-free (x ∷ text) h = rw (no_comma x text h) (ap (λ t. x ∷ t) (first_piece-free text (rest_free x text h)))

behind-comma : (text rest : List ℕ) → is_free text ≡ true → behind (text ++ 44 ∷ rest) ≡ rest
behind-comma [] rest h = refl
behind-comma (x ∷ text) rest h = rw (no_comma x text h) (behind-comma text rest (rest_free x text h))

behind-free : (text : List ℕ) → is_free text ≡ true → behind text ≡ []
behind-free [] h = refl
behind-free (x ∷ text) h = rw (no_comma x text h) (behind-free text (rest_free x text h))

commas-free : (text rest : List ℕ) → is_free text ≡ true → commas (text ++ rest) ≡ commas rest
commas-free [] rest h = refl
commas-free (x ∷ text) rest h = rw (no_comma x text h) (commas-free text rest (rest_free x text h))

commas-more : (text rest : List ℕ) → commas rest ≤ commas (text ++ rest)
commas-more [] rest = omega arith
commas-more (x ∷ text) rest = by_test (x == 44) (commas-more text rest)
  where
    by_test : (v : Bool) → commas rest ≤ commas (text ++ rest)
        → commas rest ≤ cond v (commas (text ++ rest) + 1) (commas (text ++ rest))
    by_test true h = omega (arith, h)
    by_test false h = h

-- the kind of a part
abbrev pub kind_of : Part → Kind
kind_of (Fixed w) = kind.Fixed w
kind_of (Ordinal n) = kind.Ordinal
kind_of (Count n) = kind.Count
kind_of (Text t) = kind.Text
kind_of (Message t) = kind.Message
kind_of (Coded bytes) = kind.Coded

-- only the last part may be the rest of the line
abbrev pub is_last_rest : List Kind → Bool
is_last_rest [] = true
is_last_rest (k ∷ []) = true
is_last_rest (k ∷ q ∷ kinds) = not (is_rest k) && is_last_rest (q ∷ kinds)

abbrev pub is_rest_last : List Part → Bool
is_rest_last parts = is_last_rest (map kind_of parts)

-- parts, each behind a comma, and parts with commas between them
abbrev pub behind_commas : List Part → List ℕ
behind_commas [] = []
behind_commas (p ∷ parts) = 44 ∷ part_text p ++ behind_commas parts

abbrev pub joined : List Part → List ℕ
joined [] = []
joined (p ∷ parts) = part_text p ++ behind_commas parts

pub then_texts-joined : (text : List ℕ) (parts : List Part) → then_texts text (map part_text parts) ≡ text
    ++ behind_commas parts
then_texts-joined text [] = sym (append-nil text)
then_texts-joined text (p ∷ parts) =
    then_texts-joined (text ++ 44 ∷ part_text p) parts ∙ append_assoc text (44 ∷ part_text p) (behind_commas parts)

-- what stands before the first text stays there
pub then_texts-behind : (old text : List ℕ) (texts : List (List ℕ))
    → then_texts (old ++ text) texts ≡ old ++ then_texts text texts
then_texts-behind old text [] = refl
then_texts-behind old text (t ∷ texts) =
    ap (λ (x : List ℕ). then_texts x texts) (append_assoc old text (44 ∷ t))
    ∙ then_texts-behind old (text ++ 44 ∷ t) texts

-- where no part is left, all stand behind the text
pub texts_whole : (text old tag : List ℕ) (parts : List Lent) (i : ℕ) → length parts ≤ i
    → then_texts text (map lent_text (drop i parts)) ≡ then_texts (old ++ tag) (map lent_text parts)
    → text ≡ old ++ then_texts tag (map lent_text parts)
texts_whole text old tag parts i n h =
    sym (at_drop_all (λ (ps : List Lent). then_texts text (map lent_text ps)) parts i n) ∙ h
    ∙ then_texts-behind old tag (map lent_text parts)

-- a part more behind the text is one less that is left
pub texts_next : (text more new : List ℕ) (parts : List Lent) (i : ℕ) (d : Lent) → i < length parts
    → more ≡ text ++ 44 ∷ []
    → new ≡ more ++ lent_text (get_or parts i d)
    → then_texts new (map lent_text (drop (i + 1) parts)) ≡ then_texts text (map lent_text (drop i parts))
texts_next text more new parts i d l c n =
    let e : new ≡ text ++ 44 ∷ lent_text (get_or parts i d) =
    n ∙ ap (λ (x : List ℕ). x ++ lent_text (get_or parts i d)) c
    ∙ append_assoc text (44 ∷ []) (lent_text (get_or parts i d)) in
    ap (λ (x : List ℕ). then_texts x (map lent_text (drop (i + 1) parts))) e
    ∙ sym (at_drop_more (λ (ps : List Lent). then_texts text (map lent_text ps)) parts i d l)

first_piece-parts : (text : List ℕ) (parts : List Part) → is_free text ≡ true
    → first_piece (text ++ behind_commas parts) ≡ text
first_piece-parts text [] h = rw (append-nil text) (first_piece-free text h)
first_piece-parts text (p ∷ parts) h = first_piece-comma text (joined (p ∷ parts)) h

behind-parts : (text : List ℕ) (parts : List Part) → is_free text ≡ true
    → behind (text ++ behind_commas parts) ≡ joined parts
behind-parts text [] h = rw (append-nil text) (behind-free text h)
behind-parts text (p ∷ parts) h = behind-comma text (joined (p ∷ parts)) h

-- a text of a line holds no comma
text_free : (text : List ℕ) → list_all is_text_byte text ≡ true → is_free text ≡ true
text_free [] h = refl
text_free (x ∷ text) h =
    let a : is_no_comma x ≡ true = by_test (x == 44) (x == 13) (x == 10)
    (and_left (is_text_byte x) (list_all is_text_byte text) h) in
    let b : is_free text ≡ true = text_free text (and_right (is_text_byte x) (list_all is_text_byte text) h) in
    rw (a, b) refl
  where
    by_test : (u v w : Bool) → not (u || v || w) ≡ true → not u ≡ true
    by_test true v w h = h
    by_test false v w h = refl

part_free : (p : Part) → is_rest (kind_of p) ≡ false → IsInRange p → is_free (part_text p) ≡ true
part_free (Fixed word.RequestLimit) k r = refl
part_free (Fixed word.NoControlLink) k r = refl
part_free (Fixed word.ServerName) k r = refl
part_free (Fixed word.NoDelay) k r = refl
part_free (Ordinal n) k r = decimal-free n (omega (arith, r.1))
part_free (Count n) k r = decimal-free n r
part_free (Text t) k r = text_free t r.1
part_free (Message t) k r = cc
part_free (Coded bytes) k r = cc

-- a part is found again
piece-part : (p : Part) (parts : List Part) → is_rest_last (p ∷ parts) ≡ true → IsInRange p
    → piece (kind_of p) (joined (p ∷ parts)) ≡ part_text p
piece-part p [] l r = by_test (is_rest (kind_of p)) refl
  where
    by_test : (v : Bool) → is_rest (kind_of p) ≡ v → cond v (joined (p ∷ [])) (first_piece (joined (p ∷ [])))
        ≡ part_text p
    by_test true k = append-nil (part_text p)
    by_test false k = first_piece-parts (part_text p) [] (part_free p k r)
piece-part p (q ∷ parts) l r =
    let k = was_false (is_rest (kind_of p)) (and_left (not (is_rest (kind_of p))) (is_rest_last (q ∷ parts)) l) in
    rw k (first_piece-parts (part_text p) (q ∷ parts) (part_free p k r))

part-good_number : (p : Part) → IsInRange p → is_bad_number (kind_of p) (part_text p) ≡ false
part-good_number (Fixed w) r = refl
part-good_number (Ordinal n) r = rw (number_in-decimal 1 GREATEST_ORDINAL n r.0 r.1 (omega (arith, r.1))) refl
part-good_number (Count n) r = rw (number_in-decimal 0 GREATEST_NUMBER n (omega arith) r (omega (arith, r))) refl
part-good_number (Text t) r = refl
part-good_number (Message t) r = refl
part-good_number (Coded bytes) r = refl

part-good_text : (p : Part) → IsInRange p → is_bad_text (kind_of p) (part_text p) ≡ false
part-good_text (Fixed w) r = rw (text_eq_same (part_text (Fixed w))) refl
part-good_text (Ordinal n) r = refl
part-good_text (Count n) r = refl
part-good_text (Text t) r = rw (is_utf8-from_IsUtf8 t r.0) refl
part-good_text (Message t) r = rw (is_utf8-from_IsUtf8 t r.0) refl
part-good_text (Coded bytes) r = refl

part-again : (p : Part) → IsInRange p → part_of (kind_of p) (part_text p) ≡ p
part-again (Fixed w) r = refl
part-again (Ordinal n) r = rw (number_in-decimal 1 GREATEST_ORDINAL n r.0 r.1 (omega (arith, r.1))) refl
part-again (Count n) r = rw (number_in-decimal 0 GREATEST_NUMBER n (omega arith) r (omega (arith, r))) refl
part-again (Text t) r = refl
part-again (Message t) r = refl
part-again (Coded bytes) r = refl

-- what is behind a part that is not the last
behind-part : (p q : Part) (parts : List Part) → is_rest_last (p ∷ q ∷ parts) ≡ true → IsInRange p
    → behind (joined (p ∷ q ∷ parts)) ≡ joined (q ∷ parts)
behind-part p q parts l r =
    let k = was_false (is_rest (kind_of p)) (and_left (not (is_rest (kind_of p))) (is_rest_last (q ∷ parts)) l) in
    behind-parts (part_text p) (q ∷ parts) (part_free p k r)

none_bad : (bad : Kind → List ℕ → Bool) → ((p : Part) → IsInRange p → bad (kind_of p) (part_text p) ≡ false)
    → (parts : List Part) (at : ℕ) → is_rest_last parts ≡ true → AreInRange parts
    → first_bad bad (map kind_of parts) (joined parts) at ≡ None
none_bad bad good [] at l r = refl
none_bad bad good (p ∷ []) at l r = rw (piece-part p [] l r.0, good p r.0) refl
none_bad bad good (p ∷ q ∷ parts) at l r =
    rw (piece-part p (q ∷ parts) l r.0, good p r.0, behind-part p q parts l r.0)
    (none_bad bad good (q ∷ parts) (at + 1) (and_right (not (is_rest (kind_of p))) (is_rest_last (q ∷ parts)) l) r.1)

parts-again : (parts : List Part) → is_rest_last parts ≡ true → AreInRange parts
    → parts_of (map kind_of parts) (joined parts) ≡ parts
parts-again [] l r = refl
parts-again (p ∷ []) l r = rw (piece-part p [] l r.0, part-again p r.0) refl
parts-again (p ∷ q ∷ parts) l r =
    rw (piece-part p (q ∷ parts) l r.0, part-again p r.0, behind-part p q parts l r.0)
    (ap (λ (ps : List Part). p ∷ ps) (parts-again (q ∷ parts)
    (and_right (not (is_rest (kind_of p))) (is_rest_last (q ∷ parts)) l) r.1))

-- the commas are enough, and without a rest there are no others
enough : (parts : List Part) → length (map kind_of parts) ≤ commas (behind_commas parts)
enough [] = omega arith
enough (p ∷ parts) = let a = enough parts in let b = commas-more (part_text p) (behind_commas parts) in omega
    (arith, a, b)

or_left : (u v : Bool) → (u || v) ≡ false → u ≡ false
or_left true v h = h
or_left false v h = refl

or_right : (u v : Bool) → (u || v) ≡ false → v ≡ false
or_right true v h = cc
or_right false v h = h

exact : (parts : List Part) → has_rest (map kind_of parts) ≡ false → AreInRange parts
    → commas (behind_commas parts) ≡ length (map kind_of parts)
exact [] k r = refl
exact (p ∷ parts) k r =
    let f = part_free p (or_left (is_rest (kind_of p)) (has_rest (map kind_of parts)) k) r.0 in
    let a = commas-free (part_text p) (behind_commas parts) f in
    let b = exact parts (or_right (is_rest (kind_of p)) (has_rest (map kind_of parts)) k) r.1 in
    omega (arith, a, b)

parts-counted : (text : List ℕ) (parts : List Part) → is_free text ≡ true → AreInRange parts
    → has_parts (map kind_of parts) (commas (text ++ behind_commas parts)) ≡ true
parts-counted text parts f r = rw (commas-free text (behind_commas parts) f)
    (by_test (has_rest (map kind_of parts)) refl)
  where
    by_test : (v : Bool) → has_rest (map kind_of parts) ≡ v
        → cond v (nat_le (length (map kind_of parts)) (commas (behind_commas parts)))
        (nat_eq (commas (behind_commas parts)) (length (map kind_of parts))) ≡ true
    by_test true k = let a = enough parts in grind (arith, nat_tests)
    by_test false k = let a = exact parts k r in grind (arith, nat_tests)

no_cause : (t : Tag) (bytes : List ℕ) (kinds : List Kind) (rest : List ℕ) → kinds_of t ≡ kinds → behind bytes ≡ rest
    → has_parts kinds (commas bytes) ≡ true
    → first_bad is_bad_number kinds rest 2 ≡ None → first_bad is_bad_text kinds rest 2 ≡ None
    → cause_behind t bytes ≡ None
no_cause t bytes kinds rest k b h n x = rw (k, b, h, n, x) refl

-- a tag of a text, and the parts behind it, that fit
pub record Fits (text : List ℕ) (parts : List Part) (l : Line) (t : Tag) : Type 0 where
  pub named : tag_of text ≡ Some t
  pub free : is_free text ≡ true
  pub kinds : kinds_of t ≡ map kind_of parts
  pub last : is_rest_last parts ≡ true
  pub is : line_with t parts ≡ Some l

-- the text of a tag and its parts is read as the line that they make
said_again : (text : List ℕ) (parts : List Part) (l : Line) (t : Tag) → Fits text parts l t → AreInRange parts
    → Says (then_texts text (map part_text parts)) l
said_again text parts l t f range =
    let bytes : List ℕ = text ++ behind_commas parts in
    let first : first_piece bytes ≡ text = first_piece-parts text parts f.free in
    let rest : behind bytes ≡ joined parts = behind-parts text parts f.free in
    let none : cause_behind t bytes ≡ None = no_cause t bytes (map kind_of parts) (joined parts) f.kinds rest
    (parts-counted text parts f.free range)
    (none_bad is_bad_number part-good_number parts 2 f.last range)
    (none_bad is_bad_text part-good_text parts 2 f.last range) in
    subst (λ (b : List ℕ). Says b l) (sym (then_texts-joined text parts))
    (rw (first, f.named) none, rw (first, f.named, rest, f.kinds, parts-again parts f.last range) f.is)

-- a row of the table of lines whose form fits is read again
pub row_again : (l : Line) (t : Tag) → Fits (shape_of l).tag (shape_of l).parts l t → IsWritable l
    → Says (text_of_line l) l
row_again l t f writable = said_again (shape_of l).tag (shape_of l).parts l t f writable
