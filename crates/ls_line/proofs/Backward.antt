-- A line that is read has the text that it was read from, and its parts are in their ranges.
use Rattle.std.proofs.Common.{◌≡◌, ◌==◌, ◌≤◌, ℕ, suc, ◌+◌, List, [], ◌∷◌, ◌++◌, length}
use Rattle.std.proofs.Common.{map, Bool, true, false, ◌||◌, not, nat_le, nat_eq, cond, Option, None, Some, IfSome}
use Rattle.std.proofs.Common.{is_none, is_some, option_and_then, refl, sym, ap, subst, ◌∙◌, arith, append-nil}
use Rattle.std.proofs.lemmas.Bool.{eqb-true}
use Rattle.std.proofs.lemmas.Bool.Decides.{nat_tests}
use Rattle.std.proofs.lemmas.Str.{IsUtf8-from_is_utf8}
use Rattle.std.specs.Fmt.{decimal}
use Rattle.std.specs.List.{list_all}
use Rattle.std.specs.Str.{is_utf8}
use Rattle.ls_value.specs.Values.{text_eq}
use Rattle.ls_value.proofs.Rows.{and_left, and_right, text_eq_true}
use Rattle.ls_line.specs.declared.line.Line.{Line}
use Rattle.ls_line.specs.declared.line.LineRefused.TheVariants as refused
use Rattle.ls_line.specs.declared.table.Tag.{Tag}
use Rattle.ls_line.specs.declared.table.Kind.{Kind}
use Rattle.ls_line.specs.declared.table.Kind.TheVariants as kind
use Rattle.ls_value.specs.declared.limits.TheConstants.{GREATEST_ORDINAL, GREATEST_NUMBER}
use Rattle.ls_words.proofs.ReadBack.{number-read}
use Rattle.ls_line.specs.Forms.{tags_read, tag_among, tag_of, tag_text, kinds_of, is_rest}
use Rattle.ls_line.specs.Lines.{Part, shape_of, part_text, word_text, then_texts, text_of_line, is_text_byte}
use Rattle.ls_line.specs.Lines.{is_message_byte, IsInRange, AreInRange, IsWritable}
use Rattle.ls_line.specs.Pieces.{first_piece, behind, commas}
use Rattle.ls_line.specs.Reading.{piece, has_rest, has_parts, ordinal_in, count_in, is_bad_number, is_bad_text}
use Rattle.ls_line.specs.Reading.{first_bad, bad_piece, cause_behind, cause_of, part_of, parts_of, line_behind, or_zero}
use Rattle.ls_line.specs.Reading.{Says}
use Rattle.ls_line.proofs.Commas.{behind_commas, joined, then_texts-joined, is_last_rest, was_false}

was_true : (v : Bool) → not v ≡ false → v ≡ true
was_true true h = refl
was_true false h = cc

-- a good part has its text
part_text-read : (k : Kind) (text : List ℕ) → is_bad_number k text ≡ false → is_bad_text k text ≡ false
    → part_text (part_of k text) ≡ text
part_text-read (kind.Fixed w) text n t = sym (text_eq_true text (word_text w) (was_true (text_eq text (word_text w)) t))
part_text-read kind.Ordinal text n t = by_test (ordinal_in text) refl n
  where
    by_test : (o : Option ℕ) → ordinal_in text ≡ o → is_none o ≡ false → decimal (or_zero o) ≡ text
    by_test None e h = cc
    by_test (Some m) e h = let r = number-read 1 GREATEST_ORDINAL text m (omega arith) e in r.digits
part_text-read kind.Count text n t = by_test (count_in text) refl n
  where
    by_test : (o : Option ℕ) → count_in text ≡ o → is_none o ≡ false → decimal (or_zero o) ≡ text
    by_test None e h = cc
    by_test (Some m) e h = let r = number-read 0 GREATEST_NUMBER text m (omega arith) e in r.digits
part_text-read kind.Text text n t = refl
part_text-read kind.Message text n t = refl
part_text-read kind.Coded text n t = refl

-- and is in its range
part-in_range : (k : Kind) (text : List ℕ) → is_bad_number k text ≡ false → is_bad_text k text ≡ false
    → (is_rest k ≡ false → list_all is_text_byte text ≡ true)
    → (is_rest k ≡ true → list_all is_message_byte text ≡ true) → IsInRange (part_of k text)
part-in_range (kind.Fixed w) text n t f m = tt
part-in_range kind.Ordinal text n t f m = by_test (ordinal_in text) refl n
  where
    by_test : (o : Option ℕ) → ordinal_in text ≡ o → is_none o ≡ false
        → (1 ≤ or_zero o) × (or_zero o ≤ GREATEST_ORDINAL)
    by_test None e h = cc
    by_test (Some x) e h = let r = number-read 1 GREATEST_ORDINAL text x (omega arith) e in (r.least, r.most)
part-in_range kind.Count text n t f m = by_test (count_in text) refl n
  where
    by_test : (o : Option ℕ) → count_in text ≡ o → is_none o ≡ false → or_zero o ≤ GREATEST_NUMBER
    by_test None e h = cc
    by_test (Some x) e h = let r = number-read 0 GREATEST_NUMBER text x (omega arith) e in r.most
part-in_range kind.Text text n t f m = (IsUtf8-from_is_utf8 text (was_true (is_utf8 text) t), f refl)
part-in_range kind.Message text n t f m = (IsUtf8-from_is_utf8 text (was_true (is_utf8 text) t), m refl)
part-in_range kind.Coded text n t f m = tt

-- a text with a comma is divided there
divided : (text : List ℕ) → 1 ≤ commas text → text ≡ first_piece text ++ 44 ∷ behind text
divided [] h = absurd (omega (arith, h))
divided (x ∷ text) h = by_test (x == 44) refl h (λ g. divided text g)
  where
    by_test : (v : Bool) → (x == 44) ≡ v → 1 ≤ cond v (commas text + 1) (commas text)
        → (1 ≤ commas text → text ≡ first_piece text ++ 44 ∷ behind text)
        → x ∷ text ≡ cond v [] (x ∷ first_piece text) ++ 44 ∷ cond v text (behind text)
    by_test true t h rest = ap (λ (y : ℕ). y ∷ text) (eqb-true x 44 t)
    by_test false t h rest = ap (λ (r : List ℕ). x ∷ r) (rest h)

commas-behind : (text : List ℕ) → 1 ≤ commas text → commas text ≡ commas (behind text) + 1
commas-behind [] h = absurd (omega (arith, h))
commas-behind (x ∷ text) h = by_test (x == 44) h (λ g. commas-behind text g)
  where
    by_test : (v : Bool) → 1 ≤ cond v (commas text + 1) (commas text)
        → (1 ≤ commas text → commas text ≡ commas (behind text) + 1)
        → cond v (commas text + 1) (commas text) ≡ commas (cond v text (behind text)) + 1
    by_test true h rest = refl
    by_test false h rest = rest h

first_piece-whole : (text : List ℕ) → commas text ≡ 0 → first_piece text ≡ text
first_piece-whole [] h = refl
first_piece-whole (x ∷ text) h = by_test (x == 44) h (λ g. first_piece-whole text g)
  where
    by_test : (v : Bool) → cond v (commas text + 1) (commas text) ≡ 0 → (commas text ≡ 0 → first_piece text ≡ text)
        → cond v [] (x ∷ first_piece text) ≡ x ∷ text
    by_test true h rest = absurd (omega (arith, h))
    by_test false h rest = ap (λ (r : List ℕ). x ∷ r) (rest h)

-- where no part is bad, the first is not, nor those behind it
record IsGood (bad : Kind → List ℕ → Bool) (k : Kind) (kinds : List Kind) (rest : List ℕ) (at : ℕ) : Type 0 where
  first : bad k (piece k rest) ≡ false
  others : first_bad bad kinds (behind rest) (at + 1) ≡ None

good : (bad : Kind → List ℕ → Bool) (k : Kind) (kinds : List Kind) (rest : List ℕ) (at : ℕ)
    → first_bad bad (k ∷ kinds) rest at ≡ None → IsGood bad k kinds rest at
good bad k kinds rest at h = by_test (bad k (piece k rest)) refl h
  where
    by_test : (v : Bool) → bad k (piece k rest) ≡ v → cond v (Some at) (first_bad bad kinds (behind rest) (at + 1))
        ≡ None → IsGood bad k kinds rest at
    by_test true t h = cc
    by_test false t h = record { first = t; others = h }

piece-rest : (k : Kind) (rest : List ℕ) → (is_rest k ≡ false → commas rest ≡ 0) → piece k rest ≡ rest
piece-rest k rest h = by_test (is_rest k) refl
  where
    by_test : (v : Bool) → is_rest k ≡ v → cond v rest (first_piece rest) ≡ rest
    by_test true t = refl
    by_test false t = first_piece-whole rest (h t)

-- the number of commas
parts-one : (k : Kind) (n : ℕ) → has_parts (k ∷ []) (n + 1) ≡ true → is_rest k ≡ false → n ≡ 0
parts-one k n h t =
    let e : nat_eq (n + 1) 1 ≡ true = subst (λ (v : Bool). cond (v || false) (nat_le 1 (n + 1)) (nat_eq (n + 1) 1)
    ≡ true) t h in
    grind (arith, nat_tests)

parts-next : (k : Kind) (kinds : List Kind) (n : ℕ) → is_rest k ≡ false → has_parts (k ∷ kinds) (n + 1) ≡ true
    → has_parts kinds n ≡ true
parts-next k kinds n t h =
    by_test (has_rest kinds)
    (subst (λ (v : Bool). cond (v || has_rest kinds) (nat_le (suc (length kinds)) (n + 1))
    (nat_eq (n + 1) (suc (length kinds))) ≡ true) t h)
  where
    by_test : (v : Bool) → cond v (nat_le (suc (length kinds)) (n + 1)) (nat_eq (n + 1) (suc (length kinds))) ≡ true
        → cond v (nat_le (length kinds) n) (nat_eq n (length kinds)) ≡ true
    by_test true g = grind (arith, nat_tests)
    by_test false g = grind (arith, nat_tests)

parts-some : (k : Kind) (kinds : List Kind) (n : ℕ) → has_parts (k ∷ kinds) n ≡ true → 1 ≤ n
parts-some k kinds n h = by_test (has_rest (k ∷ kinds)) h
  where
    by_test : (v : Bool) → cond v (nat_le (suc (length kinds)) n) (nat_eq n (suc (length kinds))) ≡ true → 1 ≤ n
    by_test true g = grind (arith, nat_tests)
    by_test false g = grind (arith, nat_tests)

-- the parts that are read, with commas between them, are the text
joined-read : (k : Kind) (kinds : List Kind) (rest : List ℕ) (at : ℕ) → is_last_rest (k ∷ kinds) ≡ true
    → has_parts (k ∷ kinds) (commas rest + 1) ≡ true
    → first_bad is_bad_number (k ∷ kinds) rest at ≡ None → first_bad is_bad_text (k ∷ kinds) rest at ≡ None
    → joined (parts_of (k ∷ kinds) rest) ≡ rest
joined-read k [] rest at l c n t =
    let a = good is_bad_number k [] rest at n in
    let b = good is_bad_text k [] rest at t in
    append-nil (part_text (part_of k (piece k rest))) ∙ part_text-read k (piece k rest) a.first b.first
    ∙ piece-rest k rest (parts-one k (commas rest) c)
joined-read k (q ∷ kinds) rest at l c n t =
    let a = good is_bad_number k (q ∷ kinds) rest at n in
    let b = good is_bad_text k (q ∷ kinds) rest at t in
    let o : is_rest k ≡ false = was_false (is_rest k) (and_left (not (is_rest k)) (is_last_rest (q ∷ kinds)) l) in
    let d : has_parts (q ∷ kinds) (commas rest) ≡ true = parts-next k (q ∷ kinds) (commas rest) o c in
    let s : 1 ≤ commas rest = parts-some q kinds (commas rest) d in
    let p : piece k rest ≡ first_piece rest = rw o refl in
    let e : part_text (part_of k (piece k rest)) ≡ first_piece rest =
    part_text-read k (piece k rest) a.first b.first ∙ p in
    let again = joined-read q kinds (behind rest) (at + 1) (and_right (not (is_rest k)) (is_last_rest (q ∷ kinds)) l)
    (subst (λ (m : ℕ). has_parts (q ∷ kinds) m ≡ true) (commas-behind rest s) d) a.others b.others in
    ap (λ (x : List ℕ). x ++ 44 ∷ joined (parts_of (q ∷ kinds) (behind rest))) e
    ∙ ap (λ (x : List ℕ). first_piece rest ++ 44 ∷ x) again ∙ sym (divided rest s)

parts-read : (kinds : List Kind) (bytes : List ℕ) → is_last_rest kinds ≡ true → has_parts kinds (commas bytes) ≡ true
    → first_bad is_bad_number kinds (behind bytes) 2 ≡ None → first_bad is_bad_text kinds (behind bytes) 2 ≡ None
    → first_piece bytes ++ behind_commas (parts_of kinds (behind bytes)) ≡ bytes
parts-read [] bytes l c n t = let z : commas bytes ≡ 0 = grind (arith, nat_tests) in append-nil (first_piece bytes)
    ∙ first_piece-whole bytes z
parts-read (k ∷ kinds) bytes l c n t =
    let s = parts-some k kinds (commas bytes) c in
    ap (λ (x : List ℕ). first_piece bytes ++ 44 ∷ x)
    (joined-read k kinds (behind bytes) 2 l (subst (λ (m : ℕ). has_parts (k ∷ kinds) m ≡ true) (commas-behind bytes s)
    c) n t)
    ∙ sym (divided bytes s)

-- parts of bytes without CR and LF
no_comma_either : (u v w : Bool) → u ≡ false → not (v || w) ≡ true → not (u || v || w) ≡ true
no_comma_either true v w e h = cc
no_comma_either false v w e h = h

first_piece-bytes : (rest : List ℕ) → list_all is_message_byte rest ≡ true
    → list_all is_text_byte (first_piece rest) ≡ true
first_piece-bytes [] h = refl
first_piece-bytes (x ∷ rest) h =
    by_test (x == 44) refl (and_left (is_message_byte x) (list_all is_message_byte rest) h)
    (first_piece-bytes rest (and_right (is_message_byte x) (list_all is_message_byte rest) h))
  where
    by_test : (v : Bool) → (x == 44) ≡ v → is_message_byte x ≡ true → list_all is_text_byte (first_piece rest) ≡ true
        → list_all is_text_byte (cond v [] (x ∷ first_piece rest)) ≡ true
    by_test true e m h = refl
    by_test false e m h = let a : is_text_byte x ≡ true = no_comma_either (x == 44) (x == 13) (x == 10) e m in rw (a, h)
        refl

behind-bytes : (rest : List ℕ) → list_all is_message_byte rest ≡ true → list_all is_message_byte (behind rest) ≡ true
behind-bytes [] h = refl
behind-bytes (x ∷ rest) h =
    let more = and_right (is_message_byte x) (list_all is_message_byte rest) h in
    by_test (x == 44) more (behind-bytes rest more)
  where
    by_test : (v : Bool) → list_all is_message_byte rest ≡ true → list_all is_message_byte (behind rest) ≡ true
        → list_all is_message_byte (cond v rest (behind rest)) ≡ true
    by_test true a b = a
    by_test false a b = b

parts-in_range : (kinds : List Kind) (rest : List ℕ) (at : ℕ) → list_all is_message_byte rest ≡ true
    → first_bad is_bad_number kinds rest at ≡ None → first_bad is_bad_text kinds rest at ≡ None
    → AreInRange (parts_of kinds rest)
parts-in_range [] rest at m n t = tt
parts-in_range (k ∷ kinds) rest at m n t =
    let a = good is_bad_number k kinds rest at n in
    let b = good is_bad_text k kinds rest at t in
    let f : is_rest k ≡ false → list_all is_text_byte (piece k rest) ≡ true = λ o. rw o (first_piece-bytes rest m) in
    let g : is_rest k ≡ true → list_all is_message_byte (piece k rest) ≡ true = λ o. rw o m in (
      part-in_range k (piece k rest) a.first b.first f g,
      parts-in_range kinds (behind rest) (at + 1)
          (behind-bytes rest m) a.others b.others,
    )

-- the tag of a word has it
tag_text-read : (tags : List Tag) (text : List ℕ) (t : Tag) → tag_among tags text ≡ Some t → tag_text t ≡ text
tag_text-read [] text t h = cc
tag_text-read (u ∷ tags) text t h = by_test (text_eq (tag_text u) text) refl h (λ g. tag_text-read tags text t g)
  where
    by_test : (v : Bool) → text_eq (tag_text u) text ≡ v → cond v (Some u) (tag_among tags text) ≡ Some t
        → (tag_among tags text ≡ Some t → tag_text t ≡ text) → tag_text t ≡ text
    by_test true e h rest = let is : u ≡ t = cc in subst (λ (x : Tag). tag_text x ≡ text) is
        (text_eq_true (tag_text u) text e)
    by_test false e h rest = rest h

-- bytes without a cause against them
record HasNoCause (t : Tag) (bytes : List ℕ) : Type 0 where
  count : has_parts (kinds_of t) (commas bytes) ≡ true
  number : first_bad is_bad_number (kinds_of t) (behind bytes) 2 ≡ None
  text : first_bad is_bad_text (kinds_of t) (behind bytes) 2 ≡ None

no_cause-read : (t : Tag) (bytes : List ℕ) → cause_behind t bytes ≡ None → HasNoCause t bytes
no_cause-read t bytes h =
    by_test (has_parts (kinds_of t) (commas bytes)) refl (first_bad is_bad_number (kinds_of t) (behind bytes) 2) refl
    (first_bad is_bad_text (kinds_of t) (behind bytes) 2) refl h
  where
    by_test : (v : Bool) → has_parts (kinds_of t) (commas bytes) ≡ v → (a : Option ℕ)
        → first_bad is_bad_number (kinds_of t) (behind bytes) 2 ≡ a
        → (b : Option ℕ) → first_bad is_bad_text (kinds_of t) (behind bytes) 2 ≡ b
        → cond v (bad_piece a b) (Some refused.BadCount) ≡ None → HasNoCause t bytes
    by_test true c None n None x h = record { count = c; number = n; text = x }
    by_test true c None n (Some j) x h = cc
    by_test true c (Some i) n b x h = cc
    by_test false c a n b x h = cc

-- a line of a tag and of the parts that stand behind it
pub record IsOf (t : Tag) (rest : List ℕ) (l : Line) : Type 0 where
  pub tag : (shape_of l).tag ≡ tag_text t
  pub parts : (shape_of l).parts ≡ parts_of (kinds_of t) rest

-- what a tag is to have: only its last part is a rest, and its form makes a line of its parts
pub record IsRow (t : Tag) (rest : List ℕ) : Type 0 where
  pub last : is_last_rest (kinds_of t) ≡ true
  pub some : is_some (line_behind t rest) ≡ true
  pub line : IfSome (line_behind t rest) (IsOf t rest)

-- the line of bytes has their tag and their parts
record HasShape (bytes : List ℕ) (l : Line) (t : Tag) : Type 0 where
  named : tag_text t ≡ first_piece bytes
  good : HasNoCause t bytes
  of : IsOf t (behind bytes) l

if_some : (P : Line → Type 0) (o : Option Line) (l : Line) → IfSome o P → o ≡ Some l → P l
if_some P None l p e = cc
if_some P (Some k) l p e = let is : k ≡ l = cc in subst P is p

shape-read : (rows : (t : Tag) (rest : List ℕ) → IsRow t rest) (bytes : List ℕ) (l : Line) → Says bytes l
    → (t : Tag) × HasShape bytes l t
shape-read rows bytes l s = by_tag (tag_of (first_piece bytes)) refl s.0 s.1
  where
    by_tag : (o : Option Tag) → tag_of (first_piece bytes) ≡ o → cause_of o bytes ≡ None
        → option_and_then (λ t. line_behind t (behind bytes)) o ≡ Some l → (t : Tag) × HasShape bytes l t
    by_tag None e n i = cc
    by_tag (Some t) e n i =
        let r = rows t (behind bytes) in (
          t,
          record {
            named = tag_text-read tags_read (first_piece bytes) t e;
            good = no_cause-read t bytes n;
            of = if_some (IsOf t (behind bytes)) (line_behind t (behind bytes)) l r.line i;
          },
        )

-- a line that is read has the text that it was read from
pub text-read : (rows : (t : Tag) (rest : List ℕ) → IsRow t rest) (bytes : List ℕ) (l : Line) → Says bytes l
    → text_of_line l ≡ bytes
text-read rows bytes l s =
    let found = shape-read rows bytes l s in
    let t = found.0 in
    let h = found.1 in
    let r = rows t (behind bytes) in
    ap (λ (x : List ℕ). then_texts x (map part_text (shape_of l).parts)) h.of.tag
    ∙ ap (λ (ps : List Part). then_texts (tag_text t) (map part_text ps)) h.of.parts
    ∙ then_texts-joined (tag_text t) (parts_of (kinds_of t) (behind bytes))
    ∙ ap (λ (x : List ℕ). x ++ behind_commas (parts_of (kinds_of t) (behind bytes))) h.named
    ∙ parts-read (kinds_of t) bytes r.last h.good.count h.good.number h.good.text

-- and where that is without CR and LF, its parts are in their ranges
pub writable-read : (rows : (t : Tag) (rest : List ℕ) → IsRow t rest) (bytes : List ℕ) (l : Line) → Says bytes l
    → list_all is_message_byte bytes ≡ true → IsWritable l
writable-read rows bytes l s m =
    let found = shape-read rows bytes l s in
    let t = found.0 in
    let h = found.1 in
    subst (λ (ps : List Part). AreInRange ps) (sym h.of.parts)
    (parts-in_range (kinds_of t) (behind bytes) 2 (behind-bytes bytes m) h.good.number h.good.text)
