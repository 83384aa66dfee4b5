-- What is kept of lines tells of a session.
use Rattle.std.proofs.Common.{◌≡◌, ◌≤◌, ◌<◌, ℕ, ◌+◌, ◌-◌, List, [], length, get_or, Bool, true, false, ◌&&◌, nat_lt, nat_le, Option, None, Some}
use Rattle.std.proofs.Common.{refl, sym, ◌∙◌, ap, arith, cond, is_some, option_map, slice_get}
use Rattle.std.specs.Option.{IfSome}
use Rattle.std.proofs.lemmas.Bool.{ltb-true, leb-true}
use Rattle.std.proofs.lemmas.List.{get_or-drop}
use Rattle.std.proofs.lemmas.Option.{slice_get-get_or, unwrap_or-slice_get}
use Rattle.ls_keep.specs.Kept.{KeptLines as KeptNumbered, has_kept, kept_text}
use Rattle.ls_keep.proofs.Trimming.{last_is}
use Rattle.ls_record.specs.Lines.{text_at, texts_behind}
use Rattle.ls_record.specs.Records.{Session, is_alive}
use Rattle.ls_record.proofs.Texts.{texts_length, text_at_is}
use Rattle.ls_stream.specs.Standing.{StandsLines, KeepsLines, numbered_of, last_line}
use Rattle.ls_stream.specs.declared.lines.Lines.{Lines as Kept}

-- how many lines were numbered
pub lines_last : (k : Kept) (s : Session) → StandsLines k s → last_line k ≡ length s.board.lines
lines_last k s st = by_life (is_alive s.life) refl
  where
    by_life : (b : Bool) → is_alive s.life ≡ b → last_line k ≡ length s.board.lines
    by_life true a = last_is k.keep (numbered_of s) (st.alive a).keep ∙ texts_length s.board.lines
    by_life false d = omega (arith, (st.over d).last, ap {B = ℕ} length (st.over d).texts)

-- no more lines were given than were numbered
pub lines_numbered_first : (k : Kept) (s : Session) → StandsLines k s → s.sent ≤ length s.board.lines
lines_numbered_first k s st = by_life (is_alive s.life) refl
  where
    by_life : (b : Bool) → is_alive s.life ≡ b → s.sent ≤ length s.board.lines
    by_life true a = omega (arith, (st.alive a).keep.numbered, texts_length s.board.lines)
    by_life false d = (st.over d).numbered

-- whether a line is kept
none_kept : (k : KeptNumbered) (n : ℕ) → k.texts ≡ [] → has_kept k n ≡ false
none_kept k n none = by_tests (nat_lt k.given_up n) (nat_le n (k.given_up + length k.texts)) refl refl
  where
    by_tests : (a b : Bool) → nat_lt k.given_up n ≡ a → nat_le n (k.given_up + length k.texts) ≡ b → (a && b) ≡ false
    by_tests false b e f = refl
    by_tests true false e f = refl
    by_tests true true e f =
        absurd (omega (arith, ltb-true k.given_up n e, leb-true n (k.given_up + length k.texts) f, ap {B = ℕ} length none))

kept_is : (k : Kept) (s : Session) (n : ℕ) → StandsLines k s
    → has_kept k.keep n ≡ (is_alive s.life && (nat_lt s.given_up n && nat_le n (length s.board.lines)))
kept_is k s n st = by_life (is_alive s.life) refl
  where
    by_life : (b : Bool) → is_alive s.life ≡ b → has_kept k.keep n ≡ (b && (nat_lt s.given_up n && nat_le n (length s.board.lines)))
    by_life true a =
        ap (λ (g : ℕ). nat_lt g n && nat_le n (last_line k)) (st.alive a).keep.given_up
        ∙ ap (λ (m : ℕ). nat_lt s.given_up n && nat_le n m) (lines_last k s st)
    by_life false d = none_kept k.keep n (st.over d).texts

both : (a b : Bool) → (a && b) ≡ true → (a ≡ true) × (b ≡ true)
both true true e = (refl, refl)
both true false e = absurd (let x : false ≡ true = e in cc)
both false b e = absurd (let x : false ≡ true = e in cc)

pub kept_within : (k : KeptNumbered) (n : ℕ) → has_kept k n ≡ true → (k.given_up < n) × (n ≤ k.given_up + length k.texts)
kept_within k n has =
    let tests = both (nat_lt k.given_up n) (nat_le n (k.given_up + length k.texts)) has in
    (ltb-true k.given_up n tests.0, leb-true n (k.given_up + length k.texts) tests.1)

kept_some : (k : KeptNumbered) (n : ℕ) → is_some (kept_text k n) ≡ has_kept k n
kept_some k n = by_test (has_kept k n) refl
  where
    by_test : (v : Bool) → has_kept k n ≡ v → is_some (cond v (slice_get k.texts (n - (k.given_up + 1))) None) ≡ v
    by_test false e = refl
    by_test true e =
        let within = kept_within k n e in
        ap is_some (slice_get-get_or k.texts (n - (k.given_up + 1)) [] (omega (arith, within.0, within.1)))

some_now : {X : Type 0} (now : X → List ℕ) (o : Option X) → is_some (option_map now o) ≡ is_some o
some_now now None = refl
some_now now (Some x) = refl

pub line_kept : {X : Type 0} (now : X → List ℕ) (o : Option X) (k : Kept) (s : Session) (n : ℕ) → option_map now o ≡ kept_text k.keep n → StandsLines k s
    → is_some o ≡ (is_alive s.life && (nat_lt s.given_up n && nat_le n (length s.board.lines)))
line_kept now o k s n is st = sym (some_now now o) ∙ ap is_some is ∙ kept_some k.keep n ∙ kept_is k s n st

-- and the text of a line that is
text_kept : (k : Kept) (s : Session) (n : ℕ) (text : List ℕ) → StandsLines k s → Some text ≡ kept_text k.keep n → text ≡ text_at s.board.lines n
text_kept k s n text st is = by_life (is_alive s.life) refl
  where
    place : ℕ
    place = n - (k.keep.given_up + 1)

    by_test : KeepsLines k s → (v : Bool) → has_kept k.keep n ≡ v → Some text ≡ cond v (slice_get k.keep.texts (n - (k.keep.given_up + 1))) None
        → text ≡ text_at s.board.lines n
    by_test kept false e f = absurd (let x : Some text ≡ None = f in cc)
    by_test kept true e f =
        let within = kept_within k.keep n e in
        let low : n ≤ length s.board.lines = omega (arith, within.1, lines_last k s st) in
        let here : Some text ≡ Some (get_or k.keep.texts place []) = f ∙ slice_get-get_or k.keep.texts place [] (omega (arith, within.0, within.1)) in
        let same : text ≡ get_or k.keep.texts place [] = cc in
        same ∙ ap (λ (ts : List (List ℕ)). get_or ts place []) kept.keep.texts ∙ get_or-drop s.given_up (texts_behind 0 s.board.lines) place []
        ∙ ap (λ (m : ℕ). get_or (texts_behind 0 s.board.lines) m []) {x = s.given_up + place} {y = n - 1}
        (omega (arith, within.0, kept.keep.given_up))
        ∙ sym (text_at_is s.board.lines n (omega (arith, within.0)) low ∙ unwrap_or-slice_get (texts_behind 0 s.board.lines) (n - 1) [])

    by_life : (b : Bool) → is_alive s.life ≡ b → text ≡ text_at s.board.lines n
    by_life true a = by_test (st.alive a) (has_kept k.keep n) refl is
    by_life false d =
        let x : Some text ≡ None =
        is ∙ ap (λ b. cond b (slice_get k.keep.texts (n - (k.keep.given_up + 1))) None) (none_kept k.keep n (st.over d).texts) in
        absurd (let y : Some text ≡ None = x in cc)

pub line_text : {X : Type 0} (now : X → List ℕ) (o : Option X) (k : Kept) (n : ℕ) → option_map now o ≡ kept_text k.keep n
    → IfSome o (λ t. (s : Session) → StandsLines k s → now t ≡ text_at s.board.lines n)
line_text now None k n is = tt
line_text now (Some t) k n is = λ s st. text_kept k s n (now t) st is
