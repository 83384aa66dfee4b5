-- Codes of refusals, by what a session's history tells.
use Rattle.std.proofs.Common.{◌≡◌, ◌≤◌, ℕ, ◌+◌, List, [], ◌∷◌, length, refl, sym, ◌∙◌, ap, cond, Bool, true, false, not, ◌&&◌, ◌||◌, Option, Some}
use Rattle.std.proofs.Common.{None, nat_le, nat_lt, nat_eq}
use Rattle.std.specs.Prelude.{unwrap_or}
use Rattle.std.proofs.lemmas.Bool.{ltb-false}
use Rattle.ls_value.specs.declared.limits.TheConstants.{GREATEST_NUMBER}
use Rattle.ls_event.specs.declared.item.ItemDef.{ItemDef}
use Rattle.ls_request.specs.declared.request.Bind.{Bind}
use Rattle.ls_record.specs.Acting.{bind_code, may_resume, constrain_code, are_too_many, are_spent}
use Rattle.ls_record.specs.Cases.{first_code}
use Rattle.ls_record.specs.Records.{Session, is_alive, is_used}
use Rattle.ls_record.specs.declared.TheConstants.{MOST_UNSENT}
use Rattle.ls_register.specs.declared.told.Told.{Told}
use Rattle.ls_session.specs.Record.{binding_code, changing_code, constraining_code, unless_ended}
use Rattle.ls_told.specs.Spoken.{Spoken, spoken_of}
use Rattle.ls_told.specs.Heard.{heard}
use Rattle.ls_told.specs.Requests.{bind_code_of, may_go_on, is_spent, op_code}
use Rattle.ls_told.proofs.Texts.{length_texts}
use Rattle.ls_request.specs.declared.request.Op.TheVariants as op

-- a bind's codes by what stands against it
abbrev pub bind_codes : Bool → Bool → Bool → Bool → Option ℕ
bind_codes alive may full spent = first_code ((20, not alive) ∷ (4, not may) ∷ (74, full || spent) ∷ [])

abbrev pub plain_codes : Bool → Bool → Bool → Option ℕ
plain_codes alive may full = cond alive (first_code ((4, not may) ∷ (74, full) ∷ [])) (Some 20)

codes_fresh : (alive may full : Bool) → bind_codes alive may full false ≡ plain_codes alive may full
codes_fresh true true true = refl
codes_fresh true true false = refl
codes_fresh true false full = refl
codes_fresh false may full = refl

codes_spent : (alive may full : Bool) → bind_codes alive may full true ≡ Some (unwrap_or (plain_codes alive may full) 74)
codes_spent true true true = refl
codes_spent true true false = refl
codes_spent true false full = refl
codes_spent false may full = refl

-- whether a client may go on
may_is : (s : Session) (recover : Option ℕ) → may_go_on (spoken_of s) recover ≡ may_resume s recover
may_is s None = refl
may_is s (Some count) = ap (λ n. nat_le s.given_up count && nat_le count n) (length_texts s.board.lines)

pub plain_is : (s : Session) (b : Bind) (number : ℕ) → nat_eq number b.session ≡ true
    → plain_codes (is_alive s.life) (may_go_on (spoken_of s) b.recover) (nat_le GREATEST_NUMBER (length s.streams)) ≡ binding_code number s b
plain_is s b number named =
    ap (λ m. plain_codes (is_alive s.life) m (nat_le GREATEST_NUMBER (length s.streams))) (may_is s b.recover)
    ∙ ap (λ t. cond t (unless_ended s (bind_code s b)) (Some 20)) (sym named)

of_heard : (number : ℕ) (es : List Told) (s : Session) (recover : Option ℕ) → spoken_of s ≡ heard number es
    → bind_code_of number es recover
    ≡ bind_codes (is_alive s.life) (may_go_on (spoken_of s) recover) (nat_le GREATEST_NUMBER (length s.streams)) (is_spent es)
of_heard number es s recover told =
    ap (λ (p : Spoken). bind_codes (is_alive p.life) (may_go_on p recover) (nat_le GREATEST_NUMBER (length p.streams)) (is_spent es)) (sym told)

pub bind_fresh : (number : ℕ) (es : List Told) (s : Session) (b : Bind) (n : ℕ) → spoken_of s ≡ heard number es → nat_eq n b.session ≡ true
    → is_spent es ≡ false → bind_code_of number es b.recover ≡ binding_code n s b
bind_fresh number es s b n told named fresh =
    of_heard number es s b.recover told
    ∙ ap (bind_codes (is_alive s.life) (may_go_on (spoken_of s) b.recover) (nat_le GREATEST_NUMBER (length s.streams))) fresh
    ∙ codes_fresh (is_alive s.life) (may_go_on (spoken_of s) b.recover) (nat_le GREATEST_NUMBER (length s.streams))
    ∙ plain_is s b n named

pub bind_spent : (number : ℕ) (es : List Told) (s : Session) (b : Bind) (n : ℕ) → spoken_of s ≡ heard number es → nat_eq n b.session ≡ true
    → is_spent es ≡ true → bind_code_of number es b.recover ≡ Some (unwrap_or (binding_code n s b) 74)
bind_spent number es s b n told named spent =
    of_heard number es s b.recover told
    ∙ ap (bind_codes (is_alive s.life) (may_go_on (spoken_of s) b.recover) (nat_le GREATEST_NUMBER (length s.streams))) spent
    ∙ codes_spent (is_alive s.life) (may_go_on (spoken_of s) b.recover) (nat_le GREATEST_NUMBER (length s.streams))
    ∙ ap (λ o. Some (unwrap_or o 74)) (plain_is s b n named)

-- a bind that is accepted names the session, which hasn't ended, and nothing stands against the stream
pub bind_alone : (number : ℕ) (s : Session) (b : Bind) → binding_code number s b ≡ None → bind_code s b ≡ None
bind_alone number s b none = by_name (nat_eq number b.session) none
  where
    by_life : (alive : Bool) → cond alive (bind_code s b) (Some 20) ≡ None → bind_code s b ≡ None
    by_life true is = is
    by_life false is = absurd (let x : Some 20 ≡ None = is in cc)

    by_name : (named : Bool) → cond named (unless_ended s (bind_code s b)) (Some 20) ≡ None → bind_code s b ≡ None
    by_name true is = by_life (is_alive s.life) is
    by_name false is = absurd (let x : Some 20 ≡ None = is in cc)

-- a change's codes
abbrev pub plain_change : Bool → Bool → Bool → Bool → Option ℕ
plain_change alive used many full = cond alive (first_code ((19, not used) ∷ (70, many) ∷ (74, full) ∷ [])) (Some 20)

change_fresh_by : (alive used many full : Bool)
    → first_code ((20, not alive) ∷ (19, not used) ∷ (70, many) ∷ (74, full || false) ∷ []) ≡ plain_change alive used many full
change_fresh_by true true true full = refl
change_fresh_by true true false true = refl
change_fresh_by true true false false = refl
change_fresh_by true false many full = refl
change_fresh_by false used many full = refl

change_spent_by : (alive used many full : Bool)
    → first_code ((20, not alive) ∷ (19, not used) ∷ (70, many) ∷ (74, full || true) ∷ []) ≡ Some (unwrap_or (plain_change alive used many full) 74)
change_spent_by true true true full = refl
change_spent_by true true false true = refl
change_spent_by true true false false = refl
change_spent_by true false many full = refl
change_spent_by false used many full = refl

-- as where the history of a session isn't spent, and where it is
pub change_by : (spent : Bool) (s : Session) (sub : ℕ)
    → first_code ((20, not (is_alive s.life)) ∷ (19, not (is_used sub s.board.round)) ∷ (70, are_too_many s 1) ∷ (74, are_spent s 1 || spent) ∷ [])
    ≡ cond spent (Some (unwrap_or (changing_code s sub) 74)) (changing_code s sub)
change_by true s sub = change_spent_by (is_alive s.life) (is_used sub s.board.round) (are_too_many s 1) (are_spent s 1)
change_by false s sub = change_fresh_by (is_alive s.life) (is_used sub s.board.round) (are_too_many s 1) (are_spent s 1)

-- a bandwidth's codes, and those of a wish for LOOP
rate_by : (alive many : Bool) → first_code ((20, not alive) ∷ (70, many) ∷ []) ≡ cond alive (first_code ((70, many) ∷ [])) (Some 20)
rate_by true many = refl
rate_by false many = refl

pub rate_is : (config : List ItemDef) (spent : Bool) (s : Session) (limit : Option ℕ)
    → op_code config 0 spent s (op.Constrain limit) ≡ constraining_code s
rate_is config spent s limit = rate_by (is_alive s.life) (nat_lt MOST_UNSENT (length s.owed + 1))

force_by : (alive : Bool) → first_code ((20, not alive) ∷ []) ≡ cond alive None (Some 20)
force_by true = refl
force_by false = refl

pub force_is : (config : List ItemDef) (spent : Bool) (s : Session) → op_code config 0 spent s op.ForceRebind ≡ unless_ended s None
force_is config spent s = force_by (is_alive s.life)

-- no more lines are owed than may be, where one more may be
pub rate_few : (s : Session) → constraining_code s ≡ None → length s.owed + 1 ≤ MOST_UNSENT
rate_few s none = by_life (is_alive s.life) none
  where
    by_many : (b : Bool) → nat_lt MOST_UNSENT (length s.owed + 1) ≡ b → first_code ((70, b) ∷ []) ≡ None → length s.owed + 1 ≤ MOST_UNSENT
    by_many true is none = absurd (let x : Some 70 ≡ None = none in cc)
    by_many false is none = ltb-false MOST_UNSENT (length s.owed + 1) is

    by_life : (alive : Bool) → cond alive (constrain_code s) (Some 20) ≡ None → length s.owed + 1 ≤ MOST_UNSENT
    by_life true is = by_many (nat_lt MOST_UNSENT (length s.owed + 1)) refl is
    by_life false is = absurd (let x : Some 20 ≡ None = is in cc)
