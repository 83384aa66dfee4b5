-- What a bind is refused for, by what a session's history tells.
use Rattle.std.proofs.Common.{◌≡◌, ℕ, List, [], ◌∷◌, length, refl, sym, ◌∙◌, ap, Bool, true, false, ◌||◌, ◌&&◌, Option, Some, None, nat_le, not, cond}
use Rattle.ls_value.specs.declared.limits.TheConstants.{GREATEST_NUMBER}
use Rattle.ls_request.specs.declared.request.Bind.{Bind}
use Rattle.ls_record.specs.Acting.{may_resume, bind_code}
use Rattle.ls_record.specs.Cases.{first_code}
use Rattle.ls_record.specs.Records.{Session, is_alive}
use Rattle.ls_session.specs.Record.{unless_ended}
use Rattle.ls_register.specs.declared.told.Told.{Told}
use Rattle.ls_told.specs.Spoken.{Spoken, spoken_of}
use Rattle.ls_told.specs.Heard.{heard}
use Rattle.ls_told.specs.Requests.{bind_code_of, may_go_on, is_spent}
use Rattle.ls_told.proofs.Texts.{length_texts}

may_is : (s : Session) (recover : Option ℕ) → may_go_on (spoken_of s) recover ≡ may_resume s recover
may_is s None = refl
may_is s (Some count) = ap (λ (n : ℕ). nat_le s.given_up count && nat_le count n) (length_texts s.board.lines)

-- each code by the session
pub bind_code_heard : (number : ℕ) (es : List Told) (s : Session) (recover : Option ℕ) → spoken_of s ≡ heard number es
    → bind_code_of number es recover
    ≡ first_code ((20, not (is_alive s.life)) ∷ (4, not (may_resume s recover))
    ∷ (74, nat_le GREATEST_NUMBER (length s.streams) || is_spent es) ∷ [])
bind_code_heard number es s recover told =
    ap (λ (p : Spoken). first_code ((20, not (is_alive p.life)) ∷ (4, not (may_go_on p recover))
    ∷ (74, nat_le GREATEST_NUMBER (length p.streams) || is_spent es) ∷ [])) (sym told)
    ∙ ap (λ (b : Bool). first_code ((20, not (is_alive s.life)) ∷ (4, not b) ∷ (74, nat_le GREATEST_NUMBER (length s.streams) || is_spent es) ∷ []))
    (may_is s recover)

or_false : (b : Bool) → (b || false) ≡ b
or_false true = refl
or_false false = refl

or_true : (b : Bool) → (b || true) ≡ true
or_true true = refl
or_true false = refl

-- where the history isn't spent, they are the session's own
pub bind_unspent : (number : ℕ) (es : List Told) (s : Session) (b : Bind) → spoken_of s ≡ heard number es → is_spent es ≡ false
    → bind_code_of number es b.recover ≡ unless_ended s (bind_code s b)
bind_unspent number es s b told left =
    bind_code_heard number es s b.recover told
    ∙ ap (λ (x : Bool). first_code ((20, not (is_alive s.life)) ∷ (4, not (may_resume s b.recover)) ∷ (74, x) ∷ []))
    (ap (λ (x : Bool). nat_le GREATEST_NUMBER (length s.streams) || x) left ∙ or_false (nat_le GREATEST_NUMBER (length s.streams)))
    ∙ by_life (is_alive s.life) (bind_code s b)
  where
    by_life : (alive : Bool) (code : Option ℕ) → cond (not alive) (Some 20) code ≡ cond alive code (Some 20)
    by_life true code = refl
    by_life false code = refl

-- where it is, a bind that they don't refuse is refused for that
pub bind_spent : (number : ℕ) (es : List Told) (s : Session) (b : Bind) → spoken_of s ≡ heard number es → is_spent es ≡ true
    → unless_ended s (bind_code s b) ≡ None → bind_code_of number es b.recover ≡ Some 74
bind_spent number es s b told spent none =
    bind_code_heard number es s b.recover told
    ∙ ap (λ (x : Bool). first_code ((20, not (is_alive s.life)) ∷ (4, not (may_resume s b.recover)) ∷ (74, x) ∷ []))
    (ap (λ (x : Bool). nat_le GREATEST_NUMBER (length s.streams) || x) spent ∙ or_true (nat_le GREATEST_NUMBER (length s.streams)))
    ∙ by_tests (is_alive s.life) (may_resume s b.recover) none
  where
    by_tests : (alive may : Bool) → cond alive (first_code ((4, not may) ∷ (74, nat_le GREATEST_NUMBER (length s.streams)) ∷ [])) (Some 20) ≡ None
        → first_code ((20, not alive) ∷ (4, not may) ∷ (74, true) ∷ []) ≡ Some 74
    by_tests true true none = refl
    by_tests true false none = absurd (let x : Some 4 ≡ None = none in cc)
    by_tests false may none = absurd (let x : Some 20 ≡ None = none in cc)
