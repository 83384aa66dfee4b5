-- What is done with a session that hasn't ended.
use Rattle.std.proofs.Common.{◌≡◌, ℕ, List, true, cond, Option, Some, slice_get}
use Rattle.ls_record.specs.Records.{Session, is_alive}
use Rattle.ls_world.specs.Steps.{with_living}
use Rattle.ls_record.proofs.Rules.{cond_rule}
use Rattle.ls_world.proofs.Rules.{session_rule}

-- what is done with one that hasn't ended, by what is true with none and with one
pub living_rule : {A : Type 0} (P : A → Type 0) (sessions : List Session) (o : Option ℕ) (none : A) (f : ℕ → Session → A) → P none
    → ((n : ℕ) (s : Session) → slice_get sessions n ≡ Some s → is_alive s.life ≡ true → P (f n s)) → P (with_living sessions o none f)
living_rule P sessions o none f p q =
    session_rule P sessions o none (λ n s. cond (is_alive s.life) (f n s) none) p
    (λ n s is. cond_rule P (is_alive s.life) (f n s) none (λ t. q n s is t) (λ t. p))
