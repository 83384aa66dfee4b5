-- What is true whatever a step finds, and after like steps.
use Rattle.std.proofs.Common.{◌≡◌, ℕ, zero, suc, List, Option, Some, slice_get}
use Rattle.ls_world.specs.World.{World}
use Rattle.ls_record.specs.Records.{Session}
use Rattle.ls_record.specs.Cases.{with_found}
use Rattle.ls_world.specs.Steps.{Stepped, Once, behind, repeated, with_session}
use Rattle.ls_world.specs.Repeats.{nth_world}
use Rattle.ls_record.proofs.Rules.{found_rule, cond_rule}

-- what is done with a session, by what is true with none and with one
pub session_rule : {A : Type 0} (P : A → Type 0) (sessions : List Session) (o : Option ℕ) (none : A) (f : ℕ → Session → A) → P none
    → ((n : ℕ) (s : Session) → slice_get sessions n ≡ Some s → P (f n s)) → P (with_session sessions o none f)
session_rule P sessions o none f p q =
    found_rule P o none (λ n. with_found (slice_get sessions n) none (f n)) (λ e. p)
    (λ n e. found_rule P (slice_get sessions n) none (f n) (λ x. p) (λ s is. q n s is))

-- like steps
behind_keeps : (P : World → Type 0) (o : Once) (rest : World → Stepped) → P o.after → ((v : World) → P v → P (rest v).after) → P (behind o rest).after
behind_keeps P o rest p more = cond_rule (λ (r : Stepped). P r.after) o.more _ _ (λ t. more o.after p) (λ t. p)

pub repeated_keeps : (P : World → Type 0) (f : World → Once) (n : ℕ) (w : World) → ((v : World) → P v → P (f v).after) → P w → P (repeated f n w).after
repeated_keeps P f zero w keep p = p
repeated_keeps P f (suc n) w keep p = behind_keeps P (f w) (λ v. repeated f n v) (keep w p) (λ v q. repeated_keeps P f n v keep q)

pub nth_keeps : (P : World → Type 0) (f : World → Once) (n : ℕ) (w : World) → ((v : World) → P v → P (f v).after) → P w → P (nth_world f n w)
nth_keeps P f zero w keep p = p
nth_keeps P f (suc n) w keep p = nth_keeps P f n (f w).after keep (keep w p)
