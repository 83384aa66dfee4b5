-- Tries of a write, one after another.
use Rattle.std.proofs.Common.{◌≡◌, ℕ, suc, ◌+◌, List, ◌∙◌, refl, subst, arith}
use Rattle.std.specs.Prelude.{None, Some, Result, Err}
use Rattle.std.specs.declared.option.Option.{Option}
use Rattle.std.specs.declared.io.Error.{Error}
use Rattle.std.specs.declared.io.ErrorKind.TheVariants.{Interrupted}
use Rattle.std.specs.IoError.{error_kind}
use Rattle.std.specs.Io.KnownBytes.{Keeps}
use Rattle.ls_real.specs.Adapters.{Interrupts}

-- known bytes that stay
pub kept_self : (a : Option (List ℕ)) → Keeps a a
kept_self None = tt
kept_self (Some a) = refl

pub kept_on : (a b c : Option (List ℕ)) → Keeps a b → Keeps b c → Keeps a c
kept_on None b c k l = tt
kept_on (Some a) None c k l = absurd k
kept_on (Some a) (Some b) None k l = l
kept_on (Some a) (Some b) (Some c) k l = l ∙ k

-- one more try that was interrupted
pub interrupted_next : {W : Type 0} (answers : W → List ℕ → Result ℕ Error → W → Type 0) (piece : List ℕ) (n : ℕ) (a b c : W) (e : Error)
    → Interrupts answers piece n a b → answers b piece (Err e) c → error_kind e ≡ Interrupted → Interrupts answers piece (n + 1) a c
interrupted_next answers piece n a b c e before try kind =
    let next : suc n ≡ n + 1 = omega arith in
    subst (λ m. Interrupts answers piece m a c) next (b, before, e, try, kind)
