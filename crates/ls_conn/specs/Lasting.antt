-- What was seen last of sessions.
use Rattle.std.specs.Prelude.{◌≡◌, ◌<◌, ◌⊎◌, ℕ, List, [], ◌∷◌, ◌++◌}
use Rattle.ls_register.specs.declared.told.Told.{Told}
use Rattle.ls_register.specs.declared.told.Told.TheVariants.{Unbound}
use Rattle.ls_told.specs.Seen.{Testified}
use Rattle.ls_told.specs.Requests.{HasBound}
use Rattle.ls_told.specs.Turns.{IsUnbound}
use Rattle.ls_session.specs.declared.session.Lost.{Lost}
use Rattle.ls_shared.specs.Answers.{Loses}

-- something was seen, and of what was seen last this holds
pub record HasLast (ts : List Testified) (Holds : Testified → Type 0) : Type 0 where
  pub front : List Testified
  pub last : Testified
  pub are : ts ≡ front ++ last ∷ []
  pub holds : Holds last

-- what was seen last was replaced, and of both this holds
pub record LastBecomes (old new : List Testified) (Holds : Testified → Testified → Type 0) : Type 0 where
  pub front : List Testified
  pub before : Testified
  pub after : Testified
  pub were : old ≡ front ++ before ∷ []
  pub are : new ≡ front ++ after ∷ []
  pub holds : Holds before after

-- one session was seen, of which a stream is bound, and nothing was given to this caller
pub record OpenedOne (session epoch : ℕ) (ts : List Testified) : Type 0 where
  pub t : Testified
  pub are : ts ≡ t ∷ []
  pub number : session ≡ t.number
  pub bound : HasBound epoch t.lines
  pub mine : t.mine ≡ []

-- the stream of an epoch of a session was lost at a tick: it is unbound, or a newer one is bound, or none was
abbrev pub IsLostAt : ℕ → ℕ → Testified → Testified → Type 0
IsLostAt epoch now old new = (new.number ≡ old.number) × (how : Lost) × Loses epoch now old new how

-- the stream of an epoch is lost: by what was seen of its session at the loss, the loss stands last; or a newer stream is
-- bound; or none is
abbrev pub IsLost : ℕ → Testified → Type 0
IsLost epoch t =
    ((tick : ℕ) × (before : List Told) × (t.later ≡ before ++ Unbound tick ∷ []))
    ⊎ ((e : ℕ) × (epoch < e) × HasBound e t.later)
    ⊎ IsUnbound t.number t.later
