-- What was seen where a stream was opened by the first request of a message.
use Rattle.std.proofs.Common.{◌≡◌, ℕ, List, [], ◌∷◌, ◌++◌, refl, true}
use Rattle.ls_register.specs.Deeds.{Deed}
use Rattle.ls_told.specs.Seen.{Testified}
use Rattle.ls_conn.specs.Acting.{Acts, Asked, Known}
use Rattle.ls_conn.specs.declared.acted.Acted.TheVariants as acted
use Rattle.ls_conn.proofs.Opened.{opened_one}
use Rattle.ls_conn_ws.specs.Answering.{IsAlone}
use Rattle.ls_conn_ws.specs.Streams.{StreamState}

pub opened_there : (deed : Deed) (a : Asked) (old new : Known) (session epoch : ℕ) → old.seen ≡ [] → Acts deed a old new (acted.Opened session epoch) → IsAlone epoch new.seen
opened_there deed a old new session epoch none acts =
    let o = opened_one deed a old.register old.seen new (acted.Opened session epoch) session epoch none refl acts in
    record { told = o.t; are = o.are; bound = o.bound; mine = o.mine }

-- what stands last of one alone
pub last_alone : (xs : List Testified) (t u : Testified) → t ∷ [] ≡ xs ++ u ∷ [] → (xs ≡ []) × (t ≡ u)
last_alone [] t u e = (refl, cc)
last_alone (x ∷ []) t u e = absurd (two e)
  where
    two : t ∷ [] ≡ x ∷ (u ∷ []) → ⊥
    two f = cc
last_alone (x ∷ (y ∷ xs)) t u e = absurd (two e)
  where
    two : t ∷ [] ≡ x ∷ (y ∷ (xs ++ u ∷ [])) → ⊥
    two f = cc

-- a stream that begins
abbrev pub state_of : Testified → ℕ → StreamState
state_of t epoch = record { told = t; epoch = epoch; runs = true }
