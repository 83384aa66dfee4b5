-- Bodies and what they hold, computed by the definitions alone: an a, and CR (13) and LF (10) after it.
use Rattle.std.proofs.Common.{◌≡◌, [], ◌∷◌, refl}
use Rattle.ls_conn_http.specs.Bodies.{params_of, without_end}

cr_alone : without_end (97 ∷ 13 ∷ []) ≡ 97 ∷ 13 ∷ []
cr_alone = refl

lf : without_end (97 ∷ 10 ∷ []) ≡ 97 ∷ []
lf = refl

cr_lf : without_end (97 ∷ 13 ∷ 10 ∷ []) ≡ 97 ∷ []
cr_lf = refl

cr_cr_lf : without_end (97 ∷ 13 ∷ 13 ∷ 10 ∷ []) ≡ 97 ∷ 13 ∷ []
cr_cr_lf = refl

two_lf : without_end (97 ∷ 10 ∷ 10 ∷ []) ≡ 97 ∷ 10 ∷ []
two_lf = refl

lf_alone : without_end (10 ∷ []) ≡ []
lf_alone = refl

-- of control: the lines a and b
last_by_cr : params_of (97 ∷ 13 ∷ 10 ∷ 98 ∷ 13 ∷ []) ≡ (97 ∷ []) ∷ (98 ∷ 13 ∷ []) ∷ []
last_by_cr = refl

last_by_lf : params_of (97 ∷ 10 ∷ 98 ∷ 10 ∷ []) ≡ (97 ∷ []) ∷ (98 ∷ []) ∷ []
last_by_lf = refl

last_by_cr_lf : params_of (97 ∷ 10 ∷ 13 ∷ 10 ∷ 98 ∷ 13 ∷ 10 ∷ []) ≡ (97 ∷ []) ∷ (98 ∷ []) ∷ []
last_by_cr_lf = refl

last_by_cr_cr_lf : params_of (97 ∷ 13 ∷ 13 ∷ 10 ∷ 98 ∷ 13 ∷ 13 ∷ 10 ∷ []) ≡ (97 ∷ 13 ∷ []) ∷ (98 ∷ 13 ∷ []) ∷ []
last_by_cr_cr_lf = refl
