-- What a caller sees who takes a turn of a session.
use Rattle.std.proofs.Common.{◌≡◌, ◌≤◌, ℕ, ◌+◌, ◌-◌, List, [], ◌∷◌, ◌++◌, length, refl, sym, ap, arith, subst, ◌∙◌}
use mathlib.Core.List.{IsPrefix}
use Rattle.ls_value.specs.Each.{Each}
use Rattle.ls_event.specs.declared.item.ItemDef.{ItemDef}
use Rattle.ls_register.specs.declared.told.Told.{Told}
use Rattle.ls_session.specs.declared.session.Turn.{Turn}
use Rattle.ls_session.specs.declared.session.Turn.TheVariants as turn
use Rattle.ls_told.specs.Heard.{CountsOn}
use Rattle.ls_told.specs.Seen.{FitsWatch, Testified, Grows, SeesMore, Watched}
use Rattle.ls_told.specs.Requests.{HasBound}
use Rattle.ls_live_session.specs.Sights.{GaveAt, IsGiven}
use Rattle.ls_live_session.specs.Speaking.{Speaking}
use Rattle.ls_shared.specs.Answers.{Reaches, Turns}
use Rattle.ls_shared.specs.Taking.{EndsTurn, GaveLast}
use Rattle.ls_shared.proofs.Grown.{grows_on}
use Rattle.ls_shared.proofs.Turned.{turns_seen, owned_on, last_gave, last_more}

module _ (config : List ItemDef) (number epoch now : ℕ) (a s1 s2 : Testified) (was live1 live2 live3 : Speaking) (held : List Watched) (mid es : List Told)
    (ws : List Watched) (text : List ℕ)
    (r1 : Reaches was live1 a s1) (r2 : Reaches live2 live3 s1 s2) (number_is : number ≡ live1.number) (mid_is : mid ≡ live1.lines)
    (es_is : live2.lines ≡ es) (still : live3.lines ≡ live2.lines) (begins : IsPrefix mid es) where
  all : s2.lines ≡ es
  all = r2.sees.lines ∙ (still ∙ es_is)

  was_mid : s1.lines ≡ mid
  was_mid = r1.sees.lines ∙ sym mid_is

  -- the line that was given last may be the caller's
  pub owns : (n : ℕ) → n ≡ length live3.lines → IsGiven s1 → GaveLast config number epoch now held mid es ws text
      → (length s2.lines ≡ n - 1 + 1) × GaveAt s2.lines (n - 1) × (length s2.mine ≤ n - 1)
  owns n n_is given g = (
    omega (arith, ap length all, count, more),
    subst (λ (l : List Told). GaveAt l (n - 1)) (sym all) (last_gave config number epoch now held mid es ws text g (n - 1) (omega (arith, count, more))),
    omega (arith, ap length r2.mine, given.few, ap length was_mid, count, more),
  )
    where
      count : n ≡ length es
      count = n_is ∙ ap length (still ∙ es_is)

      more : length mid + 1 ≤ length es
      more = last_more config number epoch now held mid es ws text g

  pub took : Grows a s2
  took = grows_on a s1 s2 r1.grows r2.grows

  pub took_own : (new : Testified) → new ≡ record s2 { mine = new.mine } → Grows a new
  took_own new is = owned_on a s2 new took is

  pub taken : (new : Testified) (t : Turn) → CountsOn 0 es → HasBound epoch a.lines → new.lines ≡ s2.lines → new.watches ≡ s2.watches
      → held ≡ live1.watches → ws ≡ live2.watches → SeesMore live2.watches live3.watches → Each (FitsWatch config) live3.watches
      → EndsTurn config number epoch now held mid es ws text t
      → (t ≡ turn.Send → (place : ℕ) × (length s2.lines ≡ place + 1) × (new.mine ≡ s2.mine ++ place ∷ []))
      → ((t ≡ turn.Send → ⊥) → new.mine ≡ s2.mine)
      → Turns config epoch now a new text t
  taken new t counts has same seen held_is ws_is later fits ends sent quiet =
      turns_seen config number epoch now a new held mid es ws text (sym r1.grows.number ∙ (r1.sees.number ∙ sym number_is))
      (subst (IsPrefix a.lines) was_mid r1.grows.lines) (subst (IsPrefix a.later) was_mid r1.grows.later) begins counts has (same ∙ all)
      (subst (SeesMore a.watches) (r1.sees.watches ∙ sym held_is) r1.grows.watches)
      (subst (λ (q : List Watched × List Watched). SeesMore q.0 q.1) (λ i. (sym ws_is i, sym watches i)) later)
      (subst (Each (FitsWatch config)) (sym watches) fits) t ends
      (λ e. let s = sent e in (s.0, sym (ap length all) ∙ s.1, s.2 ∙ ap (λ (m : List ℕ). m ++ s.0 ∷ []) mines))
      (λ e. quiet e ∙ mines)
    where
      mines : s2.mine ≡ a.mine
      mines = r2.mine ∙ r1.mine

      watches : new.watches ≡ live3.watches
      watches = seen ∙ r2.sees.watches
