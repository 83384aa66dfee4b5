-- An item that the register shows at a place.
use Rattle.std.proofs.Common.{◌≡◌, ℕ, ◌==◌, ◌&&◌, List, refl, subst, true, Option, Some, None, IfSome, is_some}
use Rattle.std.proofs.lemmas.Bool.{eqb-true}
use Rattle.ls_event.specs.declared.item.ItemDef.{ItemDef}
use Rattle.ls_register.specs.Places.{Placed}
use Rattle.ls_register.specs.Items.{ShowsItem}
use Rattle.ls_live.specs.Live.{HeldItem, IsPassFor, whole_pass}

-- a pass of an item that has a place and this number
pub known_item : (config : List ItemDef) (item : ℕ) (i : HeldItem) (adapter : ℕ)
    → IfSome i.place (λ p. ShowsItem config p i.item i.shape i.table) → (is_some i.place && (i.item == item)) ≡ true
    → IsPassFor config item (whole_pass i adapter)
known_item config item i adapter shows is = by_place i.place refl shows is
  where
    by_place : (o : Option Placed) → i.place ≡ o → IfSome o (λ p. ShowsItem config p i.item i.shape i.table)
        → (is_some o && (i.item == item)) ≡ true → IsPassFor config item (whole_pass i adapter)
    by_place None at shown t = absurd (cc t)
    by_place (Some p) at shown t =
        let same : i.item ≡ item = eqb-true i.item item t in
        record {
          number = same;
          place = p;
          place_is = at;
          shows = subst (λ n. ShowsItem config p n i.shape i.table) same shown;
        }
