-- What the place of a session in the register shows, and that what is kept of a session is lawful.
use Rattle.std.proofs.Common.{◌≡◌, ℕ, suc, List, [], ◌∷◌, ◌++◌, sym, ◌∙◌, ap, subst, Some, None, slice_get, zero}
use mathlib.Core.List.{IsPrefix}
use Rattle.atomic_table.specs.Seated.{TableId}
use Rattle.ls_event.specs.declared.item.ItemDef.{ItemDef}
use Rattle.ls_record.specs.Records.{Session}
use Rattle.ls_register.specs.Places.{Placed}
use Rattle.ls_register.specs.declared.made.Made.{Made}
use Rattle.ls_register.specs.declared.told.Told.{Told}
use Rattle.ls_lawful.proofs.OneSession.{alone_lawful}
use Rattle.ls_told.specs.Seen.{Watched, IsTold, items_seen}
use Rattle.ls_told.specs.Keeping.{KeepsTold}
use Rattle.ls_register.specs.declared.made.Made.TheVariants as made
use Rattle.ls_sight.specs.Sights.{ShowsIt}

-- two places of the register that are one show one session
entry_longer : (xs more : List Made) (i : ℕ) (m : Made) → slice_get xs i ≡ Some m → slice_get (xs ++ more) i ≡ Some m
entry_longer [] more i m is = absurd (let x : None ≡ Some m = is in cc)
entry_longer (x ∷ xs) more zero m is = is
entry_longer (x ∷ xs) more (suc i) m is = entry_longer xs more i m is

pub entry_later : (xs ys : List Made) (i : ℕ) (m : Made) → IsPrefix xs ys → slice_get xs i ≡ Some m → slice_get ys i ≡ Some m
entry_later xs ys i m p is = subst (λ (l : List Made). slice_get l i ≡ Some m) p.1 (entry_longer xs p.0 i m is)

pub one_session : (p q : Placed) (xs ys : List Made) (n m : ℕ) (t u : TableId) → ShowsIt p n t → ShowsIt q m u → IsPrefix p.list xs → IsPrefix q.list ys
    → xs ≡ ys → p.at ≡ q.at → (m ≡ n) × (u ≡ t)
one_session p q xs ys n m t u mine theirs first second lists one =
    let a : slice_get xs p.at ≡ Some (made.Session n t) = entry_later p.list xs p.at _ first mine.entry in
    let b : slice_get ys q.at ≡ Some (made.Session m u) = entry_later q.list ys q.at _ second theirs.entry in
    let c : Some (made.Session m u) ≡ Some (made.Session n t) =
    sym b ∙ (ap (λ (i : ℕ). slice_get ys i) (sym one) ∙ (ap (λ (l : List Made). slice_get l p.at) (sym lists) ∙ a)) in
    let entries : made.Session m u ≡ made.Session n t = cc in
    (cc, cc)

-- what is kept of a session is lawful
pub lawful_of : (config : List ItemDef) (number : ℕ) (es : List Told) (ws : List Watched) (s : Session) → KeepsTold config number es ws s
    → IsTold config number es ws s
lawful_of config number es ws s k =
    record {
      told = k.told;
      lawful = alone_lawful (items_seen config ws) s k.none k.alone;
      watched = k.watched;
      ends = k.ends;
      counts = k.counts;
      subs = k.subs;
      numbered = k.numbered;
      slots = k.slots;
    }
