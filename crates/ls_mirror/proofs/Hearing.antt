-- A subscription hears of an item.
use Rattle.std.proofs.Common.{◌≡◌, ◌==◌, ℕ, false, Result, Ok, Err, OnOk, refl}
use Rattle.std.specs.BTreeMap.{BTreeMap}
use Rattle.ls_mirror.specs.declared.subscription.Subscription.{Subscription}
use Rattle.ls_mirror.specs.declared.table.Table.{Table}
use Rattle.ls_mirror.specs.Client.{Heard}
use Rattle.ls_mirror.specs.Tables.{IsTableAfter}
use Rattle.ls_mirror.specs.Standing.{IsSubscriptionAfter, table_at}

pub hears : {X E : Type 0} (answer : Result X E) (item : ℕ) (h : Heard) (s : Subscription) (tables : BTreeMap ℕ Table) (old new : Table)
    → table_at s.tables item ≡ old → table_at tables item ≡ new → ((q : ℕ) → (q == item) ≡ false → table_at tables q ≡ table_at s.tables q)
    → OnOk answer (IsTableAfter s.fields s.places h old new)
    → OnOk answer (IsSubscriptionAfter item h s (record { items = s.items; fields = s.fields; places = s.places; tables = tables }))
hears (Ok x) item h s tables old new is then others m = record {
  items = refl;
  fields = refl;
  places = refl;
  moves = rw (is, then) m;
  others = others;
}
hears (Err e) item h s tables old new is then others m = tt
