-- What is seen of a session as a subscription begins to be added.
use Rattle.std.proofs.Common.{◌≡◌, ℕ, List, Option}
use Rattle.atomic_table.specs.Seated.{TableId}
use Rattle.ls_request.specs.declared.request.Add.{Add}
use Rattle.ls_register.specs.Places.{Placed}
use Rattle.ls_register.specs.declared.told.Told.{Told}
use Rattle.ls_told.specs.Seen.{Watched}
use Rattle.ls_live_session.specs.Adding.{AddingSeen}

-- what is seen of the add then
pub seen_begun : (number number' : ℕ) (place place' : Option Placed) (table table' : TableId) (lines lines' : List Told) (watches watches' : List Watched)
    (a : Add) (free : ℕ) (items items' : List ℕ) (joined joined' : ℕ) → number ≡ number' → place ≡ place' → table ≡ table' → lines ≡ lines'
    → watches ≡ watches' → items ≡ items' → joined ≡ joined'
    → ◌≡◌ {A = AddingSeen} (record {
      number = number;
      place = place;
      table = table;
      lines = lines;
      watches = watches;
      add = a;
      free = free;
      items = items;
      joined = joined;
    }) (record {
      number = number';
      place = place';
      table = table';
      lines = lines';
      watches = watches';
      add = a;
      free = free;
      items = items';
      joined = joined';
    })
seen_begun number number' place place' table table' lines lines' watches watches' a free items items' joined joined' e1 e2 e3 e4 e5 e6 e7 i =
    record {
      number = e1 i;
      place = e2 i;
      table = e3 i;
      lines = e4 i;
      watches = e5 i;
      add = a;
      free = free;
      items = e6 i;
      joined = e7 i;
    }
