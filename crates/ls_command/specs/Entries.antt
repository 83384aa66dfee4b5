-- The entries and the links that a queue is kept in, and what they are seen as.
use Rattle.std.specs.Prelude.{◌≡◌, ℕ, ◌-◌, ◌<◌, ◌==◌, List, [], ◌∷◌, ◌++◌, length, map, set, drop, get_or, None, Option}
use Rattle.std.specs.Prelude.{Bool, true, false, ◌||◌, nat_lt, if◌then◌else◌}
use Rattle.std.specs.List.{range_with_len}
use Rattle.indexmap.specs.Layout.{set_value_at}
use Rattle.ls_value.specs.declared.row.Value.{Value}
use Rattle.ls_event.specs.declared.snapshot.KeyedRow.{KeyedRow}
use Rattle.ls_links.specs.Chains.{Link, Chains, Apart, In, list_of, link_given}
use Rattle.ls_command.specs.declared.kept.Queued.{Queued}
use Rattle.ls_command.specs.declared.kept.Kept.{Kept}
use Rattle.ls_command.specs.Command.{nodes_of, with_queued, with_owed, owed_key, values_with, values_turned}

-- what is kept, by the places of the entries
abbrev pub no_entry : List ℕ × Kept
no_entry = ([], record { node = 0; row = None; touched = false })

abbrev pub entry_at : List (List ℕ × Kept) → ℕ → List ℕ × Kept
entry_at es place = get_or es place no_entry

-- a key that has a turn, by its entry, and by its link, whose value is the entry's place
abbrev pub queued_of : List ℕ × Kept → Queued
queued_of e = record { key = e.0; row = e.1.row; touched = e.1.touched }

abbrev pub queued_at : List (List ℕ × Kept) → Link → Queued
queued_at es l = queued_of (entry_at es l.value)

-- the keys that have a turn in order, the values of their nodes, and how many of them list 0 has
pub record LinkedKeys : Type 0 where
  pub keys : List Queued
  pub values : List ℕ
  pub owed : ℕ

-- what entries and links are seen as
abbrev pub linked_keys : List (List ℕ × Kept) → List (List Link) → LinkedKeys
linked_keys es ls =
    record {
      keys = map (queued_at es) (nodes_of ls);
      values = map (λ l. l.value) (nodes_of ls);
      owed = length (get_or ls 0 []);
    }

-- a link's value is the place of an entry, which has its node
pub record IsOwn (es : List (List ℕ × Kept)) (l : Link) : Type 0 where
  pub within : l.value < length es
  pub node : (entry_at es l.value).1.node ≡ l.node

-- no value twice
abbrev pub has_value : List ℕ → ℕ → Bool
has_value [] v = false
has_value (w ∷ ws) v = (w == v) || has_value ws v

abbrev pub AreOnce : List ℕ → Type 0
AreOnce [] = Unit {0}
AreOnce (v ∷ vs) = (has_value vs v ≡ false) × AreOnce vs

-- the values of the links of two lists are those of keys, and no two of them are the same
pub record HasValues (q : LinkedKeys) (c : Chains) : Type 0 where
  pub lists : length c.lists ≡ 2
  pub values : map (λ l. l.value) (nodes_of c.lists) ≡ q.values
  pub once : AreOnce q.values
  pub each : length q.values ≡ length q.keys
  pub owed : length (list_of c 0) ≡ q.owed

-- entries and links are of each other
pub record IsKept (es : List (List ℕ × Kept)) (ls : List (List Link)) : Type 0 where
  pub lists : length ls ≡ 2
  pub apart : Apart (record { lists = ls; spare = 0 })
  pub own : (l : Link) → In (nodes_of ls) l → IsOwn es l
  pub told : (place : ℕ) → place < length es
      → In (nodes_of ls) (record { node = (entry_at es place).1.node; value = place })
  pub count : length (nodes_of ls) ≡ length es

-- the entry at a place has this row and this mark
abbrev pub renewed : ℕ → Option (List Value) → Bool → List (List ℕ × Kept) → List (List ℕ × Kept)
renewed place row touched es =
    set_value_at es place (record { node = (entry_at es place).1.node; row = row; touched = touched })

-- a key was linked after the others of a list, with the place of its entry as its node's value
pub record IsAdded (list : ℕ) (new : Queued) (es : List (List ℕ × Kept)) (ls : List (List Link))
    (es' : List (List ℕ × Kept)) (ls' : List (List Link)) : Type 0 where
  pub node : ℕ
  pub entries : es' ≡ es ++ (new.key, record { node = node; row = new.row; touched = new.touched }) ∷ []
  pub lists : ls' ≡ set ls list (get_or ls list [] ++ record { node = node; value = length es } ∷ [])
  pub apart : Apart (record { lists = ls'; spare = 0 })

-- the node of the entry at a place, where there is one, has this place as its value
abbrev pub settled : ℕ → List (List ℕ × Kept) → List (List Link) → List (List Link)
settled place es ls = if nat_lt place (length es) then map (map (link_given (entry_at es place).1.node place)) ls else ls

-- no key
abbrev pub no_keys : LinkedKeys
no_keys = record { keys = []; values = []; owed = 0 }

-- after a key was touched, and has this row: it stays where it stands, or goes last
abbrev pub keys_touched : LinkedKeys → List ℕ → Option (List Value) → LinkedKeys
keys_touched q key row =
    record q {
      keys = with_queued q.keys (record { key = key; row = row; touched = true });
      values = values_with q.keys q.values key;
    }

-- after a key of a snapshot came, where all that have a turn are owed
abbrev pub keys_owed : LinkedKeys → KeyedRow → LinkedKeys
keys_owed q k =
    record {
      keys = with_queued q.keys (owed_key k);
      values = values_with q.keys q.values k.key;
      owed = length (with_queued q.keys (owed_key k));
    }

-- the keys of a snapshot
abbrev pub keys_owing : List KeyedRow → LinkedKeys
keys_owing rows =
    record {
      keys = with_owed [] rows;
      values = range_with_len 0 (length (with_owed [] rows));
      owed = length (with_owed [] rows);
    }

-- after the turn of the first key
abbrev pub keys_turned : LinkedKeys → LinkedKeys
keys_turned q = record { keys = drop 1 q.keys; values = values_turned q.values; owed = q.owed - 1 }
