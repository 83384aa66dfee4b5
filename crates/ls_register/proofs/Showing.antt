-- What a place shows, and the items of a register that grows.
use Rattle.std.proofs.Common.{◌≡◌, ℕ, ◌+◌, List, [], ◌∷◌, ◌++◌, length, Some, slice_get, refl, sym, ◌∙◌, ap, subst, arith}
use mathlib.Core.List.{IsPrefix}
use Rattle.atomic_table.specs.Seated.{TableId}
use Rattle.ls_event.specs.declared.item.ItemDef.{ItemDef}
use Rattle.ls_event.specs.Shapes.{Shape, shape_of}
use Rattle.ls_chron.proofs.Beginnings.{prefix_get}
use Rattle.ls_register.specs.declared.made.Made.{Made}
use Rattle.ls_register.specs.declared.made.Made.TheVariants.{Item, Session, Slot, Gone, Claimed, Freed}
use Rattle.ls_register.specs.Places.{Placed}
use Rattle.ls_register.specs.Items.{items_of, fact_of, facts_from, ShowsItem, ShowsSlot}

-- a place shows the same for good
pub shows_more : (config : List ItemDef) (p q : Placed) (item : ℕ) (shape : Shape) (table : TableId)
    → IsPrefix p.list q.list → p.at ≡ q.at → ShowsItem config p item shape table → ShowsItem config q item shape table
shows_more config p q item shape table longer same s =
    record {
      def = s.def;
      entry =
          subst (λ (n : ℕ). slice_get q.list n ≡ Some (Item item (length s.def.fields) s.def.kind table)) same
          (prefix_get p.list q.list p.at _ longer s.entry);
      declared = s.declared;
      shape_is = s.shape_is;
    }

-- what two tokens of one item have in common
pub record AreOne (item other : ℕ) (shape form : Shape) (table board : TableId) : Type 0 where
  pub item_is : item ≡ other
  pub shape_is : shape ≡ form
  pub table_is : table ≡ board

shows_one : (config : List ItemDef) (p : Placed) (item other : ℕ) (shape form : Shape) (table board : TableId)
    → ShowsItem config p item shape table → ShowsItem config p other form board → AreOne item other shape form table board
shows_one config p item other shape form table board s t =
    let items : item ≡ other = cc (s.entry, t.entry) in
    let defs : s.def ≡ t.def = cc (s.declared, t.declared, items) in
    record {
      item_is = items;
      shape_is = s.shape_is ∙ (ap shape_of defs ∙ sym t.shape_is);
      table_is = cc (s.entry, t.entry);
    }

-- two tokens of one place show one item
pub shows_same : (config : List ItemDef) (p q p' q' : Placed) (item other : ℕ) (shape form : Shape)
    (table board : TableId) → ShowsItem config p item shape table → ShowsItem config q other form board
    → IsPrefix p.list p'.list → IsPrefix q.list q'.list → p'.list ≡ q'.list → p'.at ≡ p.at → q'.at ≡ q.at
    → p.at ≡ q.at → AreOne item other shape form table board
shows_same config p q p' q' item other shape form table board s t first second lists mine theirs one =
    let same : p' ≡ q' = (λ i. record { at = (mine ∙ (one ∙ sym theirs)) i; list = lists i }) in
    shows_one config q' item other shape form table board
    (subst (λ (r : Placed). ShowsItem config r item shape table) same
    (shows_more config p p' item shape table first (sym mine) s))
    (shows_more config q q' other form board second (sym theirs) t)

-- one item more
pub items_more : (ms : List Made) (item : ℕ) (d : ItemDef) (table : TableId)
    → items_of (ms ++ Item item (length d.fields) d.kind table ∷ []) ≡ items_of ms ++ fact_of item d ∷ []
items_more [] item d table = refl
items_more (Item i f k o ∷ ms) item d table =
    ap (λ l. record { item = i; fields = f; kind = k } ∷ l) (items_more ms item d table)
items_more (Session s o ∷ ms) item d table = items_more ms item d table
items_more (Slot i s o ∷ ms) item d table = items_more ms item d table
items_more (Gone s ∷ ms) item d table = items_more ms item d table
items_more (Claimed n ∷ ms) item d table = items_more ms item d table
items_more (Freed n ∷ ms) item d table = items_more ms item d table

-- a slot more
pub slots_more : (ms : List Made) (item slot : ℕ) (table : TableId) → items_of (ms ++ Slot item slot table ∷ []) ≡ items_of ms
slots_more [] item slot table = refl
slots_more (Item i f k o ∷ ms) item slot table =
    ap (λ l. record { item = i; fields = f; kind = k } ∷ l) (slots_more ms item slot table)
slots_more (Session s o ∷ ms) item slot table = slots_more ms item slot table
slots_more (Slot i s o ∷ ms) item slot table = slots_more ms item slot table
slots_more (Gone s ∷ ms) item slot table = slots_more ms item slot table
slots_more (Claimed n ∷ ms) item slot table = slots_more ms item slot table
slots_more (Freed n ∷ ms) item slot table = slots_more ms item slot table

-- and one more that is declared
pub facts_more : (n m : ℕ) (ds : List ItemDef) (d : ItemDef) → m ≡ n + length ds
    → facts_from n (ds ++ d ∷ []) ≡ facts_from n ds ++ fact_of m d ∷ []
facts_more n m [] d is = ap (λ k. fact_of k d ∷ []) {x = n} {y = m} (omega (arith, is))
facts_more n m (e ∷ ds) d is = ap (λ l. fact_of n e ∷ l) (facts_more (n + 1) m ds d (omega (arith, is)))

-- what was added last stands last
pub at_end : (ms list : List Made) (m : Made) (n : ℕ) → list ≡ ms ++ m ∷ [] → n ≡ length list
    → slice_get list (length ms) ≡ Some m
at_end [] list m n is long = ap (λ l. slice_get l 0) is
at_end (x ∷ ms) list m n is long =
    ap (λ l. slice_get l (length (x ∷ ms))) is ∙ at_end ms (ms ++ m ∷ []) m (length (ms ++ m ∷ [])) refl refl

-- a slot that was added last is shown
pub shows_slot : (ms list : List Made) (item slot e : ℕ) (o : TableId) (p : Placed) → list ≡ ms ++ Slot item slot o ∷ []
    → e ≡ length ms → p ≡ record { at = e; list = list } → ShowsSlot p item slot o
shows_slot ms list item slot e o p is at place =
    subst (λ (q : Placed). ShowsSlot q item slot o) (sym place)
    (record { entry = ap (slice_get list) at ∙ at_end ms list (Slot item slot o) (length list) is refl })
