-- The table that a client of mode COMMAND keeps is the item's, at each key.
use Rattle.std.proofs.Common.{◌≡◌, ℕ, List, [], ◌∷◌, refl, sym, ◌∙◌, ap, arith, subst, Option, Some, None}
use Rattle.ls_value.specs.declared.row.Value.{Value}
use Rattle.ls_event.specs.declared.event.Entry.{Entry}
use Rattle.ls_line.specs.declared.line.Line.{Line as WireLine}
use Rattle.ls_line.specs.Reading.{line_of}
use Rattle.ls_mirror.specs.declared.table.Table.{Table}
use Rattle.ls_mirror.specs.Client.{What}
use Rattle.ls_mirror.specs.Commands.{key_table}
use Rattle.ls_mirror.specs.Tables.{table_of}
use Rattle.ls_mirror.specs.Standing.{IsTableOf}
use Rattle.ls_mirror.proofs.Determined.{one_table}
use Rattle.ls_record.specs.Records.{LiveSlot}
use Rattle.ls_event.specs.Slots.{Slot}
use Rattle.ls_record.specs.Cutting.{Wanted}
use Rattle.ls_lawful.specs.CommandMode.{RowAgrees}
use Rattle.ls_lawful.specs.Lawful.{AreRead, Decodes}
use Rattle.ls_lawful.specs.ClientTables.{HasTable}

-- texts are read in one way
same_line : (text : List ℕ) (l m : WireLine) → line_of text ≡ Some l → line_of text ≡ Some m → l ≡ m
same_line text l m a b = let e : Some l ≡ Some m = sym a ∙ b in cc

same_lines : (all : List (List ℕ)) (ls ms : List WireLine) → AreRead all ls → AreRead all ms → ls ≡ ms
same_lines [] [] [] a b = refl
same_lines [] [] (m ∷ ms) a b = absurd b
same_lines [] (l ∷ ls) ms a b = absurd a
same_lines (text ∷ all) [] ms a b = absurd a
same_lines (text ∷ all) (l ∷ ls) [] a b = absurd b
same_lines (text ∷ all) (l ∷ ls) (m ∷ ms) a b = ap (λ x. x ∷ ls) (same_line text l m a.0.1 b.0.1) ∙ ap (λ xs. m ∷ xs) (same_lines all ls ms a.1 b.1)

-- the rows by key of a client's table are those of what it decodes
pub table_keys : (h : List Entry) (v : LiveSlot) (all : List (List ℕ)) (ws : List What) (t : Table) (d : Decodes h v all ws) → HasTable all v.sub v.rank t
    → t.keys ≡ key_table d.came.subscription.keyed ws
table_keys h v all ws t d x =
    let mine : IsTableOf v.sub v.rank d.lines t = subst (λ (ls : List WireLine). IsTableOf v.sub v.rank ls t) (same_lines all x.lines d.lines x.read d.read)
    x.is in
    let same : t ≡ table_of d.came.subscription.keyed ws
    = one_table v.sub v.rank d.lines (table_of d.came.subscription.keyed ws) t (record { whats = ws; come = d.came; is = refl })
    (omega (arith, d.schema, d.most)) mine in
    ap (λ (u : Table). u.keys) same

-- two rows that agree with the item's at the cursor of their key are equal
pub same_row : (h : List Entry) (w : Wanted) (s : Slot) (k : List ℕ) (a b : Option (List Value)) (o : Option ℕ) → RowAgrees h w s k a o → RowAgrees h w s k b o
    → a ≡ b
same_row h w s k a b None x y = x ∙ sym y
same_row h w s k a b (Some q) x y = x.2 ∙ sym y.2
