-- Rows that agree where no flag is set.
use Rattle.std.proofs.Common.{◌≡◌, ℕ, List, [], ◌∷◌, length, replicate, refl, ◌∙◌, ap, arith, Bool, true, false, ◌||◌}
use Rattle.std.proofs.Common.{cond, suc, zero}
use Rattle.std.proofs.lemmas.List.{length-replicate}
use Rattle.ls_value.specs.declared.row.Value.{Value}
use Rattle.ls_value.specs.declared.row.Cell.{Cell}
use Rattle.ls_value.specs.Values.{applied, kept_or_taken, nulls}
use Rattle.ls_event.specs.declared.event.Event.{Event}
use Rattle.ls_event.specs.declared.event.Event.TheVariants.{Update, Clear}
use Rattle.ls_event.specs.declared.event.Entry.{Entry}
use Rattle.ls_event.specs.History.{row_after, row_after_all}
use Rattle.ls_event.specs.Cuts.{touched_cells, touched_after, touched_after_all, flagged_cells, says, cell_saying}
use Rattle.ls_value.specs.declared.row.Value.TheVariants as value
use Rattle.ls_value.specs.declared.row.Cell.TheVariants as cell

-- the rows have a value for each flag, and are equal where it isn't set
abbrev pub Agrees : List Bool → List Value → List Value → Type 0
Agrees [] [] [] = Unit {0}
Agrees [] [] (b ∷ bs) = ⊥
Agrees [] (a ∷ as') bs = ⊥
Agrees (t ∷ ts) [] bs = ⊥
Agrees (t ∷ ts) (a ∷ as') [] = ⊥
Agrees (t ∷ ts) (a ∷ as') (b ∷ bs) = (t ≡ false → a ≡ b) × Agrees ts as' bs

pub agrees_same : (n : ℕ) (v : Bool) (row : List Value) → length row ≡ n → Agrees (replicate n v) row row
agrees_same zero v [] l = tt
agrees_same zero v (a ∷ row) l = absurd (omega (arith, l))
agrees_same (suc n) v [] l = absurd (omega (arith, l))
agrees_same (suc n) v (a ∷ row) l = ((λ h. refl), agrees_same n v row (omega (arith, l)))

pub agrees_all : (n : ℕ) (a b : List Value) → length a ≡ n → length b ≡ n → Agrees (replicate n true) a b
agrees_all zero [] [] l m = tt
agrees_all zero [] (b ∷ bs) l m = absurd (omega (arith, m))
agrees_all zero (a ∷ as') bs l m = absurd (omega (arith, l))
agrees_all (suc n) [] bs l m = absurd (omega (arith, l))
agrees_all (suc n) (a ∷ as') [] l m = absurd (omega (arith, m))
agrees_all (suc n) (a ∷ as') (b ∷ bs) l m = ((λ h. cc), agrees_all n as' bs (omega (arith, l)) (omega (arith, m)))

-- the client gets the row
kept_flagged : (t : Bool) (a b : Value) → (t ≡ false → a ≡ b) → kept_or_taken a (cond t (cell_saying b) cell.Same) ≡ b
kept_flagged true a value.Null h = refl
kept_flagged true a (value.Text x) h = refl
kept_flagged false a b h = h refl

pub applied-flagged : (ts : List Bool) (a b : List Value) → Agrees ts a b → applied a (flagged_cells ts b) ≡ b
applied-flagged [] [] [] h = refl
applied-flagged [] [] (b ∷ bs) h = absurd h
applied-flagged [] (a ∷ as') bs h = absurd h
applied-flagged (t ∷ ts) [] bs h = absurd h
applied-flagged (t ∷ ts) (a ∷ as') [] h = absurd h
applied-flagged (t ∷ ts) (a ∷ as') (b ∷ bs) h = rw (kept_flagged t a b h.0) (ap (λ r. b ∷ r) (applied-flagged ts as' bs h.1))

-- after cells
kept_same : (t : Bool) (a b : Value) (c : Cell) → (t ≡ false → a ≡ b) → (t || says c) ≡ false → a ≡ kept_or_taken b c
kept_same true a b c h f = cc
kept_same false a b cell.Same h f = h refl
kept_same false a b cell.Null h f = cc
kept_same false a b (cell.Text x) h f = cc

pub agrees_cells : (ts : List Bool) (a b : List Value) (cells : List Cell) → Agrees ts a b → Agrees (touched_cells ts cells) a (applied b cells)
agrees_cells [] [] [] cells h = tt
agrees_cells [] [] (b ∷ bs) cells h = absurd h
agrees_cells [] (a ∷ as') bs cells h = absurd h
agrees_cells (t ∷ ts) [] bs cells h = absurd h
agrees_cells (t ∷ ts) (a ∷ as') [] cells h = absurd h
agrees_cells (t ∷ ts) (a ∷ as') (b ∷ bs) [] h = h
agrees_cells (t ∷ ts) (a ∷ as') (b ∷ bs) (c ∷ cells) h = ((λ f. kept_same t a b c h.0 f), agrees_cells ts as' bs cells h.1)

agrees_lengths : (ts : List Bool) (a b : List Value) → Agrees ts a b → (length a ≡ length ts) × (length b ≡ length ts)
agrees_lengths [] [] [] h = (refl, refl)
agrees_lengths [] [] (b ∷ bs) h = absurd h
agrees_lengths [] (a ∷ as') bs h = absurd h
agrees_lengths (t ∷ ts) [] bs h = absurd h
agrees_lengths (t ∷ ts) (a ∷ as') [] h = absurd h
agrees_lengths (t ∷ ts) (a ∷ as') (b ∷ bs) h = let l = agrees_lengths ts as' bs h.1 in (ap (λ n. suc n) l.0, ap (λ n. suc n) l.1)

pub agrees_after : (ts : List Bool) (a b : List Value) (event : Event) → Agrees ts a b → Agrees (touched_after ts event) a (row_after b event)
agrees_after ts a b (Update cells) h = agrees_cells ts a b cells h
agrees_after ts a b Clear h =
    let l = agrees_lengths ts a b h in
    agrees_all (length ts) a (nulls (length b)) l.0 (length-replicate (length b) value.Null ∙ l.1)

pub agrees_after_all : (ts : List Bool) (a b : List Value) (es : List Entry) → Agrees ts a b → Agrees (touched_after_all ts es) a (row_after_all b es)
agrees_after_all ts a b [] h = h
agrees_after_all ts a b (e ∷ es) h = agrees_after_all (touched_after ts e.event) a (row_after b e.event) es (agrees_after ts a b e.event h)
