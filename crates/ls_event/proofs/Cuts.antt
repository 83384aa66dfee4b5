-- Cuts as the history grows.
use Rattle.std.proofs.Common.{◌≡◌, ℕ, ◌+◌, ◌≤◌, List, [], ◌∷◌, ◌++◌, length, take, drop, replicate, refl, ◌∙◌, ap, arith, Bool, true, zero, suc}
use Rattle.ls_value.specs.declared.row.Cell.{Cell}
use Rattle.ls_value.specs.declared.row.Value.{Value}
use Rattle.std.proofs.lemmas.List.{take-append-le, drop-append-le, drop_all, length-take-le, length-replicate}
use Rattle.ls_event.specs.declared.event.Event.{Event}
use Rattle.ls_event.specs.declared.event.Event.TheVariants.{Update, Clear}
use Rattle.ls_event.specs.declared.event.Entry.{Entry}
use Rattle.ls_event.specs.Cuts.{touched_after, touched_after_all, touched_cells, flagged_cells}
use Rattle.ls_event.specs.History.{between}

pub touched_after_all-append : (ts : List Bool) (xs ys : List Entry) → touched_after_all ts (xs ++ ys) ≡ touched_after_all (touched_after_all ts xs) ys
touched_after_all-append ts [] ys = refl
touched_after_all-append ts (x ∷ xs) ys = touched_after_all-append (touched_after ts x.event) xs ys

-- one entry more
pub between-next : (h : List Entry) (p i : ℕ) (e : Entry) → p ≤ i → i ≤ length h → take (i + 1) h ≡ take i h ++ e ∷ []
    → between h p (i + 1) ≡ between h p i ++ e ∷ []
between-next h p i e low high next =
    let within : p ≤ length (take i h) = omega (arith, length-take-le i h high) in
    rw next (drop-append-le p (take i h) (e ∷ []) within)

-- later entries leave them
pub between-append : (h more : List Entry) (p i : ℕ) → i ≤ length h → between (h ++ more) p i ≡ between h p i
between-append h more p i within = ap (drop p) (take-append-le i h more within)

-- there are none behind the last number
pub between_none : (h : List Entry) (l p : ℕ) → l ≤ p → l ≤ length h → between h p l ≡ []
between_none h l p low within = drop_all p (take l h) (omega (arith, low, length-take-le l h within))

pub touched-next : (ts : List Bool) (h : List Entry) (p i : ℕ) (e : Entry) → p ≤ i → i ≤ length h → take (i + 1) h ≡ take i h ++ e ∷ []
    → touched_after_all ts (between h p (i + 1)) ≡ touched_after (touched_after_all ts (between h p i)) e.event
touched-next ts h p i e low high next = ap (touched_after_all ts) (between-next h p i e low high next) ∙ touched_after_all-append ts (between h p i) (e ∷ [])

pub touched_cells_length : (ts : List Bool) (cells : List Cell) → length (touched_cells ts cells) ≡ length ts
touched_cells_length [] cells = refl
touched_cells_length (t ∷ ts) [] = refl
touched_cells_length (t ∷ ts) (c ∷ cells) = ap (λ n. suc n) (touched_cells_length ts cells)

pub touched_after_length : (ts : List Bool) (event : Event) → length (touched_after ts event) ≡ length ts
touched_after_length ts (Update cells) = touched_cells_length ts cells
touched_after_length ts Clear = length-replicate (length ts) true

pub touched_after_all_length : (ts : List Bool) (es : List Entry) → length (touched_after_all ts es) ≡ length ts
touched_after_all_length ts [] = refl
touched_after_all_length ts (e ∷ es) = touched_after_all_length (touched_after ts e.event) es ∙ touched_after_length ts e.event

pub told_cells_length : (ts : List Bool) (row : List Value) → length ts ≡ length row → length (flagged_cells ts row) ≡ length row
told_cells_length [] [] h = refl
told_cells_length [] (v ∷ row) h = h
told_cells_length (t ∷ ts) [] h = refl
told_cells_length (t ∷ ts) (v ∷ row) h = ap (λ n. suc n) (told_cells_length ts row (omega (arith, h)))

-- flags that are all set stay so

all_touched_cells : (n : ℕ) (cells : List Cell) → touched_cells (replicate n true) cells ≡ replicate n true
all_touched_cells zero cells = refl
all_touched_cells (suc n) [] = refl
all_touched_cells (suc n) (c ∷ cells) = ap (λ ts. true ∷ ts) (all_touched_cells n cells)

all_touched_after : (n : ℕ) (event : Event) → touched_after (replicate n true) event ≡ replicate n true
all_touched_after n (Update cells) = all_touched_cells n cells
all_touched_after n Clear = ap (λ k. replicate k true) (length-replicate n true)

pub all_touched : (n : ℕ) (es : List Entry) → touched_after_all (replicate n true) es ≡ replicate n true
all_touched n [] = refl
all_touched n (e ∷ es) = ap (λ ts. touched_after_all ts es) (all_touched_after n e.event) ∙ all_touched n es
