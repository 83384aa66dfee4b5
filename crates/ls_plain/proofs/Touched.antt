-- The flags of touched fields, entry by entry.
use Rattle.std.proofs.Common.{◌≡◌, ℕ, ◌+◌, ◌<◌, ◌≤◌, List, length, take, get_or, ◌∙◌, ap, arith, Bool}
use Rattle.std.proofs.lemmas.List.{drop_more, get_or-take, length-take-le}
use Rattle.ls_event.specs.declared.event.Entry.{Entry}
use Rattle.ls_event.specs.Cuts.{touched_after, touched_after_all}
use Rattle.ls_event.specs.History.{between}

-- the first of the entries, and then the rest
pub touched_more : (ts : List Bool) (h : List Entry) (i u : ℕ) (d : Entry) → i < u → u ≤ length h
    → touched_after_all ts (between h i u) ≡ touched_after_all (touched_after ts (get_or h i d).event) (between h (i + 1) u)
touched_more ts h i u d more within =
    let low : i < length (take u h) = omega (arith, length-take-le u h within, more) in
    ap (touched_after_all ts) (drop_more (take u h) i d low)
    ∙ ap (λ (e : Entry). touched_after_all (touched_after ts e.event) (between h (i + 1) u)) (get_or-take u h i d more)
