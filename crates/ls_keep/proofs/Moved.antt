-- Bytes that move to the front of their memory, a piece at a time.
use Rattle.std.proofs.Common.{◌≡◌, ℕ, ◌+◌, List, ◌++◌, take, drop, sym, ◌∙◌, ap, ap₂, arith, drop-drop, take-add}

-- the pieces so far, and one more, are the bytes from the place on
pub moved_more : (old new all : List ℕ) (from moved count : ℕ) → take moved old ≡ take moved (drop from all)
    → drop (from + moved) old ≡ drop (from + moved) all
    → take (moved + count) new ≡ take moved old ++ take count (drop (from + moved) old)
    → take (moved + count) new ≡ take (moved + count) (drop from all)
moved_more old new all from moved count so_far behind copied =
    copied ∙ ap₂ (λ (a b : List ℕ). a ++ take count b) so_far (behind ∙ sym (drop-drop moved from all))
    ∙ sym (take-add moved count (drop from all))

-- what lies behind a piece stays as it was
pub behind_more : (old new all : List ℕ) (from moved count : ℕ) → drop (from + moved) old ≡ drop (from + moved) all
    → drop (from + moved) new ≡ drop (from + moved) old → drop (from + (moved + count)) new ≡ drop (from + (moved + count)) all
behind_more old new all from moved count behind same =
    ap (λ (n : ℕ). drop n new) {x = from + (moved + count)} {y = from + moved + count} (omega arith)
    ∙ sym (drop-drop count (from + moved) new) ∙ ap (drop count) (same ∙ behind) ∙ drop-drop count (from + moved) all
    ∙ ap (λ (n : ℕ). drop n all) {x = from + moved + count} {y = from + (moved + count)} (omega arith)
