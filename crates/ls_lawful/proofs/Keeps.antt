-- What a mode owes: a relation of history, slot and lines that each change of these keeps.
use Rattle.std.proofs.Common.{◌≡◌, ◌<◌, List, ◌∷◌, ◌++◌, length, subst, Option, Some, None}
use Rattle.ls_event.specs.declared.event.Entry.{Entry}
use Rattle.ls_event.specs.declared.event.Taken.{Taken}
use Rattle.ls_event.specs.Slots.{Slot, enqueued, passed}
use Rattle.ls_mirror.specs.Client.{What}
use Rattle.ls_record.specs.Came.{Came, came_by}
use Rattle.ls_record.specs.Cutting.{Wanted, what_of_cut}

-- what is true after a cut that made this line or none
abbrev pub AfterCut : (List Entry → Wanted → Slot → List Came → Type 0) → List Entry → Wanted → Slot → List Came → Taken → Option What → Type 0
AfterCut L h w s cs t (Some what) = L h w (passed s t) (came_by s t what ∷ cs)
AfterCut L h w s cs t None = L h w (passed s t) cs

pub record Keeps (cut : List Entry → Slot → Option Taken) (L : List Entry → Wanted → Slot → List Came → Type 0) : Type 0 where
  pub longer : (h more : List Entry) (w : Wanted) (s : Slot) (cs : List Came) → L h w s cs → L (h ++ more) w s cs
  pub enqueue : (h : List Entry) (w : Wanted) (s : Slot) (cs : List Came) → s.last < length h → L h w s cs → L h w (enqueued s) cs
  pub pass : (h : List Entry) (w : Wanted) (s : Slot) (cs : List Came) (t : Taken) → cut h s ≡ Some t → L h w s cs
      → AfterCut L h w s cs t (what_of_cut w s cs t)

-- a cut that is known
pub by_cut : (L : List Entry → Wanted → Slot → List Came → Type 0) (h : List Entry) (w : Wanted) (s : Slot) (cs : List Came) (x t : Taken) → Some x ≡ Some t
    → AfterCut L h w s cs x (what_of_cut w s cs x) → AfterCut L h w s cs t (what_of_cut w s cs t)
by_cut L h w s cs x t is a =
    let e : x ≡ t = cc in
    subst (λ (y : Taken). AfterCut L h w s cs y (what_of_cut w s cs y)) e a
