-- An event that was published stands in its history once.
use Rattle.std.proofs.Common.{◌≡◌, ◌⊎◌, ⊎_elim, inl, inr, ℕ, zero, suc, ◌+◌, ◌-◌, ◌<◌, ◌≤◌, ◌==◌, List, [], ◌∷◌, ◌++◌, length, cond, Bool, true, false}
use Rattle.std.proofs.Common.{None, Some, Result, Ok, Err, IfOk, slice_get, refl, sym, ◌∙◌, ap, subst, arith, length-append, append_assoc, append-nil, eq-eqb}
use Rattle.std.proofs.lemmas.Bool.{eqb-true}
use Rattle.ls_event.specs.declared.event.Event.{Event}
use Rattle.ls_event.specs.declared.event.Entry.{Entry}
use Rattle.ls_event.specs.declared.event.PublishRefused.{PublishRefused}
use Rattle.ls_event.specs.Shapes.{Shape}
use Rattle.ls_event.specs.History.{last_seq}
use Rattle.ls_event.specs.Publishes.{MayFollow, EachFollows, IsHistory}
use Rattle.ls_event.proofs.Histories.{last_seq-append, admitted}
use Rattle.ls_live.specs.Live.{entry_of, cause_in}
use Rattle.ls_shared.specs.Offers.{HasOnce}

-- one more entry doesn't lower an adapter's last seq
rises_by_one : (p : Shape) (h : List Entry) (e : Entry) (adapter : ℕ) → MayFollow p h e → last_seq adapter h ≤ last_seq adapter (h ++ e ∷ [])
rises_by_one p h e adapter m = by_test (e.adapter == adapter) refl
  where
    by_test : (v : Bool) → (e.adapter == adapter) ≡ v → last_seq adapter h ≤ last_seq adapter (h ++ e ∷ [])
    by_test true t =
        let same : e.adapter ≡ adapter = eqb-true e.adapter adapter t in
        let now : last_seq adapter (h ++ e ∷ []) ≡ e.seq = last_seq-append adapter h e ∙ ap (λ b. cond b e.seq (last_seq adapter h)) t in
        let rise : last_seq adapter h < e.seq = subst (λ (a : ℕ). last_seq a h < e.seq) same m.rises in
        omega (arith, now, rise)
    by_test false t =
        let now : last_seq adapter (h ++ e ∷ []) ≡ last_seq adapter h = last_seq-append adapter h e ∙ ap (λ b. cond b e.seq (last_seq adapter h)) t in
        omega (arith, now)

-- nor do more of them
rises : (p : Shape) (before h : List Entry) (adapter : ℕ) → EachFollows p before h → last_seq adapter before ≤ last_seq adapter (before ++ h)
rises p before [] adapter each = omega (arith, ap (last_seq adapter) (append-nil before))
rises p before (e ∷ h) adapter each =
    omega
    (arith, rises_by_one p before e adapter each.0, rises p (before ++ e ∷ []) h adapter each.1, ap (last_seq adapter) (append_assoc before (e ∷ []) h))

-- each entry's seq is at most its adapter's last one
at_most : (p : Shape) (before h : List Entry) (k : ℕ) (e : Entry) → EachFollows p before h → slice_get h k ≡ Some e → e.seq ≤ last_seq e.adapter (before ++ h)
at_most p before [] k e each at = absurd cc
at_most p before (x ∷ h) zero e each at =
    let same : x ≡ e = cc at in
    let first : last_seq x.adapter (before ++ x ∷ []) ≡ x.seq =
    last_seq-append x.adapter before x ∙ ap (λ b. cond b x.seq (last_seq x.adapter before)) (eq-eqb x.adapter x.adapter refl) in
    let more = rises p (before ++ x ∷ []) h x.adapter each.1 in
    let here : x.seq ≤ last_seq x.adapter (before ++ x ∷ h) = omega (arith, first, more, ap (last_seq x.adapter) (append_assoc before (x ∷ []) h)) in
    subst (λ (y : Entry). y.seq ≤ last_seq y.adapter (before ++ x ∷ h)) same here
at_most p before (x ∷ h) (suc k) e each at =
    subst (λ (l : List Entry). e.seq ≤ last_seq e.adapter l) (append_assoc before (x ∷ []) h) (at_most p (before ++ x ∷ []) h k e each.1 at)

at_end : (h : List Entry) (e : Entry) → slice_get (h ++ e ∷ []) (length h) ≡ Some e
at_end [] e = refl
at_end (x ∷ h) e = at_end h e

before_end : (h : List Entry) (e d : Entry) (k : ℕ) → slice_get (h ++ e ∷ []) k ≡ Some d → (slice_get h k ≡ Some d) ⊎ (k ≡ length h)
before_end [] e d zero at = inr refl
before_end [] e d (suc k) at = absurd cc
before_end (x ∷ h) e d zero at = inl at
before_end (x ∷ h) e d (suc k) at = ⊎_elim (λ t. inl t) (λ t. inr (ap suc t)) (before_end h e d k at)

-- the entries but the last are a history too
each_before : (p : Shape) (before h : List Entry) (e : Entry) → EachFollows p before (h ++ e ∷ []) → EachFollows p before h
each_before p before [] e each = tt
each_before p before (x ∷ h) e each = (each.0, each_before p (before ++ x ∷ []) h e each.1)

-- what was published stands there once
pub published_once : (p : Shape) (h list : List Entry) (number adapter seq : ℕ) (event : Event) → IsHistory p list
    → list ≡ h ++ entry_of adapter seq event ∷ [] → number ≡ length list → cause_in p h (entry_of adapter seq event) ≡ None
    → HasOnce list number adapter seq event
published_once p h list number adapter seq event lawful long more none =
    let e : Entry = entry_of adapter seq event in
    let rise : last_seq adapter h < seq = (admitted p h None e none).rises in
    let count : number ≡ length h + 1 = more ∙ (ap length long ∙ omega (arith, length-append h (e ∷ []))) in
    let earlier : EachFollows p [] h = each_before p [] h e (subst (EachFollows p []) long lawful.each) in (
      omega (arith, count),
      subst (λ (q : List Entry × ℕ). slice_get q.0 q.1 ≡ Some e) (λ i. (sym long i, (let q : length h ≡ number - 1 = omega (arith, count) in q) i))
          (at_end h e),
      λ k d at same-adapter same-seq. ⊎_elim
          (λ (was : slice_get h k ≡ Some d).
          let most : d.seq ≤ last_seq adapter h = subst (λ (a : ℕ). d.seq ≤ last_seq a h) same-adapter (at_most p [] h k d earlier was) in
          absurd (omega (arith, most, rise, same-seq)))
          (λ (last : k ≡ length h). omega (arith, last, count))
          (before_end h e d k (subst (λ (l : List Entry). slice_get l k ≡ Some d) long at)),
    )

-- an offer that is answered a number
pub offered_once : (r : Result ℕ PublishRefused) (p : Shape) (h grown list : List Entry) (adapter mine seq : ℕ) (event : Event)
    → list ≡ grown → adapter ≡ mine → IsHistory p grown
    → IfOk r (λ number. (grown ≡ h ++ entry_of adapter seq event ∷ []) × (number ≡ length grown))
    → IfOk r (λ _. cause_in p h (entry_of adapter seq event) ≡ None)
    → IfOk r (λ number. HasOnce list number mine seq event)
offered_once (Ok n) p h grown list adapter mine seq event seen same lawful done admitted =
    subst (λ (q : List Entry × ℕ). HasOnce q.0 n q.1 seq event) (λ i. (sym seen i, same i))
    (published_once p h grown n adapter seq event lawful done.0 done.1 admitted)
offered_once (Err e) p h grown list adapter mine seq event seen same lawful done admitted = tt
