-- A stream that a request opened where no session was seen before.
use Rattle.std.proofs.Common.{◌≡◌, ◌⊎◌, suc, zero, ℕ, List, [], ◌∷◌, ◌++◌, inl, inr, Bool, true, false, Option, Some, None, refl, sym, ap, subst, ◌∙◌, slice_get, slice_set}
use Rattle.ls_request.specs.declared.request.Request.{Request}
use Rattle.ls_request.specs.declared.request.Request.TheVariants as request
use Rattle.ls_request.specs.declared.request.Create.{Create}
use Rattle.ls_request.specs.declared.request.Bind.{Bind}
use Rattle.ls_request.specs.declared.request.Control.{Control}
use Rattle.ls_request.specs.Requests.{read_of}
use Rattle.ls_register.specs.Deeds.{Deed}
use Rattle.ls_register.specs.declared.made.Made.{Made}
use Rattle.ls_register.specs.declared.told.Told.{Told}
use Rattle.ls_register.specs.declared.told.Told.TheVariants.{Bound}
use Rattle.ls_told.specs.Seen.{Testified}
use Rattle.ls_told.specs.Requests.{HasBound}
use Rattle.ls_shared.specs.Answers.{Testifies}
use Rattle.ls_register.specs.Sessions.{is_live}
use Rattle.ls_conn.specs.declared.acted.Acted.{Acted}
use Rattle.ls_conn.specs.declared.acted.Acted.TheVariants as acted
use Rattle.ls_conn.specs.Acting.{Acts, ActsBy, Asked, BindsBy, ControlsBy, Creates, IsStarved, Known, StarvedBy, known, session_for}
use Rattle.ls_conn.specs.Lasting.{HasLast, OpenedOne}

no_line : (s e : ℕ) (t : List ℕ) → acted.Opened s e ≡ acted.Line t → ⊥
no_line s e t is = cc

starved_by : (r : Request) (s e : ℕ) → StarvedBy r (acted.Opened s e) → ⊥
starved_by (request.Create c) s e p = no_line s e _ p
starved_by (request.Bind b) s e p = no_line s e _ p
starved_by (request.Control c) s e p = no_line s e _ p
starved_by request.Wsok s e p = p

not_starved : (a : Asked) (s e : ℕ) → IsStarved a (acted.Opened s e) → ⊥
not_starved a s e (inl p) = cc
not_starved a s e (inr (inl p)) = no_line s e _ p
not_starved a s e (inr (inr p)) = starved_by p.0 s e p.2

by_create : (deed : Deed) (c : Create) (now : ℕ) (v : List Made) (new : Known) (s e : ℕ) → Creates deed c now (known v []) new s e → OpenedOne s e new.seen
by_create deed c now v new s e p =
    record {
      t = p.seen;
      are = p.added;
      number = sym p.opens.is.number;
      bound = subst (λ (n : ℕ). HasBound n p.seen.lines) (sym p.opens.is.epoch_is)
          (1, 0, false, c.keepalive, c.length, ap (λ (es : List Told). slice_get es 1) p.opens.is.lines);
      mine = p.opens.is.mine;
    }

none_there : (ts : List Testified) (k : ℕ) (t : Testified) → ts ≡ [] → slice_get ts k ≡ Some t → ⊥
none_there [] k t e is = absurd (let f : None ≡ Some t = is in cc)
none_there (x ∷ ts) k t e is = cc

one_there : (w b : Testified) (k : ℕ) → slice_get (w ∷ []) k ≡ Some b → (k ≡ 0) × (b ≡ w)
one_there w b zero is = (refl, sym (same w b is))
  where
    same : (x y : Testified) → Some x ≡ Some y → x ≡ y
    same x y e = cc
one_there w b (suc k) is = absurd (none_there [] k b refl is)

by_bind : (b : Bind) (now : ℕ) (v : List Made) (new : Known) (s e : ℕ) → BindsBy b now (known v []) new (acted.Opened s e) → OpenedOne s e new.seen
by_bind b now v new s e p =
    by_source p.1.finds.source
  where
    by_source : (p.1.found ≡ known v [])
        ⊎ ((p.1.found.seen ≡ [] ++ p.1.was ∷ []) × Testifies b.session p.1.was × (is_live p.1.found.register b.session ≡ true))
        → OpenedOne s e new.seen
    by_source (inl same) = absurd (none_there p.1.found.seen p.1.place p.1.was (ap (λ (k : Known). k.seen) same) p.1.finds.at)
    by_source (inr q) =
        let r = p.1.replaces in
        let there = one_there p.1.was r.before p.1.place (ap (λ (ts : List Testified). slice_get ts p.1.place) (sym q.0) ∙ r.at) in
        record {
          t = r.after;
          are = r.new_is ∙ ap (λ (ts : List Testified). slice_set ts p.1.place r.after) q.0 ∙ ap (λ (k : ℕ). slice_set (p.1.was ∷ []) k r.after) there.0;
          number = p.0 ∙ sym (r.grows.number ∙ ap (λ (t : Testified). t.number) there.1 ∙ p.1.finds.number);
          bound = r.says.1;
          mine = r.mine ∙ ap (λ (t : Testified). t.mine) there.1 ∙ q.1.mine;
        }

by_control : (deed : Deed) (c : Control) (session : Option ℕ) (now : ℕ) (old new : Known) (s e : ℕ) → ControlsBy deed c session now old new (acted.Opened s e) → ⊥
by_control deed c None now old new s e p = no_line s e _ p.0
by_control deed c (Some n) now old new s e p = no_line s e _ p.1

by_request : (deed : Deed) (a : Asked) (v : List Made) (new : Known) (s e : ℕ) (r : Option Request) → ActsBy deed a (known v []) new r (acted.Opened s e) → OpenedOne s e new.seen
by_request deed a v new s e None p = absurd (no_line s e _ p.0)
by_request deed a v new s e (Some (request.Create c)) p = by_create deed c a.now v new s e p
by_request deed a v new s e (Some (request.Bind b)) p = by_bind b a.now v new s e p
by_request deed a v new s e (Some (request.Control c)) p = absurd (by_control deed c (session_for a.own c.session) a.now (known v []) new s e p)
by_request deed a v new s e (Some request.Wsok) p = absurd (no_line s e _ p.0)

pub opened_one : (deed : Deed) (a : Asked) (v : List Made) (ts : List Testified) (new : Known) (answer : Acted) (s e : ℕ) → ts ≡ [] → answer ≡ acted.Opened s e
    → Acts deed a (known v ts) new answer → OpenedOne s e new.seen
opened_one deed a v ts new answer s e none is acts =
    by_acts (subst (λ (x : Acted). Acts deed a (known v []) new x) is (subst (λ (xs : List Testified). Acts deed a (known v xs) new answer) none acts))
  where
    by_acts : Acts deed a (known v []) new (acted.Opened s e) → OpenedOne s e new.seen
    by_acts (inl starved) = absurd (not_starved a s e starved)
    by_acts (inr does) = by_request deed a v new s e (read_of a.link a.name a.params) does

-- the one session that was seen is the last
pub one_is_last : (session epoch : ℕ) (ts : List Testified) → OpenedOne session epoch ts → HasLast ts (λ (t : Testified). (session ≡ t.number) × HasBound epoch t.lines)
one_is_last session epoch ts o = record { front = []; last = o.t; are = o.are; holds = (o.number, o.bound) }
