-- Like steps, one after another, up to one that ends them.
use Rattle.std.proofs.Common.{◌≡◌, ℕ, zero, suc, ◌+◌, ◌-◌, ◌<◌, ◌&&◌, List, [], ◌∷◌, ◌++◌, refl, sym, ◌∙◌, ap, arith, subst, cond, Bool, true, false}
use Rattle.std.proofs.Common.{append-nil, append_assoc}
use Rattle.std.proofs.lemmas.Grind.{flat_map-append}
use Rattle.ls_value.proofs.Rows.{and_left, and_right}
use Rattle.ls_step.specs.declared.out.Out.{Out}
use Rattle.ls_step.specs.Notes.{text_of_out}
use Rattle.ls_world.specs.World.{World}
use Rattle.ls_world.specs.Script.{text_of_outs}
use Rattle.ls_world.specs.Steps.{Once, Stepped, repeated, stays, take_once, enqueue_once}
use Rattle.ls_step.specs.declared.step.Step.TheVariants as step
use Rattle.ls_hub.specs.Hub.{StandsHub, Prints, DidOnce}
use Rattle.ls_hub.specs.declared.hub.Hub.{Hub}
use Rattle.ls_world.specs.Repeats.{nth_world, nth_outs, all_go_on}
use Rattle.ls_hub.specs.Repeats.{Going}
use Rattle.ls_hub.specs.Quiet.{FailedBehind, DidFewer, FailedIn}

-- one more
world_next : (f : World → Once) (n : ℕ) (w : World) → nth_world f (suc n) w ≡ (f (nth_world f n w)).after
world_next f zero w = refl
world_next f (suc n) w = world_next f n (f w).after

outs_next : (f : World → Once) (n : ℕ) (w : World) → nth_outs f (suc n) w ≡ nth_outs f n w ++ (f (nth_world f n w)).out ∷ []
outs_next f zero w = refl
outs_next f (suc n) w = ap (λ t. (f w).out ∷ t) (outs_next f n (f w).after)

go_next : (f : World → Once) (n : ℕ) (w : World) → all_go_on f n w ≡ true → (f (nth_world f n w)).more ≡ true → all_go_on f (suc n) w ≡ true
go_next f zero w go more = ap (λ b. b && true) more
go_next f (suc n) w go more =
    ap (λ b. b && all_go_on f (suc n) (f w).after) (and_left (f w).more (all_go_on f n (f w).after) go)
    ∙ go_next f n (f w).after (and_right (f w).more (all_go_on f n (f w).after) go) more

-- where the first n go on, the others follow
abbrev behind_outs : List Out → Stepped → Stepped
behind_outs outs s = record { after = s.after; outs = outs ++ s.outs }

repeated_from : (f : World → Once) (n k : ℕ) (w : World) → all_go_on f n w ≡ true
    → repeated f (n + k) w ≡ behind_outs (nth_outs f n w) (repeated f k (nth_world f n w))
repeated_from f zero k w go = ap (λ m. repeated f m w) {x = zero + k} {y = k} (omega arith)
repeated_from f (suc n) k w go =
    let this : (f w).more ≡ true = and_left (f w).more (all_go_on f n (f w).after) go in
    let rest : all_go_on f n (f w).after ≡ true = and_right (f w).more (all_go_on f n (f w).after) go in
    ap (λ m. repeated f m w) {x = suc n + k} {y = suc (n + k)} (omega arith)
    ∙ ap (λ b. cond b (behind_outs ((f w).out ∷ []) (repeated f (n + k) (f w).after)) (record { after = (f w).after; outs = (f w).out ∷ [] })) this
    ∙ ap (behind_outs ((f w).out ∷ [])) (repeated_from f n k (f w).after rest)

-- the texts of printed lines, one after another
texts_more : (xs ys : List Out) (before after last : List ℕ) → after ≡ before ++ text_of_outs xs → last ≡ after ++ text_of_outs ys
    → last ≡ before ++ text_of_outs (xs ++ ys)
texts_more xs ys before after last is more =
    more ∙ ap (λ t. t ++ text_of_outs ys) is ∙ append_assoc before (text_of_outs xs) (text_of_outs ys)
    ∙ ap (λ t. before ++ t) (sym (flat_map-append text_of_out xs ys))

pub text_one : (o : Out) → text_of_outs (o ∷ []) ≡ text_of_out o
text_one o = append-nil (text_of_out o)

-- before any
pub going_start : (f : World → Once) (w : World) (before : List ℕ) (h : Hub) → StandsHub h w → Going f w 0 before before h
going_start f w before h st = record { stands = st; text = sym (append-nil before); goes = refl }

-- one more was done, and another one follows
pub going_on : (f : World → Once) (w : World) (n : ℕ) (before after last : List ℕ) (h h' : Hub) (again : Bool) → Going f w n before after h
    → DidOnce (f (nth_world f n w)) again after last h' → again ≡ true → Going f w (n + 1) before last h'
going_on f w n before after last h h' again g d more =
    let e : n + 1 ≡ suc n = omega arith in
    let one : List Out = (f (nth_world f n w)).out ∷ [] in
    subst (λ (m : ℕ). Going f w m before last h') (sym e)
    (record {
      stands = subst (λ (v : World). StandsHub h' v) (sym (world_next f n w)) d.stands;
      text = texts_more (nth_outs f n w) one before after last g.text (d.text ∙ ap (λ t. after ++ t) (sym (text_one (f (nth_world f n w)).out)))
          ∙ ap (λ os. before ++ text_of_outs os) (sym (outs_next f n w));
      goes = go_next f n w g.goes (d.more ∙ more);
    })

-- all were done
pub going_all : (f : World → Once) (w : World) (n times : ℕ) (before after : List ℕ) (h : Hub) → n ≡ times → Going f w n before after h
    → Prints (repeated f times w) before after h
going_all f w n times before after h all g =
    let e : repeated f times w ≡ behind_outs (nth_outs f n w) (stays (nth_world f n w) []) =
    ap (λ m. repeated f m w) {x = times} {y = n + zero} (omega (arith, all)) ∙ repeated_from f n zero w g.goes in
    subst (λ (s : Stepped). Prints s before after h) (sym e)
    (record { text = g.text ∙ ap (λ os. before ++ text_of_outs os) (sym (append-nil (nth_outs f n w))); stands = g.stands })

-- one more was done, which ends them
pub going_ended : (f : World → Once) (w : World) (n times : ℕ) (before after last : List ℕ) (h h' : Hub) (again : Bool) → n < times
    → Going f w n before after h → DidOnce (f (nth_world f n w)) again after last h' → again ≡ false → Prints (repeated f times w) before last h'
going_ended f w n times before after last h h' again low g d ends =
    let one : List Out = (f (nth_world f n w)).out ∷ [] in
    let stop : (f (nth_world f n w)).more ≡ false = d.more ∙ ends in
    let rest : repeated f (suc (times - n - 1)) (nth_world f n w) ≡ record { after = (f (nth_world f n w)).after; outs = (f (nth_world f n w)).out ∷ [] } =
    ap (λ b. cond b (behind_outs ((f (nth_world f n w)).out ∷ []) (repeated f (times - n - 1) (f (nth_world f n w)).after))
    (record { after = (f (nth_world f n w)).after; outs = (f (nth_world f n w)).out ∷ [] })) stop in
    let e : repeated f times w ≡ behind_outs (nth_outs f n w) (record { after = (f (nth_world f n w)).after; outs = (f (nth_world f n w)).out ∷ [] }) =
    ap (λ m. repeated f m w) {x = times} {y = n + suc (times - n - 1)} (omega (arith, low)) ∙ repeated_from f n (suc (times - n - 1)) w g.goes
    ∙ ap (behind_outs (nth_outs f n w)) rest in
    subst (λ (s : Stepped). Prints s before last h') (sym e)
    (record {
      text = texts_more (nth_outs f n w) one before after last g.text (d.text ∙ ap (λ t. after ++ t) (sym (text_one (f (nth_world f n w)).out)));
      stands = d.stands;
    })

-- what is left where a take or an enqueue wants memory
pub take_failed : (w : World) (connection times : ℕ) (h : Hub) → FailedBehind (take_once connection) w times h → FailedIn w (step.Take connection) times h
take_failed w connection times h f =
    (f.quiet.after, record { done = f.done; fewer = f.fewer; goes = f.goes; passed = f.quiet.passed }, f.quiet.stands)

pub enqueue_failed : (w : World) (connection sub rank times : ℕ) (h : Hub) → DidFewer (enqueue_once connection sub rank) w times h
    → FailedIn w (step.Enqueue connection sub rank) times h
enqueue_failed w connection sub rank times h f =
    (nth_world (enqueue_once connection sub rank) f.done w, record { done = f.done; fewer = f.fewer; goes = f.goes; is = refl }, f.stands)
