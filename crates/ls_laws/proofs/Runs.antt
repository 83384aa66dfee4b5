-- Two runs that differ in what is done elsewhere tell a session the same.
use Rattle.std.proofs.Common.{◌≡◌, ◌==◌, ℕ, ◌<◌, List, [], ◌∷◌, ◌++◌, length, refl, sym, ◌∙◌, ap, subst, cond, Bool, true, false, Option, Some, None}
use Rattle.std.proofs.Common.{slice_get, option_map, codes}
use Rattle.std.specs.Option.{option_map_or}
use Rattle.std.proofs.lemmas.Bool.{eqb-true, eq-eqb}
use Rattle.std.proofs.lemmas.Option.{slice_get_within}
use Rattle.ls_form.specs.Forms.{form_of}
use Rattle.ls_request.specs.declared.request.LinkKind.TheVariants as link
use Rattle.ls_request.specs.declared.request.Request.{Request}
use Rattle.ls_request.specs.declared.request.Request.TheVariants as request
use Rattle.ls_step.specs.declared.step.Step.{Step}
use Rattle.ls_step.specs.declared.step.Step.TheVariants as step
use Rattle.ls_step.specs.declared.step.Repeat.{Repeat}
use Rattle.ls_step.specs.Adding.{add_pairs}
use Rattle.ls_world.specs.World.{World}
use Rattle.ls_record.specs.Records.{Session}
use Rattle.ls_world.specs.Steps.{link_of, does, does_all}
use Rattle.ls_record.specs.Acting.{request_over}
use Rattle.ls_value.specs.Each.{Each}
use Rattle.ls_record.proofs.Each.{each_map, each_both, each_contains}
use Rattle.ls_world.proofs.Knowing.{does_counts}
use Rattle.ls_laws.specs.Alone.{unnumbered, Seen, connection_of, session_asked, session_meant, is_own, after, told, RunStep, First, Second, Own, Shared}
use Rattle.ls_laws.specs.Alone.{firsts, seconds, HaveSame, LeavesShared, IsElsewhere, DifferElsewhere}
use Rattle.ls_laws.proofs.Others.{session_left, tick_left, by_clock, session_clocked, connection_left, AreThere, stay_there}
use Rattle.ls_laws.proofs.Unnumbered.{timed_out_same}
use Rattle.ls_lawful.proofs.Asked.{element_found}
use Rattle.ls_laws.proofs.Alone.{Alike, StepsAs, same_line, same_link, same_place, same_named, the_same, own_alike}

-- a step elsewhere that leaves the items and the clock
left_alike : (n c : ℕ) (w : World) (r : Repeat) → AreThere n c w → is_own n w r.step ≡ false → (connection_of r.step ≡ Some c → ⊥) → LeavesShared w r
    → Alike n c (after w r) w
left_alike n c w r there other apart kept =
    let sessions : slice_get (after w r).sessions n ≡ slice_get w.sessions n = session_left w n r.step r.times there.session other kept.clock in
    λ i. record {
      items = kept.items i;
      tick = tick_left w r.step r.times kept.clock i;
      line = does_counts w r.step r.times i;
      connection = connection_left w c r.step r.times there.connection apart i;
      session = option_map unnumbered (sessions i);
    }

-- and one that is shared, which may end a session as it sets the clock
clocked_same : (s : Step) (o : Option Session) → option_map unnumbered (option_map (by_clock s) o) ≡ option_map (by_clock s) (option_map unnumbered o)
clocked_same s None = refl
clocked_same (step.Set name) (Some x) = refl
clocked_same (step.Item name k fields) (Some x) = refl
clocked_same (step.Tick ms) (Some x) = ap Some (sym (timed_out_same ms x))
clocked_same (step.Conn name l) (Some x) = refl
clocked_same (step.Open name) (Some x) = refl
clocked_same (step.Add connection words) (Some x) = refl
clocked_same (step.Request connection name parameters) (Some x) = refl
clocked_same (step.Publish adapter seq item cells) (Some x) = refl
clocked_same (step.Clear adapter seq item) (Some x) = refl
clocked_same (step.Enqueue connection sub rank) (Some x) = refl
clocked_same (step.Take connection) (Some x) = refl
clocked_same (step.Lose connection) (Some x) = refl

session_shared : (n c : ℕ) (w : World) (r : Repeat) → AreThere n c w → is_own n w r.step ≡ false → option_map unnumbered (slice_get (after w r).sessions n)
    ≡ option_map (by_clock r.step) (option_map unnumbered (slice_get w.sessions n))
session_shared n c w r there other =
    ap (option_map unnumbered) (session_clocked w n r.step r.times there.session other) ∙ clocked_same r.step (slice_get w.sessions n)

shared_alike : (n c : ℕ) (w v : World) (r : Repeat) → AreThere n c w → AreThere n c v → is_own n w r.step ≡ false → is_own n v r.step ≡ false
    → (connection_of r.step ≡ Some c → ⊥) → HaveSame (after w r) (after v r) → Alike n c w v → Alike n c (after w r) (after v r)
shared_alike n c w v r there there' other other' apart same e =
    let sessions : option_map unnumbered (slice_get (after w r).sessions n) ≡ option_map unnumbered (slice_get (after v r).sessions n) =
    session_shared n c w r there other
    ∙ (ap (λ (z : Seen). option_map (by_clock r.step) z.session) e ∙ sym (session_shared n c v r there' other')) in
    let connections : slice_get (after w r).connections c ≡ slice_get (after v r).connections c =
    connection_left w c r.step r.times there.connection apart
    ∙ (ap (λ (z : Seen). z.connection) e ∙ sym (connection_left v c r.step r.times there'.connection apart)) in
    let lines : (after w r).line ≡ (after v r).line = does_counts w r.step r.times ∙ (same_line n c w v e ∙ sym (does_counts v r.step r.times)) in
    λ i. record { items = same.items i; tick = same.tick i; line = lines i; connection = connections i; session = sessions i }

-- a step on the connection is of the same session in both
same_asked : (n c : ℕ) (w v : World) (o : Option Request) → Alike n c w v → session_asked w c o ≡ session_asked v c o
same_asked n c w v None e = same_place n c w v e
same_asked n c w v (Some (request.Create x)) e = refl
same_asked n c w v (Some (request.Bind x)) e = same_named n c w v (Some x.session) e
same_asked n c w v (Some (request.Control x)) e = same_named n c w v x.session e
same_asked n c w v (Some request.Wsok) e = same_place n c w v e

abbrev SameMeant : World → World → Step → Type 0
SameMeant w v s = session_meant w s ≡ session_meant v s

same_meant : (n c : ℕ) (w v : World) (s : Step) → Alike n c w v → connection_of s ≡ Some c → SameMeant w v s
same_meant n c w v (step.Set name) e at = refl
same_meant n c w v (step.Item name k fields) e at = refl
same_meant n c w v (step.Tick ms) e at = refl
same_meant n c w v (step.Conn name l) e at = refl
same_meant n c w v (step.Open name) e at = refl
same_meant n c w v (step.Add x words) e at =
    subst (λ y. SameMeant w v (step.Add y words)) (sym (the_same x c at))
    (same_asked n c w v (request_over link.Ws (codes "control") (add_pairs w.line words)) e
    ∙ ap (λ k. session_asked v c (request_over link.Ws (codes "control") (add_pairs k words))) (same_line n c w v e))
same_meant n c w v (step.Request x name parameters) e at =
    subst (λ y. SameMeant w v (step.Request y name parameters)) (sym (the_same x c at))
    (same_asked n c w v (request_over (link_of w c) name (form_of parameters)) e
    ∙ ap (λ l. session_asked v c (request_over l name (form_of parameters))) (same_link n c w v e))
same_meant n c w v (step.Publish adapter seq item cells) e at = refl
same_meant n c w v (step.Clear adapter seq item) e at = refl
same_meant n c w v (step.Enqueue x sub rank) e at = subst (λ y. SameMeant w v (step.Enqueue y sub rank)) (sym (the_same x c at)) (same_place n c w v e)
same_meant n c w v (step.Take x) e at = subst (λ y. SameMeant w v (step.Take y)) (sym (the_same x c at)) (same_place n c w v e)
same_meant n c w v (step.Lose x) e at = subst (λ y. SameMeant w v (step.Lose y)) (sym (the_same x c at)) (same_place n c w v e)

-- a step of the session's own on one connection, as it is seen on another one
own_elsewhere : (n c d : ℕ) (w v : World) (r : Repeat) → connection_of r.step ≡ Some c → StepsAs (Alike n c) (does w r.step r.times) (does v r.step r.times)
    → AreThere n d w → AreThere n d v → Alike n d w v → Alike n d (after w r) (after v r)
own_elsewhere n c d w v r on s there there' e = by_test (c == d) refl
  where
    differ : (c == d) ≡ false → connection_of r.step ≡ Some d → ⊥
    differ t is = let x : true ≡ false = sym (eq-eqb c d (the_same c d (sym on ∙ is))) ∙ t in cc

    by_test : (b : Bool) → (c == d) ≡ b → Alike n d (after w r) (after v r)
    by_test true t = subst (λ k. Alike n k (after w r) (after v r)) (eqb-true c d t) s.after
    by_test false t =
        let connections : slice_get (after w r).connections d ≡ slice_get (after v r).connections d =
        connection_left w d r.step r.times there.connection (differ t)
        ∙ (ap (λ (z : Seen). z.connection) e ∙ sym (connection_left v d r.step r.times there'.connection (differ t))) in
        λ i. record {
          items = (s.after i).items;
          tick = (s.after i).tick;
          line = (s.after i).line;
          connection = connections i;
          session = (s.after i).session;
        }

-- what is true of each connection
abbrev AllThere : ℕ → List ℕ → World → Type 0
AllThere n cs w = Each (λ c. AreThere n c w) cs

abbrev AllAlike : ℕ → List ℕ → World → World → Type 0
AllAlike n cs w v = Each (λ c. Alike n c w v) cs

each_with : (P Q R : ℕ → Type 0) (cs : List ℕ) → ((c : ℕ) → P c → Q c → R c) → Each P cs → Each Q cs → Each R cs
each_with P Q R [] f p q = tt
each_with P Q R (c ∷ cs) f p q = (f c p.0 q.0, each_with P Q R cs f p.1 q.1)

all_stay : (n : ℕ) (cs : List ℕ) (w : World) (r : Repeat) → AllThere n cs w → AllThere n cs (after w r)
all_stay n cs w r there = each_map (λ c. AreThere n c w) (λ c. AreThere n c (after w r)) cs (λ c t. stay_there n c w r.step r.times t) there

all_left : (n : ℕ) (cs : List ℕ) (w : World) (r : Repeat) → AllThere n cs w → IsElsewhere n cs w r → LeavesShared w r → AllAlike n cs (after w r) w
all_left n cs w r there other kept =
    each_with (λ c. AreThere n c w) (λ c. connection_of r.step ≡ Some c → ⊥) (λ c. Alike n c (after w r) w) cs
    (λ c t apart. left_alike n c w r t other.session apart kept) there other.apart

all_before : (n : ℕ) (cs : List ℕ) (w v u : World) → AllAlike n cs w v → AllAlike n cs v u → AllAlike n cs w u
all_before n cs w v u e f = each_with (λ c. Alike n c w v) (λ c. Alike n c v u) (λ c. Alike n c w u) cs (λ c p q. p ∙ q) e f

all_back : (n : ℕ) (cs : List ℕ) (w v : World) → AllAlike n cs w v → AllAlike n cs v w
all_back n cs w v e = each_map (λ c. Alike n c w v) (λ c. Alike n c v w) cs (λ c p. sym p) e

-- both runs
record Runs (n : ℕ) (cs : List ℕ) (w v : World) (ms : List RunStep) : Type 0 where
  told : told n w (firsts ms) ≡ told n v (seconds ms)
  seen : AllAlike n cs (does_all w (firsts ms)) (does_all v (seconds ms))

none_told : (n : ℕ) (w : World) (r : Repeat) (rs : List Repeat) → is_own n w r.step ≡ false → told n w (r ∷ rs) ≡ told n (after w r) rs
none_told n w r rs other = ap (λ b. cond b (does w r.step r.times).outs [] ++ told n (after w r) rs) other

some_told : (n : ℕ) (w : World) (r : Repeat) (rs : List Repeat) → is_own n w r.step ≡ true
    → told n w (r ∷ rs) ≡ (does w r.step r.times).outs ++ told n (after w r) rs
some_told n w r rs own = ap (λ b. cond b (does w r.step r.times).outs [] ++ told n (after w r) rs) own

runs : (n : ℕ) (cs : List ℕ) (w v : World) (ms : List RunStep) → AllThere n cs w → AllThere n cs v → AllAlike n cs w v → DifferElsewhere n cs w v ms
    → Runs n cs w v ms
runs n cs w v [] there there' e d = record { told = refl; seen = e }
runs n cs w v (First r ∷ ms) there there' e d =
    let k : Runs n cs (after w r) v ms =
    runs n cs (after w r) v ms (all_stay n cs w r there) there' (all_before n cs (after w r) w v (all_left n cs w r there d.0 d.1) e) d.2 in
    record { told = none_told n w r (firsts ms) d.0.session ∙ k.told; seen = k.seen }
runs n cs w v (Second r ∷ ms) there there' e d =
    let k : Runs n cs w (after v r) ms =
    runs n cs w (after v r) ms there (all_stay n cs v r there')
    (all_before n cs w v (after v r) e (all_back n cs (after v r) v (all_left n cs v r there' d.0 d.1))) d.2 in
    record { told = k.told ∙ sym (none_told n v r (seconds ms) d.0.session); seen = k.seen }
runs n cs w v (Own r ∷ ms) there there' e d =
    let c : ℕ = d.0.connection in
    let here : Alike n c w v = each_contains (λ x. Alike n x w v) c cs e d.0.is_in in
    let s : StepsAs (Alike n c) (does w r.step r.times) (does v r.step r.times) = own_alike n c w v r.step r.times here d.0.on d.0.session d.0.room in
    let after_both : AllAlike n cs (after w r) (after v r) =
    each_with (λ x. AreThere n x w × AreThere n x v) (λ x. Alike n x w v) (λ x. Alike n x (after w r) (after v r)) cs
    (λ x t p. own_elsewhere n c x w v r d.0.on s t.0 t.1 p) (each_both (λ x. AreThere n x w) (λ x. AreThere n x v) cs there there') e in
    let k : Runs n cs (after w r) (after v r) ms =
    runs n cs (after w r) (after v r) ms (all_stay n cs w r there) (all_stay n cs v r there') after_both d.1 in
    let own : is_own n v r.step ≡ true = ap (λ o. option_map_or (λ m. m == n) o false) (sym (same_meant n c w v r.step here d.0.on)) ∙ d.0.session in
    record {
      told = some_told n w r (firsts ms) d.0.session ∙ ((λ i. s.outs i ++ k.told i) ∙ sym (some_told n v r (seconds ms) own));
      seen = k.seen;
    }
runs n cs w v (Shared r ∷ ms) there there' e d =
    let after_both : AllAlike n cs (after w r) (after v r) =
    each_with (λ x. AreThere n x w × AreThere n x v) (λ x. (connection_of r.step ≡ Some x → ⊥) × Alike n x w v)
    (λ x. Alike n x (after w r) (after v r)) cs (λ x t p. shared_alike n x w v r t.0 t.1 d.0.session d.1.session p.0 d.2 p.1)
    (each_both (λ x. AreThere n x w) (λ x. AreThere n x v) cs there there')
    (each_both (λ x. connection_of r.step ≡ Some x → ⊥) (λ x. Alike n x w v) cs d.0.apart e) in
    let k : Runs n cs (after w r) (after v r) ms =
    runs n cs (after w r) (after v r) ms (all_stay n cs w r there) (all_stay n cs v r there') after_both d.3 in
    record { told = none_told n w r (firsts ms) d.0.session ∙ (k.told ∙ sym (none_told n v r (seconds ms) d.1.session)); seen = k.seen }

-- what is there in one world is there in the other
there_too : (n c : ℕ) (w v : World) → Alike n c w v → AreThere n c w → AreThere n c v
there_too n c w v e there =
    let s = element_found w.sessions n there.session in
    let k = element_found w.connections c there.connection in
    record {
      session = by_found (slice_get v.sessions n) refl (sym (ap (option_map unnumbered) s.1) ∙ ap (λ (z : Seen). z.session) e);
      connection = slice_get_within v.connections c k.0 (sym (ap (λ (z : Seen). z.connection) e) ∙ k.1);
    }
  where
    by_found : {x : Session} (o : Option Session) → slice_get v.sessions n ≡ o → Some x ≡ option_map unnumbered o → n < length v.sessions
    by_found {x} None is same = absurd (let y : Some x ≡ None = same in cc)
    by_found (Some t) is same = slice_get_within v.sessions n t is

all_runs : (n : ℕ) (cs : List ℕ) (w v : World) (ms : List RunStep) → n < length w.sessions → Each (λ c. c < length w.connections) cs → AllAlike n cs w v
    → DifferElsewhere n cs w v ms → Runs n cs w v ms
all_runs n cs w v ms session connections e d =
    let there : AllThere n cs w =
    each_map (λ c. c < length w.connections) (λ c. AreThere n c w) cs (λ c l. record { session = session; connection = l }) connections in
    runs n cs w v ms there
    (each_with (λ c. Alike n c w v) (λ c. AreThere n c w) (λ c. AreThere n c v) cs (λ c p t. there_too n c w v p t) e there) e d

pub told_alike : (n : ℕ) (cs : List ℕ) (w v : World) (ms : List RunStep) → n < length w.sessions → Each (λ c. c < length w.connections) cs
    → AllAlike n cs w v → DifferElsewhere n cs w v ms → told n w (firsts ms) ≡ told n v (seconds ms)
told_alike n cs w v ms session connections e d = (all_runs n cs w v ms session connections e d).told

pub seen_alike : (n : ℕ) (cs : List ℕ) (w v : World) (ms : List RunStep) → n < length w.sessions → Each (λ c. c < length w.connections) cs
    → AllAlike n cs w v → DifferElsewhere n cs w v ms → AllAlike n cs (does_all w (firsts ms)) (does_all v (seconds ms))
seen_alike n cs w v ms session connections e d = (all_runs n cs w v ms session connections e d).seen
