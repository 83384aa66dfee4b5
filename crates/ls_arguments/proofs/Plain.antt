-- Words of which one is empty or begins with `-` are no command line.
use Rattle.std.proofs.Common.{◌≡◌, ℕ, List, [], ◌∷◌, ◌&&◌, Bool, true, false, cond, refl, sym, ◌∙◌, ap, subst, codes, nat_eq, not, Option, Some, None}
use Rattle.std.proofs.Common.{eqb-true}
use Rattle.std.specs.List.{list_all}
use Rattle.std.specs.Str.{bytes_eq}
use Rattle.ls_words.specs.Numbers.{number_in}
use Rattle.ls_arguments.specs.CommandLines.{command_line_of, is_plain, line_named, long_in, port_in, replay_said, serve_between, serve_said, serve_until, serve_with, soak_between, soak_said, soak_with, steps_in}
use Rattle.ls_arguments.specs.declared.command_line.CommandLine.{CommandLine}

-- a test that is false, and one that is true
pub is_false : (b : Bool) → not b ≡ true → b ≡ false
is_false true h = cc
is_false false h = refl

is_true : (b : Bool) → not b ≡ false → b ≡ true
is_true true h = refl
is_true false h = cc

pub left : (a b : Bool) → (a && b) ≡ true → a ≡ true
left true b h = refl
left false b h = cc

pub right : (a b : Bool) → (a && b) ≡ true → b ≡ true
right true b h = h
right false b h = cc

-- a word that isn't plain says no number
number_unplain : (w : List ℕ) (low high : ℕ) → is_plain w ≡ false → number_in w low high ≡ None
number_unplain [] low high h = refl
number_unplain (b ∷ bs) low high h =
    let e : b ≡ 45 = eqb-true b 45 (is_true (nat_eq b 45) h) in
    subst (λ (x : ℕ). number_in (x ∷ bs) low high ≡ None) (sym e) (hyphen bs)
  where
    hyphen : (cs : List ℕ) → number_in (45 ∷ cs) low high ≡ None
    hyphen [] = refl
    hyphen (c ∷ cs) = refl

-- a word that isn't plain is no command's name
unnamed : (w : List ℕ) (words : List (List ℕ)) → is_plain w ≡ false → line_named w words ≡ None
unnamed [] words h = refl
unnamed (b ∷ bs) words h =
    let e : b ≡ 45 = eqb-true b 45 (is_true (nat_eq b 45) h) in
    subst (λ (x : ℕ). line_named (x ∷ bs) words ≡ None) (sym e) refl

-- values of which one is none
no_first_port : (feed end : Option ℕ) → serve_with None feed end ≡ None
no_first_port None end = refl
no_first_port (Some feed) end = refl

no_second_port : (port end : Option ℕ) → serve_with port None end ≡ None
no_second_port None end = refl
no_second_port (Some port) end = refl

no_start : (steps : Option ℕ) → soak_with None steps ≡ None
no_start None = refl
no_start (Some steps) = refl

no_steps : (start : Option ℕ) → soak_with start None ≡ None
no_steps None = refl
no_steps (Some start) = refl

no_first_until : (feed end : Option ℕ) → serve_until None feed end ≡ None
no_first_until feed None = refl
no_first_until feed (Some tick) = no_first_port feed (Some tick)

no_second_until : (port end : Option ℕ) → serve_until port None end ≡ None
no_second_until port None = refl
no_second_until port (Some tick) = no_second_port port (Some tick)

two_ports : (p f : List ℕ) (a b : Bool) → is_plain p ≡ a → is_plain f ≡ b → (a && (b && true)) ≡ false → serve_between p f None ≡ None
two_ports p f false b u v h = ap (λ x. serve_with x (port_in f) None) (number_unplain p 0 65535 u) ∙ no_first_port (port_in f) None
two_ports p f true false u v h = ap (λ x. serve_with (port_in p) x None) (number_unplain f 0 65535 v) ∙ no_second_port (port_in p) None
two_ports p f true true u v h = cc

with_end : (p f e : List ℕ) (a b c : Bool) → is_plain p ≡ a → is_plain f ≡ b → is_plain e ≡ c → (a && (b && (c && true))) ≡ false
    → serve_between p f (Some e) ≡ None
with_end p f e false b c u v w h = ap (λ x. serve_until x (port_in f) (long_in e)) (number_unplain p 0 65535 u) ∙ no_first_until (port_in f) (long_in e)
with_end p f e true false c u v w h = ap (λ x. serve_until (port_in p) x (long_in e)) (number_unplain f 0 65535 v) ∙ no_second_until (port_in p) (long_in e)
with_end p f e true true false u v w h = ap (λ x. serve_until (port_in p) (port_in f) x) (number_unplain e 0 999999999999999999 w)
with_end p f e true true true u v w h = cc

start_and_steps : (s t : List ℕ) (a b : Bool) → is_plain s ≡ a → is_plain t ≡ b → (a && (b && true)) ≡ false → soak_between s t ≡ None
start_and_steps s t false b u v h = ap (λ x. soak_with x (steps_in t)) (number_unplain s 0 999999999999999999 u) ∙ no_start (steps_in t)
start_and_steps s t true false u v h = ap (λ x. soak_with (long_in s) x) (number_unplain t 0 1000000 v) ∙ no_steps (long_in s)
start_and_steps s t true true u v h = cc

replay_unplain : (words : List (List ℕ)) → list_all is_plain words ≡ false → replay_said words ≡ None
replay_unplain [] h = cc
replay_unplain (w ∷ words) h = refl

serve_unplain : (words : List (List ℕ)) → list_all is_plain words ≡ false → serve_said words ≡ None
serve_unplain [] h = refl
serve_unplain (p ∷ []) h = refl
serve_unplain (p ∷ f ∷ []) h = two_ports p f (is_plain p) (is_plain f) refl refl h
serve_unplain (p ∷ f ∷ e ∷ []) h = with_end p f e (is_plain p) (is_plain f) (is_plain e) refl refl refl h
serve_unplain (p ∷ f ∷ e ∷ w ∷ words) h = refl

soak_unplain : (words : List (List ℕ)) → list_all is_plain words ≡ false → soak_said words ≡ None
soak_unplain [] h = refl
soak_unplain (s ∷ []) h = refl
soak_unplain (s ∷ t ∷ []) h = start_and_steps s t (is_plain s) (is_plain t) refl refl h
soak_unplain (s ∷ t ∷ w ∷ words) h = refl

-- one of three, and each is none
none_said : (a b c : Bool) (x y z : Option CommandLine) → x ≡ None → y ≡ None → z ≡ None → cond a x (cond b y (cond c z None)) ≡ None
none_said true b c x y z u v w = u
none_said false true c x y z u v w = v
none_said false false true x y z u v w = w
none_said false false false x y z u v w = refl

by_first : (w : List ℕ) (words : List (List ℕ)) (a : Bool) → is_plain w ≡ a → (a && list_all is_plain words) ≡ false → line_named w words ≡ None
by_first w words true u h =
    none_said (bytes_eq w (codes "replay")) (bytes_eq w (codes "serve")) (bytes_eq w (codes "soak")) (replay_said words) (serve_said words) (soak_said words)
    (replay_unplain words h) (serve_unplain words h) (soak_unplain words h)
by_first w words false u h = unnamed w words u

pub unplain : (words : List (List ℕ)) → list_all is_plain words ≡ false → command_line_of words ≡ None
unplain [] h = refl
unplain (w ∷ words) h = by_first w words (is_plain w) refl h
