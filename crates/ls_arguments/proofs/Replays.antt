-- The words of a replay.
use Rattle.std.proofs.Common.{◌≡◌, ℕ, List, [], ◌∷◌, Bool, true, false, cond, refl, ap₂, codes, Option, Some, None}
use Rattle.std.specs.Str.{bytes_eq}
use Rattle.std.proofs.lemmas.Slice.Eq.{bytes_eq-Decides}
use Rattle.ls_arguments.specs.CommandLines.{command_line_of, long_in, port_in, replay_said, serve_said, serve_until, serve_with, soak_said, soak_with, steps_in}
use Rattle.ls_arguments.specs.declared.command_line.CommandLine.TheVariants as line

-- no server is a replay, and no soak
serve_with_ports : (port feed end : Option ℕ) → serve_with port feed end ≡ Some line.Replay → ⊥
serve_with_ports None None end h = cc h
serve_with_ports None (Some feed) end h = cc h
serve_with_ports (Some port) None end h = cc h
serve_with_ports (Some port) (Some feed) end h = cc h

serve_with_end : (port feed end : Option ℕ) → serve_until port feed end ≡ Some line.Replay → ⊥
serve_with_end port feed None h = cc h
serve_with_end port feed (Some tick) h = serve_with_ports port feed (Some tick) h

soak_with_numbers : (start steps : Option ℕ) → soak_with start steps ≡ Some line.Replay → ⊥
soak_with_numbers None None h = cc h
soak_with_numbers None (Some steps) h = cc h
soak_with_numbers (Some start) None h = cc h
soak_with_numbers (Some start) (Some steps) h = cc h

no_server : (words : List (List ℕ)) → serve_said words ≡ Some line.Replay → ⊥
no_server [] h = cc h
no_server (port ∷ []) h = cc h
no_server (port ∷ feed ∷ []) h = serve_with_ports (port_in port) (port_in feed) None h
no_server (port ∷ feed ∷ end ∷ []) h = serve_with_end (port_in port) (port_in feed) (long_in end) h
no_server (port ∷ feed ∷ end ∷ more ∷ rest) h = cc h

no_soak : (words : List (List ℕ)) → soak_said words ≡ Some line.Replay → ⊥
no_soak [] h = cc h
no_soak (start ∷ []) h = cc h
no_soak (start ∷ steps ∷ []) h = soak_with_numbers (long_in start) (steps_in steps) h
no_soak (start ∷ steps ∷ more ∷ rest) h = cc h

alone : (words : List (List ℕ)) → replay_said words ≡ Some line.Replay → words ≡ []
alone [] h = refl
alone (more ∷ rest) h = absurd (cc h)

by_name : (name : List ℕ) (words : List (List ℕ)) (r s k : Bool) → bytes_eq name (codes "replay") ≡ r
    → cond r (replay_said words) (cond s (serve_said words) (cond k (soak_said words) None)) ≡ Some line.Replay → name ∷ words ≡ codes "replay" ∷ []
by_name name words true s k is h = ap₂ (λ (x : List ℕ) (xs : List (List ℕ)). x ∷ xs) ((bytes_eq-Decides name (codes "replay")).0 is) (alone words h)
by_name name words false true k is h = absurd (no_server words h)
by_name name words false false true is h = absurd (no_soak words h)
by_name name words false false false is h = absurd (cc h)

-- the only words of a replay
pub replay_words : (words : List (List ℕ)) → command_line_of words ≡ Some line.Replay → words ≡ codes "replay" ∷ []
replay_words [] h = absurd (cc h)
replay_words (name ∷ words) h =
    by_name name words (bytes_eq name (codes "replay")) (bytes_eq name (codes "serve")) (bytes_eq name (codes "soak")) refl h
