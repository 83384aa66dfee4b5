-- Which lines are kept, computed by the definitions alone.
use Rattle.std.proofs.Common.{◌≡◌, ℕ, List, [], ◌∷◌, ◌++◌, replicate, refl}
use Rattle.ls_keep.specs.Keeping.{Numbered, least_keeping, pushed, marked, resumed}

-- lines of one byte
abbrev lines : ℕ → List (List ℕ)
lines n = replicate n (97 ∷ [])

most_lines : least_keeping (lines 1024) ≡ 0
most_lines = refl

more_lines : least_keeping (lines 1030) ≡ 6
more_lines = refl

-- 1,024 lines of 256 bytes have 262,144 bytes
abbrev long_lines : ℕ → List (List ℕ)
long_lines n = replicate n (replicate 256 97)

most_bytes : least_keeping (long_lines 1024) ≡ 0
most_bytes = refl

more_bytes : least_keeping (replicate 257 97 ∷ long_lines 1023) ≡ 1
more_bytes = refl

-- the last of 1,030 lines is given, and the first six are given up
abbrev numbered : ℕ → ℕ → Numbered
numbered sent given_up = record { texts = lines 1030; sent = sent; given_up = given_up }

last_given : marked (numbered 1029 5) ≡ numbered 1030 6
last_given = refl

-- no line is given up before it was given, and the given-up number never falls
unsent : marked (numbered 3 0) ≡ numbered 4 4
unsent = refl

never_falls : marked (numbered 9 9) ≡ numbered 10 9
never_falls = refl

-- a line is numbered that is too long for all to be kept, as the first one was given, and as it wasn't
abbrev with_long_lines : ℕ → ℕ → List (List ℕ) → Numbered
with_long_lines sent given_up more = record { texts = long_lines 1023 ++ more; sent = sent; given_up = given_up }

too_long : pushed (replicate 257 97) (with_long_lines 1 0 []) ≡ with_long_lines 1 1 (replicate 257 97 ∷ [])
too_long = refl

too_long_unsent : pushed (replicate 257 97) (with_long_lines 0 0 []) ≡ with_long_lines 0 0 (replicate 257 97 ∷ [])
too_long_unsent = refl

-- a client that goes back gives up none
gone_back : resumed 6 (numbered 1030 6) ≡ numbered 6 6
gone_back = refl
