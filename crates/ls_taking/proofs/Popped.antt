-- The last seat of a subscription is taken out.
use Rattle.std.proofs.Common.{◌≡◌, ◌<◌, ◌↔◌, ℕ, List, [], ◌∷◌, ◌++◌, length, true, false, Option, Some, None, IsSome, IfSome, IfNone, refl, sym, ap, ◌∙◌, append-nil, arith}
use Rattle.std.specs.Option.{option_to_list}
use Rattle.ls_seated.specs.Seats.{SeatSeen}
use Rattle.ls_taking.specs.Groups.{SubSeen}

abbrev pub group_of : ℕ → List SeatSeen → SubSeen
group_of sub seats = record { sub = sub; seats = seats }

pub popped_last : (sub : ℕ) (seats rest : List SeatSeen) (r : Option SeatSeen) → seats ≡ rest ++ option_to_list r
    → IfSome r (λ t. group_of sub seats ≡ group_of sub (rest ++ t ∷ []))
popped_last sub seats rest None are = tt
popped_last sub seats rest (Some t) are = ap (group_of sub) are

-- none was there, where the last one was to be taken out and wasn't
none_there : (seats : List SeatSeen) (count : ℕ) → (IsSome {T = SeatSeen} None ↔ (0 < count)) → count ≡ length seats → seats ≡ []
none_there [] count some is = refl
none_there (t ∷ seats) count some is = absurd (let x : false ≡ true = some.1 (omega (arith, is)) in cc)

pub popped_none : (sub : ℕ) (seats rest : List SeatSeen) (count : ℕ) (r : Option SeatSeen) → seats ≡ rest ++ option_to_list r
    → (IsSome r ↔ (0 < count)) → count ≡ length seats → IfNone r ((seats ≡ []) × (group_of sub rest ≡ group_of sub seats))
popped_none sub seats rest count None are some is =
    (none_there seats count some is, ap (group_of sub) (sym (append-nil rest) ∙ sym are))
popped_none sub seats rest count (Some t) are some is = tt
