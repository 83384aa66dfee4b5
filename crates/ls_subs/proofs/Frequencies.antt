-- The greatest frequency of an item, and the tick of its last update.
use Rattle.std.proofs.Common.{◌≡◌, ◌≤◌, ℕ, refl, subst, cond, Bool, true, false, Option, Some}
use Rattle.ls_budget.specs.Kept.{KeptFrequency, StandsFrequency}
use Rattle.ls_value.specs.declared.limits.TheConstants.{GREATEST_TICK}
use Rattle.ls_mirror.specs.Client.{What}
use Rattle.ls_record.specs.Lines.{is_update}
use Rattle.ls_subs.specs.Kept.{spent_by}

-- another greatest frequency
pub limited_stands : (k : KeptFrequency) (old f last : Option ℕ) → StandsFrequency k old last → StandsFrequency (record k { frequency = f }) f last
limited_stands k old f last s = record { frequency_is = refl; last_is = s.last_is; last_most = s.last_most }

-- a line that tells what came
pub spent_stands : (k : KeptFrequency) (now : ℕ) (what : What) (f last : Option ℕ) → now ≤ GREATEST_TICK → StandsFrequency k f last
    → StandsFrequency (spent_by now (Some what) k) f (cond (is_update what) (Some now) last)
spent_stands k now what f last low s = by_test (is_update what)
  where
    by_test : (b : Bool) → StandsFrequency (cond b (record k { last = Some now }) k) f (cond b (Some now) last)
    by_test true =
        record {
          frequency_is = s.frequency_is;
          last_is = refl;
          last_most = λ n e.
              let same : now ≡ n = cc in
              subst (λ m. m ≤ GREATEST_TICK) same low;
        }
    by_test false = s
