-- What a step of the converter takes of a log.
use Rattle.std.specs.Prelude.{ℕ, ◌≡◌, ◌+◌, ◌-◌, ◌^◌, ◌<◌, ◌≤◌, Bool, false, List, [], ◌++◌, length, flat_map, Option, Some, IfSome}
use Rattle.lackey_regions.specs.declared.memory.Memory.{Memory}
use Rattle.lackey_regions.specs.declared.refusal.Refusal.TheVariants.{MoreRegions}
use Rattle.lackey_regions.specs.LineCalls.{MadeAt}
use Rattle.lackey_regions.specs.Held.{regions_of}
use Rattle.lackey_regions.specs.Refusals.{most_regions}
use Rattle.from_lackey.specs.declared.convert.Converter.{Converter}
use Rattle.from_lackey.specs.declared.log.Log.{Log}
use Rattle.from_lackey.specs.declared.log.Taken.{Taken}
use Rattle.from_lackey.specs.declared.log.Taken.TheVariants.{Part, All}
use Rattle.from_lackey.specs.declared.stop.Stop.{Stop}
use Rattle.from_lackey.specs.declared.stop.Stop.TheVariants.{Line as AtLine, ReadFault}
use Rattle.from_lackey.specs.Converted.{IsRefused}
use Rattle.from_lackey.specs.LineWords.{log_words}
use Rattle.from_lackey.specs.Log.{Passed, lines_of}

-- of the log these lines were passed, and at least so many bytes; or they are all of its lines, and the source has no more
abbrev pub IsTaken : Taken → ℕ → Option (List ℕ) → List (List ℕ) → (long : Bool) → (ahead : List ℕ) → (left : Option (List ℕ)) → Type 0
IsTaken Part n before lines long ahead left = Passed n before lines long ahead left
IsTaken All n before lines long ahead left = IfSome before (λ bytes. (lines_of bytes ≡ lines) × (left ≡ Some []))

-- Behind these lines one more was taken, or none where a piece of one that is too long was or nothing was left; it became the calls that the new
-- converter has, and was counted.
pub record Took (taken : Taken) (n : ℕ) (before : Option (List ℕ)) (lines : List (List ℕ)) (log : Log) (left : Option (List ℕ))
    (old new : Converter) : Type 0 where
  pub more : List (List ℕ)
  pub one : length more ≤ 1
  pub is_taken : IsTaken taken (n + 1) before (lines ++ more) log.long log.ahead left
  pub made : MadeAt new.memory.layout [] new.calls.items (flat_map (log_words old.instructions) more)
  pub counts : old.counts.lines < 2 ^ 64 - 1 → new.counts.lines ≡ old.counts.lines + length more

-- it stopped for a read or a line
abbrev pub IsOfLog : Stop → Type 0
IsOfLog ReadFault = Unit {0}
IsOfLog (AtLine number refusal) = Unit {0}
IsOfLog stop = ⊥

-- The line of the number behind so many becomes no calls, and isn't too long.
abbrev pub IsRefusedAt : ℕ → List (Option ℕ) → Bool → List ℕ → Stop → Type 0
IsRefusedAt counted places long line (AtLine number refusal) = (long ≡ false) × (counted < 2 ^ 64 - 1 → number ≡ counted + 1) × IsRefused places refusal line
IsRefusedAt counted places long line stop = ⊥

-- where a line is refused for its regions, the space has as many as can be
abbrev pub HasFullSpace : Memory → Stop → Type 0
HasFullSpace memory (AtLine number refusal) = refusal ≡ MoreRegions → length (regions_of memory) ≡ most_regions
HasFullSpace memory stop = Unit {0}
