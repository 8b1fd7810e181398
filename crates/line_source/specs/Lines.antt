-- The bytes that are to come, and what stands at their front.
use Rattle.std.specs.Prelude.{ℕ, ◌≡◌, ◌≢◌, ◌≤◌, List, [], ◌∷◌, ◌++◌, length, option_map, Option, Some, IfSome}
use Rattle.std.specs.List.{AllByRecursion}
use Rattle.line_source.specs.declared.Next.{Next}
use Rattle.line_source.specs.declared.Next.TheVariants.{Line, Long, Rest}

-- those that were read, and behind them those that the source has left, where it tells them
abbrev pub seen : List ℕ → Option (List ℕ) → Option (List ℕ)
seen ahead left = option_map (λ bytes. ahead ++ bytes) left

-- none of the bytes is a line feed
abbrev pub HasNoFeed : List ℕ → Type 0
HasNoFeed bytes = AllByRecursion (λ b. b ≢ 10) bytes

-- the bytes begin with so many that are no line feed, and then with one
abbrev pub IsLineAt : ℕ → List ℕ → Type 0
IsLineAt n bytes = (line : List ℕ) × (rest : List ℕ) × (bytes ≡ line ++ 10 ∷ rest) × (length line ≡ n) × HasNoFeed line

-- What stands at the front of the bytes that were read: a line; a whole piece without a line feed; or a rest, and then the source, where it told
-- its bytes before, has no more now.
abbrev pub IsNext : Next → List ℕ → (before now : Option (List ℕ)) → Type 0
IsNext (Line n) ahead before now = IsLineAt n ahead
IsNext Long ahead before now = (length ahead ≡ 4096) × HasNoFeed ahead
IsNext (Rest n) ahead before now = (length ahead ≡ n) × (n ≤ 4095) × HasNoFeed ahead × IfSome before (λ _. now ≡ Some [])
