-- What a sink has gained of a text.
use Rattle.std.specs.Prelude.{ℕ, ◌≡◌, ◌<◌, List, ◌++◌, length, take, Option, Some, IfSome}

-- where the sink tells its bytes, it has gained exactly the text
abbrev pub WroteAll : List ℕ → Option (List ℕ) → Option (List ℕ) → Type 0
WroteAll text before after = IfSome before (λ had. after ≡ Some (had ++ text))

-- or a beginning of it
abbrev pub WrotePart : List ℕ → Option (List ℕ) → Option (List ℕ) → Type 0
WrotePart text before after = IfSome before (λ had. (k : ℕ) × (k < length text) × (after ≡ Some (had ++ take k text)))
