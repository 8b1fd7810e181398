-- What goes out to a sink through a room, in which bytes wait until there are enough of them for a piece.
use Rattle.std.specs.Prelude.{ℕ, ◌≡◌, ◌+◌, ◌<◌, ◌≤◌, List, ◌++◌, length, take, Option, Some, IfSome, Result, Ok, Err}
use Rattle.io_core.specs.Faults.{one_more}

-- The bytes that a sink has taken, where it tells them, how many writes there were and how many failed, and the bytes that wait for it.
pub record Outgoing : Type 0 where
  pub taken : Option (List ℕ)
  pub writes : ℕ
  pub faults : ℕ
  pub waiting : List ℕ

abbrev pub outgoing : Option (List ℕ) → ℕ → ℕ → List ℕ → Outgoing
outgoing taken writes faults waiting = record { taken = taken; writes = writes; faults = faults; waiting = waiting }

-- these bytes went out or wait, behind those that waited; each write took a byte at least, and none failed
pub record Sent (old new : Outgoing) (bytes : List ℕ) : Type 0 where
  pub told : IfSome old.taken (λ had. (gone : List ℕ) × (new.taken ≡ Some (had ++ gone)) × (gone ++ new.waiting ≡ old.waiting ++ bytes))
  pub few_writes : new.writes + length new.waiting ≤ old.writes + length (old.waiting ++ bytes)
  pub unfailed : new.faults ≡ old.faults

-- the sink failed once, and of the bytes that waited and these it has taken a beginning that is shorter
pub record SentPart (old new : Outgoing) (bytes : List ℕ) : Type 0 where
  pub told : IfSome old.taken (λ had. (k : ℕ) × (k < length (old.waiting ++ bytes))
      × (new.taken ≡ Some (had ++ take k (old.waiting ++ bytes))))
  pub few_writes : new.writes ≤ old.writes + length (old.waiting ++ bytes)
  pub rose : new.faults ≡ one_more old.faults

-- the bytes were put, as the result says: all of them, or a part
abbrev pub Puts : {E : Type 0} → Result (Unit {0}) E → Outgoing → Outgoing → List ℕ → Type 0
Puts (Ok done) old new bytes = Sent old new bytes
Puts (Err failed) old new bytes = SentPart old new bytes
