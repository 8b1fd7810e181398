-- How a source, a sink and stores are seen, and how a call that reads and writes left them.
use Rattle.std.specs.Prelude.{ℕ, List, Option}
use Rattle.pager_model.specs.declared.entry.Numbered.{Numbered}
use Rattle.pager_model.specs.Scripts.{Script}
use Rattle.pager_model.specs.Stored.{Stored}
use Rattle.pager_command.specs.declared.outcome.Outcome.{Outcome}

-- How a sink and a store are seen: a sink tells its bytes by `taken` and its faults by `write_faults`, and a store itself by `seen`.
pub record OutViews (K P : Type 0) : Type 0 where
  pub taken : K → Option (List ℕ)
  pub write_faults : K → ℕ
  pub seen : P → Stored

-- How a source is seen beside them: it tells its bytes by `left` and its faults by `read_faults`.
pub record Views (T K P : Type 0) : Type 0 where
  pub left : T → Option (List ℕ)
  pub read_faults : T → ℕ
  pub out : OutViews K P

abbrev pub out_views : {K P : Type 0} (taken : K → Option (List ℕ)) (write_faults : K → ℕ) (seen : P → Stored) → OutViews K P
out_views taken write_faults seen = record { taken = taken; write_faults = write_faults; seen = seen }

abbrev pub views : {T K P : Type 0}
    → (T → Option (List ℕ)) → (T → ℕ) → (K → Option (List ℕ)) → (K → ℕ) → (P → Stored) → Views T K P
views left read_faults taken write_faults seen = record { left = left; read_faults = read_faults; out = out_views taken write_faults seen }

-- The two ends of a run: where it reads and where it writes.
pub record Ends (T K : Type 0) : Type 0 where
  pub source : T
  pub sink : K

abbrev pub ends : {T K : Type 0} (source : T) (sink : K) → Ends T K
ends source sink = record { source = source; sink = sink }

-- How a call that writes ended: the sink before and after it, and the outcome.
pub record Ending (K P : Type 0) : Type 0 where
  pub before : K
  pub after : K
  pub outcome : Outcome P

abbrev pub ending : {K P : Type 0} (before after : K) (outcome : Outcome P) → Ending K P
ending before after outcome = record { before = before; after = after; outcome = outcome }

-- A run that was made: its trace, the stores as they were before it, and its history.
pub record Replayed : Type 0 where
  pub script : Script
  pub stores : List Stored
  pub history : List Numbered

abbrev pub replayed : (script : Script) (stores : List Stored) (history : List Numbered) → Replayed
replayed script stores history = record { script = script; stores = stores; history = history }
