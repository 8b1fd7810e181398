-- Fronts of a trace: their setting, and the turns of the daemon that come before their end.
use Rattle.std.proofs.Common.{◌≡◌, ℕ, ◌≤◌, min, List, ◌++◌, length, replicate, take, Option, Some, None, refl, ap, sym, subst, ◌∙◌, arith}
use Rattle.std.proofs.lemmas.Option.{none-some, same_Some}
use Rattle.std.proofs.Math.Nat.{le_refl, min-eq_left, min-eq_right, min-le_left}
use Rattle.pager_model.specs.declared.call.Line.{Line}
use Rattle.pager_model.specs.declared.entry.Entry.{Entry}
use Rattle.pager_model.specs.declared.trace.Daemon.{Daemon}
use Rattle.pager_model.specs.Entries.{entries_of}
use Rattle.pager_model.specs.Order.{at_rest, progress_of}
use Rattle.pager_model.specs.Scripts.{Script}
use Rattle.pager_model.specs.Showing.{FilesBy, FilesLines, MakesTurns, daemon_marks}
use Rattle.pager_model.specs.Stored.{Stored}
use Rattle.pager_model.specs.Stores.{given_over, setting_over}
use Rattle.pager_model.specs.TraceText.{IsDaemon}
use Rattle.stream_core.specs.Streaming.{daemon_before, front_of, low_in, turns_in, with_calls}

-- of these calls, and so many turns of the daemon
abbrev pub part_of : Script → List Line → ℕ → Script
part_of script calls turns = record script { calls = calls; daemon = daemon_before script.daemon turns }

-- Its setting is the trace's.

marks_same : (o : Option Daemon) (n : ℕ) → daemon_marks (daemon_before o n) ≡ daemon_marks o
marks_same None n = refl
marks_same (Some d) n = refl

pub setting_of_part : (script : Script) (stores : List Stored) (calls : List Line) (turns : ℕ)
    → setting_over (part_of script calls turns) stores ≡ setting_over script stores
setting_of_part script stores calls turns =
    ap (λ l. given_over script.frames script.sizes (replicate script.processors 0 ++ l) (take script.spaces stores)) (marks_same script.daemon turns)

-- Its daemon.

pub turns_few : (o : Option Daemon) → IsDaemon o → turns_in o ≤ 4096
turns_few None is = omega arith
turns_few (Some d) is = is.1.1

daemon_same : (o : Option Daemon) (a b : ℕ) → min (turns_in o) a ≡ min (turns_in o) b → daemon_before o a ≡ daemon_before o b
daemon_same None a b same = refl
daemon_same (Some d) a b same = ap (λ n. Some (record { low = d.low; turns = n })) same

daemon_whole : (o : Option Daemon) → daemon_before o (turns_in o) ≡ o
daemon_whole None = refl
daemon_whole (Some d) = ap (λ n. Some (record { low = d.low; turns = n })) (min-eq_left (le_refl d.turns))

-- as many turns as come before so many calls make a front, and all of them the whole
pub part_is_front : (script : Script) (calls : List Line) (turns : ℕ) → turns ≡ min (turns_in script.daemon) (length calls)
    → part_of script calls turns ≡ front_of script calls
part_is_front script calls turns is =
    ap (λ (o : Option Daemon). record script { calls = calls; daemon = o })
    (daemon_same script.daemon turns (length calls) (ap (min (turns_in script.daemon)) is
    ∙ min-eq_right (min-le_left (turns_in script.daemon) (length calls))))

pub part_is_whole : (script : Script) (calls : List Line) (turns : ℕ) → turns ≡ turns_in script.daemon
    → part_of script calls turns ≡ with_calls script calls
part_is_whole script calls turns is =
    ap (λ (o : Option Daemon). record script { calls = calls; daemon = o }) (ap (daemon_before script.daemon) is ∙ daemon_whole script.daemon)

-- A history of it.

pub FilesBy-part : (script : Script) (calls : List Line) (o : Option Daemon) (turns : ℕ) (h : List Entry) → turns ≤ turns_in o
    → FilesLines script.processors (low_in o) turns calls h
    → FilesBy (record script { calls = calls; daemon = daemon_before o turns }) (daemon_before o turns) h
FilesBy-part script calls None turns h few filed =
    subst (λ n. FilesLines script.processors 0 n calls h) (let e : turns ≡ 0 = omega (arith, few) in e) filed
FilesBy-part script calls (Some d) turns h few filed =
    subst (λ n. FilesLines script.processors d.low n calls h) (sym (min-eq_right few)) filed

-- the daemon of it has made so many turns
pub MakesTurns-part : (script : Script) (calls : List Line) (o : Option Daemon) (turns : ℕ) (h : List Entry) → turns ≤ turns_in o
    → ((d : Daemon) → o ≡ Some d → progress_of d.low (entries_of script.processors h) ≡ Some (at_rest d.low turns))
    → MakesTurns (record script { calls = calls; daemon = daemon_before o turns }) (daemon_before o turns) h
MakesTurns-part script calls None turns h few made = tt
MakesTurns-part script calls (Some d) turns h few made = made d refl ∙ ap (λ n. Some (at_rest d.low n)) (sym (min-eq_right few))

pub turns_of_part : (script : Script) (calls : List Line) (o : Option Daemon) (turns : ℕ) (h : List Entry) → turns ≤ turns_in o
    → MakesTurns (record script { calls = calls; daemon = daemon_before o turns }) (daemon_before o turns) h
    → (d : Daemon) → o ≡ Some d → progress_of d.low (entries_of script.processors h) ≡ Some (at_rest d.low turns)
turns_of_part script calls None turns h few makes d same = absurd (none-some d same)
turns_of_part script calls (Some e) turns h few makes d same =
    subst (λ (x : Daemon). progress_of x.low (entries_of script.processors h) ≡ Some (at_rest x.low turns)) (same_Some e d same)
    (makes ∙ ap (λ n. Some (at_rest e.low n)) (min-eq_right few))
