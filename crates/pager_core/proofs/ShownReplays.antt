-- A legal history that shows a trace is that of a replay of it, whoever made it.
use Rattle.std.proofs.Common.{◌≡◌, ℕ, zero, suc, ◌<◌, ◌≤◌, ◌⊎◌, inl, inr, List, [], ◌∷◌, length, take, drop, map, get_or, slice_get, Option, Some, None, IsSomeAnd, refl, sym, ap, subst, ◌∙◌, arith, ◌+◌}
use Rattle.std.proofs.lemmas.Bool.{cases_lt}
use Rattle.std.proofs.lemmas.Option.{same_Some, slice_get_cases}
use Rattle.std.proofs.Math.ListN.{length-map}
use Rattle.std.proofs.lemmas.List.{length-take-le}
use Rattle.std.specs.List.{range_with_len}
use Rattle.pager_model.specs.declared.entry.Entry.{Entry}
use Rattle.pager_model.specs.declared.entry.Numbered.{Numbered}
use Rattle.pager_model.specs.Legal.{AllWhole, IsLegal, entries_in, numbered, numbered_from}
use Rattle.pager_model.specs.Scripts.{Script}
use Rattle.pager_model.specs.Settings.{Given, faults_at_entry, mark_of}
use Rattle.pager_model.specs.Showing.{actors, MakesTurns, Shows}
use Rattle.pager_model.specs.Entries.{entries_of}
use Rattle.pager_model.specs.Order.{IsWhole}
use Rattle.pager_model.specs.declared.trace.Daemon.{Daemon}
use Rattle.pager_model.specs.SpaceStates.{Rises, last_count}
use Rattle.pager_model.specs.Stores.{setting_over, EndsWith, StoresEnd, AreCapped}
use Rattle.pager_model.specs.Stored.{Stored}
use Rattle.pager_model.proofs.Actors.{actors_alone, actors_most, mark_of_caller, mark_of_daemon}
use Rattle.pager_model.proofs.Histories.{entries_in-numbered}
use Rattle.pager_laws.proofs.LegalHistories.{Agrees-legal, IsPartition-legal, NothingHeld-legal}
use Rattle.pager_laws.proofs.OldestBroken.{PreemptsOldest-legal}
use Rattle.pager_laws.proofs.KeptWires.{KeepsRightly-legal}
use Rattle.pager_laws.proofs.OrderedRefusals.{IsNeverShort-legal, RefusesRightly-legal}
use Rattle.pager_core.specs.Running.{IsNumbered}
use Rattle.pager_laws.proofs.KeptLaws.{KeepsLawsAllAlong-legal}
use Rattle.pager_core.specs.Replays.{NoneFailed, IsReplay}
use Rattle.pager_laws.specs.Faults.{HasFailed}
use Rattle.pager_laws.proofs.FaultReplies.{AllAnswered-legal, AllServed-legal}

-- the setting has a store for each space where there are enough
pub told-over : (script : Script) (stores : List Stored) → script.spaces ≤ length stores → length (setting_over script stores).told ≡ script.spaces
told-over script stores enough = length-map (take script.spaces stores) (λ (s : Stored). s.told) ∙ length-take-le script.spaces stores enough

-- the setting's counts of faults are those of the stores
faults_read : (spaces s : ℕ) (stores : List Stored) (store : Stored) → s < spaces → slice_get stores s ≡ Some store
    → get_or (map (λ (x : Stored). x.faults) (take spaces stores)) s 0 ≡ store.faults
faults_read spaces s [] store below at = cc
faults_read zero s (x ∷ stores) store below at = absurd (omega (arith, below))
faults_read (suc spaces) zero (x ∷ stores) store below at =
    (let e : Some x ≡ Some store = at in ap (λ (y : Stored). y.faults) (same_Some x store e))
faults_read (suc spaces) (suc s) (x ∷ stores) store below at = faults_read spaces s stores store (omega (arith, below)) at

-- a count that rose from one on to this one or a lower one
rises_to : (last old count new : ℕ) → (old < count) ⊎ (count ≡ last) → count ≤ new → old ≤ last → (old < new) ⊎ (new ≡ last)
rises_to last old count new rose within capped =
    elim (cases_lt old new) [
      | inl less ↦ inl less
      | inr most ↦ elim rose [
        | inl above ↦ absurd (omega (arith, most, above, within))
        | inr at_last ↦ inr (omega (arith, most, at_last, within, capped))
      ]
    ]

-- where no store failed the history tells no failure
module _ (script : Script) (stores after : List Stored) (history : List Numbered) (enough : script.spaces ≤ length stores)
    (capped : AreCapped script.spaces stores) (ends : StoresEnd (setting_over script stores) history after) where
  HasFailed-rose : (s count : ℕ) (old new : Stored) → s < script.spaces → slice_get stores s ≡ Some old
      → EndsWith (setting_over script stores) history s new → HasFailed (setting_over script stores) (entries_in history) s count
      → Rises old.faults new.faults
  HasFailed-rose s count old new below at end has =
      let entry : faults_at_entry (setting_over script stores) s ≡ old.faults = faults_read script.spaces s stores old below at in
      rises_to last_count old.faults count new.faults (subst (λ n. Rises n count) entry has.rose)
      (let within = has.within in let counts = end.counts in omega (arith, within, counts)) (capped s old below at)

  none_failed : NoneFailed script.spaces stores after → (s count : ℕ) → HasFailed (setting_over script stores) (entries_in history) s count → ⊥
  none_failed none s count has =
      let below : s < script.spaces = subst (λ n. s < n) (told-over script stores enough) has.known in
      elim (slice_get_cases stores s).1 [
        | inl there ↦
            elim (slice_get after s) as (λ o. slice_get after s ≡ o → IsSomeAnd o (EndsWith (setting_over script stores) history s) → ⊥) [
              | None ↦ λ at end. end
              | Some new ↦ λ at end. none s there.0 new below there.2 at (HasFailed-rose s count there.0 new below there.2 end has)
            ] refl (ends s has.known)
        | inr past ↦ absurd (omega (arith, below, enough, past.0))
      ]

-- A history that shows a trace is of whole lists alone.
module _ (script : Script) (stores : List Stored) (h : List Entry) (shows : Shows script h) where
  daemon_whole : (o : Option Daemon) → script.daemon ≡ o → MakesTurns script o h → script.processors < actors script
      → IsWhole (mark_of (setting_over script stores) script.processors) (entries_of script.processors h)
  daemon_whole None is made known = (let alone = actors_alone script is in absurd (omega (arith, alone, known)))
  daemon_whole (Some d) is made known =
      subst (λ m. IsWhole m (entries_of script.processors h)) (sym (mark_of_daemon script d is)) (d.turns, made)

  AllWhole-shown : AllWhole (setting_over script stores) h
  AllWhole-shown c known = elim (cases_lt c script.processors) [
    | inl caller ↦ subst (λ m. IsWhole m (entries_of c h)) (sym (mark_of_caller script c caller)) (shows.calls c caller).1
    | inr past ↦
        let most = actors_most script in
        let same : script.processors ≡ c = omega (arith, past, most, known) in
        subst (λ k. IsWhole (mark_of (setting_over script stores) k) (entries_of k h)) same
        (daemon_whole script.daemon refl shows.turns (subst (λ k. k < actors script) (sym same) known))
  ]

-- a legal history that shows a trace is that of a replay of it, whoever makes it
pub IsReplay-shown : (script : Script) (stores after : List Stored) (history : List Numbered) → script.spaces ≤ length stores
    → AreCapped script.spaces stores → IsNumbered history → IsLegal (setting_over script stores) (entries_in history)
    → Shows script (entries_in history) → StoresEnd (setting_over script stores) history after
    → drop script.spaces after ≡ drop script.spaces stores → IsReplay script stores history after
IsReplay-shown script stores after history enough capped numbered legal shows ends unused =
    let given : Given = setting_over script stores in
    record {
      numbered = numbered;
      legal = legal;
      shows = shows;
      laws = KeepsLawsAllAlong-legal given (entries_in history) legal;
      oldest = PreemptsOldest-legal given (entries_in history) legal;
      refusals = RefusesRightly-legal given (entries_in history) legal;
      kept = KeepsRightly-legal given (entries_in history) legal;
      never_short = IsNeverShort-legal given (entries_in history) legal;
      answered = AllAnswered-legal given (entries_in history) legal;
      served = λ none. AllServed-legal given (entries_in history) legal (none_failed script stores after history enough capped ends none);
      partition = IsPartition-legal given (entries_in history) legal;
      none_held = NothingHeld-legal given (entries_in history) legal (AllWhole-shown script stores (entries_in history) shows);
      agrees = Agrees-legal given (entries_in history) legal;
      stores = ends;
      unused = unused;
    }

-- The numbers of a history are its places.

numbers_from : (place : ℕ) (es : List Entry) → map (λ (n : Numbered). n.number) (numbered_from place es) ≡ range_with_len place (length es)
numbers_from place [] = refl
numbers_from place (e ∷ es) = ap (λ l. place ∷ l) (numbers_from (suc place) es
    ∙ ap (λ k. range_with_len k (length es)) (let next : suc place ≡ place + 1 = omega arith in next))

pub IsNumbered-closed : (history : List Numbered) → history ≡ numbered (entries_in history) → IsNumbered history
IsNumbered-closed history are =
    ap (λ l. map (λ (n : Numbered). n.number) l) are ∙ numbers_from 0 (entries_in history)
    ∙ ap (range_with_len 0) (length-map history (λ (n : Numbered). n.entry))

-- its entries may be numbered afterwards
pub IsReplay-numbered : (script : Script) (stores after : List Stored) (h : List Entry) → script.spaces ≤ length stores
    → AreCapped script.spaces stores → IsLegal (setting_over script stores) h → Shows script h
    → ((history : List Numbered) → entries_in history ≡ h → StoresEnd (setting_over script stores) history after)
    → drop script.spaces after ≡ drop script.spaces stores → (history : List Numbered) × (entries_in history ≡ h) × IsReplay script stores history after
IsReplay-numbered script stores after h enough capped legal shows ends unused =
    let same : entries_in (numbered h) ≡ h = entries_in-numbered h in (
      numbered h,
      same,
      IsReplay-shown script stores after (numbered h) enough capped (IsNumbered-closed (numbered h) (ap numbered (sym same)))
          (subst (IsLegal (setting_over script stores)) (sym same) legal) (subst (Shows script) (sym same) shows) (ends (numbered h) same) unused,
    )
