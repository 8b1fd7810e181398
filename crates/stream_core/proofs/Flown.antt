-- A turn or a call that was flown from where a stream stands.
use Rattle.std.proofs.Common.{◌≡◌, ◌≢◌, ℕ, ◌+◌, ◌<◌, ◌≤◌, min, Bool, true, List, [], ◌∷◌, ◌++◌, length, slice_index_or, Some, refl, ap, sym, subst, ◌∙◌, inl, inr, arith}
use Rattle.std.proofs.Math.ListN.{set}
use Rattle.std.proofs.Math.Nat.{min-eq_left, min-eq_right}
use Rattle.std.proofs.lemmas.List.{append-nil}
use Rattle.std.proofs.lemmas.Option.{none-some}
use Rattle.pager_model.specs.declared.call.Line.{Line}
use Rattle.pager_model.specs.declared.entry.Entry.{Entry}
use Rattle.pager_model.specs.declared.trace.Daemon.{Daemon}
use Rattle.pager_model.specs.declared.trace.Job.{Job}
use Rattle.pager_model.specs.declared.trace.Job.TheVariants.{Call as MakesCall, Turn}
use Rattle.pager_model.specs.FrameStates.{FrameState}
use Rattle.pager_model.specs.Scripts.{Script}
use Rattle.pager_model.specs.Settings.{Given}
use Rattle.pager_model.specs.Stored.{Stored}
use Rattle.pager_model.specs.Stores.{setting_over}
use Rattle.space_core.specs.Standing.{Kept}
use Rattle.flight_core.specs.declared.flight.Flight.{Flight}
use Rattle.flight_core.specs.Lacking.{NeverLacks}
use Rattle.flight_core.specs.Rows.{has_ended, new_flight, new_turn, row_of}
use Rattle.flight_core.specs.Flying.{since}
use Rattle.flight_core.specs.Whole.{AreAt, CanGoOn, WentOn}
use Rattle.pager_core.specs.Running.{flight_for}
use Rattle.pager_core.proofs.StartMachines.{length-calls}
use Rattle.stream_core.specs.Streaming.{IsAt, IsCalled, IsDue, IsNext, Streaming, TookTurns, turns_in}
use Rattle.stream_core.specs.Tallies.{IsTallied, Tallied}
use Rattle.stream_core.proofs.MadeJobs.{IsNextJob, at_start, lacks_none, lasting}
use Rattle.stream_core.proofs.Streams.{IsAt-call, IsAt-turn, next_call, next_turn, sequence, so_far, standing}

-- all steps of a flight were done
abbrev pub Flown : Tallied → List Kept → FrameState → Flight → Tallied → Flight → List Kept → FrameState → Type 0
Flown tally spaces pool f tally' f' spaces' pool' =
    (g : Given) (h : List Entry) (before : ℕ) → IsTallied tally g h → AreAt g h before spaces pool f
    → WentOn IsTallied (since g h before) tally' f f' spaces' pool'

module _ (script : Script) (stores : List Stored) (calls : List Line) (h : List Entry) (s : Streaming) (at : IsAt script stores calls h s) where
  -- a flight of a job that can be next
  module _ (c n : ℕ) (job : Job) (next : IsNextJob (setting_over script stores) h c n job) (f : Flight) (f_is : f ≡ flight_for c n job) where
    begins : AreAt (setting_over script stores) h 0 s.spaces s.pool f
    begins = subst (AreAt (setting_over script stores) h 0 s.spaces s.pool) (sym f_is)
        (at_start (setting_over script stores) h s.tally s.spaces s.pool c n job (standing script stores calls h s at) next)

    can_go : CanGoOn IsTallied s.tally s.spaces s.pool f
    can_go = record { setting = setting_over script stores; history = h; before = 0; stands_for = at.tallied; at = begins }

    went_on : (tally' : Tallied) (f' : Flight) (spaces' : List Kept) (pool' : FrameState)
        → Flown s.tally s.spaces s.pool f tally' f' spaces' pool'
        → WentOn IsTallied (since (setting_over script stores) h 0) tally' (flight_for c n job) f' spaces' pool'
    went_on tally' f' spaces' pool' flown =
        subst (λ (x : Flight). WentOn IsTallied (since (setting_over script stores) h 0) tally' x f' spaces' pool') f_is
        (flown (setting_over script stores) h 0 at.tallied begins)

    spaces_same : (tally' : Tallied) (f' : Flight) (spaces' : List Kept) (pool' : FrameState)
        → Flown s.tally s.spaces s.pool f tally' f' spaces' pool' → length spaces' ≡ length s.spaces
    spaces_same tally' f' spaces' pool' flown = (went_on tally' f' spaces' pool' flown).at.count ∙ sym at.rest.count

  -- A turn.
  module _ (due : IsDue script calls s.turns) (d : Daemon) (is : s.daemon ≡ Some d) (other : s.turns ≢ d.turns) (f : Flight)
      (f_is : f ≡ new_turn s.processors s.turns d.low) where
    has : script.daemon ≡ Some d
    has = sym at.daemon_is ∙ is

    all : turns_in script.daemon ≡ d.turns
    all = ap turns_in has

    left : s.turns < d.turns
    left = (let few = at.few_turns in let most = all in grind (arith, few, most, other))

    many : length calls ≤ s.turns
    many = elim due [ inl most ↦ most | inr none ↦ absurd (other (none ∙ all)) ]

    flight_is : f ≡ flight_for script.processors s.turns (Turn d.low)
    flight_is = f_is ∙ ap (λ p. new_turn p s.turns d.low) at.daemon_behind

    next : IsNextJob (setting_over script stores) h script.processors s.turns (Turn d.low)
    next = next_turn script stores calls h s at d has left many

    pub can_turn : CanGoOn IsTallied s.tally s.spaces s.pool f
    can_turn = can_go script.processors s.turns (Turn d.low) next f flight_is

    pub turn_count : (tally' : Tallied) (f' : Flight) (spaces' : List Kept) (pool' : FrameState)
        → Flown s.tally s.spaces s.pool f tally' f' spaces' pool' → length spaces' ≡ length s.spaces
    turn_count = spaces_same script.processors s.turns (Turn d.low) next f flight_is

    pub TookTurns-flown : (tally' : Tallied) (f' : Flight) (spaces' : List Kept) (pool' : FrameState)
        → Flown s.tally s.spaces s.pool f tally' f' spaces' pool' → has_ended (row_of f').outcome ≡ true
        → TookTurns script stores calls h s.turns 1 (record s { turns = s.turns + 1; tally = tally'; spaces = spaces'; pool = pool' })
    TookTurns-flown tally' f' spaces' pool' flown ended =
        let went = went_on script.processors s.turns (Turn d.low) next f flight_is tally' f' spaces' pool' flown in
        record {
          piece = went.piece;
          at = IsAt-turn script stores calls h s at d has left many tally' f' spaces' pool' went ended;
          turns = sym (min-eq_right (let below = left in let most = all in omega (arith, below, most)));
          lacks = lacks_none (setting_over script stores) h tally' spaces' pool' script.processors s.turns d.low f' went;
          none = λ alone. absurd (none-some d (sym alone ∙ has));
        }

  -- no turn, where none is left
  pub TookTurns-none : (more : ℕ) → s.turns ≡ min (turns_in script.daemon) (s.turns + more) → TookTurns script stores calls h s.turns more s
  TookTurns-none more same =
      record { piece = []; at = subst (λ l. IsAt script stores calls l s) (sym (append-nil h)) at; turns = same; lacks = tt; none = λ alone. refl }

  pub TookTurns-all : turns_in s.daemon ≤ s.turns → TookTurns script stores calls h s.turns 1 s
  TookTurns-all most =
      let same = ap turns_in at.daemon_is in
      let few = at.few_turns in
      let none : turns_in script.daemon ≡ s.turns = omega (arith, same, few, most) in
      TookTurns-none 1 (sym none ∙ sym (min-eq_left (omega (arith, none))))

  -- A call.
  module _ (line : Line) (ready : IsNext script calls line) (turns : s.turns ≤ length calls + 1) (f : Flight)
      (f_is : f ≡ new_flight line.processor (slice_index_or s.numbers line.processor 0) line.call) where
    next_one : IsNextJob (setting_over script stores) h line.processor (slice_index_or s.numbers line.processor 0) (MakesCall line.call)
    next_one = next_call script stores calls h s at line ready (slice_index_or s.numbers line.processor 0) refl turns

    pub can_call : CanGoOn IsTallied s.tally s.spaces s.pool f
    can_call = can_go line.processor (slice_index_or s.numbers line.processor 0) (MakesCall line.call) next_one f f_is

    pub call_count : (tally' : Tallied) (f' : Flight) (spaces' : List Kept) (pool' : FrameState)
        → Flown s.tally s.spaces s.pool f tally' f' spaces' pool' → length spaces' ≡ length s.spaces
    call_count = spaces_same line.processor (slice_index_or s.numbers line.processor 0) (MakesCall line.call) next_one f f_is

    -- its processor's number and that of all calls still have 32 bits
    pub number_small : slice_index_or s.numbers line.processor 0 + 1 < 4294967296
    number_small =
        let own = so_far script stores calls h s at line ready (slice_index_or s.numbers line.processor 0) refl turns in
        let most = length-calls line.processor calls in
        let few = ready.few in
        omega (arith, own, most, few)

    pub calls_small : s.calls + 1 < 4294967296
    calls_small = (let all = at.calls_are in let few = ready.few in omega (arith, all, few))

    pub IsCalled-flown : (lasts : Bool) (tally' : Tallied) (f' : Flight) (spaces' : List Kept) (pool' : FrameState)
        → Flown s.tally s.spaces s.pool f tally' f' spaces' pool' → has_ended (row_of f').outcome ≡ true
        → (lasts ≡ true → NeverLacks f.phase f'.phase)
        → IsCalled lasts script stores calls line h s.turns (record s {
          numbers = set s.numbers line.processor (slice_index_or s.numbers line.processor 0 + 1);
          calls = s.calls + 1;
          tally = tally';
          spaces = spaces';
          pool = pool';
        })
    IsCalled-flown lasts tally' f' spaces' pool' flown ended never =
        let n : ℕ = slice_index_or s.numbers line.processor 0 in
        let went = went_on line.processor n (MakesCall line.call) next_one f f_is tally' f' spaces' pool' flown in
        record {
          piece = went.piece;
          at = IsAt-call script stores calls h s at line ready n refl turns tally' f' spaces' pool' went ended;
          sequence = sequence script stores calls h s at line ready n refl turns tally' f' spaces' pool' went ended;
          turns = refl;
          lasting = λ lasts_is. lasting (setting_over script stores) h tally' spaces' pool' line.processor n line.call f' went ended
              (subst (λ (x : Flight). NeverLacks x.phase f'.phase) f_is (never lasts_is));
        }
