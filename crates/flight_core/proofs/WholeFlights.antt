-- A step of a flight among all spaces.
use Rattle.std.proofs.Common.{◌≡◌, ◌≢◌, ℕ, ◌+◌, ◌^◌, ◌<◌, ◌≤◌, Bool, false, List, [], ◌∷◌, ◌++◌, length, slice_get, option_to_list, Option, Some, None, IfSome, refl, ap, sym, subst, ◌∙◌, inl, inr, arith, append_assoc, length-append}
use Rattle.std.specs.List.{AllByRecursion}
use Rattle.std.proofs.lemmas.Bool.{cases_eq, false≢true, ne_eqb}
use Rattle.std.proofs.lemmas.List.{append-nil}
use Rattle.std.proofs.lemmas.List.Elements.{filter_map-append}
use Rattle.std.proofs.lemmas.Option.{none-some, same_Some}
use Rattle.std.proofs.Math.ListN.{set, length-set}
use Rattle.pager_model.specs.declared.entry.Entry.{Entry}
use Rattle.pager_model.specs.FrameStates.{FrameState}
use Rattle.pager_model.specs.Legal.{space_at, frames_at}
use Rattle.pager_model.specs.Settings.{Given}
use Rattle.pager_model.specs.Showing.{answers_in, answer_in}
use Rattle.pager_model.specs.Options.{is_that}
use Rattle.pager_model.proofs.Histories.{space_at-other}
use Rattle.pager_laws.proofs.HistoryLists.{entries-few}
use Rattle.space_core.specs.Standing.{Kept}
use Rattle.flight_core.specs.declared.flight.Flight.{Flight}
use Rattle.flight_core.specs.declared.flight.Needs.TheVariants.{Frames}
use Rattle.flight_core.specs.Flights.{IsReady, IsAtRest, LeftBy}
use Rattle.flight_core.specs.Rows.{Outcome, Going, TurnEnded, Answered, has_ended, reply_in, row_of, space_under}
use Rattle.flight_core.specs.Steps.{SameWork, answer_made, reply_said}
use Rattle.flight_core.proofs.NextFlights.{anywhere, keeps_under, keeps_none}
use Rattle.flight_core.specs.Counting.{most_in_history}
use Rattle.flight_core.specs.Flying.{IsSpaceIn, IsHere, in_space, since}
use Rattle.flight_core.specs.Logged.{Added, Stepped, SteppedOnFrames, replies_in}
use Rattle.flight_core.specs.Whole.{AreAt, WentOn}
use Rattle.flight_core.proofs.Lists.{all-append, slice_get-set_same, slice_get-set_other}
use Rattle.flight_core.proofs.FlightSteps.{going}

-- entries that name no space but this one leave another as it is
pub elsewhere-all : (g : Given) (n t : ℕ) → t ≢ n → (h piece : List Entry) → AllByRecursion (λ (e : Entry). IfSome e.space (λ s. s ≡ n)) piece
    → space_at g (h ++ piece) t ≡ space_at g h t
elsewhere-all g n t other h [] all = ap (λ l. space_at g l t) (append-nil h)
elsewhere-all g n t other h (e ∷ es) all =
    ap (λ l. space_at g l t) (sym (append_assoc h (e ∷ []) es)) ∙ elsewhere-all g n t other (h ++ e ∷ []) es all.1
    ∙ space_at-other g h e t (unnamed e.space all.0)
  where
    unnamed : (o : Option ℕ) → IfSome o (λ s. s ≡ n) → is_that t o ≡ false
    unnamed None named = refl
    unnamed (Some s) named = ne_eqb s t (λ is. other (sym is ∙ named))

pub nowhere-all : (g : Given) (t : ℕ) (h piece : List Entry) → AllByRecursion (λ (e : Entry). e.space ≡ None) piece
    → space_at g (h ++ piece) t ≡ space_at g h t
nowhere-all g t h [] all = ap (λ l. space_at g l t) (append-nil h)
nowhere-all g t h (e ∷ es) all =
    ap (λ l. space_at g l t) (sym (append_assoc h (e ∷ []) es)) ∙ nowhere-all g t (h ++ e ∷ []) es all.1
    ∙ space_at-other g h e t (ap (is_that t) all.0)

short_then : (h piece h' : List Entry) (f f' : Flight) → h' ≡ h ++ piece → Added f f' piece → length h + (row_of f).entries ≤ most_in_history
    → length h' + (row_of f').entries ≤ most_in_history
short_then h piece h' f f' grown added short =
    (let long = ap length grown ∙ length-append h piece in let spent = added.spent in omega (arith, long, spent, short))

module _ (g : Given) (h : List Entry) (before : ℕ) (spaces : List Kept) (pool : FrameState) (f : Flight) (at : AreAt g h before spaces pool f) where
  pub few_frames : pool.entries < 2 ^ 45
  few_frames =
      let same : pool.entries ≡ (frames_at g h).entries = ap (λ (st : FrameState). st.entries) at.frames in
      let few = entries-few g h in
      let short = at.short in
      omega (arith, same, few, short)

  -- Where the next step is made under a space.
  module _ (s : ℕ) (under : space_under (row_of f).needs ≡ Some s) where
    pub within : s < length spaces
    within = (let is = at.flying.under s under in let all = at.count in omega (arith, is, all))

    module _ (was : Kept) (there : slice_get spaces s ≡ Some was) where
      ready_by : (o : Option ℕ) → (row_of f).keeps ≡ o → IsReady f was (space_at g h s)
      ready_by (Some t) keeps = at.ready s was there (keeps ∙ ap Some (same_Some t s (sym (keeps_under f t keeps) ∙ under)))
      ready_by None keeps =
          let rest = at.rest s was there (λ is. none-some s (sym keeps ∙ is)) in
          let found = anywhere f was s under at.flying.fits (going f s under) keeps rest.resting in
          record {
            under = under ∙ ap Some (sym (at.number s was there));
            fits = at.flying.fits;
            stands = rest.stands;
            next = rest.next ∙ sym found.0;
            found = found.1;
          }

      pub here : IsHere g h before was f
      here =
          record {
            legal = at.legal;
            flying = at.flying;
            space = at.space s was there;
            ready = subst (λ n. IsReady f was (space_at g h n)) (sym (at.number s was there)) (ready_by (row_of f).keeps refl);
          }

      module _ {L : Type 0} (stands : L → Given → List Entry → Type 0) (log : L) (made : Bool) (f' : Flight) (now : Kept) (after : FrameState)
          (step : Stepped stands (since g h before) log made (in_space f was) (in_space f' now) after) where
        number_now : now.number ≡ s
        number_now = step.same_space.number ∙ at.number s was there

        now_is : (t : ℕ) (kept : Kept) → t ≡ s → slice_get (set spaces s now) t ≡ Some kept → now ≡ kept
        now_is t kept is got =
            same_Some now kept (sym (slice_get-set_same spaces s now within) ∙ subst (λ n. slice_get (set spaces s now) n ≡ Some kept) is got)

        other_is : (t : ℕ) (kept : Kept) → t ≢ s → slice_get (set spaces s now) t ≡ Some kept → slice_get spaces t ≡ Some kept
        other_is t kept other got = sym (slice_get-set_other spaces s t now other) ∙ got

        same_state : (t : ℕ) → t ≢ s → space_at g step.history t ≡ space_at g h t
        same_state t other =
            ap (λ l. space_at g l t) step.grown
            ∙ elsewhere-all g was.number t (λ is. other (is ∙ at.number s was there)) h step.piece step.elsewhere

        keeps_here : (t : ℕ) → (row_of f').keeps ≡ Some t → t ≡ s
        keeps_here t keeps =
            (subst (λ o. LeftBy o f' now (space_at g step.history now.number)) keeps step.left.left).0 ∙ number_now

        rest_here : (o : Option ℕ) → (row_of f').keeps ≡ o → o ≢ Some s → IsAtRest now (space_at g step.history s)
        rest_here None keeps other =
            subst (λ n. IsAtRest now (space_at g step.history n)) number_now
            (subst (λ o. LeftBy o f' now (space_at g step.history now.number)) keeps step.left.left).1
        rest_here (Some t) keeps other = absurd (other (ap Some (keeps_here t keeps)))

        pub at_after : AreAt g step.history before (set spaces s now) after f'
        at_after =
            record {
              legal = step.left.legal;
              flying = step.left.flying;
              short = short_then h step.piece step.history f f' step.grown step.added at.short;
              frames = step.frames;
              count = length-set spaces s now ∙ at.count;
              number = λ t kept got. elim (cases_eq t s) [
                | inl is ↦ subst (λ (k : Kept). k.number ≡ t) (now_is t kept is got) (number_now ∙ sym is)
                | inr other ↦ at.number t kept (other_is t kept other got)
              ];
              space = λ t kept got. elim (cases_eq t s) [
                | inl is ↦ subst (IsSpaceIn g) (now_is t kept is got) step.left.space
                | inr other ↦ at.space t kept (other_is t kept other got)
              ];
              ready = λ t kept got keeps.
                  let is = keeps_here t keeps in
                  subst (λ n. IsReady f' kept (space_at g step.history n)) (number_now ∙ sym is)
                  (subst (λ k. IsReady f' k (space_at g step.history now.number)) (now_is t kept is got)
                  (subst (λ o. LeftBy o f' now (space_at g step.history now.number)) keeps step.left.left).1);
              rest = λ t kept got keeps. elim (cases_eq t s) [
                | inl is ↦
                    subst (λ n. IsAtRest kept (space_at g step.history n)) (sym is)
                    (subst (λ k. IsAtRest k (space_at g step.history s)) (now_is t kept is got)
                    (rest_here (row_of f').keeps refl (λ k. keeps (k ∙ ap Some (sym is)))))
                | inr other ↦
                    subst (IsAtRest kept) (sym (same_state t other))
                    (at.rest t kept (other_is t kept other got)
                    (λ keeps. other (same_Some t s (sym (keeps_under f t keeps) ∙ under))))
              ];
            }

        pub went_in : WentOn stands (since g h before) log f f' (set spaces s now) after
        went_in =
            record {
              piece = step.piece;
              history = step.history;
              grown = step.grown;
              stands_for = step.stands_for;
              at = at_after;
              added = step.added;
            }

  -- Where it is made on the frames alone.
  module _ (needs : (row_of f).needs ≡ Frames) {L : Type 0} (stands : L → Given → List Entry → Type 0) (log : L) (f' : Flight)
      (after : FrameState) (step : SteppedOnFrames stands (since g h before) log f f' after) where
    keeps_was : (row_of f).keeps ≡ None
    keeps_was = keeps_none f (ap space_under needs)

    pub went_on_frames : WentOn stands (since g h before) log f f' spaces after
    went_on_frames =
        record {
          piece = step.piece;
          history = step.history;
          grown = step.grown;
          stands_for = step.stands_for;
          at = record {
            legal = step.legal;
            flying = step.flying;
            short = short_then h step.piece step.history f f' step.grown step.added at.short;
            frames = step.frames;
            count = at.count;
            number = at.number;
            space = at.space;
            ready = λ t kept got keeps. absurd (none-some t (sym step.keeps_none ∙ keeps));
            rest = λ t kept got keeps.
                subst (IsAtRest kept) (sym (ap (λ l. space_at g l t) step.grown ∙ nowhere-all g t h step.piece step.nowhere))
                (at.rest t kept got (λ keeps. none-some t (sym keeps_was ∙ keeps)));
          };
          added = step.added;
        }

-- Steps one after another.

answers-append : (xs ys : List Entry) → answers_in (xs ++ ys) ≡ answers_in xs ++ answers_in ys
answers-append xs ys = filter_map-append (λ (e : Entry). answer_in e.what) xs ys

replies-append : (xs ys : List Entry) → replies_in (xs ++ ys) ≡ replies_in xs ++ replies_in ys
replies-append xs ys = filter_map-append (λ (e : Entry). reply_said e.what) xs ys

not_ended : (o : Outcome) → has_ended o ≡ false → reply_in o ≡ None
not_ended Going is = refl
not_ended TurnEnded is = absurd (false≢true (sym is))
not_ended (Answered reply) is = absurd (false≢true (sym is))

SameWork-on : {old mid new : Flight} → SameWork old mid → SameWork mid new → SameWork old new
SameWork-on first second = record {
  processor = second.processor ∙ first.processor;
  number = second.number ∙ first.number;
  same_kind = second.same_kind ∙ first.same_kind;
  call = second.call ∙ first.call;
  mark = second.mark ∙ first.mark;
}

pub Added-on : (old mid new : Flight) (first second : List Entry) → has_ended (row_of mid).outcome ≡ false → Added old mid first
    → Added mid new second → Added old new (first ++ second)
Added-on old mid new first second going one two =
    record {
      same_work = SameWork-on one.same_work two.same_work;
      own = all-append (λ (e : Entry). e.processor ≡ old.processor) first second one.own
          (subst (λ c. AllByRecursion (λ (e : Entry). e.processor ≡ c) second) one.same_work.processor two.own);
      answers = answers-append first second
          ∙ ap (λ l. l ++ answers_in second) (one.answers ∙ ap (λ o. option_to_list (answer_made mid o)) (not_ended (row_of mid).outcome going))
          ∙ two.answers;
      replies = replies-append first second
          ∙ ap (λ l. l ++ replies_in second) (one.replies ∙ ap option_to_list (not_ended (row_of mid).outcome going))
          ∙ two.replies;
      spent = (let long = length-append first second in let a = one.spent in let b = two.spent in omega (arith, long, a, b));
    }

-- none yet
pub Added-none : (f : Flight) → has_ended (row_of f).outcome ≡ false → Added f f []
Added-none f going =
    record {
      same_work = record { processor = refl; number = refl; same_kind = refl; call = refl; mark = refl };
      own = tt;
      answers = sym (ap (λ o. option_to_list (answer_made f o)) (not_ended (row_of f).outcome going));
      replies = sym (ap option_to_list (not_ended (row_of f).outcome going));
      spent = omega arith;
    }

pub WentOn-none : {L : Type 0} (stands : L → Given → List Entry → Type 0) (g : Given) (h : List Entry) (before : ℕ) (log : L) (f : Flight)
    (spaces : List Kept) (pool : FrameState) → has_ended (row_of f).outcome ≡ false → stands log g h → AreAt g h before spaces pool f
    → WentOn stands (since g h before) log f f spaces pool
WentOn-none stands g h before log f spaces pool going is at =
    record {
      piece = [];
      history = h;
      grown = sym (append-nil h);
      stands_for = is;
      at = at;
      added = Added-none f going;
    }

pub WentOn-on : {L : Type 0} (stands : L → Given → List Entry → Type 0) (g : Given) (h : List Entry) (before : ℕ) (log log' : L)
    (old mid new : Flight) (spaces spaces' : List Kept) (pool pool' : FrameState) → has_ended (row_of mid).outcome ≡ false
    → (first : WentOn stands (since g h before) log old mid spaces pool) → WentOn stands (since g first.history before) log' mid new spaces' pool'
    → WentOn stands (since g h before) log' old new spaces' pool'
WentOn-on stands g h before log log' old mid new spaces spaces' pool pool' going first second =
    record {
      piece = first.piece ++ second.piece;
      history = second.history;
      grown = second.grown ∙ ap (λ l. l ++ second.piece) first.grown ∙ append_assoc h first.piece second.piece;
      stands_for = second.stands_for;
      at = second.at;
      added = Added-on old mid new first.piece second.piece going first.added second.added;
    }
