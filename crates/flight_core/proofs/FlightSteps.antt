-- A step in a space, or on the frames: its entry may follow, and what is left after it.
use Rattle.std.proofs.Common.{◌≡◌, ℕ, ◌<◌, Bool, true, false, List, [], ◌∷◌, ◌++◌, length, option_to_list, Option, Some, None, IfSome, refl, ap, sym, subst, ◌∙◌, inl, inr, arith}
use Rattle.std.proofs.lemmas.Bool.{false≢true, cases_lt, eq-eqb}
use Rattle.std.proofs.lemmas.List.{append-nil}
use Rattle.std.proofs.lemmas.Option.{none-some, same_Some}
use Rattle.pager_model.specs.declared.call.Call.{Call}
use Rattle.pager_model.specs.declared.entry.Entry.{Entry}
use Rattle.pager_model.specs.declared.entry.Victim.{Victim}
use Rattle.pager_model.specs.declared.reply.Reply.{Reply}
use Rattle.pager_model.specs.Agreement.{OwnsBy}
use Rattle.pager_model.specs.Entries.{is_of, entries_of}
use Rattle.pager_model.specs.FrameStates.{FrameState, FramesAllow, frame_of}
use Rattle.pager_model.specs.Legal.{IsLegal, MayFollow, space_at, frames_at, progress_at, progress_in}
use Rattle.pager_model.specs.Order.{progress_by}
use Rattle.pager_model.specs.Settings.{Given, mark_of}
use Rattle.pager_model.specs.Showing.{answers_in, answer_in}
use Rattle.pager_model.specs.SpaceStates.{SpaceAllows}
use Rattle.pager_model.proofs.Histories.{IsLegal-push, progress_at-own}
use Rattle.pager_laws.specs.Laid.{IsSound}
use Rattle.pager_laws.proofs.HistoryLists.{answers-push, filter_map-push}
use Rattle.pager_laws.proofs.LegalHistories.{IsKept-legal, OwnsBy-legal}
use Rattle.pager_laws.proofs.UnknownSpaces.{base-unknown}
use Rattle.space_core.specs.Standing.{Kept}
use Rattle.flight_core.specs.declared.flight.Flight.{Flight}
use Rattle.flight_core.specs.declared.flight.Needs.{Needs}
use Rattle.flight_core.specs.declared.flight.Needs.TheVariants.{Space, Both, Frames, Ended as NoneNeeded}
use Rattle.flight_core.specs.declared.flight.Phase.{Phase}
use Rattle.flight_core.specs.declared.flight.Phase.TheVariants.{Out as OutPhase, Unclaim, Rested, Ended}
use Rattle.flight_core.specs.declared.flight.Purpose.{Purpose}
use Rattle.flight_core.specs.declared.flight.Purpose.TheVariants.{Call as OfCall, Turn as OfTurn}
use Rattle.flight_core.specs.Flights.{Fits, IsFor, IsReady, LeftBy}
use Rattle.flight_core.specs.Rows.{Outcome, Going, TurnEnded, Answered, call_in, is_of_call, own_space, reply_in, row_of, row_in, space_under}
use Rattle.flight_core.specs.Steps.{AreAgreed, Makes, MakesEntry, MakesOnFrames, Passes, SameSpace, SameWork, after_named, answer_made, reply_said}
use Rattle.flight_core.proofs.EntrySteps.{Fits-left}
use Rattle.flight_core.proofs.NextFlights.{ended_by, under_cases, keeps_under}
use Rattle.flight_core.specs.Flying.{later, IsFlying, IsSpaceIn, IsHere, HasLeft, in_space, since}
use Rattle.flight_core.specs.Logged.{Added, replies_in, Stepped, SteppedOnFrames}
use Rattle.flight_core.specs.Taken.{AnswersCall}
use Rattle.flight_core.proofs.LegalSteps.{victim_placed, frames_at-step, space_at-after}
use Rattle.flight_core.proofs.Later.{leads_later}
use Rattle.flight_core.proofs.Entries.{on_space, no_frames, answers_call}

-- a flight that needs a lock goes on
abbrev pub is_over : Needs → Bool
is_over NoneNeeded = true
is_over needs = false

goes_in : (c n : ℕ) (own : Option ℕ) (purpose : Purpose) (p : Phase) → is_over (row_in c n own purpose p).needs ≡ false
    → (row_in c n own purpose p).outcome ≡ Going
goes_in c n own purpose (Ended reply) is = absurd (false≢true (sym is))
goes_in c n own purpose Rested is = absurd (false≢true (sym is))
goes_in c n own purpose (Unclaim v None) is = refl
goes_in c n own purpose (Unclaim v (Some count)) is = refl
goes_in c n own purpose p is = refl

goes_on : (f : Flight) → is_over (row_of f).needs ≡ false → (row_of f).outcome ≡ Going
goes_on f = goes_in f.processor f.number (own_space f.purpose) f.purpose f.phase

pub going : (f : Flight) (t : ℕ) → space_under (row_of f).needs ≡ Some t → (row_of f).outcome ≡ Going
going f t is = goes_on f (by (row_of f).needs is)
  where
    by : (n : Needs) → space_under n ≡ Some t → is_over n ≡ false
    by (Space s) is = refl
    by (Both s) is = refl
    by Frames is = absurd (none-some t is)
    by NoneNeeded is = absurd (none-some t is)

pub going_on_frames : (f : Flight) → (row_of f).needs ≡ Frames → (row_of f).outcome ≡ Going
going_on_frames f is = goes_on f (ap is_over is)

pub own_kept : {old new : Flight} → SameWork old new → own_space new.purpose ≡ own_space old.purpose
own_kept {old} {new} same = by old.purpose new.purpose same.same_kind same.call
  where
    by : (p q : Purpose) → is_of_call q ≡ is_of_call p → call_in q ≡ call_in p → own_space q ≡ own_space p
    by (OfCall call claimed) (OfCall call' claimed') kind is = ap (λ k. own_space (OfCall k claimed)) is
    by (OfTurn low evictions) (OfTurn low' evictions') kind is = refl
    by (OfCall call claimed) (OfTurn low evictions) kind is = absurd (false≢true kind)
    by (OfTurn low evictions) (OfCall call claimed) kind is = absurd (false≢true (sym kind))

-- one that was answered is of a call
pub answered_call : (f : Flight) → Fits f → (o : Option Reply) → reply_in (row_of f).outcome ≡ o → (x : ℕ × Call) → Some x ≡ answer_made f o
    → is_of_call f.purpose ≡ true
answered_call f fits None is x made = absurd (none-some x (sym made))
answered_call f fits (Some r) is x made = by (row_of f).outcome refl is
  where
    kind : (p : Purpose) → IsFor p (Ended r) → is_of_call p ≡ true
    kind (OfCall call claimed) for = refl
    kind (OfTurn mark evictions) for = absurd for

    by : (o : Outcome) → (row_of f).outcome ≡ o → reply_in o ≡ Some r → is_of_call f.purpose ≡ true
    by Going at is = absurd (none-some r is)
    by TurnEnded at is = absurd (none-some r is)
    by (Answered said) at is = kind f.purpose (subst (IsFor f.purpose) (ended_by f said at ∙ ap Ended (same_Some said r is)) fits.kind)

answers-one : (e : Entry) → answers_in (e ∷ []) ≡ option_to_list (answer_in e.what)
answers-one e = answers-push [] e

replies-one : (e : Entry) → replies_in (e ∷ []) ≡ option_to_list (reply_said e.what)
replies-one e = filter_map-push (λ (x : Entry). reply_said x.what) [] e

-- A flight after a history, and the frames there.
module _ (g : Given) (h : List Entry) (before : ℕ) (f : Flight) (legal : IsLegal g h) (flying : IsFlying g h before f) (pool : FrameState)
    (frames : pool ≡ frames_at g h) where
  sound : IsSound g.frames (length g.marks) pool
  sound = subst (IsSound g.frames (length g.marks)) (sym frames) (IsKept-legal g h legal).sound

  pub owns : OwnsBy pool f.processor (row_of f).progress.doing
  owns =
      subst (λ st. OwnsBy st f.processor (row_of f).progress.doing) (sym frames)
      (OwnsBy-legal g h legal f.processor (later before (row_of f).progress) flying.known flying.progress)

  pub known : f.processor < length pool.held
  known = (let is = flying.known in let held = sound.processors_known in omega (arith, is, held))

  pub agreed : (kept : Kept) → IsSpaceIn g kept → IsReady f kept (space_at g h kept.number) → AreAgreed kept pool
  agreed kept space ready =
      record {
        count = sound.known ∙ sym space.frames;
        pages = λ page.
            sym (ready.stands.base page)
            ∙ (IsKept-legal g h legal).agrees kept.number page
            ∙ ap (λ st. frame_of st kept.number page) (sym frames);
        sound = subst (λ n. IsSound n (length pool.held) pool) (sym space.frames)
            (subst (λ n. IsSound g.frames n pool) (sym sound.processors_known) sound);
      }

  -- It makes an entry.
  module _ (f' : Flight) (after : FrameState) (e : Entry) (makes : MakesEntry f f' pool after e) (fits : Fits f') where
    leads_on : progress_by (Some (later before (row_of f).progress)) e ≡ Some (later before (row_of f').progress)
    leads_on = leads_later before (row_of f).progress (row_of f').progress e.space e.what none makes.in_order
      where
        none : (x : ℕ × Call) → answer_in e.what ≡ Some x → before ≡ 0
        none x is =
            flying.none_before
            (sym makes.same_work.same_kind ∙ answered_call f' fits (reply_in (row_of f').outcome) refl x (sym is ∙ makes.answer))

    goes : progress_by (progress_at g h f.processor) e ≡ Some (later before (row_of f').progress)
    goes = ap (λ p. progress_by p e) flying.progress ∙ leads_on

    -- which may follow
    pub may_follow : IfSome e.space (λ s. s < length g.told) → IfSome e.space (λ s. SpaceAllows (space_at g h s) e) → MayFollow g h e
    may_follow space allows =
        record {
          parts = makes.parts;
          processor = subst (λ c. c < length g.marks) (sym makes.processor) flying.known;
          space = space;
          by_space = allows;
          by_frames = λ is.
              subst (λ st. FramesAllow st (mark_of g e.processor) e.processor e.space e.what) frames
              (subst (λ m. FramesAllow pool m e.processor e.space e.what) (sym (ap (mark_of g) makes.processor ∙ flying.mark))
              (makes.frames_allow is));
          ordered = (
            later before (row_of f').progress,
            subst (λ c. progress_by (progress_in g c (entries_of c h)) e ≡ Some (later before (row_of f').progress))
                (sym makes.processor) goes,
          );
        }

    pub frames_then : after ≡ frames_at g (h ++ e ∷ [])
    frames_then = frames_at-step g h f f' pool after e makes frames

    -- the victim of a claim is of a space that is there
    victim_within : (v : Victim) → f'.phase ≡ OutPhase v → v.space < length g.told
    victim_within v is =
        let resident = (IsKept-legal g h legal).agrees v.space v.page ∙ ap (λ st. frame_of st v.space v.page) (sym frames)
        ∙ victim_placed f f' pool after e v makes is in
        elim (cases_lt v.space (length g.told)) [
          | inl below ↦ below
          | inr past ↦ absurd (none-some v.frame (sym (base-unknown g h legal v.space v.page past) ∙ resident))
        ]

    own_there : (s : ℕ) → own_space f'.purpose ≡ Some s → s < length g.told
    own_there s own = subst (λ o. IfSome o (λ n. n < length g.told)) (sym (own_kept makes.same_work) ∙ own) flying.on

    pub under_there : ((s : ℕ) → (row_of f').keeps ≡ Some s → s < length g.told) → (s : ℕ) → space_under (row_of f').needs ≡ Some s
        → s < length g.told
    under_there kept s under =
        elim (under_cases f' s under) [
          | inl own ↦ own_there s own
          | inr other ↦ elim other [
            | inl keeps ↦ kept s keeps
            | inr out ↦ subst (λ n. n < length g.told) (sym out.2) (victim_within out.0 out.1)
          ]
        ]

    of_own : is_of f'.processor e ≡ true
    of_own = eq-eqb e.processor f'.processor (makes.processor ∙ sym makes.same_work.processor)

    pub flying_then : ((s : ℕ) → space_under (row_of f').needs ≡ Some s → s < length g.told) → IsFlying g (h ++ e ∷ []) before f'
    flying_then under =
        let same = makes.same_work.processor in
        record {
          known = subst (λ c. c < length g.marks) (sym same) flying.known;
          mark = ap (mark_of g) same ∙ flying.mark ∙ sym makes.same_work.mark;
          none_before = λ call. flying.none_before (sym makes.same_work.same_kind ∙ call);
          progress = progress_at-own g h e f'.processor of_own ∙ ap (λ c. progress_by (progress_at g h c) e) same ∙ goes;
          fits = fits;
          on = subst (λ o. IfSome o (λ s. s < length g.told)) (sym (own_kept makes.same_work)) flying.on;
          under = under;
        }

    pub added_one : Added f f' (e ∷ [])
    added_one =
        record {
          same_work = makes.same_work;
          own = (makes.processor, tt);
          answers = answers-one e ∙ ap option_to_list makes.answer;
          replies = replies-one e ∙ ap option_to_list makes.reply;
          spent = (let fewer = makes.fewer in omega (arith, fewer));
        }

-- In a space.
module _ (g : Given) (h : List Entry) (before : ℕ) (was : Kept) (f : Flight) (here : IsHere g h before was f) (f' : Flight) (now : Kept) where
  pub image_here : f.processor < length was.images
  image_here = (let is = here.flying.known in let images = here.space.processors in omega (arith, is, images))

  space_then : SameSpace was now → IsSpaceIn g now
  space_then same =
      record {
        within = subst (λ n. n < length g.told) (sym same.number) here.space.within;
        frames = same.frames ∙ here.space.frames;
        processors = same.processors ∙ here.space.processors;
      }

  named_here : (P : ℕ → Type 0) (o : Option ℕ) → IfSome o (λ s. s ≡ was.number) → P was.number → IfSome o P
  named_here P None named is = tt
  named_here P (Some s) named is = subst P (sym named) is

  allowed_here : (e : Entry) (o : Option ℕ) → IfSome o (λ s. s ≡ was.number) → IfSome o (λ s. SpaceAllows (space_at g h was.number) e)
      → IfSome o (λ s. SpaceAllows (space_at g h s) e)
  allowed_here e None named is = tt
  allowed_here e (Some s) named is = subst (λ n. SpaceAllows (space_at g h n) e) (sym named) is

  module _ (pool after : FrameState) (frames : pool ≡ frames_at g h) (e : Entry) (makes : Makes f f' was now (space_at g h was.number) pool after e) where
    fits' : Fits f'
    fits' = Fits-left f' now (after_named was.number (space_at g h was.number) e) (row_of f').keeps makes.space.left

    pub may_follow_here : MayFollow g h e
    may_follow_here =
        may_follow g h before f here.legal here.flying pool frames f' after e makes.entry fits'
        (named_here (λ s. s < length g.told) e.space makes.space.own_space here.space.within)
        (allowed_here e e.space makes.space.own_space makes.space.space_allows)

    pub line_here : AnswersCall e.what
    line_here = answers_call f f' pool after e makes.entry fits'

    pub spent_here : (row_of f').entries < (row_of f).entries
    spent_here = makes.entry.fewer

    left_then : LeftBy (row_of f').keeps f' now (space_at g (h ++ e ∷ []) now.number)
    left_then =
        subst (LeftBy (row_of f').keeps f' now)
        (sym (space_at-after g h e was.number) ∙ ap (space_at g (h ++ e ∷ [])) (sym makes.space.same_space.number))
        makes.space.left

    kept_there : (s : ℕ) → (row_of f').keeps ≡ Some s → s < length g.told
    kept_there s keeps =
        let at : s ≡ now.number = (subst (λ x. LeftBy x f' now (after_named was.number (space_at g h was.number) e)) keeps makes.space.left).0 in
        subst (λ n. n < length g.told) (sym (at ∙ makes.space.same_space.number)) here.space.within

    pub has_left : HasLeft g (h ++ e ∷ []) before now f'
    has_left =
        record {
          legal = IsLegal-push g h e here.legal may_follow_here;
          flying = flying_then g h before f here.legal here.flying pool frames f' after e makes.entry fits'
              (under_there g h before f here.legal here.flying pool frames f' after e makes.entry fits' kept_there);
          space = space_then makes.space.same_space;
          left = left_then;
        }

    pub stepped_here : {L : Type 0} (stands : L → Given → List Entry → Type 0) (log : L) → stands log g (h ++ e ∷ [])
        → Stepped stands (since g h before) log true (in_space f was) (in_space f' now) after
    stepped_here stands log is =
        record {
          piece = e ∷ [];
          history = h ++ e ∷ [];
          grown = refl;
          one = refl;
          stands_for = is;
          left = has_left;
          frames = frames_then g h before f here.legal here.flying pool frames f' after e makes.entry fits';
          added = added_one g h before f here.legal here.flying pool frames f' after e makes.entry fits';
          elsewhere = (makes.space.own_space, tt);
          same_space = makes.space.same_space;
          between = λ is. makes.entry.between;
          still = λ is. absurd (false≢true (sym is));
        }

  -- One that leaves whatever state of the frames.
  module _ (e : Entry) (all : (frames : FrameState) → Makes f f' was now (space_at g h was.number) frames frames e) where
    pub none_alone : e.frames ≡ false
    none_alone = no_frames f f' was now (space_at g h was.number) e all

    pub space_alone : e.space ≡ Some was.number
    space_alone =
        let one = all (frames_at g h) in
        on_space e was.number one.entry.parts one.space.own_space none_alone

  module _ (passes : Passes f f' was now (space_at g h was.number)) where
    flying_passed : IsFlying g h before f'
    flying_passed =
        let same = passes.same_work.processor in
        let under : space_under (row_of f').needs ≡ Some was.number = keeps_under f' was.number passes.keeps in
        record {
          known = subst (λ c. c < length g.marks) (sym same) here.flying.known;
          mark = ap (mark_of g) same ∙ here.flying.mark ∙ sym passes.same_work.mark;
          none_before = λ call. here.flying.none_before (sym passes.same_work.same_kind ∙ call);
          progress = ap (progress_at g h) same ∙ here.flying.progress ∙ ap (λ x. Some (later before x)) (sym passes.same_progress);
          fits = passes.ready.fits;
          on = subst (λ o. IfSome o (λ s. s < length g.told)) (sym (own_kept passes.same_work)) here.flying.on;
          under = λ s at. subst (λ n. n < length g.told) (same_Some was.number s (sym under ∙ at)) here.space.within;
        }

    pub passed_here : {L : Type 0} (stands : L → Given → List Entry → Type 0) (log : L) (pool : FrameState) → pool ≡ frames_at g h
        → stands log g h → Stepped stands (since g h before) log false (in_space f was) (in_space f' now) pool
    passed_here stands log pool frames is =
        record {
          piece = [];
          history = h;
          grown = sym (append-nil h);
          one = refl;
          stands_for = is;
          left = record {
            legal = here.legal;
            flying = flying_passed;
            space = space_then passes.same_space;
            left = subst (λ o. LeftBy o f' now (space_at g h now.number)) (sym passes.keeps)
                (sym passes.same_space.number, subst (λ n. IsReady f' now (space_at g h n)) (sym passes.same_space.number) passes.ready);
          };
          frames = frames;
          added = record {
            same_work = passes.same_work;
            own = tt;
            answers = sym (ap (λ o. option_to_list (answer_made f' (reply_in o))) passes.going);
            replies = sym (ap (λ o. option_to_list (reply_in o)) passes.going);
            spent = (let few = passes.no_more in omega (arith, few));
          };
          elsewhere = tt;
          same_space = passes.same_space;
          between = λ is. absurd (false≢true is);
          still = λ is. passes.keeps;
        }

-- On the frames alone.
module _ (g : Given) (h : List Entry) (before : ℕ) (f : Flight) (legal : IsLegal g h) (flying : IsFlying g h before f) (pool : FrameState)
    (frames : pool ≡ frames_at g h) (f' : Flight) (after : FrameState) (e : Entry) (makes : MakesOnFrames f f' pool after e) where
  none_named : (P : ℕ → Type 0) → IfSome e.space P
  none_named P = subst (λ o. IfSome o P) (sym makes.no_space) tt

  pub may_follow_frames : MayFollow g h e
  may_follow_frames = may_follow g h before f legal flying pool frames f' after e makes.entry makes.fits (none_named _) (none_named _)

  pub stepped_frames : {L : Type 0} (stands : L → Given → List Entry → Type 0) (log : L) → stands log g (h ++ e ∷ [])
      → SteppedOnFrames stands (since g h before) log f f' after
  stepped_frames stands log is =
      record {
        piece = e ∷ [];
        history = h ++ e ∷ [];
        grown = refl;
        one = refl;
        stands_for = is;
        legal = IsLegal-push g h e legal may_follow_frames;
        flying = flying_then g h before f legal flying pool frames f' after e makes.entry makes.fits
            (under_there g h before f legal flying pool frames f' after e makes.entry makes.fits
            (λ s keeps. absurd (none-some s (sym makes.keeps_none ∙ keeps))));
        frames = frames_then g h before f legal flying pool frames f' after e makes.entry makes.fits;
        added = added_one g h before f legal flying pool frames f' after e makes.entry makes.fits;
        nowhere = (makes.no_space, tt);
        between = makes.entry.between;
        keeps_none = makes.keeps_none;
      }
