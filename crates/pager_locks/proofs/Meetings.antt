-- From lists that met to a history, and from what a step leaves after a history to the lists.
use Rattle.std.proofs.Common.{◌≡◌, ℕ, cond, ◌^◌, ◌<◌, ◌≤◌, List, length, Some, None, refl, ap, sym, subst, ◌∙◌, arith}
use Rattle.std.proofs.lemmas.Bool.{ne_eqb, eq-eqb}
use Rattle.std.proofs.Math.ListN.{length-map}
use Rattle.pager_laws.proofs.HistoryLists.{entries-few}
use Rattle.journal_core.specs.Clauses.{IsHistory, IsPartOf, IsOwnOf, AreOf, AreOfTwo}
use Rattle.journal_core.specs.Journals.{JournalName, AuthorState, PassState}
use Rattle.journal_core.specs.Parts.{part_list}
use Rattle.journal_core.proofs.HistoryLength.{length_bound}
use Rattle.pager_model.specs.declared.entry.Entry.{Entry}
use Rattle.pager_model.specs.declared.entry.Numbered.{Numbered}
use Rattle.pager_model.specs.Entries.{frames_part, space_part, entries_of}
use Rattle.pager_model.specs.FrameStates.{FrameState}
use Rattle.pager_model.specs.Legal.{IsLegal, space_at, frames_at, frames_state, state_of_space, entries_in}
use Rattle.pager_model.specs.Settings.{Given}
use Rattle.space_core.specs.Standing.{Kept}
use Rattle.flight_core.specs.declared.flight.Flight.{Flight}
use Rattle.flight_core.specs.Flights.{IsReady, LeftBy}
use Rattle.flight_core.specs.Rows.{row_of}
use Rattle.flight_core.specs.Steps.{SameSpace}
use Rattle.flight_core.specs.Counting.{most_in_history}
use Rattle.flight_core.specs.Flying.{IsOnWay, HasLeft, IsHere as GoesOnHere}
use Rattle.pager_locks.specs.Locked.{Departure, StandsAt, IsPoolAt, IsFlying, IsHere, Stepped, state_by, frames_by}
use Rattle.pager_locks.specs.Logs.{IsSpaceOf, IsFramesOf, IsPassOf, AreHeld}

few_entries : (g : Given) (h : List Entry) → IsHistory g h → length h ≤ most_in_history
few_entries g h met =
    let bound = length_bound g h (2 ^ 31) met.legal met.entries in
    let few : length g.marks ≤ 17 = met.processors in
    omega (arith, bound, few)

pub few_numbered : (g : Given) (history : List Numbered) → IsHistory g (entries_in history) → length history ≤ most_in_history
few_numbered g history met = subst (λ n. n ≤ most_in_history) (length-map history (λ (n : Numbered). n.entry))
    (few_entries g (entries_in history) met)

few_frames : (g : Given) (h : List Entry) (pool : FrameState) → IsHistory g h → pool ≡ frames_at g h → pool.entries < 2 ^ 45
few_frames g h pool met is =
    let same : pool.entries ≡ (frames_at g h).entries = ap (λ (st : FrameState). st.entries) is in
    let few = entries-few g h in
    let short = few_entries g h met in
    omega (arith, same, few, short)

-- The lists in hand, of a history.
module _ (j : JournalName) (h : List Entry) where
  history_met : (i : JournalName) → i ≡ j → IsHistory i.setting h → IsHistory j.setting h
  history_met i is met = subst (λ (x : JournalName). IsHistory x.setting h) is met

  pub space_met : (a : AuthorState) → a.journal ≡ j → a.part < length j.setting.told → IsPartOf a h → IsSpaceOf j a h
  space_met a journal below part =
      record {
        journal = journal;
        is_space = below;
        listed = part ∙ ap (λ (x : JournalName). part_list (length x.setting.told) a.part h) journal
            ∙ ap (λ b. cond b (frames_part h) (space_part a.part h))
            (ne_eqb a.part (length j.setting.told) (λ same. absurd (omega (arith, below, same))));
      }

  pub frames_met : (a : AuthorState) → a.journal ≡ j → a.part ≡ length j.setting.told → IsPartOf a h → IsFramesOf j a h
  frames_met a journal is part =
      record {
        journal = journal;
        is_frames = is;
        listed = part ∙ ap (λ (x : JournalName). part_list (length x.setting.told) a.part h) journal
            ∙ ap (λ b. cond b (frames_part h) (space_part a.part h)) (eq-eqb a.part (length j.setting.told) is);
      }

  -- and what they stand for
  pub state_is : (a : AuthorState) → IsSpaceOf j a h → state_by a ≡ space_at j.setting h a.part
  state_is a is = ap (λ (x : JournalName). state_of_space x.setting a.part a.entries) is.journal
      ∙ ap (state_of_space j.setting a.part) is.listed

  pub frames_are : (a : AuthorState) → IsFramesOf j a h → frames_by a ≡ frames_at j.setting h
  frames_are a is = ap (λ (x : JournalName). frames_state x.setting a.entries) is.journal ∙ ap (frames_state j.setting) is.listed

  -- the pool
  pool_is : (pool : FrameState) (a : AuthorState) → IsPoolAt j pool a → IsFramesOf j a h → pool ≡ frames_at j.setting h
  pool_is pool a pool_at is = pool_at.state ∙ frames_are a is

  pub pool_back : (pool : FrameState) (a : AuthorState) → IsFramesOf j a h → pool ≡ frames_at j.setting h → IsPoolAt j pool a
  pool_back pool a is same = record { journal = is.journal; part = is.is_frames; state = same ∙ sym (frames_are a is) }

  -- A flight by its pass.
  module _ (from : Departure) (f : Flight) (p : PassState) (flying : IsFlying j from f p) where
    pass_met : IsOwnOf p h → IsPassOf j p h
    pass_met own = record { journal = flying.journal; own = own.1; within = (let room = flying.room in omega (arith, room)) }

    on_way_at : IsPassOf j p h → IsOnWay j.setting (entries_of f.processor h) from.before f
    on_way_at is = subst (λ l. IsOnWay j.setting l from.before f) (is.own ∙ ap (λ c. entries_of c h) flying.processor) flying.on_way

    here_at : (kept : Kept) (a : AuthorState) → StandsAt j kept a → IsReady f kept (state_by a) → IsLegal j.setting h → IsSpaceOf j a h
        → IsPassOf j p h → GoesOnHere j.setting h from.before kept f
    here_at kept a stands ready legal is_space is_pass =
        record {
          legal = legal;
          flying = on_way_at is_pass;
          space = record {
            within = subst (λ n. n < length j.setting.told) (sym stands.number) stands.within;
            frames = stands.frames;
            processors = stands.processors;
          };
          ready = subst (IsReady f kept) (state_is a is_space ∙ ap (space_at j.setting h) (sym stands.number)) ready;
        }

  -- what is left in a space
  pub stepped_back : (before : ℕ) (f : Flight) (was now : Kept) (a b : AuthorState) → StandsAt j was a → b.part ≡ a.part → SameSpace was now
      → IsSpaceOf j b h → HasLeft j.setting h before now f → Stepped j now b f
  stepped_back before f was now a b stands part same is left =
      let number : now.number ≡ b.part = same.number ∙ stands.number ∙ sym part in
      record {
        stands = record {
          journal = is.journal;
          within = is.is_space;
          number = number;
          frames = left.space.frames;
          processors = left.space.processors;
        };
        left = subst (LeftBy (row_of f).keeps f now) (ap (space_at j.setting h) number ∙ sym (state_is b is)) left.left;
      }

-- Under the lock of a space.
module _ {j : JournalName} {kept : Kept} {a : AuthorState} {from : Departure} {f : Flight} {p : PassState} (here : IsHere j kept a from f p)
    (h : List Entry) where
  goes_on_here : IsHistory j.setting h → IsSpaceOf j a h → IsPassOf j p h → GoesOnHere j.setting h from.before kept f
  goes_on_here met is_space is_pass = here_at j h from f p here.flying kept a here.stands here.ready met.legal is_space is_pass

  -- alone
  module _ (met : AreOf a p h) where
    space_alone : IsSpaceOf j a h
    space_alone = space_met j h a here.stands.journal here.stands.within met.1

    pub pass_alone : IsPassOf j p h
    pass_alone = pass_met j h from f p here.flying met.2

    pub here_alone : GoesOnHere j.setting h from.before kept f
    here_alone = goes_on_here (history_met j h a.journal here.stands.journal met.0) space_alone pass_alone

    pub held_alone : {a' : AuthorState} {p' : PassState} → (a' ≡ a) × (p' ≡ p) → AreHeld j (Some a') None (Some p') j.setting h
    held_alone same =
        record {
          setting = refl;
          space_is = subst (λ x. IsSpaceOf j x h) (sym same.0) space_alone;
          frames_are = tt;
          pass_is = subst (λ x. IsPassOf j x h) (sym same.1) pass_alone;
        }

  -- and that of the frames
  module _ {b : AuthorState} (met : AreOfTwo a b p h) {pool : FrameState} (pool_at : IsPoolAt j pool b) where
    history_both : IsHistory j.setting h
    history_both = history_met j h a.journal here.stands.journal met.0

    space_both : IsSpaceOf j a h
    space_both = record { journal = here.stands.journal; is_space = here.stands.within; listed = met.1 }

    frames_both : IsFramesOf j b h
    frames_both = record { journal = pool_at.journal; is_frames = pool_at.part; listed = met.2 }

    pub pass_both : IsPassOf j p h
    pass_both = pass_met j h from f p here.flying met.3

    pub here_both : GoesOnHere j.setting h from.before kept f
    here_both = goes_on_here history_both space_both pass_both

    pub pool_both : pool ≡ frames_at j.setting h
    pool_both = pool_is j h pool b pool_at frames_both

    pub few_both : pool.entries < 2 ^ 45
    few_both = few_frames j.setting h pool history_both pool_both

    pub held_both : {a' b' : AuthorState} {p' : PassState} → (a' ≡ a) × (b' ≡ b) × (p' ≡ p)
        → AreHeld j (Some a') (Some b') (Some p') j.setting h
    held_both same =
        record {
          setting = refl;
          space_is = subst (λ x. IsSpaceOf j x h) (sym same.0) space_both;
          frames_are = subst (λ x. IsFramesOf j x h) (sym same.1) frames_both;
          pass_is = subst (λ x. IsPassOf j x h) (sym same.2) pass_both;
        }

-- Under the lock of the frames alone.
module _ {j : JournalName} {from : Departure} {f : Flight} {p : PassState} (flying : IsFlying j from f p) (h : List Entry) {b : AuthorState}
    (met : AreOf b p h) {pool : FrameState} (pool_at : IsPoolAt j pool b) where
  history_frames : IsHistory j.setting h
  history_frames = history_met j h b.journal pool_at.journal met.0

  frames_alone : IsFramesOf j b h
  frames_alone = frames_met j h b pool_at.journal pool_at.part met.1

  pub pass_frames : IsPassOf j p h
  pass_frames = pass_met j h from f p flying met.2

  pub legal_frames : IsLegal j.setting h
  legal_frames = history_frames.legal

  pub way_frames : IsOnWay j.setting (entries_of f.processor h) from.before f
  way_frames = on_way_at j h from f p flying pass_frames

  pub pool_frames : pool ≡ frames_at j.setting h
  pool_frames = pool_is j h pool b pool_at frames_alone

  pub few_alone : pool.entries < 2 ^ 45
  few_alone = few_frames j.setting h pool history_frames pool_frames

  pub held_frames : {b' : AuthorState} {p' : PassState} → (b' ≡ b) × (p' ≡ p) → AreHeld j None (Some b') (Some p') j.setting h
  held_frames same =
      record {
        setting = refl;
        space_is = tt;
        frames_are = subst (λ x. IsFramesOf j x h) (sym same.0) frames_alone;
        pass_is = subst (λ x. IsPassOf j x h) (sym same.1) pass_frames;
      }
