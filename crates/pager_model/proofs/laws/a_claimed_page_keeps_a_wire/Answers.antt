use Rattle.std.proofs.Common.{◌≡◌, ◌≤◌, ℕ, zero, suc, true, false, [], ◌∷◌, None, Some, List, refl, lit<, arith}
use Rattle.pager_model.specs.SizeSets.{all_sizes}
use Rattle.pager_model.specs.declared.call.Call.TheVariants.{Load, Wire}
use Rattle.pager_model.specs.declared.entry.Entry.{Entry}
use Rattle.pager_model.specs.declared.entry.What.TheVariants.{Take, Kept}
use Rattle.pager_model.specs.declared.reply.Reply.TheVariants.{Done, Value, Busy}
use Rattle.pager_model.specs.Examples.{answer, missed, map_eight, on_both, want_eight, two_processors, claim_page_zero, while_claimed, after_finding}
use Rattle.pager_model.specs.FrameStates.{claim_in, used_at, is_evictable, age_in}
use Rattle.pager_model.specs.Legal.{MayFollow, frames_at}
use Rattle.pager_model.specs.Order.{Idle, Filling, Claiming, Blocked, ForAccess}
use Rattle.pager_model.proofs.StartFrames.{HasNothing-start}
use Rattle.pager_model.proofs.laws.a_claimed_page_keeps_a_wire.Goals as goal

-- the entries before each
abbrev mapped : List Entry
mapped = answer 0 map_eight Done ∷ []

abbrev one_taken : List Entry
one_taken = answer 0 map_eight Done ∷ on_both 0 (Take 0 0 want_eight) ∷ []

abbrev one_loaded : List Entry
one_loaded = answer 0 map_eight Done ∷ on_both 0 (Take 0 0 want_eight) ∷ missed 1 (Load 0 0) (Value 0) ∷ []

abbrev two_taken : List Entry
two_taken =
    answer 0 map_eight Done
    ∷ on_both 0 (Take 0 0 want_eight) ∷ missed 1 (Load 0 0) (Value 0)
    ∷ on_both 0 (Take 1 1 want_eight) ∷ []

abbrev two_loaded : List Entry
two_loaded =
    answer 0 map_eight Done
    ∷ on_both 0 (Take 0 0 want_eight) ∷ missed 1 (Load 0 0) (Value 0)
    ∷ on_both 0 (Take 1 1 want_eight) ∷ missed 2 (Load 0 8192) (Value 0) ∷ []

map : MayFollow two_processors [] (answer 0 map_eight Done)
map =
    record {
      parts = refl;
      processor = lit< tt;
      space = lit< tt;
      by_space = (tt, record { reply = (refl, λ lawful. tt); parts = refl; hit = refl; size = refl });
      by_frames = λ e. (let h : false ≡ true = e in cc);
      ordered = (record { made = 1; doing = Idle }, refl);
    }

take_zero : MayFollow two_processors mapped (on_both 0 (Take 0 0 want_eight))
take_zero =
    record {
      parts = ((0, refl), refl);
      processor = lit< tt;
      space = lit< tt;
      by_space = (tt, (refl, refl));
      by_frames = λ e. (refl, HasNothing-start all_sizes 2 2 0, refl);
      ordered = (record { made = 1; doing = Filling (record { space = 0; page = 0; writing = None }) 0 }, refl);
    }

load_zero : MayFollow two_processors one_taken (missed 1 (Load 0 0) (Value 0))
load_zero =
    record {
      parts = refl;
      processor = lit< tt;
      space = lit< tt;
      by_space = (refl, record { reply = (refl, λ lawful. (0, refl)); parts = refl; hit = refl; size = refl });
      by_frames = λ e. (let h : false ≡ true = e in cc);
      ordered = (record { made = 2; doing = Idle }, refl);
    }

-- no frame is claimed after the first taking, nor after the second
one_unclaimed : (c f : ℕ) → claim_in (used_at (frames_at two_processors one_loaded) f) ≡ Some c → ⊥
one_unclaimed c zero claim = (let e : None ≡ Some c = claim in cc)
one_unclaimed c (suc zero) claim = (let e : None ≡ Some c = claim in cc)
one_unclaimed c (suc (suc f)) claim = (let e : None ≡ Some c = claim in cc)

two_unclaimed : (c f : ℕ) → claim_in (used_at (frames_at two_processors two_loaded) f) ≡ Some c → ⊥
two_unclaimed c zero claim = (let e : None ≡ Some c = claim in cc)
two_unclaimed c (suc zero) claim = (let e : None ≡ Some c = claim in cc)
two_unclaimed c (suc (suc f)) claim = (let e : None ≡ Some c = claim in cc)

take_one : MayFollow two_processors one_loaded (on_both 0 (Take 1 1 want_eight))
take_one =
    record {
      parts = ((0, refl), refl);
      processor = lit< tt;
      space = lit< tt;
      by_space = (tt, (refl, refl));
      by_frames = λ e. (refl, record { holds_none = refl; claims_none = one_unclaimed 0 }, refl);
      ordered = (record { made = 2; doing = Filling (record { space = 0; page = 1; writing = None }) 1 }, refl);
    }

load_one : MayFollow two_processors two_taken (missed 2 (Load 0 8192) (Value 0))
load_one =
    record {
      parts = refl;
      processor = lit< tt;
      space = lit< tt;
      by_space = (refl, record { reply = (refl, λ lawful. (1, refl)); parts = refl; hit = refl; size = refl });
      by_frames = λ e. (let h : false ≡ true = e in cc);
      ordered = (record { made = 3; doing = Idle }, refl);
    }

-- page 0 was used first
oldest : (f : ℕ) → is_evictable (used_at (frames_at two_processors two_loaded) f) ≡ true
    → age_in (used_at (frames_at two_processors two_loaded) 0) ≤ age_in (used_at (frames_at two_processors two_loaded) f)
oldest zero may = (let h : 0 ≤ 0 = omega arith in h)
oldest (suc zero) may = (let h : 0 ≤ 1 = omega arith in h)
oldest (suc (suc f)) may = absurd (let h : false ≡ true = may in cc)

claim : MayFollow two_processors two_loaded claim_page_zero
claim =
    record {
      parts = ((0, refl), refl);
      processor = lit< tt;
      space = lit< tt;
      by_space = (tt, (refl, refl, refl));
      by_frames = λ e. (
        record { holds_none = refl; claims_none = two_unclaimed 1 },
        record { place = refl; evictable = refl; least = oldest },
        refl,
      );
      ordered = (
        record {
          made = 0;
          doing = Claiming (ForAccess (record { space = 0; page = 2; writing = Some false })) (record { space = 0; page = 0; frame = 0 });
        },
        refl,
      );
    }

kept : MayFollow two_processors (while_claimed []) (on_both 0 (Kept 0 8 0 0))
kept =
    record {
      parts = ((0, refl), refl);
      processor = lit< tt;
      space = lit< tt;
      by_space = (tt, (refl, refl));
      by_frames = λ e. (refl, refl);
      ordered = (record { made = 3; doing = Blocked 0 0 8 0 }, refl);
    }

busy : MayFollow two_processors (after_finding []) (answer 3 (Wire 0 3) (Busy 0))
busy =
    record {
      parts = refl;
      processor = lit< tt;
      space = lit< tt;
      by_space = (refl, record { reply = tt; parts = refl; hit = refl; size = refl });
      by_frames = λ e. (let h : false ≡ true = e in cc);
      ordered = (record { made = 4; doing = Idle }, refl);
    }

pub returns-clause-busy : goal.returns-clause-busy
returns-clause-busy c = (map, (take_zero, (load_zero, (take_one, (load_one, (claim, (kept, (busy, tt))))))))
