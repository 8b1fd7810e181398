use Rattle.std.proofs.Common.{◌≡◌, true, false, [], ◌∷◌, None, Some, refl, sym, ap, ◌∙◌, lit<}
use Rattle.std.proofs.lemmas.Bool.{cond-true}
use Rattle.pager_model.specs.SizeSets.{all_sizes}
use Rattle.pager_model.specs.declared.call.Call.TheVariants.{Load, Store, Evict, Discard, Wire, Unwire}
use Rattle.pager_model.specs.declared.reply.Reply.TheVariants.{Done, Value, Denied}
use Rattle.pager_model.specs.Examples.{answer, missed, map_eight, take_page_one, clear_page_one, pin_all, small_setting}
use Rattle.pager_model.specs.FrameStates.{HasNothing, claim_in}
use Rattle.pager_model.specs.Legal.{MayFollow, frames_at}
use Rattle.pager_model.specs.Order.{Idle, Filling, Cleared, Pinned}
use Rattle.pager_model.proofs.Lists.{get_or-alike}
use Rattle.pager_model.proofs.StartFrames.{HasNothing-start}
use Rattle.pager_model.proofs.laws.a_discard_and_a_wire_are_legal.Goals as goal

map : MayFollow small_setting ([]) (answer 0 map_eight Done)
map =
    record {
      parts = refl;
      processor = lit< tt;
      space = lit< tt;
      by_space = (tt, record { reply = (refl, λ lawful. tt); parts = refl; hit = refl; size = refl });
      by_frames = λ e. (let h : false ≡ true = e in cc);
      ordered = (record { made = 1; doing = Idle }, refl);
    }

take : MayFollow small_setting (answer 0 map_eight Done ∷ []) (take_page_one)
take =
    record {
      parts = ((0, refl), refl);
      processor = lit< tt;
      space = lit< tt;
      by_space = (tt, (refl, refl));
      by_frames = λ e. (refl, HasNothing-start all_sizes 2 1 0, refl);
      ordered = (record { made = 1; doing = Filling (record { space = 0; page = 1; writing = None }) 0 }, refl);
    }

store : MayFollow small_setting (answer 0 map_eight Done ∷ take_page_one ∷ []) (missed 1 (Store 0 8192 5) Done)
store =
    record {
      parts = refl;
      processor = lit< tt;
      space = lit< tt;
      by_space = (refl, record { reply = (refl, λ lawful. (0, refl)); parts = refl; hit = refl; size = refl });
      by_frames = λ e. (let h : false ≡ true = e in cc);
      ordered = (record { made = 2; doing = Idle }, refl);
    }

clear : MayFollow small_setting (answer 0 map_eight Done ∷ take_page_one ∷ missed 1 (Store 0 8192 5) Done ∷ []) (clear_page_one)
clear =
    record {
      parts = ((0, refl), refl);
      processor = lit< tt;
      space = lit< tt;
      by_space = (tt, refl);
      by_frames = λ e. tt;
      ordered = (record { made = 2; doing = Cleared 0 1 1 }, refl);
    }

discard : MayFollow small_setting (answer 0 map_eight Done ∷ take_page_one ∷ missed 1 (Store 0 8192 5) Done ∷ clear_page_one ∷ []) (answer 2 (Discard 0 1 1) Done)
discard =
    record {
      parts = refl;
      processor = lit< tt;
      space = lit< tt;
      by_space = ((refl, (refl, refl)), record { reply = (refl, λ lawful p inside. cond-true _ _ _ inside); parts = refl; hit = refl; size = refl });
      by_frames = λ e. (let h : false ≡ true = e in cc);
      ordered = (record { made = 3; doing = Idle }, refl);
    }

-- after the discard nobody claims or holds a frame
nothing : HasNothing (frames_at small_setting (answer 0 map_eight Done ∷ take_page_one ∷ missed 1 (Store 0 8192 5) Done ∷ clear_page_one ∷ answer 2 (Discard 0 1 1) Done ∷ [])) 0
nothing =
    record {
      holds_none = refl;
      claims_none = λ f claim. (let e : None ≡ Some 0 = sym (ap claim_in (get_or-alike 2 f None)) ∙ claim in cc);
    }

take_again : MayFollow small_setting (answer 0 map_eight Done ∷ take_page_one ∷ missed 1 (Store 0 8192 5) Done ∷ clear_page_one ∷ answer 2 (Discard 0 1 1) Done ∷ []) (take_page_one)
take_again =
    record {
      parts = ((0, refl), refl);
      processor = lit< tt;
      space = lit< tt;
      by_space = (tt, (refl, refl));
      by_frames = λ e. (refl, nothing, refl);
      ordered = (record { made = 3; doing = Filling (record { space = 0; page = 1; writing = None }) 0 }, refl);
    }

load : MayFollow small_setting (answer 0 map_eight Done ∷ take_page_one ∷ missed 1 (Store 0 8192 5) Done ∷ clear_page_one ∷ answer 2 (Discard 0 1 1) Done ∷ take_page_one ∷ []) (missed 3 (Load 0 8192) (Value 0))
load =
    record {
      parts = refl;
      processor = lit< tt;
      space = lit< tt;
      by_space = (refl, record { reply = (refl, λ lawful. (0, refl)); parts = refl; hit = refl; size = refl });
      by_frames = λ e. (let h : false ≡ true = e in cc);
      ordered = (record { made = 4; doing = Idle }, refl);
    }

pub returns-clause-discard : goal.returns-clause-discard
returns-clause-discard c = (map, (take, (store, (clear, (discard, (take_again, (load, tt)))))))

pin : MayFollow small_setting (answer 0 map_eight Done ∷ take_page_one ∷ missed 1 (Store 0 8192 5) Done ∷ []) (pin_all true)
pin =
    record {
      parts = ((0, refl), refl);
      processor = lit< tt;
      space = lit< tt;
      by_space = (tt, (refl, refl, λ un. refl));
      by_frames = λ e. (λ w. refl);
      ordered = (record { made = 2; doing = Pinned 0 0 8 true }, refl);
    }

wire : MayFollow small_setting (answer 0 map_eight Done ∷ take_page_one ∷ missed 1 (Store 0 8192 5) Done ∷ pin_all true ∷ []) (answer 2 (Wire 0 3) Done)
wire =
    record {
      parts = refl;
      processor = lit< tt;
      space = lit< tt;
      by_space = ((refl, (refl, refl)), record { reply = (refl, λ lawful. refl); parts = refl; hit = refl; size = refl });
      by_frames = λ e. (let h : false ≡ true = e in cc);
      ordered = (record { made = 3; doing = Idle }, refl);
    }

evict : MayFollow small_setting (answer 0 map_eight Done ∷ take_page_one ∷ missed 1 (Store 0 8192 5) Done ∷ pin_all true ∷ answer 2 (Wire 0 3) Done ∷ []) (answer 3 (Evict 0 1) Denied)
evict =
    record {
      parts = refl;
      processor = lit< tt;
      space = lit< tt;
      by_space = (tt, record { reply = (refl, λ lawful. absurd (let h : false ≡ true = lawful in cc)); parts = refl; hit = refl; size = refl });
      by_frames = λ e. (let h : false ≡ true = e in cc);
      ordered = (record { made = 4; doing = Idle }, refl);
    }

unpin : MayFollow small_setting (answer 0 map_eight Done ∷ take_page_one ∷ missed 1 (Store 0 8192 5) Done ∷ pin_all true ∷ answer 2 (Wire 0 3) Done ∷ answer 3 (Evict 0 1) Denied ∷ []) (pin_all false)
unpin =
    record {
      parts = ((0, refl), refl);
      processor = lit< tt;
      space = lit< tt;
      by_space = (tt, (refl, refl, λ un. refl));
      by_frames = λ e. (λ w. refl);
      ordered = (record { made = 4; doing = Pinned 0 0 8 false }, refl);
    }

unwire : MayFollow small_setting (answer 0 map_eight Done ∷ take_page_one ∷ missed 1 (Store 0 8192 5) Done ∷ pin_all true ∷ answer 2 (Wire 0 3) Done ∷ answer 3 (Evict 0 1) Denied ∷ pin_all false ∷ []) (answer 4 (Unwire 0 3) Done)
unwire =
    record {
      parts = refl;
      processor = lit< tt;
      space = lit< tt;
      by_space = ((refl, (refl, refl)), record { reply = (refl, λ lawful. refl); parts = refl; hit = refl; size = refl });
      by_frames = λ e. (let h : false ≡ true = e in cc);
      ordered = (record { made = 5; doing = Idle }, refl);
    }

pub returns-clause-wire : goal.returns-clause-wire
returns-clause-wire c = (map, (take, (store, (pin, (wire, (evict, (unpin, (unwire, tt))))))))
