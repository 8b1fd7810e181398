use Rattle.std.proofs.Common.{◌≡◌, true, false, [], ◌∷◌, None, refl, lit<}
use Rattle.pager_model.specs.SizeSets.{all_sizes}
use Rattle.pager_model.specs.declared.call.Call.TheVariants.{Load, Store}
use Rattle.pager_model.specs.declared.reply.Reply.TheVariants.{Done, Unmapped}
use Rattle.pager_model.specs.Examples.{answer, missed, map_eight, take_page_one, small_setting}
use Rattle.pager_model.specs.Legal.{MayFollow}
use Rattle.pager_model.specs.Order.{Idle, Filling}
use Rattle.pager_model.proofs.StartFrames.{HasNothing-start}
use Rattle.pager_model.proofs.laws.a_store_waits_for_its_frame.Goals as goal

first : MayFollow small_setting [] (answer 0 map_eight Done)
first =
    record {
      parts = refl;
      processor = lit< tt;
      space = lit< tt;
      by_space = (tt, record { reply = (refl, λ lawful. tt); parts = refl; hit = refl; size = refl });
      by_frames = λ e. (let h : false ≡ true = e in cc);
      ordered = (record { made = 1; doing = Idle }, refl);
    }

second : MayFollow small_setting (answer 0 map_eight Done ∷ []) take_page_one
second =
    record {
      parts = ((0, refl), refl);
      processor = lit< tt;
      space = lit< tt;
      by_space = (tt, (refl, refl));
      by_frames = λ e. (refl, HasNothing-start all_sizes 2 1 0, refl);
      ordered = (record { made = 1; doing = Filling (record { space = 0; page = 1; writing = None }) 0 }, refl);
    }

third : MayFollow small_setting (answer 0 map_eight Done ∷ take_page_one ∷ []) (missed 1 (Store 0 8192 5) Done)
third =
    record {
      parts = refl;
      processor = lit< tt;
      space = lit< tt;
      by_space = (refl, record { reply = (refl, λ lawful. (0, refl)); parts = refl; hit = refl; size = refl });
      by_frames = λ e. (let h : false ≡ true = e in cc);
      ordered = (record { made = 2; doing = Idle }, refl);
    }

fourth : MayFollow small_setting (answer 0 map_eight Done ∷ take_page_one ∷ missed 1 (Store 0 8192 5) Done ∷ [])
    (answer 2 (Load 0 65536) Unmapped)
fourth =
    record {
      parts = refl;
      processor = lit< tt;
      space = lit< tt;
      by_space = (
        tt,
        record {
          reply = (refl, λ lawful. absurd (let h : false ≡ true = lawful in cc));
          parts = refl;
          hit = refl;
          size = refl;
        },
      );
      by_frames = λ e. (let h : false ≡ true = e in cc);
      ordered = (record { made = 3; doing = Idle }, refl);
    }

pub returns-clause-legal : goal.returns-clause-legal
returns-clause-legal c = (first, (second, (third, (fourth, tt))))
