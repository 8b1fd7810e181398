use Rattle.std.proofs.Common.{refl}
use Rattle.pager_laws.specs.Hits.{retiled}
use Rattle.pager_laws.proofs.TranslationLaws.{same_replies}
use Rattle.pager_laws.proofs.laws.a_promotion_changes_no_answer.Goals as goal

pub returns : goal.returns
returns c = record {
  words = λ st e images promotions demotions. refl;
  replies = λ st images promotions demotions processor call reply. (
    same_replies st images promotions demotions processor call reply,
    same_replies (retiled st images promotions demotions) st.images st.promotions st.demotions processor call reply,
  );
}
