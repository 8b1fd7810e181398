-- Answers that leave a space as it is: one that doesn't name the frames, and one that isn't lawful.
use Rattle.std.proofs.Common.{◌≡◌, ℕ, false, ◌&&◌, Option, None, is_some, refl, ap, sym}
use Rattle.std.proofs.lemmas.Bool.{true≢false}
use Rattle.pager_model.specs.declared.call.Call.{Call}
use Rattle.pager_model.specs.declared.call.Call.TheVariants.{Load, Store, Evict}
use Rattle.pager_model.specs.declared.reply.Reply.{Reply}
use Rattle.pager_model.specs.declared.reply.Reply.TheVariants.{Done, Value}
use Rattle.pager_model.specs.Flat.{is_lawful}
use Rattle.pager_model.specs.SpaceStates.{SpaceState, base_after_answer, frees_its_page, said_at, served_page}

-- an answer that doesn't name the frames leaves every page its frame
pub base-unnamed : (base : ℕ → Option ℕ) (call : Call) (p : ℕ) → base_after_answer base false call p ≡ base p
base-unnamed base (Evict space page) p = refl
base-unnamed base call p = refl

-- one that isn't lawful frees none
pub frees-unlawful : (st : SpaceState) (call : Call) (reply : Reply) → is_lawful reply ≡ false → false ≡ frees_its_page st call reply
frees-unlawful st (Evict space page) reply is = ap (λ b. b && is_some (st.base page)) (sym is)
frees-unlawful st call reply is = refl

-- says no word
pub said-unlawful : (p i : ℕ) (call : Call) (reply : Reply) (before : Option ℕ) → is_lawful reply ≡ false
    → said_at p i call reply before ≡ before
said-unlawful p i (Load space address) (Value word) before is = absurd (true≢false is)
said-unlawful p i (Store space address word) Done before is = absurd (true≢false is)
said-unlawful p i call reply before is = refl

-- and has no page
pub served-unlawful : (call : Call) (reply : Reply) → is_lawful reply ≡ false → served_page call reply ≡ None
served-unlawful (Load space address) (Value word) is = absurd (true≢false is)
served-unlawful (Store space address word) Done is = absurd (true≢false is)
served-unlawful call reply is = refl
