-- An answer that no frame could be had comes after a refusal, which was its processor's last entry; and a refusal comes where frames are fewer
-- than wired places and processors.
use Rattle.std.proofs.Common.{◌≡◌, ℕ, ◌+◌, true, eqb, ◌&&◌, List, length, Some, sym, ap, subst, ◌∙◌}
use Rattle.std.proofs.lemmas.Bool.{and_parts, eqb-true, false≢true}
use Rattle.pager_model.specs.declared.call.Call.{Call}
use Rattle.pager_model.specs.declared.call.Call.TheVariants.{Unmap, Sync, Evict, Discard, Wire, Unwire}
use Rattle.pager_model.specs.declared.entry.Entry.{Entry}
use Rattle.pager_model.specs.declared.entry.What.TheVariants.{Refused}
use Rattle.pager_model.specs.declared.reply.Reply.{Reply}
use Rattle.pager_model.specs.declared.reply.Reply.TheVariants.{NoFrames}
use Rattle.pager_model.specs.Entries.{IsOn}
use Rattle.pager_model.specs.FrameStates.{FramesAllow, HasNothing, IsRefused}
use Rattle.pager_model.specs.Headline.{IsNeverShort, IsOutOfFrames, NoneToHave, RefusesRightly}
use Rattle.pager_model.specs.Legal.{IsLegal, MayFollow, frames_at, progress_at}
use Rattle.pager_model.specs.Order.{Doing, Progress, is_answered_alone, may_answer, after_answer, progress_after}
use Rattle.pager_model.specs.Order.Doing.{Idle, Cleared, Pinned, Blocked, Uncopied, Filling, Late, Faulted, Lacking, Refusing}
use Rattle.pager_model.specs.Settings.{Given, mark_of}
use Rattle.pager_laws.proofs.LastEntries.{Refusal, said_in, SaysLast-legal, leads_holds}
use Rattle.pager_laws.proofs.LegalHistories.{IsKept-legal, progress_before}
use Rattle.pager_laws.proofs.LegalPrefixes.{IsLegal-at}
use Rattle.pager_laws.proofs.OutOfFrames.{IsOutOfFrames-refused}
use Rattle.pager_laws.proofs.RefusedFrames.{NoneToHave-refused}

-- The answer comes from such a place alone.

not_alone : (call : Call) (wired claimed held : ℕ) → is_answered_alone call (NoFrames wired claimed held) ≡ true → ⊥
not_alone (Unmap s page) wired claimed held may = false≢true may
not_alone (Sync s page) wired claimed held may = false≢true may
not_alone (Evict s page) wired claimed held may = false≢true may
not_alone (Discard s page len) wired claimed held may = false≢true may
not_alone (Wire s page) wired claimed held may = false≢true may
not_alone (Unwire s page) wired claimed held may = false≢true may
not_alone call wired claimed held may = false≢true may

same_refusal : (w c h wired claimed held : ℕ) → (eqb w wired && (eqb c claimed && eqb h held)) ≡ true
    → Refusal wired claimed held ≡ Refusal w c h
same_refusal w c h wired claimed held same =
    let first = and_parts _ _ same in
    let rest = and_parts _ _ first.1 in
    sym (
    ap (λ n. Refusal n c h) (eqb-true w wired first.0)
    ∙ ap (λ n. Refusal wired n h) (eqb-true c claimed rest.0)
    ∙ ap (λ n. Refusal wired claimed n) (eqb-true h held rest.1)
    )

from_refusal : (doing : Doing) (call : Call) (w c h : ℕ) → may_answer doing call (NoFrames w c h) ≡ true
    → said_in doing ≡ Some (Refusal w c h)
from_refusal Idle call w c h may = absurd (not_alone call w c h may)
from_refusal (Cleared space first len) call w c h may = absurd (false≢true (and_parts _ _ may).1)
from_refusal (Pinned space first len wired) call w c h may = absurd (false≢true (and_parts _ _ may).1)
from_refusal (Blocked space first len page) call w c h may = absurd (false≢true (and_parts _ _ may).1)
from_refusal (Uncopied space page count) call w c h may = absurd (false≢true (and_parts _ _ may).1)
from_refusal (Filling a frame) call w c h may = absurd (false≢true (and_parts _ _ may).1)
from_refusal (Late a) call w c h may = absurd (false≢true (and_parts _ _ may).1)
from_refusal (Faulted a space count) call w c h may = absurd (false≢true (and_parts _ _ may).1)
from_refusal (Lacking a space) call w c h may = absurd (false≢true (and_parts _ _ may).1)
from_refusal (Refusing wired claimed held) call w c h may = ap Some (same_refusal w c h wired claimed held (and_parts _ _ may).1)
from_refusal doing call w c h may = absurd (false≢true may)

answered_from : (p q : Progress) (number : ℕ) (call : Call) (reply : Reply) → after_answer p number call reply ≡ Some q
    → (w c h : ℕ) → reply ≡ NoFrames w c h → said_in p.doing ≡ Some (Refusal w c h)
answered_from p q number call reply goes w c h same =
    let holds = leads_holds (eqb number p.made && may_answer p.doing call reply) (p.made + 1) Idle q goes in
    from_refusal p.doing call w c h (ap (may_answer p.doing call) (sym same) ∙ (and_parts _ _ holds).1)

-- Every legal history.

-- the entry is a refusal, and the frames allow it where it may follow
allowed_refusal : (g : Given) (h : List Entry) (e : Entry) (wired claimed held : ℕ) → MayFollow g h e → e.what ≡ Refused wired claimed held
    → HasNothing (frames_at g h) e.processor × IsRefused (frames_at g h) wired claimed held
allowed_refusal g h e wired claimed held may what =
    let on = subst (IsOn e.space e.frames) what may.parts in
    subst (FramesAllow (frames_at g h) (mark_of g e.processor) e.processor e.space) what (may.by_frames on.1)

-- so no frame can be had there
none_to_have : (g : Given) (h : List Entry) (e : Entry) (wired claimed held : ℕ) → IsLegal g h → MayFollow g h e
    → e.what ≡ Refused wired claimed held → NoneToHave g.frames (frames_at g h)
none_to_have g h e wired claimed held legal may what =
    NoneToHave-refused g.frames (length g.marks) (frames_at g h) wired claimed held (IsKept-legal g h legal).sound
    (allowed_refusal g h e wired claimed held may what).1

-- and its numbers sum to all frames
out_of_frames : (g : Given) (h : List Entry) (e : Entry) (wired claimed held : ℕ) → IsLegal g h → MayFollow g h e
    → e.what ≡ Refused wired claimed held → IsOutOfFrames g (frames_at g h) wired claimed held
out_of_frames g h e wired claimed held legal may what =
    let allowed = allowed_refusal g h e wired claimed held may what in
    IsOutOfFrames-refused g (frames_at g h) e.processor wired claimed held (IsKept-legal g h legal).sound may.processor allowed.0 allowed.1

-- The law: each answer that says that no frame could be had comes after such a refusal.
pub RefusesRightly-legal : (g : Given) (history : List Entry) → IsLegal g history → RefusesRightly g history
RefusesRightly-legal g history legal before after e number call answered wired claimed held split what reply =
    let at = IsLegal-at g before after e (subst (IsLegal g) split legal) in
    let from = progress_before (progress_at g before e.processor) e at.1.ordered.0 at.1.ordered.1 in
    let goes = ap (progress_after from.0 e.space) (sym what) ∙ from.2 in
    let said = SaysLast-legal g before at.0 e.processor (Refusal wired claimed held) from.0 from.1
    (answered_from from.0 at.1.ordered.0 number call answered.reply goes wired claimed held reply) in
    record {
      earlier = said.earlier;
      refusal = said.entry;
      since = said.since;
      split = said.split;
      own = said.own;
      numbers = said.says;
      last = said.last;
      none = none_to_have g said.earlier said.entry wired claimed held said.legal said.may said.says;
      all = (out_of_frames g said.earlier said.entry wired claimed held said.legal said.may said.says).all;
    }

-- The law: no refusal comes while wired places and processors together are at most the frames.
pub IsNeverShort-legal : (g : Given) (history : List Entry) → IsLegal g history → IsNeverShort g history
IsNeverShort-legal g history legal before after e wired claimed held split what =
    let at = IsLegal-at g before after e (subst (IsLegal g) split legal) in
    out_of_frames g before e wired claimed held at.0 at.1 what
