-- A step that writes no copy leads no flight to want of memory, by its row of the table.
use Rattle.std.proofs.Common.{◌≡◌, ◌≢◌, ℕ, Bool, true, false, Option, Some, None, IfSome, refl, ap, sym, ◌∙◌}
use Rattle.std.specs.Option.{IfNone}
use Rattle.std.proofs.lemmas.Bool.{true≢false}
use Rattle.std.proofs.lemmas.Option.{none-some, same_Some}
use Rattle.pager_model.specs.declared.entry.Entry.{Entry}
use Rattle.pager_model.specs.declared.entry.Victim.{Victim}
use Rattle.pager_model.specs.declared.entry.What.{What}
use Rattle.pager_model.specs.declared.entry.What.TheVariants.{Answer, Failed, Take, Give, Clear as Cleared, Pin as Pinned, Kept as Blocked, Claim, UseHeld, DropHeld, Got, Unclaim as Unclaimed, Refused, Rest}
use Rattle.pager_model.specs.declared.reply.Reply.{Reply}
use Rattle.pager_model.specs.declared.reply.Reply.TheVariants.{NoMemory}
use Rattle.pager_model.specs.Order.{is_served}
use Rattle.space_core.specs.Beginning.{copied_reply}
use Rattle.flight_core.specs.declared.flight.Phase.{Phase}
use Rattle.flight_core.specs.declared.flight.Phase.TheVariants.{Start, Evict, Clear, Pin, Busy, Gone, Frame, Short, Fill, Unfill, Out, Write, Hand, Unclaim, Back, Drop, Late, Use, Fault, Lack, Look, Rested, Ended}
use Rattle.flight_core.specs.declared.flight.Flight.{Flight}
use Rattle.flight_core.specs.declared.flight.Purpose.{Purpose}
use Rattle.flight_core.specs.declared.flight.Purpose.TheVariants.{Call as OfCall, Turn as OfTurn}
use Rattle.flight_core.specs.Lacking.{NeverLacks, is_lacking, is_no_memory, may_write}
use Rattle.flight_core.specs.Rows.{Outcome, Going, TurnEnded, Answered, row_of, reply_in, won, given_up, let_go}
use Rattle.flight_core.specs.Steps.{RowMakes, RowPasses}
use Rattle.flight_core.proofs.NextFlights.{ended_by}

-- a call that was answered otherwise
pub other_reply : (reply : Reply) → reply ≢ NoMemory → is_no_memory reply ≡ false
other_reply NoMemory other = absurd (other refl)
other_reply reply other = refl

served_reply : (reply : Reply) → is_served reply ≡ true → is_no_memory reply ≡ false
served_reply NoMemory served = cc
served_reply reply served = refl

copied_lacks : (written : Bool) → is_no_memory (copied_reply written) ≡ false
copied_lacks true = refl
copied_lacks false = refl

won_lacks : (purpose : Purpose) (v : Victim) → is_lacking (won purpose v) ≡ false
won_lacks (OfCall call claimed) v = refl
won_lacks (OfTurn mark evictions) v = refl

let_go_lacks : (purpose : Purpose) → is_lacking (let_go purpose) ≡ false
let_go_lacks (OfCall call claimed) = refl
let_go_lacks (OfTurn mark evictions) = refl

given_up_lacks : (purpose : Purpose) (v : Victim) (fault : Option ℕ) → is_lacking (Unclaim v fault) ≡ false
    → is_lacking (given_up purpose v fault) ≡ false
given_up_lacks purpose v None has = cc
given_up_lacks (OfCall call claimed) v (Some count) has = refl
given_up_lacks (OfTurn mark evictions) v (Some count) has = refl

pub NeverLacks-made : (purpose : Purpose) (old : Phase) (what : What) (new : Phase) → may_write old ≡ false → RowMakes purpose old what new
    → NeverLacks old new
NeverLacks-made purpose Start what new none row has = cc
NeverLacks-made purpose (Write v) what new none row has = cc
NeverLacks-made purpose (Evict page) (Answer number call a) new none row has =
    ap is_lacking row.1 ∙ ap is_no_memory row.0.1 ∙ copied_lacks row.0.0
NeverLacks-made purpose (Clear first len) (Cleared from size) new none row has = ap is_lacking row.2
NeverLacks-made purpose (Pin first len wired) (Pinned from size flag) new none row has = ap is_lacking row.3
NeverLacks-made purpose (Pin first len wired) (Blocked from size page frame) new none row has = ap is_lacking row.3
NeverLacks-made purpose (Busy first len page) (Answer number call a) new none row has = ap is_lacking row.1 ∙ ap is_no_memory row.0
NeverLacks-made purpose (Gone first len) (Answer number call a) new none row has = ap is_lacking row.1 ∙ ap is_no_memory row.0
NeverLacks-made purpose (Frame page want) (Take p frame w) new none row has = ap is_lacking row.2
NeverLacks-made purpose (Frame page want) (Claim space p frame need) new none row has = ap is_lacking row
NeverLacks-made purpose (Frame page want) (Refused wired claimed held) new none row has = ap is_lacking row
NeverLacks-made purpose (Short wired claimed held) (Answer number call a) new none row has = ap is_lacking row.1 ∙ ap is_no_memory row.0
NeverLacks-made purpose (Fill page frame) (Answer number call a) new none row has = ap is_lacking row.1 ∙ served_reply a.reply row.0
NeverLacks-made purpose (Fill page frame) (Failed p writing count) new none row has = ap is_lacking row.2
NeverLacks-made purpose (Unfill page frame count) (Give p f) new none row has = ap is_lacking row.1
NeverLacks-made purpose (Out v) (Got frame) new none row has = ap is_lacking row ∙ won_lacks purpose v
NeverLacks-made purpose (Hand v) (Give page frame) new none row has = ap is_lacking row.1 ∙ won_lacks purpose v
NeverLacks-made purpose (Unclaim v fault) (Unclaimed frame) new none row has = ap is_lacking row ∙ given_up_lacks purpose v fault has
NeverLacks-made purpose (Drop v) (DropHeld frame) new none row has = ap is_lacking row ∙ let_go_lacks purpose
NeverLacks-made purpose Late (Answer number call a) new none row has = ap is_lacking row.1 ∙ other_reply a.reply row.0
NeverLacks-made purpose (Use page want v) (UseHeld p frame w) new none row has = ap is_lacking row.2
NeverLacks-made purpose (Fault space count) (Answer number call a) new none row has = ap is_lacking row.1 ∙ ap is_no_memory row.0
NeverLacks-made purpose (Lack space) (Answer number call a) new none row has = cc
NeverLacks-made purpose Look (Claim space page frame need) new none row has = ap is_lacking row
NeverLacks-made purpose Look (Rest short) new none row has = ap is_lacking row
NeverLacks-made purpose old what new none row has = absurd row

pub NeverLacks-passed : (old new : Phase) → may_write old ≡ false → RowPasses old new → NeverLacks old new
NeverLacks-passed Start new none row has = cc
NeverLacks-passed (Write v) new none row has = cc
NeverLacks-passed (Out v) new none row has = ap is_lacking row
NeverLacks-passed (Back v) (Drop w) none row has = refl
NeverLacks-passed (Back v) (Use page want w) none row has = refl
NeverLacks-passed old new none row has = absurd row

-- A step that makes an entry or none, by what its clauses say of both.
pub NeverLacks-stepped : (purpose : Purpose) (old new : Phase) (o : Option Entry) → may_write old ≡ false
    → IfSome o (λ (e : Entry). RowMakes purpose old e.what new) → IfNone o (RowPasses old new) → NeverLacks old new
NeverLacks-stepped purpose old new None none made passed = NeverLacks-passed old new none passed
NeverLacks-stepped purpose old new (Some e) none made passed = NeverLacks-made purpose old e.what new none made

-- what came of a flight that has a reply
answered : (o : Outcome) (reply : Reply) → reply_in o ≡ Some reply → o ≡ Answered reply
answered Going reply is = absurd (none-some reply is)
answered TurnEnded reply is = absurd (none-some reply is)
answered (Answered r) reply is = ap Answered (same_Some r reply is)

-- the reply of a call that has memory
pub replied : (f : Flight) (reply : Reply) → is_lacking f.phase ≡ false → reply_in (row_of f).outcome ≡ Some reply → reply ≢ NoMemory
replied f reply has is lacking =
    true≢false (sym (ap is_lacking (ended_by f reply (answered (row_of f).outcome reply is) ∙ ap Ended lacking)) ∙ has)
