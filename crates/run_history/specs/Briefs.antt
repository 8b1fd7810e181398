-- The entry that a brief says.
use Rattle.std.specs.Prelude.{ℕ, ◌≡◌, ◌<◌, ◌⊎◌, Bool, true, false, if◌then◌else◌, List, [], ◌∷◌, ◌++◌, length, slice_index_or, Some, None}
use Rattle.std.specs.Bool.{⊤}
use Rattle.pager_model.specs.declared.call.Call.{Call}
use Rattle.pager_model.specs.declared.call.Call.TheVariants.{Load, Store}
use Rattle.pager_model.specs.declared.entry.Entry.{Entry}
use Rattle.pager_model.specs.declared.entry.Want.{Want}
use Rattle.pager_model.specs.declared.entry.What.{What}
use Rattle.pager_model.specs.declared.entry.What.TheVariants.{Answer, Out, Take, Give, Claim, UseHeld, Rest}
use Rattle.pager_model.specs.declared.reply.Answered.{Answered}
use Rattle.pager_model.specs.declared.reply.Reply.TheVariants.{Done, Value}
use Rattle.run_history.specs.declared.brief.Brief.{Brief}
use Rattle.run_history.specs.declared.brief.Said.{Said}
use Rattle.run_history.specs.declared.brief.Said.TheVariants.{Accessed, Filled, Given, PagedOut, Claimed, Whole}

-- what happened to a space alone, and to a space and the frames
abbrev pub on_space : ℕ → ℕ → What → Entry
on_space processor space what = record { processor = processor; space = Some space; frames = false; what = what }

abbrev pub on_both : ℕ → ℕ → What → Entry
on_both processor space what = record { processor = processor; space = Some space; frames = true; what = what }

-- a store of the word that was done, or a load that it answered
abbrev pub call_of : Bool → ℕ → ℕ → ℕ → Call
call_of store space address word = if store then Store space address word else Load space address

abbrev pub answered_of : Bool → ℕ → Bool → ℕ → Answered
answered_of store word hit size = record { reply = if store then Done else Value word; hit = hit; size = Some size }

-- a page got a frame: the one in place of that which the processor held, or another
abbrev pub fill_of : Bool → ℕ → ℕ → Want → What
fill_of held page frame want = if held then UseHeld page frame want else Take page frame want

-- the frame of a page of this space was claimed for a need
abbrev pub claim_of : ℕ → ℕ → ℕ → ℕ → Bool → What
claim_of owner page frame wanted writing = Claim owner page frame (Some (record { page = wanted; writing = writing }))

-- what stands where no entry is kept: no brief says it
abbrev pub no_entry : Entry
no_entry = record { processor = 0; space = None; frames = false; what = Rest false }

-- the entry of what is said of a processor and a space, beside those entries that are kept whole
abbrev pub entry_by : List Entry → ℕ → ℕ → Said → Entry
entry_by whole c space (Accessed store hit size number address word) =
    on_space c space (Answer number (call_of store space address word) (answered_of store word hit size))
entry_by whole c space (Filled held wired page frame low high cap) =
    on_both c space (fill_of held page frame (record { low = low; high = high; cap = cap; wired = wired }))
entry_by whole c space (Given page frame) = on_both c space (Give page frame)
entry_by whole c space (PagedOut written page) = on_space c space (Out page written)
entry_by whole c space (Claimed writing owner page frame wanted) = on_both c space (claim_of owner page frame wanted writing)
entry_by whole c space (Whole place) = record (slice_index_or whole place no_entry) { processor = c }

abbrev pub brief_of : ℕ → ℕ → Said → Brief
brief_of c space said = record { processor = c; space = space; said = said }

abbrev pub entry_of : List Entry → Brief → Entry
entry_of whole b = entry_by whole b.processor b.space b.said

-- where it is said that the entry is kept whole, one is, of so many
abbrev pub fits : ℕ → Said → Type 0
fits count (Accessed store hit size number address word) = ⊤
fits count (Filled held wired page frame low high cap) = ⊤
fits count (Given page frame) = ⊤
fits count (PagedOut written page) = ⊤
fits count (Claimed writing owner page frame wanted) = ⊤
fits count (Whole place) = place < count

abbrev pub FitsIn : ℕ → Brief → Type 0
FitsIn count b = fits count b.said

-- the brief says the entry, whatever is kept whole
pub record Says (e : Entry) (b : Brief) : Type 0 where
  pub entry : (whole : List Entry) → entry_of whole b ≡ e
  pub fits : (count : ℕ) → FitsIn count b

-- the brief says the entry beside those that are kept whole after it: those before, and it where no brief says it alone
pub record Keeps (e : Entry) (before after : List Entry) (b : Brief) : Type 0 where
  pub entry : entry_of after b ≡ e
  pub fits : FitsIn (length after) b
  pub grown : (after ≡ before) ⊎ (after ≡ before ++ e ∷ [])
