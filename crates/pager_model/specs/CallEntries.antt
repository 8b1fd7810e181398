-- The entries of a space's calls.
use Rattle.std.specs.Prelude.{ℕ, Bool, true, false, Some}
use Rattle.pager_model.specs.declared.call.Call.{Call}
use Rattle.pager_model.specs.declared.call.Call.TheVariants.{Evict}
use Rattle.pager_model.specs.declared.entry.Entry.{Entry}
use Rattle.pager_model.specs.declared.entry.What.TheVariants.{Answer, Out, Failed, Take, Give, Clear, Pin, Kept}
use Rattle.pager_model.specs.declared.entry.Want.{Want}
use Rattle.pager_model.specs.declared.reply.Answered.{Answered}
use Rattle.pager_model.specs.Flat.{space_of_call}

abbrev pub answer_entry : ℕ → ℕ → Call → Answered → Entry
answer_entry c number call answered =
    record { processor = c; space = Some (space_of_call call); frames = false; what = Answer number call answered }

-- the answer of an evict whose page gives its frame up
abbrev pub evict_entry : ℕ → ℕ → ℕ → ℕ → Answered → Entry
evict_entry c number space page answered =
    record { processor = c; space = Some space; frames = true; what = Answer number (Evict space page) answered }

abbrev pub take_entry : ℕ → ℕ → ℕ → ℕ → Want → Entry
take_entry c space page frame want = record { processor = c; space = Some space; frames = true; what = Take page frame want }

abbrev pub give_entry : ℕ → ℕ → ℕ → ℕ → Entry
give_entry c space page frame = record { processor = c; space = Some space; frames = true; what = Give page frame }

abbrev pub clear_entry : ℕ → ℕ → ℕ → ℕ → Entry
clear_entry c space first len = record { processor = c; space = Some space; frames = true; what = Clear first len }

abbrev pub pin_entry : ℕ → ℕ → ℕ → ℕ → Bool → Entry
pin_entry c space first len wired = record { processor = c; space = Some space; frames = true; what = Pin first len wired }

abbrev pub kept_entry : ℕ → ℕ → ℕ → ℕ → ℕ → ℕ → Entry
kept_entry c space first len page frame = record { processor = c; space = Some space; frames = true; what = Kept first len page frame }

abbrev pub out_entry : ℕ → ℕ → ℕ → Bool → Entry
out_entry c space page written = record { processor = c; space = Some space; frames = false; what = Out page written }

abbrev pub failed_entry : ℕ → ℕ → ℕ → Bool → ℕ → Entry
failed_entry c space page writing count = record { processor = c; space = Some space; frames = false; what = Failed page writing count }
