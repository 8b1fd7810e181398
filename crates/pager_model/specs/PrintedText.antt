-- What a run prints: for each processor its answers; where it is asked for, the history; and the counts.
use Rattle.std.specs.Prelude.{ℕ, Bool, true, false, if◌then◌else◌, List, [], ◌∷◌, ◌++◌, codes, decimal, flat_map, map, Option, Some, None}
use Rattle.std.specs.List.{range_with_len}
use Rattle.pager_model.specs.declared.entry.Entry.{Entry}
use Rattle.pager_model.specs.declared.entry.Need.{Need}
use Rattle.pager_model.specs.declared.entry.Numbered.{Numbered}
use Rattle.pager_model.specs.declared.entry.Want.{Want}
use Rattle.pager_model.specs.declared.entry.What.{What}
use Rattle.pager_model.specs.declared.entry.What.TheVariants.{Answer, Out, Failed, Take, Give, Clear, Claim, UseHeld, DropHeld, Got, Unclaim, Refused, Pin, Kept, Rest}
use Rattle.pager_model.specs.declared.reply.Answered.{Answered}
use Rattle.pager_model.specs.declared.reply.Reply.{Reply}
use Rattle.pager_model.specs.declared.reply.Reply.TheVariants.{Done, Value, Clean, Written, Unmapped, Denied, Overlap, OutOfSpace, NotGrowing, RegionsFull, NoFrames, StoreFault, NoMemory, Busy}
use Rattle.pager_model.specs.declared.summary.Summary.{Summary}
use Rattle.pager_model.specs.Entries.{entries_of}
use Rattle.pager_model.specs.Legal.{entries_in}
use Rattle.pager_model.specs.TraceText.{line_of_words}

-- Answers.

abbrev pub reply_words : Reply → List (List ℕ)
reply_words Done = codes "done" ∷ []
reply_words (Value word) = codes "value" ∷ decimal word ∷ []
reply_words Clean = codes "clean" ∷ []
reply_words Written = codes "written" ∷ []
reply_words Unmapped = codes "unmapped" ∷ []
reply_words Denied = codes "denied" ∷ []
reply_words Overlap = codes "overlap" ∷ []
reply_words OutOfSpace = codes "outofspace" ∷ []
reply_words NotGrowing = codes "notgrowing" ∷ []
reply_words RegionsFull = codes "regionsfull" ∷ []
reply_words (NoFrames wired claimed held) = codes "noframes" ∷ decimal wired ∷ decimal claimed ∷ decimal held ∷ []
reply_words (StoreFault space count) = codes "storefault" ∷ decimal space ∷ decimal count ∷ []
reply_words NoMemory = codes "nomemory" ∷ []
reply_words (Busy page) = codes "busy" ∷ decimal page ∷ []

abbrev pub hit_word : Bool → List ℕ
hit_word true = codes "hit"
hit_word false = codes "miss"

-- a hit or a miss, and the size
abbrev pub size_words : Bool → Option ℕ → List (List ℕ)
size_words hit None = []
size_words hit (Some size) = hit_word hit ∷ decimal size ∷ []

abbrev pub answered_words : Answered → List (List ℕ)
answered_words a = reply_words a.reply ++ size_words a.hit a.size

-- an answer's line: the processor, the call's number, the reply, and its hit and size. Other entries have none
abbrev pub answer_line : ℕ → What → List ℕ
answer_line c (Answer number call answered) = line_of_words (decimal c ∷ decimal number ∷ answered_words answered)
answer_line c what = []

abbrev pub entry_text : Entry → List ℕ
entry_text e = answer_line e.processor e.what

-- the answers of one processor
abbrev pub answers_of : List Entry → ℕ → List ℕ
answers_of history c = flat_map entry_text (entries_of c history)

abbrev pub answers_text : ℕ → List Entry → List ℕ
answers_text processors history = flat_map (answers_of history) (range_with_len 0 processors)

-- The history.

-- the parts that an entry names: a space, the frames, or both
abbrev pub part_word : Option ℕ → Bool → List ℕ
part_word None frames = codes "f"
part_word (Some space) false = codes "s" ++ decimal space
part_word (Some space) true = codes "s" ++ decimal space ++ codes "+f"

abbrev pub flag_word : Bool → List ℕ
flag_word true = codes "1"
flag_word false = codes "0"

abbrev pub written_word : Bool → List ℕ
written_word true = codes "written"
written_word false = codes "clean"

abbrev pub writing_word : Bool → List ℕ
writing_word true = codes "write"
writing_word false = codes "read"

abbrev pub want_words : Want → List (List ℕ)
want_words want = decimal want.low ∷ decimal want.high ∷ decimal want.cap ∷ flag_word want.wired ∷ []

-- the page that needs a frame, where a call makes the claim
abbrev pub need_words : Option Need → List (List ℕ)
need_words None = []
need_words (Some need) = codes "for" ∷ decimal need.page ∷ writing_word need.writing ∷ []

abbrev pub what_words : What → List (List ℕ)
what_words (Answer number call answered) = codes "answer" ∷ decimal number ∷ answered_words answered
what_words (Out page written) = codes "out" ∷ decimal page ∷ written_word written ∷ []
what_words (Failed page writing count) = codes "failed" ∷ decimal page ∷ writing_word writing ∷ decimal count ∷ []
what_words (Take page frame want) = codes "take" ∷ decimal page ∷ decimal frame ∷ want_words want
what_words (Give page frame) = codes "give" ∷ decimal page ∷ decimal frame ∷ []
what_words (Clear first len) = codes "clear" ∷ decimal first ∷ decimal len ∷ []
what_words (Claim victim page frame need) = codes "claim" ∷ decimal victim ∷ decimal page ∷ decimal frame ∷ need_words need
what_words (UseHeld page frame want) = codes "use" ∷ decimal page ∷ decimal frame ∷ want_words want
what_words (DropHeld frame) = codes "drop" ∷ decimal frame ∷ []
what_words (Got frame) = codes "got" ∷ decimal frame ∷ []
what_words (Unclaim frame) = codes "unclaim" ∷ decimal frame ∷ []
what_words (Refused wired claimed held) = codes "refused" ∷ decimal wired ∷ decimal claimed ∷ decimal held ∷ []
what_words (Pin first len wired) = codes "pin" ∷ decimal first ∷ decimal len ∷ flag_word wired ∷ []
what_words (Kept first len page frame) = codes "kept" ∷ decimal first ∷ decimal len ∷ decimal page ∷ decimal frame ∷ []
what_words (Rest short) = codes "rest" ∷ flag_word short ∷ []

-- an entry's line: its number, its processor, the parts that it names, and what it is
abbrev pub history_line : Numbered → List ℕ
history_line n =
    line_of_words (decimal n.number ∷ decimal n.entry.processor ∷ part_word n.entry.space n.entry.frames ∷ what_words n.entry.what)

abbrev pub history_text : List Numbered → List ℕ
history_text history = flat_map history_line history

-- The counts.

abbrev pub count_line : List ℕ → List ℕ → List ℕ
count_line name numbers = line_of_words (name ∷ map decimal numbers)

abbrev pub summary_text : Summary → List ℕ
summary_text s =
    count_line (codes "tiles") s.tiles
    ++ count_line (codes "promotions") (s.promotions ∷ [])
    ++ count_line (codes "demotions") (s.demotions ∷ [])
    ++ count_line (codes "preemptions") (s.preemptions ∷ [])
    ++ count_line (codes "images") (s.hits ∷ s.misses ∷ [])
    ++ count_line (codes "frames") (s.free ∷ s.reserved ∷ s.used ∷ [])
    ++ line_of_words (codes "end" ∷ [])

-- The whole text: the answers of so many processors, the history where it is asked for, and the counts.
abbrev pub out_text : Bool → ℕ → List Numbered → Summary → List ℕ
out_text with_history processors history s =
    answers_text processors (entries_in history) ++ (if with_history then history_text history else []) ++ summary_text s
