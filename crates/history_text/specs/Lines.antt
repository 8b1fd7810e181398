-- What a line's words after its part say.
use Rattle.std.specs.Prelude.{ℕ, ◌≢◌, Bool, List, [], ◌∷◌, codes, decimal, Option, None}
use Rattle.pager_model.specs.declared.entry.Need.{Need}
use Rattle.pager_model.specs.declared.entry.Want.{Want}
use Rattle.pager_model.specs.declared.entry.What.{What}
use Rattle.pager_model.specs.declared.entry.What.TheVariants as whats
use Rattle.pager_model.specs.declared.reply.Answered.{Answered}
use Rattle.pager_model.specs.Scripts.{Script}
use Rattle.pager_model.specs.PrintedText.{answered_words, flag_word, need_words, want_words, writing_word, written_word}
use Rattle.history_text.specs.declared.name.Name.{Name}
use Rattle.history_text.specs.declared.name.Name.TheVariants.{Answer, Out, Failed, Take, Give, Clear, Claim, UseHeld, Drop, Got, Unclaim, Refused, Pin, Kept, Rest}
use Rattle.history_text.specs.HistoryText.{FitsNeed, FitsReply, FitsSize, FitsWant, IsLarge, IsSmall, call_at}

abbrev pub word_of_name : Name → List ℕ
word_of_name Answer = codes "answer"
word_of_name Out = codes "out"
word_of_name Failed = codes "failed"
word_of_name Take = codes "take"
word_of_name Give = codes "give"
word_of_name Clear = codes "clear"
word_of_name Claim = codes "claim"
word_of_name UseHeld = codes "use"
word_of_name Drop = codes "drop"
word_of_name Got = codes "got"
word_of_name Unclaim = codes "unclaim"
word_of_name Refused = codes "refused"
word_of_name Pin = codes "pin"
word_of_name Kept = codes "kept"
word_of_name Rest = codes "rest"

abbrev pub name_of_what : What → Name
name_of_what (whats.Answer number call answered) = Answer
name_of_what (whats.Out page written) = Out
name_of_what (whats.Failed page writing count) = Failed
name_of_what (whats.Take page frame want) = Take
name_of_what (whats.Give page frame) = Give
name_of_what (whats.Clear first len) = Clear
name_of_what (whats.Claim victim page frame need) = Claim
name_of_what (whats.UseHeld page frame want) = UseHeld
name_of_what (whats.DropHeld frame) = Drop
name_of_what (whats.Got frame) = Got
name_of_what (whats.Unclaim frame) = Unclaim
name_of_what (whats.Refused wired claimed held) = Refused
name_of_what (whats.Pin first len wired) = Pin
name_of_what (whats.Kept first len page frame) = Kept
name_of_what (whats.Rest short) = Rest

-- no numbers of a kind have these words
abbrev pub NoneHas : Script → ℕ → List (List ℕ) → Name → Type 0
NoneHas script c words Answer =
    (number : ℕ) (answered : Answered) → FitsReply answered.reply → FitsSize answered.hit answered.size
    → call_at script c number ≢ None → words ≢ decimal number ∷ answered_words answered
NoneHas script c words Out = (page : ℕ) (written : Bool) → IsSmall page → words ≢ decimal page ∷ written_word written ∷ []
NoneHas script c words Failed =
    (page : ℕ) (writing : Bool) (count : ℕ) → IsSmall page → IsLarge count → words ≢ decimal page ∷ writing_word writing ∷ decimal count ∷ []
NoneHas script c words Take =
    (page frame : ℕ) (want : Want) → IsSmall page → IsSmall frame → FitsWant want → words ≢ decimal page ∷ decimal frame ∷ want_words want
NoneHas script c words Give = (page frame : ℕ) → IsSmall page → IsSmall frame → words ≢ decimal page ∷ decimal frame ∷ []
NoneHas script c words Clear = (first len : ℕ) → IsSmall first → IsSmall len → words ≢ decimal first ∷ decimal len ∷ []
NoneHas script c words Claim =
    (victim page frame : ℕ) (need : Option Need) → IsSmall victim → IsSmall page → IsSmall frame → FitsNeed need
    → words ≢ decimal victim ∷ decimal page ∷ decimal frame ∷ need_words need
NoneHas script c words UseHeld =
    (page frame : ℕ) (want : Want) → IsSmall page → IsSmall frame → FitsWant want → words ≢ decimal page ∷ decimal frame ∷ want_words want
NoneHas script c words Drop = (frame : ℕ) → IsSmall frame → words ≢ decimal frame ∷ []
NoneHas script c words Got = (frame : ℕ) → IsSmall frame → words ≢ decimal frame ∷ []
NoneHas script c words Unclaim = (frame : ℕ) → IsSmall frame → words ≢ decimal frame ∷ []
NoneHas script c words Refused =
    (wired claimed held : ℕ) → IsSmall wired → IsSmall claimed → IsSmall held → words ≢ decimal wired ∷ decimal claimed ∷ decimal held ∷ []
NoneHas script c words Pin =
    (first len : ℕ) (wired : Bool) → IsSmall first → IsSmall len → words ≢ decimal first ∷ decimal len ∷ flag_word wired ∷ []
NoneHas script c words Kept =
    (first len page frame : ℕ) → IsSmall first → IsSmall len → IsSmall page → IsSmall frame
    → words ≢ decimal first ∷ decimal len ∷ decimal page ∷ decimal frame ∷ []
NoneHas script c words Rest = (short : Bool) → words ≢ flag_word short ∷ []
