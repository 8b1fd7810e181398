-- A history's text is cut into the lines and words that it was made of, and isn't refused.
use Rattle.std.proofs.Common.{◌≡◌, ℕ, zero, suc, ◌%◌, ◌/◌, ◌<◌, ◌==◌, Bool, true, false, nat_lt, List, [], ◌∷◌, ◌++◌, length, Option, Some, None, codes, decimal, refl, sym, ap, subst, ◌∙◌, append_assoc, add-one, arith, inl, inr}
use Rattle.std.specs.Fmt.{digit_glyph, digits, digits_onto}
use Rattle.std.specs.List.{join_with_byte, AllByRecursion}
use Rattle.std.specs.Str.{bytes_eq}
use Rattle.std.proofs.lemmas.Bool.{cases_Bool, false≢true}
use Rattle.std.proofs.lemmas.List.Concat.{flat_map-cons}
use Rattle.std.proofs.lemmas.List.Elements.{recursion_from_All}
use Rattle.std.proofs.lemmas.Slice.Eq.{bytes_eq-Decides}
use Rattle.run_history.specs.Kept.{placed_from}
use Rattle.pager_model.specs.declared.entry.Entry.{Entry}
use Rattle.pager_model.specs.declared.entry.Need.{Need}
use Rattle.pager_model.specs.declared.entry.Numbered.{Numbered}
use Rattle.pager_model.specs.declared.entry.What.{What}
use Rattle.pager_model.specs.declared.entry.What.TheVariants.{Answer, Out, Failed, Take, Give, Clear, Claim, UseHeld, DropHeld, Got, Unclaim, Refused, Pin, Kept, Rest}
use Rattle.pager_model.specs.declared.reply.Reply.{Reply}
use Rattle.pager_model.specs.declared.reply.Reply.TheVariants.{Done, Value, Clean, Written, Unmapped, Denied, Overlap, OutOfSpace, NotGrowing, RegionsFull, NoFrames, StoreFault, NoMemory, Busy}
use Rattle.pager_model.specs.Legal.{entries_in}
use Rattle.pager_model.specs.Scripts.{Script}
use Rattle.pager_model.specs.PrintedText.{flag_word, history_line, history_text, hit_word, need_words, part_word, reply_words, size_words, what_words, writing_word, written_word}
use Rattle.pager_model.specs.TraceText.{line_of_words}
use Rattle.trace_lines.specs.Words.{words_of}
use Rattle.trace_lines.proofs.Splits.{some_piece}
use Rattle.trace_reader.specs.Refusals.{lines_of}
use Rattle.trace_lines.proofs.CutWords.{IsWord, is_word, words_again}
use Rattle.trace_reader.proofs.CutTexts.{line_again}
use Rattle.history_text.specs.declared.fault.HistoryFault.{HistoryFault}
use Rattle.history_text.specs.HistoryText.{IsEntryOf, IsHistoryText, entry_words, text_of_history}
use Rattle.history_text.specs.Refusals.{IsRefused, RefusedFrom}

-- ---- words without a space and a line feed

glyph_is : (d : ℕ) → 32 < digit_glyph false d
glyph_is d = elim (cases_Bool (nat_lt d 10)) [ inl low ↦ rw low (omega arith) | inr high ↦ rw high (omega arith) ]

digits_are : (k n : ℕ) (behind : List ℕ) → IsWord behind → IsWord (digits_onto k 10 false n behind)
digits_are zero n behind is = is
digits_are (suc k) n behind is =
    elim (cases_Bool (n / 10 == 0)) [
      | inl last ↦ rw last (glyph_is (n % 10), is)
      | inr more ↦ rw more (digits_are k (n / 10) (digit_glyph false (n % 10) ∷ behind) (glyph_is (n % 10), is))
    ]

number_is : (n : ℕ) → IsWord (decimal n)
unfolding digits
number_is n = digits_are 64 n [] tt

both_are : (front back : List ℕ) → IsWord front → IsWord back → IsWord (front ++ back)
both_are [] back is also = also
both_are (b ∷ front) back is also = (is.0, both_are front back is.1 also)

part_is : (space : Option ℕ) (frames : Bool) → IsWord (part_word space frames)
part_is None frames = is_word (codes "f") refl
part_is (Some space) false = both_are (codes "s") (decimal space) (is_word (codes "s") refl) (number_is space)
part_is (Some space) true =
    both_are (codes "s" ++ decimal space) (codes "+f") (both_are (codes "s") (decimal space) (is_word (codes "s") refl) (number_is space))
    (is_word (codes "+f") refl)

flag_is : (b : Bool) → IsWord (flag_word b)
flag_is true = is_word (codes "1") refl
flag_is false = is_word (codes "0") refl

written_is : (b : Bool) → IsWord (written_word b)
written_is true = is_word (codes "written") refl
written_is false = is_word (codes "clean") refl

writing_is : (b : Bool) → IsWord (writing_word b)
writing_is true = is_word (codes "write") refl
writing_is false = is_word (codes "read") refl

hit_is : (b : Bool) → IsWord (hit_word b)
hit_is true = is_word (codes "hit") refl
hit_is false = is_word (codes "miss") refl

abbrev AreWords : List (List ℕ) → Type 0
AreWords words = AllByRecursion IsWord words

all_are : (front back : List (List ℕ)) → AreWords front → AreWords back → AreWords (front ++ back)
all_are [] back are also = also
all_are (word ∷ front) back are also = (are.0, all_are front back are.1 also)

reply_are : (reply : Reply) → AreWords (reply_words reply)
reply_are Done = (is_word (codes "done") refl, tt)
reply_are (Value word) = (is_word (codes "value") refl, (number_is word, tt))
reply_are Clean = (is_word (codes "clean") refl, tt)
reply_are Written = (is_word (codes "written") refl, tt)
reply_are Unmapped = (is_word (codes "unmapped") refl, tt)
reply_are Denied = (is_word (codes "denied") refl, tt)
reply_are Overlap = (is_word (codes "overlap") refl, tt)
reply_are OutOfSpace = (is_word (codes "outofspace") refl, tt)
reply_are NotGrowing = (is_word (codes "notgrowing") refl, tt)
reply_are RegionsFull = (is_word (codes "regionsfull") refl, tt)
reply_are (NoFrames wired claimed held) =
    (is_word (codes "noframes") refl, (number_is wired, (number_is claimed, (number_is held, tt))))
reply_are (StoreFault space count) = (is_word (codes "storefault") refl, (number_is space, (number_is count, tt)))
reply_are NoMemory = (is_word (codes "nomemory") refl, tt)
reply_are (Busy page) = (is_word (codes "busy") refl, (number_is page, tt))

size_are : (hit : Bool) (size : Option ℕ) → AreWords (size_words hit size)
size_are hit None = tt
size_are hit (Some size) = (hit_is hit, (number_is size, tt))

need_are : (need : Option Need) → AreWords (need_words need)
need_are None = tt
need_are (Some need) = (is_word (codes "for") refl, (number_is need.page, (writing_is need.writing, tt)))

what_are : (what : What) → AreWords (what_words what)
what_are (Answer number call answered) = (
  is_word (codes "answer") refl,
  (number_is number, all_are (reply_words answered.reply) (size_words answered.hit answered.size) (reply_are answered.reply) (size_are answered.hit answered.size)),
)
what_are (Out page written) = (is_word (codes "out") refl, (number_is page, (written_is written, tt)))
what_are (Failed page writing count) = (is_word (codes "failed") refl, (number_is page, (writing_is writing, (number_is count, tt))))
what_are (Take page frame want) = (
  is_word (codes "take") refl,
  (number_is page, (number_is frame, (number_is want.low, (number_is want.high, (number_is want.cap, (flag_is want.wired, tt)))))),
)
what_are (Give page frame) = (is_word (codes "give") refl, (number_is page, (number_is frame, tt)))
what_are (Clear first len) = (is_word (codes "clear") refl, (number_is first, (number_is len, tt)))
what_are (Claim victim page frame need) =
    (is_word (codes "claim") refl, (number_is victim, (number_is page, (number_is frame, need_are need))))
what_are (UseHeld page frame want) = (
  is_word (codes "use") refl,
  (number_is page, (number_is frame, (number_is want.low, (number_is want.high, (number_is want.cap, (flag_is want.wired, tt)))))),
)
what_are (DropHeld frame) = (is_word (codes "drop") refl, (number_is frame, tt))
what_are (Got frame) = (is_word (codes "got") refl, (number_is frame, tt))
what_are (Unclaim frame) = (is_word (codes "unclaim") refl, (number_is frame, tt))
what_are (Refused wired claimed held) = (is_word (codes "refused") refl, (number_is wired, (number_is claimed, (number_is held, tt))))
what_are (Pin first len wired) = (is_word (codes "pin") refl, (number_is first, (number_is len, (flag_is wired, tt))))
what_are (Kept first len page frame) =
    (is_word (codes "kept") refl, (number_is first, (number_is len, (number_is page, (number_is frame, tt)))))
what_are (Rest short) = (is_word (codes "rest") refl, (flag_is short, tt))

entry_are : (n : ℕ) (e : Entry) → AreWords (entry_words n e)
entry_are n e = (number_is n, (number_is e.processor, (part_is e.space e.frames, what_are e.what)))

-- ---- lines

abbrev pub end_line : List ℕ
end_line = line_of_words (codes "end" ∷ [])

-- the text of entries from this number on, up to the end
abbrev pub entries_text : ℕ → List Entry → List ℕ
entries_text n es = history_text (placed_from n es) ++ end_line

abbrev pub entry_line : ℕ → Entry → List ℕ
entry_line n e = join_with_byte 32 (entry_words n e)

pub entry_words_again : (n : ℕ) (e : Entry) → words_of (entry_line n e) ≡ entry_words n e
entry_words_again n e = words_again (decimal n) (decimal e.processor ∷ part_word e.space e.frames ∷ what_words e.what) (entry_are n e)

-- an entry has more words than the end
pub entry_is_not_end : (n : ℕ) (e : Entry) → bytes_eq (entry_line n e) (codes "end") ≡ false
entry_is_not_end n e =
    elim (cases_Bool (bytes_eq (entry_line n e) (codes "end"))) [
      | inl same ↦
          let is = (bytes_eq-Decides (entry_line n e) (codes "end")).0 same in
          let words : entry_words n e ≡ codes "end" ∷ [] = sym (entry_words_again n e) ∙ ap words_of is in
          absurd (omega (arith, ap length words))
      | inr other ↦ other
    ]

pub no_entry : (n : ℕ) → lines_of (entries_text n []) ≡ codes "end" ∷ [] ∷ []
unfolding placed_from
no_entry n = refl

pub entry_again : (n : ℕ) (e : Entry) (es : List Entry)
    → lines_of (entries_text n (e ∷ es)) ≡ entry_line n e ∷ lines_of (entries_text (suc n) es)
unfolding placed_from
entry_again n e es =
    let placed : Numbered = record { number = n; entry = e } in
    ap lines_of
    (ap (λ (x : List ℕ). x ++ end_line) (flat_map-cons history_line placed (placed_from (suc n) es))
    ∙ append_assoc (history_line placed) (history_text (placed_from (suc n) es)) end_line)
    ∙ line_again (entry_words n e) (entries_text (suc n) es) (entry_are n e)

-- ---- no refusal

from_entries : (script : Script) (n : ℕ) (es : List Entry) (fault : HistoryFault) → AllByRecursion (IsEntryOf script) es
    → RefusedFrom script n (lines_of (entries_text n es)) fault → ⊥
from_entries script n [] fault are refused =
    let at_end : RefusedFrom script n (codes "end" ∷ [] ∷ []) fault = subst (λ ls. RefusedFrom script n ls fault) (no_entry n) refused in
    elim at_end [
      | inl ends ↦ ends.1
      | inr goes ↦ elim goes [ inl bad ↦ false≢true (sym bad.0) | inr good ↦ false≢true (sym good.0) ]
    ]
from_entries script n (e ∷ es) fault are refused =
    let p = some_piece 10 (entries_text (suc n) es) in
    let at_line : RefusedFrom script n (entry_line n e ∷ p.0 ∷ p.1) fault =
    subst (λ ls. RefusedFrom script n ls fault) (entry_again n e es ∙ ap (λ ls. entry_line n e ∷ ls) p.2) refused in
    elim at_line [
      | inl ends ↦ false≢true (sym (entry_is_not_end n e) ∙ ends.0)
      | inr goes ↦ elim goes [
        | inl bad ↦ bad.1 (record { entry = e; is = are.0; words = entry_words_again n e })
        | inr good ↦
            from_entries script (suc n) es fault are.1
            (subst (λ ls. RefusedFrom script (suc n) ls fault) (sym p.2)
            (subst (λ k. RefusedFrom script k (p.0 ∷ p.1) fault) (add-one n) good.2))
      ]
    ]

pub text_is : (script : Script) (text : List ℕ) (history : List Numbered) → IsHistoryText script text history
    → text ≡ entries_text 0 (entries_in history)
text_is script text history is = is.1 ∙ ap text_of_history is.0.numbered

pub not_refused : (script : Script) (text : List ℕ) (history : List Numbered) (fault : HistoryFault) → IsHistoryText script text history
    → IsRefused script text fault → ⊥
not_refused script text history fault is refused =
    from_entries script 0 (entries_in history) fault (recursion_from_All _ (entries_in history) is.0.entries)
    (subst (λ t. RefusedFrom script 0 (lines_of t) fault) (text_is script text history is) refused)
