-- An entry is read back from its line, so that a text has one history.
use Rattle.std.proofs.Common.{◌≡◌, ◌≢◌, ℕ, suc, ◌^◌, ◌<◌, ◌≤◌, Bool, true, false, cond, List, [], ◌∷◌, ◌++◌, drop, get_or, Option, Some, None, codes, decimal, refl, sym, ap, subst, ◌∙◌, arith}
use Rattle.std.specs.List.{AllByRecursion}
use Rattle.std.specs.Str.{bytes_eq}
use Rattle.std.specs.Str.Parse.{digits_value}
use Rattle.std.proofs.lemmas.Bool.{false≢true}
use Rattle.std.proofs.lemmas.List.{append_cancel_right}
use Rattle.std.proofs.lemmas.List.Elements.{recursion_from_All}
use Rattle.run_history.specs.Kept.{placed_from}
use Rattle.pager_model.specs.declared.call.Call.{Call}
use Rattle.pager_model.specs.declared.call.Call.TheVariants.{Sync as SyncCall}
use Rattle.pager_model.specs.declared.entry.Entry.{Entry}
use Rattle.pager_model.specs.declared.entry.Need.{Need}
use Rattle.pager_model.specs.declared.entry.Numbered.{Numbered}
use Rattle.pager_model.specs.declared.entry.Want.{Want}
use Rattle.pager_model.specs.declared.entry.What.{What}
use Rattle.pager_model.specs.declared.entry.What.TheVariants as whats
use Rattle.pager_model.specs.declared.reply.Answered.{Answered}
use Rattle.pager_model.specs.declared.reply.Reply.{Reply}
use Rattle.pager_model.specs.declared.reply.Reply.TheVariants.{Done, Value, Clean, Written, Unmapped, Denied, Overlap, OutOfSpace, NotGrowing, RegionsFull, NoFrames, StoreFault, NoMemory, Busy}
use Rattle.pager_model.specs.Legal.{entries_in}
use Rattle.pager_model.specs.Scripts.{Script}
use Rattle.pager_model.specs.PrintedText.{answered_words, flag_word, hit_word, need_words, part_word, reply_words, size_words, what_words, writing_word, written_word}
use Rattle.pager_model.specs.TraceText.{HasText}
use Rattle.pager_model.proofs.Actors.{actors_few}
use Rattle.trace_lines.specs.Words.{words_of}
use Rattle.trace_lines.proofs.Numbers.{decimal_value}
use Rattle.trace_reader.specs.Refusals.{lines_of}
use Rattle.history_text.specs.declared.name.Name.{Name}
use Rattle.history_text.specs.declared.name.Name.TheVariants.{Answer, Out, Failed, Take, Give, Clear, Claim, UseHeld, Drop, Got, Unclaim, Refused, Pin, Kept, Rest}
use Rattle.history_text.specs.HistoryText.{FitsNeed, FitsReply, FitsSize, FitsWhat, IsEntryOf, IsHistoryText, IsPart, call_at, entry_words}
use Rattle.history_text.specs.Lines.{name_of_what}
use Rattle.history_text.proofs.CutHistories.{entries_text, entry_again, entry_is_not_end, entry_line, entry_words_again, no_entry, text_is}
use Rattle.history_text.proofs.DealtCalls.{small_number}
use Rattle.history_text.proofs.Names.{begins, first, one_name, others}
use Rattle.history_text.proofs.Parts.{not_digits}
use Rattle.history_text.proofs.Words.{one_number}

-- ---- numbers, flags and words by name

abbrev number_back : List (List ℕ) → ℕ → ℕ
number_back words i = digits_value 10 (get_or words i [])

abbrev word_back : List (List ℕ) → ℕ → List ℕ → Bool
word_back words i yes_word = bytes_eq (get_or words i []) yes_word

flag_again : (b : Bool) → bytes_eq (flag_word b) (codes "1") ≡ b
flag_again true = refl
flag_again false = refl

written_again : (b : Bool) → bytes_eq (written_word b) (codes "written") ≡ b
written_again true = refl
written_again false = refl

writing_again : (b : Bool) → bytes_eq (writing_word b) (codes "write") ≡ b
writing_again true = refl
writing_again false = refl

hit_again : (b : Bool) → bytes_eq (hit_word b) (codes "hit") ≡ b
hit_again true = refl
hit_again false = refl

-- ---- answers

-- the reply that words begin with
abbrev reply_back : List (List ℕ) → Reply
reply_back words =
    let name = get_or words 0 [] in
    cond (bytes_eq name (codes "done")) Done (cond (bytes_eq name (codes "value")) (Value (number_back words 1))
    (cond (bytes_eq name (codes "clean")) Clean (cond (bytes_eq name (codes "written")) Written
    (cond (bytes_eq name (codes "unmapped")) Unmapped (cond (bytes_eq name (codes "denied")) Denied
    (cond (bytes_eq name (codes "overlap")) Overlap (cond (bytes_eq name (codes "outofspace")) OutOfSpace
    (cond (bytes_eq name (codes "notgrowing")) NotGrowing (cond (bytes_eq name (codes "regionsfull")) RegionsFull
    (cond (bytes_eq name (codes "noframes")) (NoFrames (number_back words 1) (number_back words 2) (number_back words 3))
    (cond (bytes_eq name (codes "storefault")) (StoreFault (number_back words 1) (number_back words 2))
    (cond (bytes_eq name (codes "nomemory")) NoMemory (Busy (number_back words 1))))))))))))))

-- the words behind it
abbrev behind_reply : List (List ℕ) → List (List ℕ)
behind_reply words =
    let name = get_or words 0 [] in
    cond (bytes_eq name (codes "value")) (drop 2 words) (cond (bytes_eq name (codes "busy")) (drop 2 words)
    (cond (bytes_eq name (codes "noframes")) (drop 4 words) (cond (bytes_eq name (codes "storefault")) (drop 3 words) (drop 1 words))))

reply_is_back : (reply : Reply) (more : List (List ℕ)) → FitsReply reply
    → (reply_back (reply_words reply ++ more) ≡ reply) × (behind_reply (reply_words reply ++ more) ≡ more)
reply_is_back Done more fits = (refl, refl)
reply_is_back (Value word) more fits = (rw (decimal_value word fits) refl, refl)
reply_is_back Clean more fits = (refl, refl)
reply_is_back Written more fits = (refl, refl)
reply_is_back Unmapped more fits = (refl, refl)
reply_is_back Denied more fits = (refl, refl)
reply_is_back Overlap more fits = (refl, refl)
reply_is_back OutOfSpace more fits = (refl, refl)
reply_is_back NotGrowing more fits = (refl, refl)
reply_is_back RegionsFull more fits = (refl, refl)
reply_is_back (NoFrames wired claimed held) more fits = (
  rw (
    decimal_value wired (omega (arith, fits.0)),
    decimal_value claimed (omega (arith, fits.1)),
    decimal_value held (omega (arith, fits.2)),
  ) refl,
  refl,
)
reply_is_back (StoreFault space count) more fits = (rw (decimal_value space (omega (arith, fits.0)), decimal_value count fits.1) refl, refl)
reply_is_back NoMemory more fits = (refl, refl)
reply_is_back (Busy page) more fits = (rw (decimal_value page (omega (arith, fits))) refl, refl)

abbrev hit_back : List (List ℕ) → Bool
hit_back [] = false
hit_back (word ∷ words) = bytes_eq word (codes "hit")

abbrev size_back : List (List ℕ) → Option ℕ
size_back [] = None
size_back (word ∷ words) = Some (number_back words 0)

size_is_back : (hit : Bool) (size : Option ℕ) → FitsSize hit size
    → (hit_back (size_words hit size) ≡ hit) × (size_back (size_words hit size) ≡ size)
size_is_back hit None fits = (sym fits, refl)
size_is_back hit (Some size) fits = (hit_again hit, rw (decimal_value size (omega (arith, fits))) refl)

abbrev answered_back : List (List ℕ) → Answered
answered_back words =
    record { reply = reply_back words; hit = hit_back (behind_reply words); size = size_back (behind_reply words) }

answered_is_back : (a : Answered) → FitsReply a.reply → FitsSize a.hit a.size → answered_back (answered_words a) ≡ a
answered_is_back a fits fits_size =
    let reply = reply_is_back a.reply (size_words a.hit a.size) fits in
    let size = size_is_back a.hit a.size fits_size in
    λ i. record {
      reply = reply.0 i;
      hit = (ap hit_back reply.1 ∙ size.0) i;
      size = (ap size_back reply.1 ∙ size.1) i;
    }

-- ---- what happened

abbrev want_back : List (List ℕ) → Want
want_back words = record {
  low = number_back words 2;
  high = number_back words 3;
  cap = number_back words 4;
  wired = word_back words 5 (codes "1");
}

abbrev need_back : List (List ℕ) → Option Need
need_back [] = None
need_back (word ∷ words) = Some (record { page = number_back words 0; writing = word_back words 1 (codes "write") })

need_is_back : (need : Option Need) → FitsNeed need → need_back (need_words need) ≡ need
need_is_back None fits = refl
need_is_back (Some need) fits = rw (decimal_value need.page (omega (arith, fits)), writing_again need.writing) refl

abbrev call_back : Option Call → Call
call_back None = SyncCall 0 0
call_back (Some call) = call

-- what happened of a kind, by the words behind its name
abbrev what_back : Script → ℕ → Name → List (List ℕ) → What
what_back script c Answer words =
    whats.Answer (number_back words 0) (call_back (call_at script c (number_back words 0))) (answered_back (drop 1 words))
what_back script c Out words = whats.Out (number_back words 0) (word_back words 1 (codes "written"))
what_back script c Failed words = whats.Failed (number_back words 0) (word_back words 1 (codes "write")) (number_back words 2)
what_back script c Take words = whats.Take (number_back words 0) (number_back words 1) (want_back words)
what_back script c Give words = whats.Give (number_back words 0) (number_back words 1)
what_back script c Clear words = whats.Clear (number_back words 0) (number_back words 1)
what_back script c Claim words = whats.Claim (number_back words 0) (number_back words 1) (number_back words 2) (need_back (drop 3 words))
what_back script c UseHeld words = whats.UseHeld (number_back words 0) (number_back words 1) (want_back words)
what_back script c Drop words = whats.DropHeld (number_back words 0)
what_back script c Got words = whats.Got (number_back words 0)
what_back script c Unclaim words = whats.Unclaim (number_back words 0)
what_back script c Refused words = whats.Refused (number_back words 0) (number_back words 1) (number_back words 2)
what_back script c Pin words = whats.Pin (number_back words 0) (number_back words 1) (word_back words 2 (codes "1"))
what_back script c Kept words = whats.Kept (number_back words 0) (number_back words 1) (number_back words 2) (number_back words 3)
what_back script c Rest words = whats.Rest (word_back words 0 (codes "1"))

small_is : (n : ℕ) → n < 2 ^ 32 → digits_value 10 (decimal n) ≡ n
small_is n small = decimal_value n (omega arith)

what_is_back : (script : Script) (c : ℕ) (what : What) → HasText script → FitsWhat script c what
    → what_back script c (name_of_what what) (others (what_words what)) ≡ what
what_is_back script c (whats.Answer number call answered) has fits =
    let there : call_at script c number ≢ None = λ none. cc (fits.0, none) in
    rw (
      small_is number (small_number script c number has there),
      fits.0,
      answered_is_back answered fits.1 fits.2,
    ) refl
what_is_back script c (whats.Out page written) has fits = rw (small_is page fits, written_again written) refl
what_is_back script c (whats.Failed page writing count) has fits =
    rw (small_is page fits.0, writing_again writing, decimal_value count fits.1) refl
what_is_back script c (whats.Take page frame want) has fits =
    rw (
      small_is page fits.0,
      small_is frame fits.1,
      small_is want.low fits.2.0,
      small_is want.high fits.2.1,
      small_is want.cap fits.2.2,
      flag_again want.wired,
    ) refl
what_is_back script c (whats.Give page frame) has fits = rw (small_is page fits.0, small_is frame fits.1) refl
what_is_back script c (whats.Clear a len) has fits = rw (small_is a fits.0, small_is len fits.1) refl
what_is_back script c (whats.Claim victim page frame need) has fits =
    rw (small_is victim fits.0, small_is page fits.1, small_is frame fits.2, need_is_back need fits.3) refl
what_is_back script c (whats.UseHeld page frame want) has fits =
    rw (
      small_is page fits.0,
      small_is frame fits.1,
      small_is want.low fits.2.0,
      small_is want.high fits.2.1,
      small_is want.cap fits.2.2,
      flag_again want.wired,
    ) refl
what_is_back script c (whats.DropHeld frame) has fits = rw (small_is frame fits) refl
what_is_back script c (whats.Got frame) has fits = rw (small_is frame fits) refl
what_is_back script c (whats.Unclaim frame) has fits = rw (small_is frame fits) refl
what_is_back script c (whats.Refused wired claimed held) has fits =
    rw (small_is wired fits.0, small_is claimed fits.1, small_is held fits.2) refl
what_is_back script c (whats.Pin a len wired) has fits = rw (small_is a fits.0, small_is len fits.1, flag_again wired) refl
what_is_back script c (whats.Kept a len page frame) has fits =
    rw (small_is a fits.0, small_is len fits.1, small_is page fits.2, small_is frame fits.3) refl
what_is_back script c (whats.Rest short) has fits = rw (flag_again short) refl

one_what : (script : Script) (c : ℕ) (a b : What) → HasText script → FitsWhat script c a → FitsWhat script c b → what_words a ≡ what_words b → a ≡ b
one_what script c a b has fits also same =
    let name : name_of_what a ≡ name_of_what b =
    one_name (name_of_what a) (name_of_what b) (sym (begins a) ∙ ap first same ∙ begins b) in
    sym (what_is_back script c a has fits)
    ∙ ap (λ k. what_back script c k (others (what_words a))) name
    ∙ ap (λ words. what_back script c (name_of_what b) (others words)) same
    ∙ what_is_back script c b has also

-- ---- parts

one_part : (spaces : ℕ) (a b : Option ℕ) (f g : Bool) → spaces ≤ 2 ^ 64 → IsPart spaces a f → IsPart spaces b g → part_word a f ≡ part_word b g
    → (a ≡ b) × (f ≡ g)
one_part spaces None None f g few is also same = (refl, is ∙ sym also)
one_part spaces None (Some t) f true few is also same = absurd (omega (arith, ap (λ (l : List ℕ). get_or l 0 0) same))
one_part spaces None (Some t) f false few is also same = absurd (omega (arith, ap (λ (l : List ℕ). get_or l 0 0) same))
one_part spaces (Some s) None true g few is also same = absurd (omega (arith, ap (λ (l : List ℕ). get_or l 0 0) same))
one_part spaces (Some s) None false g few is also same = absurd (omega (arith, ap (λ (l : List ℕ). get_or l 0 0) same))
one_part spaces (Some s) (Some t) true true few is also same =
    let equal : decimal s ≡ decimal t = append_cancel_right (decimal s) (decimal t) (codes "+f") cc in
    (ap Some (one_number (decimal s) s t (omega (arith, is)) (omega (arith, also)) refl equal), refl)
one_part spaces (Some s) (Some t) true false few is also same =
    absurd (not_digits (decimal s) t (omega (arith, also)) cc)
one_part spaces (Some s) (Some t) false true few is also same =
    absurd (not_digits (decimal t) s (omega (arith, is)) cc)
one_part spaces (Some s) (Some t) false false few is also same =
    let equal : decimal s ≡ decimal t = cc in
    (ap Some (one_number (decimal s) s t (omega (arith, is)) (omega (arith, also)) refl equal), refl)

-- ---- entries

one_entry : (script : Script) (n m : ℕ) (a b : Entry) → HasText script → IsEntryOf script a → IsEntryOf script b → entry_words n a ≡ entry_words m b → a ≡ b
one_entry script n m a b has is also same =
    let few = actors_few script has in
    let words : decimal a.processor ≡ decimal b.processor = cc in
    let parts : part_word a.space a.frames ≡ part_word b.space b.frames = cc in
    let whats_are : what_words a.what ≡ what_words b.what = cc in
    let processor : a.processor ≡ b.processor = one_number (decimal a.processor) a.processor b.processor (omega (arith, few, is.processor))
    (omega (arith, few, also.processor)) refl words in
    let part = one_part script.spaces a.space b.space a.frames b.frames (omega (arith, has.spaces_in)) is.part also.part parts in
    let what : a.what ≡ b.what = one_what script a.processor a.what b.what has is.what
    (subst (λ c. FitsWhat script c b.what) (sym processor) also.what) whats_are in
    λ i. record { processor = processor i; space = part.0 i; frames = part.1 i; what = what i }

one_line : (script : Script) (n m : ℕ) (a b : Entry) → HasText script → IsEntryOf script a → IsEntryOf script b → entry_line n a ≡ entry_line m b → a ≡ b
one_line script n m a b has is also same =
    one_entry script n m a b has is also (sym (entry_words_again n a) ∙ ap words_of same ∙ entry_words_again m b)

-- the first line of some, and those behind it
abbrev top : List (List ℕ) → List ℕ
top lines = get_or lines 0 []

same_entries : (script : Script) (n : ℕ) (es fs : List Entry) → HasText script → AllByRecursion (IsEntryOf script) es → AllByRecursion (IsEntryOf script) fs
    → lines_of (entries_text n es) ≡ lines_of (entries_text n fs) → es ≡ fs
same_entries script n [] [] has are also same = refl
same_entries script n [] (b ∷ fs) has are also same =
    let line : codes "end" ≡ entry_line n b = ap top (sym (no_entry n) ∙ same ∙ entry_again n b fs) in
    absurd (false≢true (sym (entry_is_not_end n b) ∙ ap (λ l. bytes_eq l (codes "end")) (sym line)))
same_entries script n (a ∷ es) [] has are also same =
    let line : codes "end" ≡ entry_line n a = ap top (sym (no_entry n) ∙ sym same ∙ entry_again n a es) in
    absurd (false≢true (sym (entry_is_not_end n a) ∙ ap (λ l. bytes_eq l (codes "end")) (sym line)))
same_entries script n (a ∷ es) (b ∷ fs) has are also same =
    let lines = sym (entry_again n a es) ∙ same ∙ entry_again n b fs in
    let one : a ≡ b = one_line script n n a b has are.0 also.0 (ap top lines) in
    let more : es ≡ fs = same_entries script (suc n) es fs has are.1 also.1 (ap (drop 1) lines) in
    λ i. one i ∷ more i

pub one_history : (script : Script) (text : List ℕ) (a b : List Numbered) → HasText script → IsHistoryText script text a → IsHistoryText script text b → a ≡ b
one_history script text a b has is also =
    let entries : entries_in a ≡ entries_in b =
    same_entries script 0 (entries_in a) (entries_in b) has (recursion_from_All _ (entries_in a) is.0.entries)
    (recursion_from_All _ (entries_in b) also.0.entries)
    (ap lines_of (sym (text_is script text a is) ∙ text_is script text b also)) in
    is.0.numbered ∙ ap (placed_from 0) entries ∙ sym also.0.numbered
