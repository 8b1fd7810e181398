-- The forms of a text's lines, and what is wrong with a line that fills none.
use Rattle.std.specs.Prelude.{ℕ, ◌^◌, ◌%◌, ◌==◌, ◌&&◌, nat_lt, nat_le, Bool, true, List, [], ◌∷◌, ◌++◌, Option, Some, None, Result, Ok, Err, decimal, codes, if◌then◌else◌}
use Rattle.std.specs.Cmp.Lexicographic.{pointwise}
use Rattle.std.specs.List.{list_any}
use Rattle.std.specs.Option.{option_or}
use Rattle.std.specs.Result.{result_err}
use Rattle.std.specs.Str.{bytes_eq}
use Rattle.std.specs.Str.Parse.{digits_value}
use Rattle.pager_model.specs.declared.region.Kind.TheVariants.{Fixed, Growing, Wired}
use Rattle.pager_model.specs.declared.region.Rights.TheVariants.{NoAccess, Read, Write}
use Rattle.pager_model.specs.TraceText.{kind_word, rights_word}
use Rattle.trace_lines.specs.declared.cause.LineCause.{LineCause}
use Rattle.trace_lines.specs.declared.cause.LineCause.TheVariants as causes
use Rattle.pager_model.specs.Bounds.{space_bytes, space_pages}

-- what stands at a place of a form: one word, one of several, or a number that is a multiple of the first number here, at least the
-- second and less than the third
pub data Place : Type 0 where
  Word : List ℕ → Place
  OneOf : List (List ℕ) → Place
  Number : ℕ → ℕ → ℕ → Place

-- the number below 2^64 of which the word is the decimal: digits, without a sign and without a zero before other digits
unfoldable pub number_of : List ℕ → Option ℕ
number_of word = if nat_lt (digits_value 10 word) (2 ^ 64) && bytes_eq (decimal (digits_value 10 word)) word then Some
    (digits_value 10 word) else None

abbrev pub in_range : ℕ → ℕ → ℕ → Option ℕ → Result ℕ LineCause
in_range step low end None = Err causes.Number
in_range step low end (Some n) = if (n % step == 0) && (nat_le low n && nat_lt n end) then Ok n else Err causes.Range

-- the number of a word at such a place, or what is wrong with it
unfoldable pub number_in : ℕ → ℕ → ℕ → List ℕ → Result ℕ LineCause
number_in step low end word = in_range step low end (number_of word)

-- a word that may stand at a place, its number left aside
abbrev pub may_stand : Place → List ℕ → Bool
may_stand (Word keyword) word = bytes_eq word keyword
may_stand (OneOf keywords) word = list_any (λ keyword. bytes_eq word keyword) keywords
may_stand (Number step low end) word = true

-- a line has as many words as the form has places, and each may stand at its place
abbrev pub fits : List Place → List (List ℕ) → Bool
fits form words = pointwise may_stand form words

-- what is wrong with the leftmost number that is at fault
abbrev pub leftmost : List Place → List (List ℕ) → Option LineCause
leftmost (Number step low end ∷ places) (word ∷ words) = option_or (result_err (number_in step low end word)) (leftmost places words)
leftmost (Word keyword ∷ places) (word ∷ words) = leftmost places words
leftmost (OneOf keywords ∷ places) (word ∷ words) = leftmost places words
leftmost places words = None

-- what is wrong with a line for which there are these forms. No line fits two of those below.
abbrev pub line_fault : List (List Place) → List (List ℕ) → Option LineCause
line_fault [] words = Some causes.Form
line_fault (form ∷ forms) words = if fits form words then leftmost form words else line_fault forms words

-- ---- the forms

-- the places of a first line behind its version: those of the frames, processors and spaces, and more
abbrev pub first_places : List Place → List Place
first_places more = Number 512 512 32769 ∷ Number 1 1 17 ∷ Number 1 1 17 ∷ more

-- the first line of version 1, which has all four page sizes
abbrev pub first_form : List Place
first_form = Word (codes "trace") ∷ Number 1 1 2 ∷ first_places []

abbrev pub any_sizes : Place
any_sizes = OneOf (codes "0" ∷ codes "01" ∷ codes "02" ∷ codes "03" ∷ codes "012" ∷ codes "013" ∷ codes "023" ∷ codes "0123" ∷ [])

-- the first line of versions 2 and 3, which name their page sizes
abbrev pub sized_form : List Place
sized_form = Word (codes "trace") ∷ Number 1 2 4 ∷ first_places (any_sizes ∷ [])

abbrev pub first_forms : List (List Place)
first_forms = first_form ∷ sized_form ∷ []

abbrev pub daemon_form : List Place
daemon_form = Word (codes "daemon") ∷ Number 1 1 65 ∷ Number 1 1 4097 ∷ []

abbrev pub any_kind : Place
any_kind = OneOf (kind_word Fixed ∷ kind_word Growing ∷ kind_word Wired ∷ [])

abbrev pub any_rights : Place
any_rights = OneOf (rights_word NoAccess ∷ rights_word Read ∷ rights_word Write ∷ [])

-- a page of a space, a number of pages, and the address of a word
abbrev pub page : Place
page = Number 1 0 space_pages

abbrev pub pages : Place
pages = Number 1 1 1048577

abbrev pub address : Place
address = Number 8 0 space_bytes

-- the call of this name, with these places, in a trace of so many processors and spaces
abbrev pub call_form : List ℕ → List Place → ℕ → ℕ → List Place
call_form name places processors spaces = Number 1 0 processors ∷ Word name ∷ Number 1 0 spaces ∷ places

abbrev pub map_form : ℕ → ℕ → List Place
map_form = call_form (codes "map") (page ∷ pages ∷ any_kind ∷ any_rights ∷ [])

abbrev pub grow_form : ℕ → ℕ → List Place
grow_form = call_form (codes "grow") (page ∷ pages ∷ [])

abbrev pub unmap_form : ℕ → ℕ → List Place
unmap_form = call_form (codes "unmap") (page ∷ [])

abbrev pub protect_form : ℕ → ℕ → List Place
protect_form = call_form (codes "protect") (page ∷ pages ∷ any_rights ∷ [])

abbrev pub load_form : ℕ → ℕ → List Place
load_form = call_form (codes "load") (address ∷ [])

abbrev pub store_form : ℕ → ℕ → List Place
store_form = call_form (codes "store") (address ∷ Number 1 0 (2 ^ 64) ∷ [])

abbrev pub sync_form : ℕ → ℕ → List Place
sync_form = call_form (codes "sync") (page ∷ [])

abbrev pub evict_form : ℕ → ℕ → List Place
evict_form = call_form (codes "evict") (page ∷ [])

abbrev pub discard_form : ℕ → ℕ → List Place
discard_form = call_form (codes "discard") (page ∷ pages ∷ [])

abbrev pub wire_form : ℕ → ℕ → List Place
wire_form = call_form (codes "wire") (page ∷ [])

abbrev pub unwire_form : ℕ → ℕ → List Place
unwire_form = call_form (codes "unwire") (page ∷ [])

-- the forms of the calls that each version has, and of those from version 3 on
abbrev pub early_forms : ℕ → ℕ → List (List Place)
early_forms processors spaces =
    map_form processors spaces ∷ grow_form processors spaces ∷ unmap_form processors spaces ∷ protect_form processors spaces
    ∷ load_form processors spaces ∷ store_form processors spaces ∷ sync_form processors spaces ∷ evict_form processors spaces ∷ []

abbrev pub later_forms : ℕ → ℕ → List (List Place)
later_forms processors spaces = discard_form processors spaces ∷ wire_form processors spaces ∷ unwire_form processors spaces ∷ []

abbrev pub call_forms : ℕ → ℕ → ℕ → List (List Place)
call_forms version processors spaces =
    early_forms processors spaces ++ (if nat_lt version 3 then [] else later_forms processors spaces)
