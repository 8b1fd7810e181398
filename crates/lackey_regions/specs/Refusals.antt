-- Why a line becomes no calls.
use Rattle.std.specs.Prelude.{ℕ, ◌≡◌, ◌+◌, ◌*◌, ◌/◌, ◌%◌, ◌<◌, ◌≤◌, ◌⊎◌, List, Option, length}
use Rattle.lackey_layout.specs.Places.{AreTaken, HasNone}
use Rattle.lackey_lines.specs.declared.access.Access.{Access}
use Rattle.lackey_lines.specs.declared.system_call.SystemCall.{SystemCall}
use Rattle.lackey_lines.specs.declared.system_call.SystemCall.TheVariants.{Map, Break, Move}
use Rattle.lackey_regions.specs.declared.refusal.Refusal.{Refusal}
use Rattle.lackey_regions.specs.declared.refusal.Refusal.TheVariants.{MorePieces, MoreRegions, NoMemory}
use Rattle.lackey_regions.specs.declared.region.Region.{Region}
use Rattle.lackey_regions.specs.declared.regions.Change.{Change}
use Rattle.lackey_regions.specs.declared.regions.Change.TheVariants as changes

-- A space has so many regions at most.
abbrev pub most_regions : ℕ
most_regions = 64

-- Why pages of the space don't change: one more would be a region, where there are as many as can be; or there was no memory, of which no clause can tell.
abbrev pub IsFull : List Region → Refusal → Type 0
IsFull regions MorePieces = ⊥
IsFull regions MoreRegions = length regions ≡ most_regions
IsFull regions NoMemory = Unit {0}

-- Why pages of the program don't change: one that is asked for is of a piece without a place, where each place has a piece; or the space is full.
abbrev pub IsCause : (asked : ℕ → Type 0) → List (Option ℕ) → List Region → Refusal → Type 0
IsCause asked places regions MorePieces = AreTaken places × (page : ℕ) × asked page × HasNone places (page / 512)
IsCause asked places regions MoreRegions = length regions ≡ most_regions
IsCause asked places regions NoMemory = Unit {0}

-- the change gives pages to a region that none has
abbrev pub Maps : Change → Type 0
Maps (changes.Map rights) = Unit {0}
Maps (changes.MapWider rights) = Unit {0}
Maps change = ⊥

-- the access is of this page: of its first byte, or of the next one where it goes on there
abbrev pub IsPageOf : Access → ℕ → Type 0
IsPageOf a page = (page ≡ a.address / 8192) ⊎ ((page ≡ a.address / 8192 + 1) × (8192 < a.address % 8192 + a.size))

-- the page has one of so many bytes from the first on
abbrev pub HasByte : (first len page : ℕ) → Type 0
HasByte first len page = (first / 8192 ≤ page) × (page * 8192 < first + len)

-- the call maps this page
abbrev pub MapsPage : SystemCall → ℕ → Type 0
MapsPage (Map first len rights) page = HasByte first len page
MapsPage (Break top) page = page * 8192 < top
MapsPage (Move first len new_first new_len) page = HasByte new_first new_len page
MapsPage call page = ⊥

-- the call maps
abbrev pub IsMapping : SystemCall → Type 0
IsMapping (Map first len rights) = Unit {0}
IsMapping (Break top) = Unit {0}
IsMapping (Move first len new_first new_len) = Unit {0}
IsMapping call = ⊥
