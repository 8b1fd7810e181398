-- Lines of accesses: which access each tells.
use Rattle.std.specs.Prelude.{ℕ, ◌≡◌, ◌+◌, ◌-◌, ◌*◌, ◌^◌, ◌≤◌, ◌==◌, nat_lt, nat_le, Bool, ◌&&◌, ◌||◌, if◌then◌else◌, List, [], ◌∷◌, ◌++◌, codes, decimal, take, drop, Option, Some, None, Result, Ok, Err}
use Rattle.std.specs.List.{position}
use Rattle.trace_lines.specs.declared.cause.LineCause.{LineCause}
use Rattle.trace_lines.specs.Forms.{number_in}
use Rattle.lackey_lines.specs.declared.access.Access.{Access}
use Rattle.lackey_lines.specs.declared.access.AccessKind.{AccessKind}
use Rattle.lackey_lines.specs.declared.access.AccessKind.TheVariants.{Instruction, Load, Store, Change}

-- the byte is a hexadecimal digit, of lower case
abbrev pub is_hex : ℕ → Bool
is_hex b = (nat_le 48 b && nat_le b 57) || (nat_le 97 b && nat_le b 102)

-- what a digit stands for
abbrev pub hex_value : ℕ → ℕ
hex_value b = if nat_le b 57 then b - 48 else b - 87

-- the number of so many sixteens, and these digits behind them, where it is below 2^64
abbrev pub hex_behind : ℕ → List ℕ → Option ℕ
hex_behind n [] = Some n
hex_behind n (b ∷ bs) = if is_hex b && nat_lt n (2 ^ 60) then hex_behind (n * 16 + hex_value b) bs else None

-- the number that a word is: hexadecimal digits, at least one, below 2^64
abbrev pub hex_number : List ℕ → Option ℕ
hex_number [] = None
hex_number (b ∷ bs) = hex_behind 0 (b ∷ bs)

-- how a line of this kind begins
abbrev pub kind_word : AccessKind → List ℕ
kind_word Instruction = codes "I  "
kind_word Load = codes " L "
kind_word Store = codes " S "
kind_word Change = codes " M "

-- The text behind a kind's word tells this access of it: its address in hexadecimal, a comma, and its size, from 1 to 512 bytes.
abbrev pub IsAccessText : AccessKind → List ℕ → Access → Type 0
IsAccessText kind text a = (digits : List ℕ) × (text ≡ digits ++ 44 ∷ decimal a.size) × (hex_number digits ≡ Some a.address)
    × (a.kind ≡ kind) × (1 ≤ a.size) × (a.size ≤ 512)

-- the kind whose word three bytes are
abbrev pub kind_at : ℕ → ℕ → ℕ → Option AccessKind
kind_at a b c = if (a == 73) && ((b == 32) && (c == 32)) then Some Instruction else
    (if (a == 32) && ((b == 76) && (c == 32)) then Some Load else
    (if (a == 32) && ((b == 83) && (c == 32)) then Some Store else
    (if (a == 32) && ((b == 77) && (c == 32)) then Some Change else None)))

-- the size that a word is
abbrev pub size_in : Result ℕ LineCause → Option ℕ
size_in (Err cause) = None
size_in (Ok n) = if nat_le 1 n && nat_le n 512 then Some n else None

abbrev pub size_number : List ℕ → Option ℕ
size_number word = size_in (number_in 1 0 (2 ^ 64) word)

-- the access of a kind, an address and a size, where each is there
abbrev pub told_numbers : AccessKind → Option ℕ → Option ℕ → Option Access
told_numbers kind None size = None
told_numbers kind (Some address) None = None
told_numbers kind (Some address) (Some size) = Some (record { kind = kind; address = address; size = size })

-- the access that is told by the text up to its comma and behind it
abbrev pub told_around : AccessKind → List ℕ → Option ℕ → Option Access
told_around kind text None = None
told_around kind text (Some comma) = told_numbers kind (hex_number (take comma text)) (size_number (drop (comma + 1) text))

abbrev pub told_behind : AccessKind → List ℕ → Option Access
told_behind kind text = told_around kind text (position (λ b. b == 44) text)

abbrev pub told_of_kind : Option AccessKind → List ℕ → Option Access
told_of_kind None text = None
told_of_kind (Some kind) text = told_behind kind text

-- The access that a line tells, where it tells one.
abbrev pub told_access : List ℕ → Option Access
told_access (a ∷ b ∷ c ∷ text) = told_of_kind (kind_at a b c) text
told_access line = None
