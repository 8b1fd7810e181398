-- Drawn lines, one after another, and that all that are made are lines of a trace.
use Rattle.std.proofs.Common.{ℕ, zero, suc, ◌≡◌, ◌+◌, ◌-◌, ◌*◌, ◌/◌, ◌%◌, ◌^◌, ◌<◌, Bool, true, false, cond, ltb, eqb, List, [], ◌∷◌, ◌++◌, length, map, ap, arith, append_assoc, length-append, ◌∙◌, refl, sym, subst, inl}
use Rattle.std.specs.List.{AllByRecursion, range_with_len}
use Rattle.std.proofs.lemmas.List.Elements.{All-append, All-from_get_or, All-from_recursion}
use Rattle.std.proofs.lemmas.List.FromFn.{length-map-range_with_len, get_or-map-range_with_len}
use Rattle.std.proofs.lemmas.Nat.{mod_below}
use Rattle.pager_model.specs.Bounds.{space_pages}
use Rattle.pager_model.specs.declared.call.Line.{Line}
use Rattle.pager_model.specs.TraceText.{HasLine, HasText, IsCall, IsLine}
use Rattle.pager_model.specs.Schedules.{next_state, drawn}
use Rattle.trace_make.specs.Made.{CanMake, after_line, call_of_kind, drawn_address, drawn_call, drawn_line, drawn_lines, drawn_page, made, map_line}

-- the first of the lines that are left, and the others
drawn_next : (processors spaces count i x : ℕ) → i < count
    → drawn_lines processors spaces (count - i) x ≡ drawn_line processors spaces x ∷ drawn_lines processors spaces (count - (i + 1))
    (after_line x)
drawn_next processors spaces count i x below =
    let e : count - i ≡ suc (count - (i + 1)) = omega arith in
    ap (λ n. drawn_lines processors spaces n x) e

-- one more is added, and the others are left
pub lines_more : (processors spaces count i x : ℕ) (lines all : List Line) → i < count
    → lines ++ drawn_lines processors spaces (count - i) x ≡ all
    → (lines ++ drawn_line processors spaces x ∷ []) ++ drawn_lines processors spaces (count - (i + 1)) (after_line x) ≡ all
lines_more processors spaces count i x lines all below so_far =
    append_assoc lines (drawn_line processors spaces x ∷ []) (drawn_lines processors spaces (count - (i + 1)) (after_line x))
    ∙ ap (λ l. lines ++ l) (sym (drawn_next processors spaces count i x below)) ∙ so_far

-- whichever of the two it is
either : {A : Type 0} (P : A → Type 0) (test : Bool) (x y : A) → P x → P y → P (cond test x y)
either P true x y first second = first
either P false x y first second = second

page_within : (x : ℕ) → drawn_page x < 4096
unfolding drawn_page
page_within x =
    either (λ n. drawn (next_state x) n < 4096) (eqb (drawn x 8) 0) 4096 512 (mod_below _ 4096 (omega arith))
    (let small = mod_below (next_state (next_state x) / 2 ^ 33) 512 (omega arith) in omega (arith, small))

-- a word of a page lies in the space
is_word : (page word : ℕ) → page < 4096 → word < 1024 → ((page * 8192 + 8 * word) % 8 ≡ 0) × (page * 8192 + 8 * word < 8589934592)
is_word page word within few = (omega (arith, within, few), omega (arith, within, few))

is_address : (page x : ℕ) → page < 4096 → (drawn_address page x % 8 ≡ 0) × (drawn_address page x < 8589934592)
unfolding drawn_address
is_address page x within =
    let word = drawn x 1024 in
    let few : word < 1024 = mod_below (next_state x / 2 ^ 33) 1024 (omega arith) in
    is_word page word within few

call_is : (spaces space page kind x : ℕ) → space < spaces → page < 4096 → IsCall spaces (call_of_kind space page kind x)
call_is spaces space page kind x below within =
    let here : page < space_pages = omega (arith, within) in
    either (IsCall spaces) (ltb kind 40) _ _ (below, (is_address page x within).0, (is_address page x within).1)
    (either (IsCall spaces) (ltb kind 58) _ _ (
      below,
      (is_address page x within).0,
      (is_address page x within).1,
      mod_below (next_state x * 6364136223846793005 + 1442695040888963407) (2 ^ 64) (omega arith),
    )
    (either (IsCall spaces) (ltb kind 60) _ _ (below, here)
    (either (IsCall spaces) (ltb kind 62) _ _ (below, here)
    (below, omega (arith, here), omega arith, omega arith))))

-- a drawn call has a line in each version
call_has_line : (space page kind x : ℕ) → HasLine 1 (call_of_kind space page kind x)
call_has_line space page kind x =
    either (HasLine 1) (ltb kind 40) _ _ tt
    (either (HasLine 1) (ltb kind 58) _ _ tt
    (either (HasLine 1) (ltb kind 60) _ _ tt
    (either (HasLine 1) (ltb kind 62) _ _ tt tt)))

line_is : (processors spaces x : ℕ) → 0 < processors → 0 < spaces → IsLine 1 processors spaces (drawn_line processors spaces x)
unfolding drawn_line drawn_call
line_is processors spaces x some own =
    let second = next_state x in
    let third = next_state second in
    let fifth = next_state (next_state third) in (
      mod_below (second / 2 ^ 33) processors some,
      call_is spaces (drawn second spaces) (drawn_page third) (drawn fifth 64) (next_state fifth) (mod_below (third / 2 ^ 33) spaces own)
          (page_within third),
      call_has_line (drawn second spaces) (drawn_page third) (drawn fifth 64) (next_state fifth),
    )

lines_are : (processors spaces count x : ℕ) → 0 < processors → 0 < spaces
    → AllByRecursion (IsLine 1 processors spaces) (drawn_lines processors spaces count x)
lines_are processors spaces zero x some own = tt
lines_are processors spaces (suc n) x some own =
    (line_is processors spaces x some own, lines_are processors spaces n (after_line x) some own)

drawn_count : (processors spaces count x : ℕ) → length (drawn_lines processors spaces count x) ≡ count
drawn_count processors spaces zero x = refl
drawn_count processors spaces (suc n) x = ap suc (drawn_count processors spaces n (after_line x))

map_is : (processors spaces space : ℕ) → 0 < processors → space < spaces → IsLine 1 processors spaces (map_line processors space)
unfolding map_line
map_is processors spaces space some below = (mod_below space processors some, (below, omega arith, omega arith, omega arith), tt)

pub HasText-made : (number calls processors spaces frames : ℕ) → CanMake calls processors spaces frames
    → HasText (made number calls processors spaces frames)
HasText-made number calls processors spaces frames can =
    let some : 0 < processors = omega (arith, can.processors_in.0) in
    let own : 0 < spaces = omega (arith, can.spaces_in.0) in
    let maps = map (map_line processors) (range_with_len 0 spaces) in
    let lines = drawn_lines processors spaces (calls - spaces) number in
    let long : length maps ≡ spaces = length-map-range_with_len (map_line processors) 0 spaces in
    record {
      version_in = inl (refl, refl);
      frames_in = can.frames_in;
      frames_whole = can.frames_whole;
      processors_in = can.processors_in;
      spaces_in = can.spaces_in;
      daemon_in = tt;
      lines = All-append (IsLine 1 processors spaces) maps lines
          (All-from_get_or (IsLine 1 processors spaces) maps (map_line processors 0) (λ i below.
          subst (IsLine 1 processors spaces)
          (sym (get_or-map-range_with_len (map_line processors) 0 spaces i i (map_line processors 0) (omega (arith, below, long))
          (omega arith))) (map_is processors spaces i some (omega (arith, below, long)))))
          (All-from_recursion (IsLine 1 processors spaces) lines (lines_are processors spaces (calls - spaces) number some own));
      few = omega (
        arith,
        length-append maps lines,
        long,
        drawn_count processors spaces (calls - spaces) number,
        can.calls_in.0,
        can.calls_in.1,
      );
    }
