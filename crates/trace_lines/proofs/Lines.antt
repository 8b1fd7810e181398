-- A line that a trace may hold has no fault.
use Rattle.std.proofs.Common.{◌≡◌, ℕ, ◌^◌, ◌<◌, ◌≤◌, ◌%◌, Bool, true, false, ◌∷◌, Some, None, Ok, decimal, refl, arith, lit≤, inl, inr}
use Rattle.std.proofs.lemmas.Bool.{eq-eqb, ne_eqb, le-ltb}
use Rattle.pager_model.specs.Bounds.{space_pages}
use Rattle.pager_model.specs.declared.call.Call.{Call}
use Rattle.pager_model.specs.declared.call.Call.TheVariants.{Map, Grow, Unmap, Protect, Load, Store, Sync, Evict, Discard, Wire, Unwire}
use Rattle.pager_model.specs.declared.call.Line.{Line}
use Rattle.pager_model.specs.declared.region.Kind.{Kind}
use Rattle.pager_model.specs.declared.region.Kind.TheVariants.{Fixed, Growing, Wired}
use Rattle.pager_model.specs.declared.region.Rights.{Rights}
use Rattle.pager_model.specs.declared.region.Rights.TheVariants.{NoAccess, Read, Write}
use Rattle.pager_model.specs.declared.trace.Daemon.{Daemon}
use Rattle.pager_model.specs.TraceText.{kind_word, rights_word, sizes_word, call_words, daemon_words, line_words, first_words, HasLine, IsCall, IsDaemon, IsLine}
use Rattle.trace_lines.specs.declared.line.Head.{Head}
use Rattle.trace_lines.specs.Forms.{may_stand, any_kind, any_rights, any_sizes, number_in, leftmost, line_fault, first_forms, daemon_form, call_forms}
use Rattle.trace_lines.specs.Heads.{IsInRange}
use Rattle.trace_lines.proofs.Numbers.{number_in_again}

kind_stands : (kind : Kind) → may_stand any_kind (kind_word kind) ≡ true
kind_stands Fixed = refl
kind_stands Growing = refl
kind_stands Wired = refl

rights_stand : (rights : Rights) → may_stand any_rights (rights_word rights) ≡ true
rights_stand NoAccess = refl
rights_stand Read = refl
rights_stand Write = refl

-- numbers of each kind are those of their places
below : (end n : ℕ) → end ≤ 2 ^ 64 → n < end → number_in 1 0 end (decimal n) ≡ Ok n
below end n small lt = number_in_again 1 0 end n (omega arith) (omega arith) lt (omega arith)

some_pages : (n : ℕ) → 1 ≤ n → n ≤ space_pages → number_in 1 1 1048577 (decimal n) ≡ Ok n
some_pages n low high = number_in_again 1 1 1048577 n (omega arith) low (omega arith) (omega arith)

an_address : (n : ℕ) → n % 8 ≡ 0 → n < 8589934592 → number_in 8 0 8589934592 (decimal n) ≡ Ok n
an_address n whole high = number_in_again 8 0 8589934592 n whole (omega arith) high (omega arith)

call_is_lawful : (version processors spaces processor : ℕ) (call : Call) → processors ≤ 2 ^ 64 → spaces ≤ 2 ^ 64 → processor < processors
    → IsCall spaces call → HasLine version call → line_fault (call_forms version processors spaces) (decimal processor ∷ call_words call) ≡ None
call_is_lawful version processors spaces processor (Map space page len kind rights) few small of is has =
    rw (
      kind_stands kind,
      rights_stand rights,
      below processors processor few of,
      below spaces space small is.0,
      below space_pages page (lit≤ tt) is.1,
      some_pages len is.2 is.3,
    ) refl
call_is_lawful version processors spaces processor (Grow space page by) few small of is has =
    rw (below processors processor few of, below spaces space small is.0, below space_pages page (lit≤ tt) is.1, some_pages by is.2 is.3) refl
call_is_lawful version processors spaces processor (Unmap space page) few small of is has =
    rw (below processors processor few of, below spaces space small is.0, below space_pages page (lit≤ tt) is.1) refl
call_is_lawful version processors spaces processor (Protect space page len rights) few small of is has =
    rw (
      rights_stand rights,
      below processors processor few of,
      below spaces space small is.0,
      below space_pages page (lit≤ tt) is.1,
      some_pages len is.2 is.3,
    ) refl
call_is_lawful version processors spaces processor (Load space address) few small of is has =
    rw (below processors processor few of, below spaces space small is.0, an_address address is.1 is.2) refl
call_is_lawful version processors spaces processor (Store space address word) few small of is has =
    rw (
      below processors processor few of,
      below spaces space small is.0,
      an_address address is.1 is.2,
      below (2 ^ 64) word (lit≤ tt) is.3,
    ) refl
call_is_lawful version processors spaces processor (Sync space page) few small of is has =
    rw (below processors processor few of, below spaces space small is.0, below space_pages page (lit≤ tt) is.1) refl
call_is_lawful version processors spaces processor (Evict space page) few small of is has =
    rw (below processors processor few of, below spaces space small is.0, below space_pages page (lit≤ tt) is.1) refl
call_is_lawful version processors spaces processor (Discard space page len) few small of is has =
    rw (
      le-ltb version 3 has,
      below processors processor few of,
      below spaces space small is.0,
      below space_pages page (lit≤ tt) is.1,
      some_pages len is.2 is.3,
    ) refl
call_is_lawful version processors spaces processor (Wire space page) few small of is has =
    rw (le-ltb version 3 has, below processors processor few of, below spaces space small is.0, below space_pages page (lit≤ tt) is.1) refl
call_is_lawful version processors spaces processor (Unwire space page) few small of is has =
    rw (le-ltb version 3 has, below processors processor few of, below spaces space small is.0, below space_pages page (lit≤ tt) is.1) refl

pub line_is_lawful : (version processors spaces : ℕ) (line : Line) → processors ≤ 2 ^ 64 → spaces ≤ 2 ^ 64
    → IsLine version processors spaces line → line_fault (call_forms version processors spaces) (line_words line) ≡ None
line_is_lawful version processors spaces line few small is =
    call_is_lawful version processors spaces line.processor line.call few small is.0 is.1 is.2

sizes_stand : (one two three : Bool) → may_stand any_sizes (sizes_word (record { one = one; two = two; three = three })) ≡ true
sizes_stand false false false = refl
sizes_stand false false true = refl
sizes_stand false true false = refl
sizes_stand false true true = refl
sizes_stand true false false = refl
sizes_stand true false true = refl
sizes_stand true true false = refl
sizes_stand true true true = refl

pub first_is_lawful : (head : Head) → IsInRange head
    → line_fault first_forms (first_words head.version head.frames head.processors head.spaces head.sizes) ≡ None
first_is_lawful head is =
    let frames : number_in 512 512 32769 (decimal head.frames) ≡ Ok head.frames =
    number_in_again 512 512 32769 head.frames is.2 is.1.0 (omega (arith, is.1.1)) (omega (arith, is.1.1)) in
    let processors : number_in 1 1 17 (decimal head.processors) ≡ Ok head.processors =
    number_in_again 1 1 17 head.processors (omega arith) is.3.0 (omega (arith, is.3.1)) (omega (arith, is.3.1)) in
    let spaces : number_in 1 1 17 (decimal head.spaces) ≡ Ok head.spaces =
    number_in_again 1 1 17 head.spaces (omega arith) is.4.0 (omega (arith, is.4.1)) (omega (arith, is.4.1)) in
    elim is.0 [
      | inl one ↦
          let version : number_in 1 1 2 (decimal head.version) ≡ Ok head.version =
          number_in_again 1 1 2 head.version (omega arith) (omega (arith, one.0)) (omega (arith, one.0)) (omega (arith, one.0)) in
          rw (eq-eqb head.version 1 one.0, version, frames, processors, spaces) refl
      | inr later ↦
          let bounds : (2 ≤ head.version) × (head.version < 4) =
          elim later [ inl two ↦ (omega (arith, two), omega (arith, two)) | inr three ↦ (omega (arith, three), omega (arith, three)) ] in
          let version : number_in 1 2 4 (decimal head.version) ≡ Ok head.version =
          number_in_again 1 2 4 head.version (omega arith) bounds.0 bounds.1 (omega (arith, bounds.1)) in
          rw (
            ne_eqb head.version 1 (λ e. omega (arith, bounds.0, e)),
            sizes_stand head.sizes.one head.sizes.two head.sizes.three,
            version,
            frames,
            processors,
            spaces,
          ) refl
    ]

pub daemon_is_lawful : (d : Daemon) → IsDaemon (Some d) → leftmost daemon_form (daemon_words d) ≡ None
daemon_is_lawful d is =
    let low : number_in 1 1 65 (decimal d.low) ≡ Ok d.low = number_in_again 1 1 65 d.low (omega arith) is.0.0 (omega (arith, is.0.1))
    (omega (arith, is.0.1)) in
    let turns : number_in 1 1 4097 (decimal d.turns) ≡ Ok d.turns = number_in_again 1 1 4097 d.turns (omega arith) is.1.0
    (omega (arith, is.1.1)) (omega (arith, is.1.1)) in
    rw (low, turns) refl
