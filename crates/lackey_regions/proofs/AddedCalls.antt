-- Calls that are added, one behind another.
use Rattle.std.proofs.Common.{ℕ, ◌≡◌, ◌+◌, ◌*◌, ◌/◌, ◌%◌, ◌<◌, Bool, List, [], ◌∷◌, ◌++◌, Option, Some, refl, sym, ◌∙◌, ap, subst, append_assoc, append-nil, arith, lt-ltb, nat_lt, true, false, if◌then◌else◌, Result, Ok, Err, OnOk}
use Rattle.std.specs.List.{AllByRecursion}
use Rattle.pager_model.specs.declared.call.Call.{Call}
use Rattle.pager_model.specs.declared.call.Call.TheVariants.{Map, Grow, Unmap, Protect, Load, Store, Sync, Evict, Discard, Wire, Unwire}
use Rattle.pager_model.specs.declared.call.Line.{Line}
use Rattle.pager_model.specs.TraceText.{HasLine, IsCall, IsLine}
use Rattle.lackey_lines.specs.declared.access.AccessKind.{AccessKind}
use Rattle.lackey_lines.specs.declared.access.AccessKind.TheVariants.{Change}
use Rattle.lackey_layout.specs.Places.{IsPageAt, Keeps, piece_at}
use Rattle.lackey_regions.specs.LineCalls.{Word, Adds, AreAt, IsWordAt, MadeAt, accesses, accesses_of, each_at, stores_of, word}

-- what calls load and store, of two lists one behind the other
pub accesses-append : (xs ys : List Line) → accesses (xs ++ ys) ≡ accesses xs ++ accesses ys
accesses-append [] ys = refl
accesses-append (x ∷ xs) ys =
    ap (λ zs. accesses_of x.call ++ zs) (accesses-append xs ys) ∙ sym (append_assoc (accesses_of x.call) (accesses xs) (accesses ys))

-- one line more that a trace may hold
pub all_and_one : (xs : List Line) (l : Line) → IsLine 3 1 1 l → AllByRecursion (IsLine 3 1 1) xs → AllByRecursion (IsLine 3 1 1) (xs ++ l ∷ [])
all_and_one [] l is _ = (is, tt)
all_and_one (x ∷ xs) l is all = (all.0, all_and_one xs l is all.1)

-- version 3 has every call
pub has_line : (c : Call) → HasLine 3 c
has_line (Map space page len kind rights) = tt
has_line (Grow space page by) = tt
has_line (Unmap space page) = tt
has_line (Protect space page len rights) = tt
has_line (Load space address) = tt
has_line (Store space address value) = tt
has_line (Sync space page) = tt
has_line (Evict space page) = tt
has_line (Discard space page len) = omega arith
has_line (Wire space page) = omega arith
has_line (Unwire space page) = omega arith

-- a call is added
pub adds_call : (xs ys : List Line) (c : Call) → IsCall 1 c → ys ≡ xs ++ record { processor = 0; call = c } ∷ [] → Adds xs ys (accesses_of c)
adds_call xs ys c is same =
    let line : Line = record { processor = 0; call = c } in
    let zero_in : 0 < 1 = omega arith in
    subst (λ zs. Adds xs zs (accesses_of c)) (sym same) (record {
      made_so = accesses-append xs (line ∷ []) ∙ ap (λ zs. accesses xs ++ zs) (append-nil (accesses_of c));
      in_range = all_and_one xs line (zero_in, is, has_line c);
    })

-- no call is added
pub adds_none : (xs : List Line) → Adds xs xs []
adds_none xs = record { made_so = sym (append-nil (accesses xs)); in_range = λ all. all }

-- calls are added behind others
pub adds_both : (xs ys zs : List Line) (v w : List Word) → Adds xs ys v → Adds ys zs w → Adds xs zs (v ++ w)
adds_both xs ys zs v w first next = record {
  made_so = next.made_so ∙ ap (λ us. us ++ w) first.made_so ∙ append_assoc (accesses xs) v w;
  in_range = λ all. next.in_range (first.in_range all);
}

-- behind others that are no accesses
pub adds_more : (xs ys zs : List Line) (w : List Word) → Adds xs ys [] → Adds ys zs w → Adds xs zs w
adds_more xs ys zs w first next = adds_both xs ys zs [] w first next

-- words stay where they are where pieces keep their places
pub are_still : (p q : List (Option ℕ)) (ws ms : List Word) → Keeps p q → AreAt p ws ms → AreAt q ws ms
are_still p q [] [] keeps at = tt
are_still p q [] (m ∷ ms) keeps at = at
are_still p q (w ∷ ws) [] keeps at = at
are_still p q (w ∷ ws) (m ∷ ms) keeps at = ((at.0.0, at.0.1, keeps _ _ at.0.2), are_still p q ws ms keeps at.1)

-- words behind others
pub are_both : (p : List (Option ℕ)) (ws ms vs ns : List Word) → AreAt p ws ms → AreAt p vs ns → AreAt p (ws ++ vs) (ms ++ ns)
are_both p [] [] vs ns at next = next
are_both p [] (m ∷ ms) vs ns at next = absurd at
are_both p (w ∷ ws) [] vs ns at next = absurd at
are_both p (w ∷ ws) (m ∷ ms) vs ns at next = (at.0, are_both p ws ms vs ns at.1 next)

-- calls of words are added behind those of others
pub made_both : (p q : List (Option ℕ)) (xs ys zs : List Line) (v w : List Word) →
    MadeAt p xs ys v → Keeps p q → MadeAt q ys zs w → MadeAt q xs zs (v ++ w)
made_both p q xs ys zs v w first keeps next = record {
  made = first.made ++ next.made;
  adds = adds_both xs ys zs first.made next.made first.adds next.adds;
  at = are_both q v first.made w next.made (are_still p q v first.made keeps first.at) next.at;
}

-- a word of a page is as far in its piece as the one of the page of the space
pub word_at_page : (p : List (Option ℕ)) (page at offset : ℕ) (s : Bool) → IsPageAt p page at → offset < 8192 →
    IsWordAt p (word s (page * 8192 + offset)) (word s (at * 8192 + offset))
word_at_page p page at offset s is small =
    let same : (at * 8192 + offset) % 4194304 ≡ (page * 8192 + offset) % 4194304 = omega (arith, is.1, small) in
    let place : (at * 8192 + offset) / 4194304 ≡ at / 512 = omega (arith, small) in
    let piece : (page * 8192 + offset) / 4194304 ≡ page / 512 = omega (arith, small) in
    (refl, same, ap (piece_at p) place ∙ is.2 ∙ ap Some (sym piece))

-- a load or a store of a word is added, behind calls that are no accesses
pub made_word : (p : List (Option ℕ)) (xs ys zs : List Line) (page at offset : ℕ) (s : Bool) (ms : List Word) → IsPageAt p page at → offset < 8192 →
    ms ≡ word s (at * 8192 + offset) ∷ [] → Adds xs ys [] → Adds ys zs ms → MadeAt p xs zs (word s (page * 8192 + offset) ∷ [])
made_word p xs ys zs page at offset s ms is small same first next = record {
  made = word s (at * 8192 + offset) ∷ [];
  adds = subst (λ us. Adds xs zs us) same (adds_more xs ys zs ms first next);
  at = (word_at_page p page at offset s is small, tt);
}

-- an access that goes on in the next page
pub made_over : (p q : List (Option ℕ)) (xs ys zs : List Line) (stores : List Bool) (address size : ℕ) →
    MadeAt p xs ys (each_at stores (address / 8192 * 8192 + address % 8192 / 8 * 8)) → Keeps p q →
    MadeAt q ys zs (each_at stores ((address / 8192 + 1) * 8192 + 0)) → 8192 < address % 8192 + size →
    MadeAt q xs zs (each_at stores (address / 8 * 8) ++
    (if nat_lt 8192 (address % 8192 + size) then each_at stores ((address / 8192 + 1) * 8192) else []))
made_over p q xs ys zs stores address size first keeps next over =
    let low : address / 8192 * 8192 + address % 8192 / 8 * 8 ≡ address / 8 * 8 = omega arith in
    let high : (address / 8192 + 1) * 8192 + 0 ≡ (address / 8192 + 1) * 8192 = omega arith in
    let test : nat_lt 8192 (address % 8192 + size) ≡ true = lt-ltb _ _ over in
    let both = made_both p q xs ys zs (each_at stores (address / 8192 * 8192 + address % 8192 / 8 * 8))
    (each_at stores ((address / 8192 + 1) * 8192 + 0)) first keeps next in
    let text = ap (λ (b : Bool). if b then each_at stores ((address / 8192 + 1) * 8192) else []) test in
    subst (λ ws. MadeAt q xs zs (each_at stores (address / 8 * 8) ++ ws)) (sym text)
    (subst (λ a. MadeAt q xs zs (each_at stores (address / 8 * 8) ++ each_at stores a)) high
    (subst (λ a. MadeAt q xs zs (each_at stores a ++ each_at stores ((address / 8192 + 1) * 8192 + 0))) low both))

-- a load and then a store of a word are added
pub made_change : {E : Type 0} (r : Result (Unit {0}) E) (p q : List (Option ℕ)) (xs ys zs : List Line) (kind : AccessKind) (address : ℕ) → kind ≡ Change →
    MadeAt p xs ys (word false address ∷ []) → Keeps p q → OnOk r (MadeAt q ys zs (word true address ∷ [])) →
    OnOk r (MadeAt q xs zs (each_at (stores_of kind) address))
made_change (Ok done) p q xs ys zs kind address is first keeps next =
    subst (λ (k : AccessKind). MadeAt q xs zs (each_at (stores_of k) address)) (sym is)
    (made_both p q xs ys zs (word false address ∷ []) (word true address ∷ []) first keeps next)
made_change (Err e) p q xs ys zs kind address is first keeps next = tt
