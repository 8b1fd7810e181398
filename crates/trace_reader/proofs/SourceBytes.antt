-- What has come from a source.
use Rattle.std.proofs.Common.{◌≡◌, ℕ, ◌+◌, ◌<◌, ◌≤◌, List, ◌++◌, length, take, drop, Option, Some, None, IfSome, refl, subst, sym, ap, ◌∙◌, append_assoc, arith, length-append}
use Rattle.std.proofs.lemmas.List.{take-append-drop}
use Rattle.trace_reader.specs.declared.fault.TraceFault.TheVariants.{TooLong}
use Rattle.trace_reader.specs.declared.input.AllFault.{AllFault}
use Rattle.trace_reader.specs.declared.input.AllFault.TheVariants as whole
use Rattle.trace_reader.specs.Refusals.{IsCause, refusal_of, trace_fault}
use Rattle.trace_reader.proofs.Refusals.{too_long}

-- of the bytes that a source had left, these came, and the others are left now
abbrev pub Took : Option (List ℕ) → Option (List ℕ) → List ℕ → Type 0
Took None now text = Unit {0}
Took (Some bytes) now text = (rest : List ℕ) × (now ≡ Some rest) × (bytes ≡ text ++ rest)

-- a read took n bytes more
pub took_more : (old now next : Option (List ℕ)) (text piece : List ℕ) (n : ℕ) → Took old now text
    → IfSome now (λ bytes. take n piece ≡ take n bytes) → IfSome now (λ bytes. next ≡ Some (drop n bytes))
    → Took old next (text ++ take n piece)
took_more None now next text piece n took gave rest = tt
took_more (Some bytes) now next text piece n took gave rest =
    let left = took.0 in
    let same : take n piece ≡ take n left = subst (λ (o : Option (List ℕ)). IfSome o (λ l. take n piece ≡ take n l)) took.1 gave in
    let behind : next ≡ Some (drop n left) = subst (λ (o : Option (List ℕ)). IfSome o (λ l. next ≡ Some (drop n l))) took.1 rest in
    let parts : left ≡ take n piece ++ drop n left = sym (ap (λ l. l ++ drop n left) same ∙ take-append-drop n left) in
    (drop n left, behind, took.2 ∙ ap (λ l. text ++ l) parts ∙ sym (append_assoc text (take n piece) (drop n left)))

-- where so many more come, there are more than so many
pub longer : (most : ℕ) (old now : Option (List ℕ)) (text : List ℕ) (n : ℕ) → Took old now text → IfSome now (λ bytes. n ≤ length bytes)
    → most < length text + n → IfSome old (λ bytes. most < length bytes)
longer most None now text n took had more = tt
longer most (Some bytes) now text n took had more =
    let within : n ≤ length took.0 = subst (λ (o : Option (List ℕ)). IfSome o (λ bytes. n ≤ length bytes)) took.1 had in
    omega (arith, ap length took.2, length-append text took.0)

-- so the text is refused
pub refused_too_long : (old : Option (List ℕ)) → IfSome old (λ bytes. 16777216 < length bytes) → IfSome old
    (λ bytes. refusal_of bytes ≡ Some TooLong)
refused_too_long None more = tt
refused_too_long (Some bytes) more = too_long bytes more

-- a fault of reading is the refusal of the bytes
pub refused_as : (fault : AllFault) (old : Option (List ℕ)) → (fault ≡ whole.TooLong → IfSome old (λ bytes. 16777216 < length bytes))
    → IfSome old (λ bytes. IsCause (refusal_of bytes) (trace_fault fault))
refused_as whole.ReadFault None long = tt
refused_as whole.ReadFault (Some bytes) long = tt
refused_as whole.TooLong old long = refused_too_long old (long refl)
refused_as whole.NoMemory None long = tt
refused_as whole.NoMemory (Some bytes) long = tt
