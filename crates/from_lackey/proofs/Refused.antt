-- Lines that become no calls.
use Rattle.std.proofs.Common.{ℕ, ◌≡◌, List, Option, Some, None, IfSome, Result, Ok, Err, IfErr, length, subst, sym, ◌∙◌}
use Rattle.std.specs.Result.{IsErrAnd}
use Rattle.lackey_lines.specs.declared.access.Access.{Access}
use Rattle.lackey_lines.specs.Accesses.{told_access}
use Rattle.lackey_regions.specs.declared.refusal.Refusal.{Refusal}
use Rattle.lackey_regions.specs.declared.refusal.Refusal.TheVariants.{MorePieces, MoreRegions, NoMemory}
use Rattle.lackey_regions.specs.declared.region.Region.{Region}
use Rattle.lackey_regions.specs.Refusals.{IsCause, IsPageOf, most_regions}
use Rattle.from_lackey.specs.Converted.{IsRefused}

refused_for : (asked : ℕ → Type 0) (places : List (Option ℕ)) (regions : List Region) (refusal : Refusal) (line : List ℕ) →
    ((page : ℕ) → asked page → IfSome (told_access line) (λ a. IsPageOf a page)) → IsCause asked places regions refusal → IsRefused places refusal line
refused_for asked places regions MorePieces line of cause = (cause.0, cause.1, cause.3, of cause.1 cause.2)
refused_for asked places regions MoreRegions line of cause = tt
refused_for asked places regions NoMemory line of cause = tt

refused_by : {T : Type 0} (asked : ℕ → Type 0) (places : List (Option ℕ)) (regions : List Region) (r : Result T Refusal) (refusal : Refusal) (line : List ℕ) →
    ((page : ℕ) → asked page → IfSome (told_access line) (λ a. IsPageOf a page)) → IsErrAnd r (λ e. e ≡ refusal) → IsCause asked places regions refusal →
    IfErr r (λ e. IsRefused places e line)
refused_by asked places regions (Ok done) refusal line of is cause = tt
refused_by asked places regions (Err e) refusal line of is cause =
    refused_for asked places regions e line of (subst (IsCause asked places regions) (sym is) cause)

-- for its access
pub refused_access : {T : Type 0} (a : Access) (places : List (Option ℕ)) (regions : List Region) (r : Result T Refusal) (refusal : Refusal) (line : List ℕ) →
    told_access line ≡ Some a → IsErrAnd r (λ e. e ≡ refusal) → IsCause (IsPageOf a) places regions refusal → IfErr r (λ e. IsRefused places e line)
refused_access a places regions r refusal line told is cause =
    refused_by (IsPageOf a) places regions r refusal line (λ page has. subst (λ (o : Option Access). IfSome o (λ b. IsPageOf b page)) (sym told) has) is cause

-- for its system call
pub refused_call : {T : Type 0} (asked : ℕ → Type 0) (places : List (Option ℕ)) (regions : List Region) (r : Result T Refusal) (refusal : Refusal)
    (line : List ℕ) → told_access line ≡ None → IsErrAnd r (λ e. e ≡ refusal) → IsCause asked places regions refusal → IfErr r (λ e. IsRefused places e line)
refused_call asked places regions r refusal line told is cause =
    refused_by asked places regions r refusal line (λ page has. subst (λ (o : Option Access). IfSome o (λ b. IsPageOf b page)) (sym told) tt) is cause

-- for its regions
pub refused_full : {T : Type 0} (asked : ℕ → Type 0) (places : List (Option ℕ)) (regions : List Region) (r : Result T Refusal) (refusal : Refusal) →
    IsErrAnd r (λ e. e ≡ refusal) → IsCause asked places regions refusal → IfErr r (λ e. e ≡ MoreRegions → length regions ≡ most_regions)
refused_full asked places regions (Ok done) refusal is cause = tt
refused_full asked places regions (Err e) refusal is cause = λ same. subst (IsCause asked places regions) (sym is ∙ same) cause
