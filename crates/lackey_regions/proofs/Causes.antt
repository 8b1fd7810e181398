-- Causes of refusals, of more pages.
use Rattle.std.proofs.Common.{ℕ, ◌≡◌, List, Option, Result, Ok, Err, IfErr, subst, sym, ◌∙◌, ◌/◌}
use Rattle.std.specs.Result.{IsErrAnd}
use Rattle.lackey_regions.specs.declared.refusal.Refusal.{Refusal}
use Rattle.lackey_regions.specs.declared.refusal.Refusal.TheVariants.{MorePieces, MoreRegions, NoMemory}
use Rattle.lackey_regions.specs.declared.region.Region.{Region}
use Rattle.lackey_layout.specs.Places.{AreTaken, HasNone}
use Rattle.lackey_regions.specs.Refusals.{IsCause}

-- pages of some are of others
pub cause_of_more : (P Q : ℕ → Type 0) (places : List (Option ℕ)) (regions : List Region) (r : Refusal) → ((page : ℕ) → P page → Q page) →
    IsCause P places regions r → IsCause Q places regions r
cause_of_more P Q places regions MorePieces more cause = (cause.0, cause.1, more cause.1 cause.2, cause.3)
cause_of_more P Q places regions MoreRegions more cause = cause
cause_of_more P Q places regions NoMemory more cause = tt

pub err_of_more : {T : Type 0} (P Q : ℕ → Type 0) (places : List (Option ℕ)) (regions : List Region) (r : Result T Refusal) → ((page : ℕ) → P page → Q page) →
    IfErr r (IsCause P places regions) → IfErr r (IsCause Q places regions)
err_of_more P Q places regions (Ok done) more cause = tt
err_of_more P Q places regions (Err refusal) more cause = cause_of_more P Q places regions refusal more cause

-- a refusal that is passed on
pub passed_on : {T : Type 0} (P Q : ℕ → Type 0) (places : List (Option ℕ)) (regions : List Region) (r : Result T Refusal) (refusal : Refusal) →
    ((page : ℕ) → P page → Q page) → IsErrAnd r (λ e. e ≡ refusal) → IsCause P places regions refusal → IfErr r (IsCause Q places regions)
passed_on P Q places regions (Ok done) refusal more is cause = tt
passed_on P Q places regions (Err e) refusal more is cause =
    cause_of_more P Q places regions e more (subst (IsCause P places regions) (sym is) cause)

-- a page has no place, which is asked for
pub no_place : {T : Type 0} (Q : ℕ → Type 0) (places : List (Option ℕ)) (regions : List Region) (r : Result T Refusal) (refusal : Refusal) (page : ℕ) →
    Q page → refusal ≡ MorePieces → AreTaken places → HasNone places (page / 512) → IsErrAnd r (λ e. e ≡ refusal) → IfErr r (IsCause Q places regions)
no_place Q places regions (Ok done) refusal page asked more taken none is = tt
no_place Q places regions (Err e) refusal page asked more taken none is =
    subst (IsCause Q places regions) (sym more ∙ sym is) (taken, page, asked, none)
