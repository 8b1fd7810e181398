-- What stays true of the notes as one changes.
use Rattle.std.proofs.Common.{◌≡◌, ◌<◌, ℕ, Bool, List, length, get_or, set, map, replicate, Option, Some, None, IfNone, is_some, true, false, refl, sym, ◌∙◌, subst, inl, inr, arith}
use Rattle.std.proofs.lemmas.List.{length-map, map-set}
use Rattle.std.proofs.lemmas.Bool.{cases_Bool}
use Rattle.std.proofs.lemmas.Grind.{common_steps}
use Rattle.std.proofs.Math.ListN.{get_or-map}
use Rattle.std.proofs.Math.Seq.{map-set_same}
use Rattle.pager_model.specs.declared.reservation.Used.{Used}
use Rattle.pager_model.specs.FrameStates.{claim_in, with_claim, with_wired}
use Rattle.pager_model.proofs.Lists.{map-alike, get_or-alike, get_or_within}
use Rattle.pager_model.proofs.Options.{none_from_never, some_from_is_some}
use Rattle.used_frames.specs.Kept.{AreMutual}

pub claim_at : (notes : List (Option Used)) (frame : ℕ) → get_or (map claim_in notes) frame None ≡ claim_in (get_or notes frame None)
claim_at notes frame = get_or-map claim_in notes frame None

pub if_none : {X : Type 0} (o : Option X) {P : Type 0} → (o ≡ None → P) → IfNone o P
if_none None p = p refl
if_none (Some x) p = tt

AreMutual-none : (n m : ℕ) → AreMutual (replicate n None) (replicate m None)
AreMutual-none n m = λ frame processor.
    (λ has. let none = get_or-alike {A = Option ℕ} n frame None in cc, λ has. let none = get_or-alike {A = Option ℕ} m processor None in cc)

-- a claim is noted on one side
module _ (xs ys : List (Option ℕ)) (i j : ℕ) (i_in : i < length xs) (j_in : j < length ys) where
  -- a frame and a processor that had none have each other
  claim_both : get_or ys j None ≡ None → ((a b : ℕ) → get_or xs a None ≡ Some b → get_or ys b None ≡ Some a)
      → (a b : ℕ) → get_or (set xs i (Some j)) a None ≡ Some b → get_or (set ys j (Some i)) b None ≡ Some a
  claim_both free are a b = grind (arith, common_steps, are a b)

  -- a frame and a processor that had each other have none
  clear_both : get_or xs i None ≡ Some j → ((a b : ℕ) → get_or xs a None ≡ Some b → get_or ys b None ≡ Some a)
      → (a b : ℕ) → get_or (set xs i None) a None ≡ Some b → get_or (set ys j None) b None ≡ Some a
  clear_both has are a b = grind (arith, common_steps, are a b, are i j)

pub AreMutual-claim : (by_frame by_processor : List (Option ℕ)) (frame processor : ℕ) → AreMutual by_frame by_processor
    → frame < length by_frame → processor < length by_processor
    → get_or by_frame frame None ≡ None → get_or by_processor processor None ≡ None
    → AreMutual (set by_frame frame (Some processor)) (set by_processor processor (Some frame))
AreMutual-claim xs ys i j are i_in j_in no_claim claims_none = λ a b.
    (claim_both xs ys i j i_in j_in claims_none (λ a b. (are a b).0) a b, claim_both ys xs j i j_in i_in no_claim (λ b a. (are a b).1) b a)

pub AreMutual-unclaim : (by_frame by_processor : List (Option ℕ)) (frame processor : ℕ) → AreMutual by_frame by_processor
    → frame < length by_frame → processor < length by_processor → get_or by_frame frame None ≡ Some processor
    → AreMutual (set by_frame frame None) (set by_processor processor None)
AreMutual-unclaim xs ys i j are i_in j_in has = λ a b.
    (clear_both xs ys i j i_in j_in has (λ a b. (are a b).0) a b, clear_both ys xs j i j_in i_in ((are i j).0 has) (λ b a. (are a b).1) b a)

pub AreMutual-start : (frames processors : ℕ) → AreMutual (map claim_in (replicate frames None)) (replicate processors None)
AreMutual-start frames processors = rw (map-alike claim_in frames None) (AreMutual-none frames processors)

-- a note with the same claim leaves the claims as they are
pub AreMutual-same : (notes : List (Option Used)) (claims : List (Option ℕ)) → AreMutual (map claim_in notes) claims
    → (frame : ℕ) (note : Option Used)
    → claim_in note ≡ claim_in (get_or notes frame None) → AreMutual (map claim_in (set notes frame note)) claims
AreMutual-same notes claims are frame note same_claim = rw (map-set_same claim_in notes frame note None same_claim) are

-- a claim is in the list of claims, and conversely
module _ (notes : List (Option Used)) (claims : List (Option ℕ)) (are : AreMutual (map claim_in notes) claims)
    (frame processor : ℕ) where
  pub claim_listed : claim_in (get_or notes frame None) ≡ Some processor → get_or claims processor None ≡ Some frame
  claim_listed claims_it = (are frame processor).0 (claim_at notes frame ∙ claims_it)

  pub listed_claim : get_or claims processor None ≡ Some frame → claim_in (get_or notes frame None) ≡ Some processor
  listed_claim listed = sym (claim_at notes frame) ∙ (are frame processor).1 listed

-- who claims nothing has no entry
pub unlisted : (notes : List (Option Used)) (claims : List (Option ℕ)) → AreMutual (map claim_in notes) claims → (processor : ℕ)
    → ((frame : ℕ) → claim_in (get_or notes frame None) ≡ Some processor → ⊥) → get_or claims processor None ≡ None
unlisted notes claims are processor nothing = none_from_never (get_or claims processor None)
    (λ frame listed. nothing frame (listed_claim notes claims are frame processor listed))

claim_in-with_claim : (claim : Option ℕ) (note : Option Used) → is_some note ≡ true → claim_in (with_claim claim note) ≡ claim
claim_in-with_claim claim None some = cc
claim_in-with_claim claim (Some u) some = refl

-- a claimed frame is a used one
some_from_claim : (note : Option Used) (processor : ℕ) → claim_in note ≡ Some processor → is_some note ≡ true
some_from_claim None processor is = cc
some_from_claim (Some u) processor is = refl

-- a claim or none in place of another leaves the order
module _ (notes : List (Option Used)) (claims : List (Option ℕ)) (are : AreMutual (map claim_in notes) claims)
    (frame processor : ℕ) where
  frame_within : is_some (get_or notes frame None) ≡ true → frame < length (map claim_in notes)
  frame_within some =
      let used = some_from_is_some (get_or notes frame None) some in
      omega (arith, get_or_within notes frame used.0 used.1, length-map notes claim_in)

  pub AreMutual-claims : is_some (get_or notes frame None) ≡ true → processor < length claims → claim_in (get_or notes frame None) ≡ None
      → get_or claims processor None ≡ None
      → AreMutual (map claim_in (set notes frame (with_claim (Some processor) (get_or notes frame None)))) (set claims processor (Some frame))
  AreMutual-claims some known unclaimed nothing = rw (
    map-set claim_in notes frame (with_claim (Some processor) (get_or notes frame None)),
    claim_in-with_claim (Some processor) (get_or notes frame None) some,
  )
      (AreMutual-claim (map claim_in notes) claims frame processor are (frame_within some) known
      (claim_at notes frame ∙ unclaimed) nothing)

  -- whoever claims a frame is among the processors
  pub claimant_known : claim_in (get_or notes frame None) ≡ Some processor → processor < length claims
  claimant_known claims_it = get_or_within claims processor frame (claim_listed notes claims are frame processor claims_it)

  -- any note without a claim
  pub AreMutual-cleared : (note : Option Used) → claim_in note ≡ None → claim_in (get_or notes frame None) ≡ Some processor
      → AreMutual (map claim_in (set notes frame note)) (set claims processor None)
  AreMutual-cleared note no_claim claims_it =
      rw (map-set claim_in notes frame note, no_claim)
      (AreMutual-unclaim (map claim_in notes) claims frame processor are
      (frame_within (some_from_claim (get_or notes frame None) processor claims_it)) (claimant_known claims_it)
      (claim_at notes frame ∙ claims_it))

  pub AreMutual-unclaims : claim_in (get_or notes frame None) ≡ Some processor
      → AreMutual (map claim_in (set notes frame (with_claim None (get_or notes frame None)))) (set claims processor None)
  AreMutual-unclaims claims_it = AreMutual-cleared (with_claim None (get_or notes frame None))
      (claim_in-with_claim None (get_or notes frame None) (some_from_claim (get_or notes frame None) processor claims_it)) claims_it

-- a wired place is claimed as it was
pub claim-wired : (wired : Bool) (note : Option Used) → claim_in (with_wired wired note) ≡ claim_in note
claim-wired wired None = refl
claim-wired wired (Some u) = refl
