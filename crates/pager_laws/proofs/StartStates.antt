-- At first all frames are free: the layout and the state of the frames are sound, and no list has a member.
use Rattle.std.proofs.Common.{◌≡◌, ℕ, zero, suc, true, false, ◌∷◌, map, replicate, Option, None, is_some, inl, refl, sym, ap, subst, ◌∙◌}
use Rattle.std.proofs.lemmas.List.{length-replicate, get_or-replicate}
use Rattle.std.proofs.lemmas.Bool.{false≢true}
use Rattle.std.proofs.lemmas.Option.{none-some}
use Rattle.pager_model.specs.declared.reservation.Used.{Used}
use Rattle.pager_model.specs.FrameStates.{start_frames, claim_in}
use Rattle.pager_model.specs.Layouts.{start_layout}
use Rattle.pager_model.specs.SizeSets.{SizeSet}
use Rattle.pager_model.proofs.Lists.{get_or-alike}
use Rattle.pager_model.proofs.RecordFrames.{no_frame}
use Rattle.pager_laws.specs.Laid.{IsLaid, IsSound}

-- without a reservation and with all frames free a layout is sound
pub IsLaid-start : (z : SizeSet) (frames : ℕ) → IsLaid (start_layout z frames)
IsLaid-start z frames = record {
  records_long = length-replicate frames None ∙ sym (length-replicate frames true);
  used_long = length-replicate frames false ∙ sym (length-replicate frames true);
  placed = λ id r is. absurd (none-some r (sym (get_or-alike frames id None) ∙ is));
  apart = λ f id other has _. absurd (no_frame f _ (get_or-alike frames id None) has);
  not_free = λ f id _ has. no_frame f _ (get_or-alike frames id None) has;
  places = λ f used. absurd (false≢true (sym (get_or-alike frames f false) ∙ used));
  some_used = λ id r is. absurd (none-some r (sym (get_or-alike frames id None) ∙ is));
  one_cover = λ id other space page r q is _ _ _. absurd (none-some r (sym (get_or-alike frames id None) ∙ is));
}

-- what is noted of no frame makes no used place
pub nothing_used : (n : ℕ) → map is_some (replicate {A = Option Used} n None) ≡ replicate n false
nothing_used zero = refl
nothing_used (suc n) = ap (λ used. false ∷ used) (nothing_used n)

-- at first the state of the frames is sound: each frame is free, and none is used, claimed or held
pub IsSound-start : (z : SizeSet) (frames processors : ℕ) → IsSound frames processors (start_frames z frames processors)
IsSound-start z frames processors = record {
  known = length-replicate frames true;
  processors_known = length-replicate processors None;
  laid = subst (λ used. IsLaid (record { sizes = z; free = replicate frames true; records = replicate frames None; used = used }))
      (sym (nothing_used frames)) (IsLaid-start z frames);
  accounted = λ f known. inl (inl (get_or-replicate frames f true false known));
  held_apart = λ c f holds. absurd (none-some f (sym (get_or-alike processors c None) ∙ holds));
  held_once = λ c other f holds _. absurd (none-some f (sym (get_or-alike processors c None) ∙ holds));
  ages_past = λ f u is. absurd (none-some u (sym (get_or-alike frames f None) ∙ is));
  ages_differ = λ f other u v is _ _. absurd (none-some u (sym (get_or-alike frames f None) ∙ is));
  claims_once = λ f other c claims _. absurd (none-some c (sym (ap claim_in (get_or-alike frames f None)) ∙ claims));
  claims_known = λ f c claims. absurd (none-some c (sym (ap claim_in (get_or-alike frames f None)) ∙ claims));
  claims_unwired = λ f c claims. absurd (none-some c (sym (ap claim_in (get_or-alike frames f None)) ∙ claims));
}
