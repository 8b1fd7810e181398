use Rattle.std.proofs.Common.{◌≡◌, ◌∙◌, ℕ, ap, refl, sym}
use Rattle.pager_model.specs.declared.call.Call.{Call}
use Rattle.pager_model.specs.Flat.{space_of_call}
use Rattle.space_core.proofs.CopyCalls.{had_memory}
use Rattle.space_core.proofs.space.Space.begin.Goals as goal

-- the space that the call names is this one
own : (call named : Call) (space number : ℕ) → call ≡ named → space_of_call named ≡ space → space_of_call call ≡ number → space ≡ number
own call named space number is of on = sym of ∙ sym (ap space_of_call is) ∙ on

-- What each part requires of the call.

pub begin_map-requires-clause-can : goal.begin_map-requires-clause-can
begin_map-requires-clause-can g c _ _ = rw (c.in-Map.is, own _ _ _ _ c.in-Map.is refl c.requires.space) at c.requires.can

pub begin_grow-requires-clause-can : goal.begin_grow-requires-clause-can
begin_grow-requires-clause-can g c _ _ = rw (c.in-Grow.is, own _ _ _ _ c.in-Grow.is refl c.requires.space) at c.requires.can

pub begin_unmap-requires-clause-can : goal.begin_unmap-requires-clause-can
begin_unmap-requires-clause-can g c _ _ = rw (c.in-Unmap.is, own _ _ _ _ c.in-Unmap.is refl c.requires.space) at c.requires.can

pub begin_protect-requires-clause-can : goal.begin_protect-requires-clause-can
begin_protect-requires-clause-can g c _ _ = rw (c.in-Protect.is, own _ _ _ _ c.in-Protect.is refl c.requires.space) at c.requires.can

pub begin_sync-requires-clause-can : goal.begin_sync-requires-clause-can
begin_sync-requires-clause-can g c _ _ = rw (c.in-Sync.is, own _ _ _ _ c.in-Sync.is refl c.requires.space) at c.requires.can

pub begin_evict-requires-clause-can : goal.begin_evict-requires-clause-can
begin_evict-requires-clause-can g c _ _ = rw (c.in-Evict.is, own _ _ _ _ c.in-Evict.is refl c.requires.space) at c.requires.can

pub begin_discard-requires-clause-can : goal.begin_discard-requires-clause-can
begin_discard-requires-clause-can g c _ _ = rw (c.in-Discard.is, own _ _ _ _ c.in-Discard.is refl c.requires.space) at c.requires.can

pub begin_wire-requires-clause-can : goal.begin_wire-requires-clause-can
begin_wire-requires-clause-can g c _ _ = rw (c.in-Wire.is, own _ _ _ _ c.in-Wire.is refl c.requires.space) at c.requires.can

pub begin_unwire-requires-clause-can : goal.begin_unwire-requires-clause-can
begin_unwire-requires-clause-can g c _ _ = rw (c.in-Unwire.is, own _ _ _ _ c.in-Unwire.is refl c.requires.space) at c.requires.can

-- What the call begins with is what its part begins with.

pub returns-in-Map-clause-begins : goal.returns-in-Map-clause-begins
returns-in-Map-clause-begins g c = rw (c.in-Map.is, own _ _ _ _ c.in-Map.is refl c.requires.space) (c.begin_map.ensures.begins c.args.processor)

pub returns-in-Grow-clause-begins : goal.returns-in-Grow-clause-begins
returns-in-Grow-clause-begins g c = rw (c.in-Grow.is, own _ _ _ _ c.in-Grow.is refl c.requires.space) (c.begin_grow.ensures.begins c.args.processor)

pub returns-in-Unmap-clause-begins : goal.returns-in-Unmap-clause-begins
returns-in-Unmap-clause-begins g c = rw (c.in-Unmap.is, own _ _ _ _ c.in-Unmap.is refl c.requires.space) (c.begin_unmap.ensures.begins c.args.processor)

pub returns-in-Protect-clause-begins : goal.returns-in-Protect-clause-begins
returns-in-Protect-clause-begins g c = rw (c.in-Protect.is, own _ _ _ _ c.in-Protect.is refl c.requires.space) (c.begin_protect.ensures.begins c.args.processor)

pub returns-in-Sync-clause-begins : goal.returns-in-Sync-clause-begins
returns-in-Sync-clause-begins g c = rw (c.in-Sync.is, own _ _ _ _ c.in-Sync.is refl c.requires.space) (c.begin_sync.ensures.begins c.args.processor)

pub returns-in-Evict-clause-begins : goal.returns-in-Evict-clause-begins
returns-in-Evict-clause-begins g c = rw (c.in-Evict.is, own _ _ _ _ c.in-Evict.is refl c.requires.space) (c.begin_evict.ensures.begins c.args.processor)

pub returns-in-Discard-clause-begins : goal.returns-in-Discard-clause-begins
returns-in-Discard-clause-begins g c = rw (c.in-Discard.is, own _ _ _ _ c.in-Discard.is refl c.requires.space) (c.begin_discard.ensures.begins c.args.processor)

pub returns-in-Wire-clause-begins : goal.returns-in-Wire-clause-begins
returns-in-Wire-clause-begins g c = rw (c.in-Wire.is, own _ _ _ _ c.in-Wire.is refl c.requires.space) (c.begin_wire.ensures.begins c.args.processor)

pub returns-in-Unwire-clause-begins : goal.returns-in-Unwire-clause-begins
returns-in-Unwire-clause-begins g c = rw (c.in-Unwire.is, own _ _ _ _ c.in-Unwire.is refl c.requires.space) (c.begin_unwire.ensures.begins c.args.processor)

-- Only a sync and an evict may lack memory.

pub returns-in-Map-clause-lasting : goal.returns-in-Map-clause-lasting
returns-in-Map-clause-lasting g c = λ _. had_memory _ _ 0 _ c.begin_map.result refl (c.begin_map.ensures.begins 0)

pub returns-in-Grow-clause-lasting : goal.returns-in-Grow-clause-lasting
returns-in-Grow-clause-lasting g c = λ _. had_memory _ _ 0 _ c.begin_grow.result refl (c.begin_grow.ensures.begins 0)

pub returns-in-Unmap-clause-lasting : goal.returns-in-Unmap-clause-lasting
returns-in-Unmap-clause-lasting g c = λ _. had_memory _ _ 0 _ c.begin_unmap.result refl (c.begin_unmap.ensures.begins 0)

pub returns-in-Protect-clause-lasting : goal.returns-in-Protect-clause-lasting
returns-in-Protect-clause-lasting g c = λ _. had_memory _ _ 0 _ c.begin_protect.result refl (c.begin_protect.ensures.begins 0)

pub returns-in-Discard-clause-lasting : goal.returns-in-Discard-clause-lasting
returns-in-Discard-clause-lasting g c = λ _. had_memory _ _ 0 _ c.begin_discard.result refl (c.begin_discard.ensures.begins 0)

pub returns-in-Wire-clause-lasting : goal.returns-in-Wire-clause-lasting
returns-in-Wire-clause-lasting g c = λ _. had_memory _ _ 0 _ c.begin_wire.result refl (c.begin_wire.ensures.begins 0)

pub returns-in-Unwire-clause-lasting : goal.returns-in-Unwire-clause-lasting
returns-in-Unwire-clause-lasting g c = λ _. had_memory _ _ 0 _ c.begin_unwire.result refl (c.begin_unwire.ensures.begins 0)
