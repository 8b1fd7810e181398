-- The laws of the frames hold where their state is sound, so after every list of entries that they allow and after every legal history.
use Rattle.std.proofs.Common.{ℕ, List, length}
use Rattle.pager_model.specs.declared.entry.Entry.{Entry}
use Rattle.pager_model.specs.FrameStates.{FrameState}
use Rattle.pager_model.specs.Laws.{KeepsFrames}
use Rattle.pager_model.specs.Legal.{IsLegal, frames_at, frames_state}
use Rattle.pager_model.specs.Settings.{Given}
use Rattle.pager_laws.specs.Allowed.{AreFrameEntries}
use Rattle.pager_laws.specs.Laid.{IsSound}
use Rattle.pager_laws.proofs.AllowedEntries.{IsSound-allowed}
use Rattle.pager_laws.proofs.LegalHistories.{IsKept-legal}
use Rattle.pager_laws.proofs.Partition.{IsPartition-sound}

KeepsFrames-sound : (frames processors : ℕ) (st : FrameState) → IsSound frames processors st → KeepsFrames frames st
KeepsFrames-sound frames processors st sound = record {
  partition = IsPartition-sound frames processors st sound;
  named = λ id r is. (sound.laid.placed id r is).named;
  used = λ id r is. let some = sound.laid.some_used id r is in record { frame = some.0; place = some.1; used = some.2 };
  apart = sound.laid.one_cover;
  ages = sound.ages_differ;
  one_claim = sound.claims_once;
  claims_or_holds = λ frame c claims. (sound.claims_known frame c claims).1;
}

pub KeepsFrames-allowed : (g : Given) (entries : List Entry) → AreFrameEntries g entries → KeepsFrames g.frames (frames_state g entries)
KeepsFrames-allowed g entries allowed = KeepsFrames-sound g.frames (length g.marks) (frames_state g entries)
    (IsSound-allowed g entries allowed)

pub KeepsFrames-legal : (g : Given) (history : List Entry) → IsLegal g history → KeepsFrames g.frames (frames_at g history)
KeepsFrames-legal g history legal = KeepsFrames-sound g.frames (length g.marks) (frames_at g history) (IsKept-legal g history legal).sound
