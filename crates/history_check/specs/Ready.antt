-- What is known of an entry when the frames are asked: its parts and its processor's order were looked at, and its space.
use Rattle.std.specs.Prelude.{ℕ, ◌≡◌, ◌+◌, ◌<◌, ◌≤◌, true, List, length, Some, IfSome, if◌then◌else◌}
use Rattle.followed_frames.specs.Ready.{IsReady}
use Rattle.followed_space.specs.Follows.{AnswersLine}
use Rattle.tiles.specs.Resident.{frame_of_page}
use Rattle.told_space.specs.declared.space.ToldSpace.{ToldSpace}
use Rattle.told_space.specs.Told.{AllowsBefore, WantsFor}
use Rattle.pager_model.specs.declared.entry.Entry.{Entry}
use Rattle.pager_model.specs.declared.entry.What.{What}
use Rattle.pager_model.specs.declared.entry.What.TheVariants.{Clear}
use Rattle.pager_model.specs.Bounds.{most_spaces, space_pages}
use Rattle.pager_model.specs.Entries.{NamesItsParts}
use Rattle.pager_model.specs.FrameStates.{FrameState, FramesAllow, frame_of, frames_after, named_space}
use Rattle.pager_model.specs.Legal.{IsLegal, progress_at, space_at}
use Rattle.pager_model.specs.Order.{Progress, progress_after}
use Rattle.pager_model.specs.Settings.{Given}

pub record CameSoFar (g : Given) (history : List Entry) (e : Entry) : Type 0 where
  pub legal : IsLegal g history
  pub parts : NamesItsParts e
  pub processor : e.processor < length g.marks
  pub space : IfSome e.space (λ s. s < length g.told)
  pub few : length g.told ≤ most_spaces
  pub before : Progress
  pub at : progress_at g history e.processor ≡ Some before
  pub after : Progress
  pub goes : progress_after before e.space e.what ≡ Some after
  pub by_space : IfSome e.space (λ s. AllowsBefore (space_at g history s) e)
  pub line : AnswersLine e.what
  pub wants : WantsFor e.what

-- What the frames say of an entry, where it names them.

-- they allow it
abbrev pub FramesMay : FrameState → ℕ → Entry → Type 0
FramesMay st mark e = e.frames ≡ true → FramesAllow st mark e.processor e.space e.what

-- what they are after it
abbrev pub frames_next : FrameState → Entry → FrameState
frames_next st e = if e.frames then frames_after st e else st

-- the range ends within the space, and its pages have the frames there that they have in the frames
pub record IsReadyRange (st : FrameState) (told : ToldSpace) (space first len : ℕ) : Type 0 where
  pub within : first + len ≤ space_pages
  pub agrees : (p : ℕ) → frame_of_page told.space.pages p ≡ frame_of st space p

abbrev pub IsReadyWhat : FrameState → ToldSpace → Entry → What → Type 0
IsReadyWhat st told e (Clear first len) = IsReadyRange st told (named_space e.space) first len
IsReadyWhat st told e what = IsReady st e

-- what is known of an entry of a space that names the frames, before they are asked
abbrev pub IsReadyHere : FrameState → ToldSpace → Entry → Type 0
IsReadyHere st told e = e.frames ≡ true → IsReadyWhat st told e e.what
