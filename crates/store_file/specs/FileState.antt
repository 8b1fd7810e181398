-- What a store over a file is to a caller.
use Rattle.std.specs.Prelude.{ℕ, ◌≡◌, ◌+◌, ◌*◌, ◌≤◌, min, Bool, false, ◌&&◌, ◌==◌, if◌then◌else◌, List, [], replicate, slice_index_or, None}
use Rattle.pager_model.specs.Bounds.{space_pages}
use Rattle.pager_model.specs.SpaceStates.{last_count}
use Rattle.pager_model.specs.Stored.{Stored}
use Rattle.store_file.specs.declared.page_file.Transferred.{Transferred}

-- a file as it is seen from here: what it holds is told by nothing
pub record FileSeen : Type 0 where
  -- whether it could be opened
  pub opened : Bool
  -- the bytes that it said it took
  pub took : Transferred
  -- the bytes that it said it gave
  pub gave : Transferred

-- a store over a file
pub record FileState : Type 0 where
  pub file : FileSeen
  -- of each page of a space, whether it has a copy of its own in the file
  pub copied : List Bool
  -- how many reads there were
  pub reads : ℕ
  -- how many writes there were
  pub writes : ℕ
  -- how many faults it has had
  pub faults : ℕ

-- no page of a space
unfoldable pub no_pages : List Bool
no_pages = replicate space_pages false

-- no bytes so far
abbrev pub none_yet : Transferred
none_yet = record { bytes = 0; end = 0; row = 0 }

-- a file of which nothing was asked so far
abbrev pub fresh_file : Bool → FileSeen
fresh_file opened = record { opened = opened; took = none_yet; gave = none_yet }

-- a store with no copy, no read, no write and no fault so far
abbrev pub fresh : Bool → FileState
fresh opened = record { file = fresh_file opened; copied = no_pages; reads = 0; writes = 0; faults = 0 }

-- the page has a copy of its own
abbrev pub is_copied : FileState → ℕ → Bool
is_copied store page = slice_index_or store.copied page false

-- a read of the page is one of the file
abbrev pub is_in_file : FileState → ℕ → Bool
is_in_file store page = store.file.opened && is_copied store page

-- so many bytes more, from a place of the file on
abbrev pub moved : Transferred → ℕ → ℕ → Transferred
moved t place n = record {
  bytes = min (t.bytes + n) last_count;
  end = place + n;
  row = min ((if place == t.end then t.row else 0) + n) last_count;
}

-- a page's 8,192 bytes more, of which the last is that of the page's end, and each followed the one before it
pub record MovesPage (page : ℕ) (old new : Transferred) : Type 0 where
  pub bytes : new.bytes ≡ min (old.bytes + 8192) last_count
  pub end : new.end ≡ 8192 * (page + 1)
  pub row : 8192 ≤ new.row

-- a backing store that tells no copy, keeps every page, and has had so many faults
abbrev pub untold : ℕ → Stored
untold faults = record { tells = false; told = false; copies = []; kept = None; faults = faults }
