-- The blocks of a run. Sync point j, counted from 1, ends block j - 1 and begins block j; block 0 is there without one.
use Rattle.std.specs.Prelude.{ℕ, zero, suc, ◌+◌, ◌≤◌, nat_lt, List, [], ◌∷◌, length, drop, slice_get, slice_index, count_by}
use Rattle.std.specs.List.{prefix_len}
use Rattle.std.specs.Option.{option_map_or}
use Rattle.spec_pcap.specs.Pcap.{Frame}
use Rattle.spec_tables.specs.declared.sync_point.SyncPoint.{SyncPoint}
use Rattle.spec_case.specs.Run.{Run, last_version, frames_of}

abbrev pub last_block : Run → ℕ
last_block run = length run.syncs

-- of so many bundles, how many stand before the sync point that ends a block; in the last block it is all
abbrev pub bundles_through : List SyncPoint → ℕ → ℕ → ℕ
bundles_through syncs bundles block = option_map_or (λ (s : SyncPoint). s.after) (slice_get syncs block) bundles

-- After each sync point stand at least as many bundles as after the one before it, and at most all.
abbrev pub AreInOrder : List SyncPoint → ℕ → Type 0
AreInOrder syncs bundles =
    (block : ℕ) → (bundles_through syncs bundles block ≤ bundles_through syncs bundles (block + 1)) × (bundles_through syncs bundles block ≤ bundles)

-- the number of bundles through a block
abbrev pub hi : Run → ℕ → ℕ
hi run block = bundles_through run.syncs (last_version run) block

-- the number of bundles before a block
abbrev pub lo : Run → ℕ → ℕ
lo run zero = 0
lo run (suc block) = hi run block

-- how many frames stand before the first that isn't before a time
abbrev pub frames_before : ℕ → List Frame → ℕ
frames_before time frames = prefix_len (λ (f : Frame). nat_lt f.time time) frames

-- The last place of each block of a trace, after these many places of earlier blocks. A block ends before the first
-- remaining frame that isn't before the time of the next sync point; the last block has all that is left.
unfoldable pub ends_after : ℕ → List SyncPoint → List Frame → List ℕ
ends_after places [] frames = (places + length frames) ∷ []
ends_after places (s ∷ syncs) frames =
    let n = frames_before s.time frames in
    (places + n) ∷ ends_after (places + n) syncs (drop n frames)

abbrev pub block_ends : Run → ℕ → List ℕ
block_ends run port = ends_after 0 run.syncs (frames_of run port)

-- the last place of a port's trace that is in a block or before it
abbrev pub last_place : Run → ℕ → ℕ → ℕ
last_place run port block = slice_index (block_ends run port) block

-- the block of a place: as many blocks end before it
abbrev pub block_of : Run → ℕ → ℕ → ℕ
block_of run port place = count_by (λ end. nat_lt end place) (block_ends run port)
