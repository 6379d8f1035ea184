-- What it does to a version to be told of the next one.
use Rattle.std.specs.Prelude.{ℕ, ◌+◌, ◌==◌, if◌then◌else◌}

-- the version after one step to another: one that isn't to the next does nothing
abbrev pub version_after : ℕ → ℕ → ℕ
version_after version made = if made == version + 1 then version + 1 else version
