-- The version of the library, which is that of its header and of the command. Assumes nothing.
use Rattle.std.specs.Prelude.{ℕ, ◌+◌, ◌*◌}

-- a version as one number; a later one has the larger number as long as minor and patch stay below 1,000
abbrev pub numbered : (major minor patch : ℕ) → ℕ
numbered major minor patch = major * 1000000 + minor * 1000 + patch

-- this version
abbrev pub version : ℕ
version = numbered 0 6 1
