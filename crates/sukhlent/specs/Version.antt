-- The version of the library.
use Rattle.std.specs.Prelude.{ℕ}

-- the number of this version, as SUKHLENT_VERSION of the header has it: major * 10000 + minor * 100 + patch
abbrev pub version_number : ℕ
version_number = 1600
