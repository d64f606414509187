-- How long a client may take.
use Rattle.std.specs.Prelude.{ℕ, ◌+◌, ◌*◌, ◌/◌, ◌^◌, min}
use Rattle.std.specs.Duration.{max_nanos}

-- the nanoseconds that a client has which sent so many bytes: a base time, and a second for every 500 bytes
abbrev pub allowed_nanos : ℕ → ℕ → ℕ
allowed_nanos base bytes = min (base + (bytes / 500) * 10 ^ 9) max_nanos
