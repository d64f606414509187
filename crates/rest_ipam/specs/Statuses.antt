-- The statuses that answers have (RFC 9110, section 15).
use Rattle.std.specs.Prelude.{◌≡◌, ◌||◌, ◌==◌, ℕ, true}

abbrev pub IsStatus : ℕ → Type 0
IsStatus n =
    (n == 200 || n == 201 || n == 204 || n == 400 || n == 404 || n == 405 || n == 409 || n == 413 || n == 500 || n == 501 || n == 503 || n == 507) ≡ true
