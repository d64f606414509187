-- The field of an answer with its place.
use Rattle.std.specs.Prelude.{ℕ, codes}
use Rattle.http_session.specs.Answers.{NamedNumber}

abbrev pub place_field : ℕ → NamedNumber
place_field place = record { name = codes "Ipam-Place"; number = place }
