-- Fields of a body.
use Rattle.std.proofs.Common.{◌≡◌, [], Some, refl}
use Rattle.std.proofs.lemmas.Str.{chars-nil}
use Rattle.ipam_json.specs.Members.{within}

-- an empty text is a description
pub empty_is_described : within 0 200 [] ≡ Some []
empty_is_described = rw chars-nil refl
