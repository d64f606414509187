-- Names that the DNS can hold (RFC 1035 2.3.4), and the name that it has for a row's `dns_name`.
use Rattle.std.specs.Prelude.{ℕ, ◌-◌, ◌==◌, ◌&&◌, not, nat_le, Bool, false, Option, Some, None, List, [], ◌∷◌, length, slice_index, if◌then◌else◌}
use Rattle.std.specs.Char.{is_ascii_uppercase}
use Rattle.std.specs.List.{list_any, list_all, slice_split}
use Rattle.ipam_data.specs.HostNames.{is_dot, bare, is_dns_name}

-- a period is last
abbrev pub ends_in_dot : List ℕ → Bool
ends_in_dot name = is_dot (slice_index name (length name - 1))

-- the first label is a star (RFC 4592)
abbrev pub has_star : List ℕ → Bool
has_star [] = false
has_star (c ∷ []) = c == 42
has_star (c ∷ d ∷ _) = c == 42 && is_dot d

-- no label has more than 63 bytes
abbrev pub has_short_labels : List ℕ → Bool
has_short_labels name = list_all (λ label. nat_le (length label) 63) (slice_split is_dot name)

-- a host's name that is not empty, has no final period, no upper-case letter and no star, and whose labels and whole the DNS can hold
unfoldable pub fits_dns : List ℕ → Bool
fits_dns name =
    nat_le 1 (length name)
    && nat_le (length name) 253
    && is_dns_name name
    && not (ends_in_dot name)
    && not (list_any is_ascii_uppercase name)
    && not (has_star name)
    && has_short_labels name

-- the name that the DNS has for a `dns_name`: that without a final period; none if it is empty or its first label is a star
abbrev pub ptr_name_of : List ℕ → Option (List ℕ)
ptr_name_of [] = None
ptr_name_of (c ∷ cs) = if has_star (c ∷ cs) then None else Some (bare (c ∷ cs))
