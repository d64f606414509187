-- Names of hosts (RFC 1035 2.3.1, with underscores and a star for the first label, RFC 4592): labels joined by periods; one more
-- period may come last.
use Rattle.std.specs.Prelude.{ℕ, ◌==◌, ◌&&◌, ◌||◌, nat_le, Bool, List, [], ◌∷◌, reverse, length, codes, bytes_eq, if◌then◌else◌}
use Rattle.std.specs.List.{list_all, slice_split}
use Rattle.ipam_data.specs.Texts.{is_slug_char}

abbrev pub is_dot : ℕ → Bool
is_dot c = c == 46

-- what follows a first period
abbrev pub after_dot : List ℕ → List ℕ
after_dot [] = []
after_dot (c ∷ cs) = if is_dot c then cs else c ∷ cs

-- the text without a last period
abbrev pub bare : List ℕ → List ℕ
bare text = reverse (after_dot (reverse text))

-- what follows a star and a period at the front
abbrev pub after_star : List ℕ → List ℕ
after_star [] = []
after_star (c ∷ []) = c ∷ []
after_star (c ∷ d ∷ cs) = if c == 42 && is_dot d then cs else c ∷ d ∷ cs

-- a label has one or more letters, digits, hyphens and underscores
abbrev pub is_label : List ℕ → Bool
is_label text = nat_le 1 (length text) && list_all is_slug_char text

abbrev pub are_labels : List ℕ → Bool
are_labels text = list_all is_label (slice_split is_dot text)

-- the name of a host is empty, or a star, or labels; one more period may be at its end
unfoldable pub is_dns_name : List ℕ → Bool
is_dns_name text = length text == 0 || bytes_eq (bare text) (codes "*") || are_labels (after_star (bare text))
