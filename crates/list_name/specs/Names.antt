-- The name of a prefix list: 1 to 64 of the ASCII letters, the digits, `-` and `_`.
use Rattle.std.specs.Prelude.{◌≡◌, ℕ, ◌≤◌, ◌==◌, ◌&&◌, ◌||◌, nat_le, Bool, true, List, length}
use Rattle.std.specs.List.{list_all}

-- an ASCII letter, a digit, a hyphen or an underscore
abbrev pub is_name_char : ℕ → Bool
is_name_char c =
    nat_le 97 c && nat_le c 122 || nat_le 65 c && nat_le c 90 || nat_le 48 c && nat_le c 57 || c == 45 || c == 95

pub record IsListName (name : List ℕ) : Type 0 where
  pub some : 1 ≤ length name
  pub few : length name ≤ 64
  pub letters : list_all is_name_char name ≡ true
