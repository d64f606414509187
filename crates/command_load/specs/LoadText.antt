-- The command `load`: the block on which so many claims of one address are made, and what is printed of them.
use Rattle.std.specs.Prelude.{ℕ, zero, suc, ◌+◌, ◌-◌, ◌*◌, ◌^◌, ◌++◌, nat_le, List, [], ◌∷◌, codes, decimal, false, if◌then◌else◌}
use Rattle.inet_num.specs.declared.Family.TheVariants.{V4}
use Rattle.inet_num.specs.Net.{Address, Cidr}
use Rattle.inet_num.specs.Count.{percent_of}
use Rattle.inet_num.specs.Text.{canonical_text_of}
use Rattle.block_space.specs.Usable.{host_room}
use Rattle.command_load.specs.declared.figures.Figures.{Figures}

-- the greatest length, up to this one, of a block of IPv4 with four addresses for each claim; 0 if there is none
unfoldable pub longest : ℕ → ℕ → ℕ
longest claims zero = zero
longest claims (suc len) = if nat_le (4 * claims) (2 ^ (32 - suc len)) then suc len else longest claims len

-- the length of the block for so many claims
abbrev pub load_len : ℕ → ℕ
load_len claims = longest claims 32

-- 10.0.0.0
abbrev pub load_first : ℕ
load_first = 167772160

-- the block for so many claims
abbrev pub load_block : ℕ → Cidr
load_block claims = record { family = V4; first = load_first; len = load_len claims }

-- the address that claim n gets, counted from 1: the n-th after 10.0.0.0, which is kept back
abbrev pub load_address : ℕ → Address
load_address n = record { family = V4; value = load_first + n }

-- what so many claims lead to: the least and the greatest address, the whole percentage of the addresses that hosts can have, and one
-- accepted change for the prefix and one for each claim
abbrev pub load_figures : ℕ → Figures
load_figures claims = record {
  claimed = claims;
  first = load_address 1;
  last = load_address claims;
  percent = percent_of claims (host_room (load_block claims) false);
  entries = claims + 1;
}

-- five lines, each a word and a figure
abbrev pub figures_text : Figures → List ℕ
figures_text figures =
    codes "claimed " ++ decimal figures.claimed ++ 10 ∷ []
    ++ codes "first " ++ canonical_text_of figures.first.family figures.first.value ++ 10 ∷ []
    ++ codes "last " ++ canonical_text_of figures.last.family figures.last.value ++ 10 ∷ []
    ++ codes "percent " ++ decimal figures.percent ++ 10 ∷ []
    ++ codes "entries " ++ decimal figures.entries ++ 10 ∷ []

-- what is printed of so many claims
unfoldable pub load_text : ℕ → List ℕ
load_text claims = figures_text (load_figures claims)
