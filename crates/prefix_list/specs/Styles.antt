-- The texts of a prefix list: a line for each block.
-- Plain: the block. Ios: `ip prefix-list NAME seq N permit B`, with `ipv6` for `ip` in the family of IPv6; N is 5, 10, 15 and on. Junos:
-- `set policy-options prefix-list NAME B`.
use Rattle.std.specs.Prelude.{ℕ, ◌+◌, List, [], ◌∷◌, ◌++◌, codes, decimal}
use Rattle.inet_num.specs.declared.Family.{Family}
use Rattle.inet_num.specs.declared.Family.TheVariants.{V4, V6}
use Rattle.inet_num.specs.Net.{Cidr}
use Rattle.inet_num.specs.Text.{block_text_of}
use Rattle.prefix_list.specs.declared.styles.Style.{Style}
use Rattle.prefix_list.specs.declared.styles.Style.TheVariants.{Plain, Ios, Junos}

-- the protocol as IOS names it
abbrev pub protocol_of : Family → List ℕ
protocol_of V4 = codes "ip"
protocol_of V6 = codes "ipv6"

-- what each line of a list begins with
abbrev pub front_of : Style → List ℕ → Family → List ℕ
front_of Plain name family = []
front_of Ios name family = protocol_of family ++ codes " prefix-list " ++ name ++ codes " seq "
front_of Junos name family = codes "set policy-options prefix-list " ++ name ++ codes " "

-- what follows: the line's own number
abbrev pub number_of : Style → ℕ → List ℕ
number_of Plain n = []
number_of Ios n = decimal n ++ codes " permit "
number_of Junos n = []

-- what follows the front: the number, the block and a line feed
abbrev pub end_of : Style → ℕ → Cidr → List ℕ
end_of style n b = number_of style n ++ (block_text_of b ++ 10 ∷ [])

-- the line of a block, with this number
abbrev pub line_of : Style → List ℕ → ℕ → Cidr → List ℕ
line_of style name n b = front_of style name b.family ++ (number_of style n ++ block_text_of b)

-- the lines of blocks, the first one with this number
abbrev pub lines_from : Style → List ℕ → ℕ → List Cidr → List ℕ
lines_from style name n [] = []
lines_from style name n (b ∷ bs) = line_of style name n b ++ 10 ∷ lines_from style name (n + 5) bs

-- the text of a list
abbrev pub list_text_of : Style → List ℕ → List Cidr → List ℕ
list_text_of style name blocks = lines_from style name 5 blocks
