-- An address alone is a block of its family's width.
use Rattle.std.proofs.Common.{◌≡◌, ℕ, ◌-◌, ◌≤◌, ◌^◌, ◌%◌, arith, List, sym, subst}
use Rattle.inet_num.specs.declared.Family.{Family}
use Rattle.inet_num.specs.declared.Family.TheVariants.{V4, V6}
use Rattle.inet_num.specs.Net.{Address, IsAddress, Cidr, IsBlock, block_at, width_of}
use Rattle.inet_num.specs.Text.{IsBlockText}
use Rattle.inet_num.specs.Fault.{IsBlockFault}
use Rattle.inet_num.specs.declared.text.TextFault.{TextFault}
use Rattle.inet_num.proofs.Readings.{reading_is_one}

aligned : (f : Family) (n : ℕ) → n % 2 ^ (width_of f - width_of f) ≡ 0
aligned V4 n = omega arith
aligned V6 n = omega arith

short : (f : Family) → width_of f ≤ width_of f
short V4 = omega arith
short V6 = omega arith

pub host_is_block : (a : Address) → IsAddress a → IsBlock (block_at a (width_of a.family))
host_is_block a h = record { short = short a.family; aligned = aligned a.family a.value; in_range = h }

-- a text with a fault is that of no block
pub no_block : (text bytes : List ℕ) (b : Cidr) (fault : TextFault) → bytes ≡ text → IsBlockFault bytes fault → ¬ IsBlockText text b
no_block text bytes b fault same bad good = reading_is_one.apart bytes b fault (subst (λ (t : List ℕ). IsBlockText t b) (sym same) good) bad
