use Rattle.std.proofs.Common.{◌≡◌, ℕ, ◌-◌, ◌≤◌, false, Option}
use Rattle.inet_num.specs.Net.{Cidr, width_of, IsBlock}
use Rattle.block_space.specs.Fit.{IsFirstFit}
use Rattle.block_space.specs.Listed.{counting_of}
use Rattle.radix_tree.specs.Shape.{IsLink}
use Rattle.radix_tree.specs.Listed.{blocks_of}
use Rattle.radix_tree.specs.Fits.{IsQuick}
use Rattle.radix_tree.proofs.links.Linked.+fit_below.Given as goal

abbrev pub decreases-fit_below : goal.decreases-fit_below
decreases-fit_below g l = width_of l.land.family - l.land.len

-- what is found in the land that is left is what the whole one was searched for, at no more cost
abbrev pub invariant-lands : goal.invariant-lands
invariant-lands g l = record {
  lawful : IsBlock l.land;
  family : l.land.family ≡ l.self.family;
  link : IsLink l.self.pool l.at l.land;
  long : l.land.len ≤ l.len;
  short : l.len ≤ width_of l.land.family;
  smaller : width_of l.land.family - l.land.len ≤ width_of l.fn.land.family - l.fn.land.len;
  leads : (r : Option Cidr) (new : ℕ) → IsFirstFit l.land (counting_of (blocks_of l.self.pool) l.land false) l.len l.from r → IsQuick l.land l.from r l.steps new
      → IsFirstFit l.fn.land (counting_of (blocks_of l.self.pool) l.fn.land false) l.len l.from r × IsQuick l.fn.land l.from r l.initial.steps new;
}

abbrev pub decreases-lands : goal.decreases-lands
decreases-lands g l = width_of l.land.family - l.land.len
