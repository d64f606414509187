-- The row that one item of a claim returns.
use Rattle.std.specs.Prelude.{ℕ}
use Rattle.inet_num.specs.Net.{Cidr}
use Rattle.ipam_data.specs.declared.calls.BlockItem.{BlockItem}
use Rattle.ipam_data.specs.declared.prefix.Prefix.{Prefix}

-- the prefix that an item gets in another one, under an id and with a block
abbrev pub claimed_prefix : Prefix → ℕ → BlockItem → Cidr → Prefix
claimed_prefix row n item block =
    record { id = n; block = block; vrf = row.vrf; status = item.status; role = item.role; is_pool = item.is_pool; mark_utilized = item.mark_utilized; description = item.description }
