-- The book of addresses: what it means that it is in order, and which of its rows clash with one.
use Rattle.std.specs.Prelude.{ℕ, nat_lt, ◌&&◌, Bool}
use Rattle.ipam_data.specs.declared.address.IpAddress.{IpAddress}
use Rattle.ipam_data.specs.RowList.{is_rival}
use Rattle.ipam_data.specs.Rows.{address_id}
use Rattle.ipam_data.specs.Addresses.{clashes}
use Rattle.placed_book.specs.Book.{TabledRows, IsInOrder as IsPlacedInOrder}
use Rattle.placed_book.specs.Kinds.{placed_address}

-- the spaces of each table have the hosts of its addresses as blocks of one address, and those of all tables the hosts of all
abbrev pub IsInOrder : TabledRows IpAddress → Type 0
IsInOrder book = IsPlacedInOrder placed_address book

-- another row of an id above this one clashes with the row
abbrev pub clashes_past : ℕ → IpAddress → IpAddress → Bool
clashes_past least row other = is_rival address_id clashes row other && nat_lt least other.id
