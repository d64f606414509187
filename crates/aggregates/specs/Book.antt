-- The book of aggregates: what it means that it is in order.
use Rattle.ipam_data.specs.declared.aggregate.Aggregate.{Aggregate}
use Rattle.placed_book.specs.Book.{TabledRows, IsInOrder as IsPlacedInOrder}
use Rattle.placed_book.specs.Kinds.{placed_aggregate}

-- the spaces of the global table have the blocks of all aggregates, which are outside VRFs
abbrev pub IsInOrder : TabledRows Aggregate → Type 0
IsInOrder book = IsPlacedInOrder placed_aggregate book
