use Rattle.std.proofs.Common.{ℕ, ◌≡◌, ◌<◌, ◌≤◌, ◌^◌, arith}
use Rattle.ipam_data.specs.declared.kinds.Kind.TheVariants.{Vrfs, Rirs, Roles, Aggregates, Prefixes, Ranges, Addresses}
use Rattle.ipam_data.specs.RowList.{last_next}
use Rattle.register_core.proofs.passes.bare.Goals as goal

-- a number of 32 bits is no greater than the last next id
fits : (n m : ℕ) → n ≡ m → n < 2 ^ 32 → m ≤ last_next
fits n m e b = omega arith

pub returns-clause-nexts : goal.returns-clause-nexts
returns-clause-nexts c = elim [
  | Vrfs ↦ fits _ _ c.told_next.ensures c.told_next.type_inv
  | Rirs ↦ fits _ _ c.told_next-2.ensures c.told_next-2.type_inv
  | Roles ↦ fits _ _ c.told_next-3.ensures c.told_next-3.type_inv
  | Aggregates ↦ fits _ _ c.told_next-4.ensures c.told_next-4.type_inv
  | Prefixes ↦ fits _ _ c.told_next-5.ensures c.told_next-5.type_inv
  | Ranges ↦ fits _ _ c.told_next-6.ensures c.told_next-6.type_inv
  | Addresses ↦ fits _ _ c.told_next-7.ensures c.told_next-7.type_inv
]
