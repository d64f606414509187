-- A store from which tables were read, and whose keeper went back.
use Rattle.std.proofs.Common.{◌≡◌, ℕ, List, Option, Some, inl, inr, refl, arith}
use Rattle.pool_keeper.specs.declared.tables.PoolTables.{PoolTables}
use Rattle.pool_keeper.specs.Keeping.{IsReturned, started}
use Rattle.pool_opening.specs.declared.faults.PoolFault.TheVariants.{Memory}
use Rattle.pool_store.proofs.Refused.{refused_so, unopened_so}
use Rattle.pool_store.specs.Opening.{AreSame, StoredPools}

-- a keeper that still tells what it told went back, and known tables are unchanged
pub same_after : (path : Option (List ℕ)) (lent : Option (Option (List ℕ))) (told last : Option PoolTables) (old mid new : StoredPools)
    → lent ≡ Some path → mid ≡ old → last ≡ told → told ≡ started old path → IsReturned lent last mid new → AreSame old new
same_after path lent told last old mid new out stays same is returned =
    (refused_so path lent told last old mid new Memory 0 0 0 0 0 out stays same is returned (unopened_so told Memory (inr refl)) (omega arith) (λ wrong. absurd (cc wrong)) (inl refl)).same
