use Rattle.std.proofs.Common.{subst, sym}
use Rattle.number_pools.specs.Lawful.{IsLawfulPools}
use Rattle.pool_register.proofs.books.Books.new.Goals as goal

pub invariant_of-result : goal.invariant_of-result
invariant_of-result c = subst IsLawfulPools (sym c.new.ensures) c.empty_is_lawful.ensures
