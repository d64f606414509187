use Rattle.std.proofs.Common.{sym, subst}
use Rattle.ipam_data.specs.Lawful.{IsLawful}
use Rattle.stored_tables.proofs.OpenLaws.{empty_lawful}
use Rattle.register_core.proofs.books.Books.new.Goals as goal

pub invariant_of-result : goal.invariant_of-result
invariant_of-result c = subst IsLawful (sym c.new.ensures) (empty_lawful c.args.global_unique)
