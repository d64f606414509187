use Rattle.std.proofs.Common.{◌+◌, ◌^◌, ◌<◌, length, sym, subst}
use Rattle.inet_num.specs.declared.Family.TheVariants.{V4, V6}
use Rattle.placed_book.specs.Book.{TableBlocks}
use Rattle.placed_book.proofs.spaces.TableSpaces.reserve.Goals as goal

pub reserve-requires : goal.reserve-requires
reserve-requires g c = subst (λ (t : TableBlocks). length t.v4 + c.args.n < 2 ^ 30) (sym c.self.view_is) (c.requires V4)

pub reserve-requires-2 : goal.reserve-requires-2
reserve-requires-2 g c = subst (λ (t : TableBlocks). length t.v6 + c.args.n < 2 ^ 30) (sym c.self.view_is) (c.requires V6)
