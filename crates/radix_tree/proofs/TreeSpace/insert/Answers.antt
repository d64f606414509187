use Rattle.std.proofs.Common.{◌<◌, ◌^◌, subst, sym, length}
use Rattle.radix_tree.specs.Held.{Held}
use Rattle.radix_tree.proofs.Mended.{kept_inserted}
use Rattle.radix_tree.proofs.TreeSpace.insert.Goals as goal

pub invariant_of-self : goal.invariant_of-self
invariant_of-self c = kept_inserted c.self.inside.linked c.insert_counted.new.linked c.args.block (subst (λ (h : Held). length h.blocks < 2 ^ 30) (sym c.self.view_is) c.requires.few) c.insert_counted.ensures.inserted c.insert_counted.ensures.frees
