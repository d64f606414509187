use Rattle.std.proofs.Common.{refl}
use Rattle.radix_tree.specs.declared.links.Place.TheVariants.{Root}
use Rattle.radix_tree.specs.Shape.{whole}
use Rattle.radix_tree.proofs.Mended.{frees_all, removed_mended}
use Rattle.radix_tree.proofs.links.remove_counted.Goals as goal

pub returns-clause-removed : goal.returns-clause-removed
returns-clause-removed g c =
    let mid = c.remove-done.new.self in
    let frees = c.mend.ensures.frees Root (whole mid.family) (refl, refl) (c.remove-done.ensures.frees c.requires.frees) in
    removed_mended c.args.linked.now mid c.mend.new.self c.args.block.now c.remove-done.result c.remove-done.ensures c.mend.ensures.refrees (frees_all mid c.mend.new.self c.args.block.now c.remove-done.ensures.sound.tree c.mend.ensures.refrees frees)

pub returns-clause-frees : goal.returns-clause-frees
returns-clause-frees g c =
    let mid = c.remove-done.new.self in
    let frees = c.mend.ensures.frees Root (whole mid.family) (refl, refl) (c.remove-done.ensures.frees c.requires.frees) in
    frees_all mid c.mend.new.self c.args.block.now c.remove-done.ensures.sound.tree c.mend.ensures.refrees frees
