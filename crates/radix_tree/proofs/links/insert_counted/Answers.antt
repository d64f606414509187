use Rattle.std.proofs.Common.{refl}
use Rattle.radix_tree.specs.declared.links.Place.TheVariants.{Root}
use Rattle.radix_tree.specs.Shape.{whole}
use Rattle.radix_tree.proofs.Mended.{frees_all, inserted_mended}
use Rattle.radix_tree.proofs.links.insert_counted.Goals as goal

pub returns-clause-inserted : goal.returns-clause-inserted
returns-clause-inserted g c =
    let mid = c.insert.new.self in
    let frees = c.mend.ensures.frees Root (whole mid.family) (refl, refl) (c.insert.ensures.frees c.requires.frees) in
    inserted_mended c.args.linked.now mid c.mend.new.self c.args.block c.insert.ensures c.mend.ensures.refrees (frees_all mid c.mend.new.self c.args.block c.insert.ensures.sound.tree c.mend.ensures.refrees frees)

pub returns-clause-frees : goal.returns-clause-frees
returns-clause-frees g c =
    let mid = c.insert.new.self in
    let frees = c.mend.ensures.frees Root (whole mid.family) (refl, refl) (c.insert.ensures.frees c.requires.frees) in
    frees_all mid c.mend.new.self c.args.block c.insert.ensures.sound.tree c.mend.ensures.refrees frees
