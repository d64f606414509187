-- Claims beside the blocks of a book: in another order the same blocks leave the same places.
use Rattle.std.proofs.Common.{◌≡◌, ℕ, true, List, IsPermutation, sym}
use Rattle.inet_num.specs.Net.{Cidr}
use Rattle.block_space.specs.Listed.{counting_of}
use Rattle.block_space.specs.Fit.{fits_of}
use Rattle.block_space.proofs.Alike.{answer_alike}

pub fits_same : (within : Cidr) (lens : List ℕ) (xs ys : List Cidr) → IsPermutation xs ys → fits_of within (counting_of ys within true) lens ≡ fits_of within (counting_of xs within true) lens
fits_same within lens xs ys h = sym (((answer_alike xs ys h).counting within true).all_fits within lens)
