use Rattle.ipam_json.specs.BlockItems.{block_item}
use Rattle.ipam_json.specs.AddrItems.{addr_item}
use Rattle.ipam_json.proofs.Claimed.{one_answer}
use Rattle.ipam_json.proofs.laws.claim_is_one.Goals as goal

pub returns : goal.returns
returns c = record {
  blocks = λ body a b h k. one_answer block_item body a b h k;
  addrs = λ body a b h k. one_answer addr_item body a b h k;
}
