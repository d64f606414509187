-- A claim of blocks is refused for want of space exactly if an item finds no free block beside those of the items before it.
use Rattle.std.proofs.Common.{◌↔◌, ◌∙◌, ◌∷◌, ◌≡◌, Contains, List, Option, Some, [], ap, arith, length, subst, sym, ℕ}
use Rattle.std.specs.List.{AllByRecursion, flat_map, slice_get}
use Rattle.inet_num.specs.Net.{IsBlock}
use Rattle.ipam_data.specs.Claims.{child_blocks, claim_blocks_of, claimed_prefixes, lengths_of, told_of_block}
use Rattle.ipam_data.specs.Lawful.{IsLawful}
use Rattle.ipam_data.specs.Prefixes.{prefix_rules}
use Rattle.ipam_data.specs.RowList.{row_at}
use Rattle.ipam_data.specs.Rows.{prefix_id}
use Rattle.ipam_data.specs.State.{State}
use Rattle.ipam_data.specs.Steps.{plain_step}
use Rattle.ipam_data.specs.Updates.{outcome}
use Rattle.ipam_data.specs.declared.calls.Answered.{Answered}
use Rattle.ipam_data.specs.declared.calls.BlockItem.{BlockItem}
use Rattle.ipam_data.specs.declared.calls.Call.TheVariants.{ClaimBlocks}
use Rattle.ipam_data.specs.declared.prefix.Prefix.{Prefix}
use Rattle.ipam_data.specs.declared.replies.Refusal.{Refusal}
use Rattle.ipam_data.specs.declared.replies.Refusal.TheVariants.{NoSpace}
use Rattle.ipam_data.specs.declared.replies.Reply.TheVariants.{Refused}
use Rattle.ipam_data.proofs.Kept.{found_there}
use Rattle.claim_laws.specs.Claims.{AreLeastBlocks, IsStuck, MayClaimBlocks}
use Rattle.claim_laws.proofs.FreeBlocks.{found, found_only, AreBlocks, stuck}
use Rattle.claim_laws.proofs.LeastBlocks.{IsAllowed, all_allowed, all_longer, all_told, fitting, fitting_least, found_is, lawful_blocks, none_alike}
use Rattle.claim_laws.proofs.Lemmas.{claimed_length, fits_length, lengths_length}
use Rattle.claim_laws.proofs.Lists.{place_within}
use Rattle.claim_laws.proofs.Refusals.{IsOther, at_found, breaks_other, found_refused, wanting, wants_from}

block_told_other : (s : State) (p : Prefix) (items : List BlockItem) → AllByRecursion IsOther (flat_map (told_of_block s p) items)
block_told_other s p [] = tt
block_told_other s p (item ∷ items) = (breaks_other _, (breaks_other _, block_told_other s p items))

module _ (s : State) (form : Answered) (items : List BlockItem) (p : Prefix) (hp : IsBlock p.block) (all : AreBlocks s) where
  abbrev rows : List Prefix
  rows = claimed_prefixes p s.prefixes.next items (fitting s items p hp all)

  abbrev told : List (Option Refusal)
  told = flat_map (told_of_block s p) items

  count : length rows ≡ length (fitting s items p hp all)
  count =
      let at_most = fits_length p.block (lengths_of items) (child_blocks s.prefixes.rows p) in
      let lens = lengths_length items in
      claimed_length p s.prefixes.next items (fitting s items p hp all) (omega arith)

  no_fit : (k : ℕ) → (outcome s (claim_blocks_of s form items p)).1 ≡ Refused (NoSpace k) → MayClaimBlocks s p items × IsStuck s p items k
  no_fit k q =
      let w = wants_from prefix_rules s told (length items) form rows k (block_told_other s p items) q in
      let allowed = all_allowed s p items w.told_none in
      let longer = all_longer s p hp all items allowed in
      let many : length (found s p hp all [] items) ≡ k = ap length (found_is s items p hp all) ∙ sym count ∙ sym w.is in
      let less = w.less in
      let is = w.is in
      let h = stuck s p hp all items [] longer (none_alike s items p hp all) (omega arith) in (
        record { few = w.few; longer = λ item c. (allowed item c).longer; short = λ item c. (allowed item c).short; roles = λ item role c e. (allowed item c).role role e },
        record {
          got = found s p hp all [] items;
          count_is = many;
          least = subst (AreLeastBlocks s p items) (sym (found_is s items p hp all)) (fitting_least s items p hp all longer);
          item = h.0;
          there = subst (λ (n : ℕ). slice_get items n ≡ Some h.0) many h.1;
          none = h.2;
        },
      )

  stuck_refused : (k : ℕ) → MayClaimBlocks s p items → IsStuck s p items k → (outcome s (claim_blocks_of s form items p)).1 ≡ Refused (NoSpace k)
  stuck_refused k may h =
      let allowed : (item : BlockItem) → Contains items item → IsAllowed s p item = λ item c. record { longer = may.longer item c; short = may.short item c; role = λ n e. may.roles item n c e } in
      let longer = all_longer s p hp all items allowed in
      let there : slice_get items (length h.got) ≡ Some h.item = subst (λ (n : ℕ). slice_get items n ≡ Some h.item) (sym h.count_is) h.there in
      let is : found s p hp all [] items ≡ h.got = found_only s p hp all items [] h.got h.item longer (none_alike s items p hp all) h.least there h.none in
      let many : length rows ≡ k = count ∙ ap length (sym (found_is s items p hp all) ∙ is) ∙ h.count_is in
      let within = place_within items k h.item h.there in
      wanting prefix_rules s told (length items) form rows may.few (all_told s p items allowed) (omega arith) ∙ ap (λ (n : ℕ). Refused (NoSpace n)) many

pub of_blocks : (s : State) (n : ℕ) (form : Answered) (items : List BlockItem) (k : ℕ) → IsLawful s → ((plain_step s (ClaimBlocks n form items)).1 ≡ Refused (NoSpace k))
    ↔ ((p : Prefix) × (row_at prefix_id s.prefixes.rows n ≡ Some p) × MayClaimBlocks s p items × IsStuck s p items k)
of_blocks s n form items k h =
    let block : (p : Prefix) → row_at prefix_id s.prefixes.rows n ≡ Some p → IsBlock p.block = λ p e. lawful_blocks s h p (found_there prefix_id s.prefixes.rows n p e).0 in (
      (λ q. let f = found_refused prefix_rules s n (claim_blocks_of s form items) (row_at prefix_id s.prefixes.rows n) k q in
          let t = no_fit s form items f.0 (block f.0 f.1) (lawful_blocks s h) k f.2 in
          (f.0, f.1, t.0, t.1)),
      (λ g. at_found prefix_rules s n (claim_blocks_of s form items) g.0 (Refused (NoSpace k)) g.1 (stuck_refused s form items g.0 (block g.0 g.1) (lawful_blocks s h) k g.2 g.3)),
    )
