-- How much of the prefix is used.
use Rattle.std.proofs.Common.{◌≡◌, ℕ, suc, ◌+◌, ◌-◌, ◌^◌, ◌<◌, ◌&&◌, ◌||◌, nat_le, nat_lt, Bool, false, cond, List, [], ◌∷◌, refl, ap, sym, ◌∙◌, arith}
use Rattle.std.specs.List.{count_by}
use Rattle.inet_num.specs.Count.{numbers_from, addresses_of, count_of, percent_of}
use Rattle.inet_num.proofs.Counts.{count-cons, count_between}
use Rattle.block_space.specs.Usable.{host_room}
use Rattle.ipam_data.specs.declared.replies.Reply.TheVariants.{Percent}
use Rattle.ipam_data.specs.Claims.{is_hosted, is_marked}
use Rattle.command_load.specs.LoadText.{load_first}
use Rattle.command_load.specs.Claims.{block_of, prefix_row, address_rows, claimed_state, FigureIsOfClaims}
use Rattle.command_load.proofs.Hosts.{hosted}

same_count : (p q : ℕ → Bool) (xs : List ℕ) → ((x : ℕ) → p x ≡ q x) → count_by p xs ≡ count_by q xs
same_count p q [] same = refl
same_count p q (x ∷ xs) same =
    count-cons p x xs ∙ ap (λ (t : Bool). cond t 1 0 + count_by p xs) (same x) ∙ ap (λ (n : ℕ). cond (q x) 1 0 + n) (same_count p q xs same) ∙ sym (count-cons q x xs)

or_false : (t : Bool) → (t || false) ≡ t
or_false t = grind arith

used : (len k : ℕ) → k < 2 ^ (32 - len) → count_of (λ a. is_hosted (address_rows len k) (prefix_row len) a || is_marked [] (prefix_row len) a) (block_of len) ≡ k
unfolding addresses_of
used len k few =
    same_count (λ a. is_hosted (address_rows len k) (prefix_row len) a || is_marked [] (prefix_row len) a) (λ a. nat_le (load_first + 1) a && nat_lt a (load_first + k + 1)) (numbers_from load_first (2 ^ (32 - len)))
    (λ a. or_false (is_hosted (address_rows len k) (prefix_row len) a) ∙ hosted len k a few)
    ∙ count_between (load_first + 1) (load_first + k + 1) load_first (2 ^ (32 - len))
    ∙ omega arith

pub figure_of_claims : FigureIsOfClaims
figure_of_claims unique len k few =
    let same : suc k + 0 ≡ suc k = omega arith in
    ap (λ (n : ℕ). (record (claimed_state unique len k) { spent = suc k + 0 }, Percent (percent_of n (host_room (block_of len) false)))) (used len k few)
    ∙ ap (λ (m : ℕ). (record (claimed_state unique len k) { spent = m }, Percent (percent_of k (host_room (block_of len) false)))) same
