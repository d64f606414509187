-- Which addresses the claims hold.
use Rattle.std.proofs.Common.{◌≡◌, ℕ, zero, suc, ◌+◌, ◌-◌, ◌^◌, ◌<◌, ◌≤◌, ◌==◌, ◌&&◌, ◌||◌, nat_le, nat_lt, Bool, true, false, List, [], ◌∷◌, ◌++◌, length, refl, ap, ◌∙◌, arith}
use Rattle.std.proofs.lemmas.Bool.Decides.{nat_tests}
use Rattle.std.proofs.lemmas.List.{length-append}
use Rattle.std.proofs.lemmas.List.Folds.{list_any-append}
use Rattle.ipam_data.specs.declared.address.IpAddress.{IpAddress}
use Rattle.ipam_data.specs.Claims.{is_child_address, is_hosted}
use Rattle.ipam_data.specs.Rows.{address_id}
use Rattle.ipam_data.specs.RowList.{AllBelow}
use Rattle.command_load.specs.LoadText.{load_first}
use Rattle.command_load.specs.Claims.{prefix_row, address_row, address_rows}

-- a claimed address lies in the block
held : (len n : ℕ) → n < 2 ^ (32 - len) → is_child_address (prefix_row len) (address_row len n) ≡ true
held len n few =
    let low : nat_le load_first (load_first + n) ≡ true = grind (arith, nat_tests) in
    let high : nat_le (load_first + n) (load_first + 2 ^ (32 - len) - 1) ≡ true = (let le : load_first + n ≤ load_first + 2 ^ (32 - len) - 1 = omega arith in grind (arith, nat_tests)) in
    rw (low, high) refl

-- those that are hosted are those of the claims
pub hosted : (len k a : ℕ) → k < 2 ^ (32 - len) → is_hosted (address_rows len k) (prefix_row len) a ≡ (nat_le (load_first + 1) a && nat_lt a (load_first + k + 1))
hosted len zero a few = grind (arith, nat_tests)
hosted len (suc k) a few =
    let before = hosted len k a (omega arith) in
    let child = held len (suc k) few in
    list_any-append (λ r. is_child_address (prefix_row len) r && r.host.addr.value == a) (address_rows len k) (address_row len (suc k) ∷ [])
    ∙ ap (λ (t : Bool). t || ((is_child_address (prefix_row len) (address_row len (suc k)) && (load_first + suc k) == a) || false)) before
    ∙ ap (λ (t : Bool). (nat_le (load_first + 1) a && nat_lt a (load_first + k + 1)) || ((t && (load_first + suc k) == a) || false)) child
    ∙ grind (arith, nat_tests)

pub many : (len k : ℕ) → length (address_rows len k) ≡ k
many len zero = refl
many len (suc k) = length-append (address_rows len k) (address_row len (suc k) ∷ []) ∙ (let e = many len k in omega arith)

below_push : (high : ℕ) (xs : List IpAddress) (r : IpAddress) → AllBelow address_id high xs → r.id < high → AllBelow address_id high (xs ++ r ∷ [])
below_push high [] r a l = (l, tt)
below_push high (y ∷ ys) r a l = (a.0, below_push high ys r a.1 l)

pub below : (len k high : ℕ) → k < high → AllBelow address_id high (address_rows len k)
below len zero high h = tt
below len (suc k) high h = below_push high (address_rows len k) (address_row len (suc k)) (below len k high (omega arith)) h
