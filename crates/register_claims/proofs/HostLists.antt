-- Lists and counts of addresses by tests that tell the same of each address.
use Rattle.std.proofs.Common.{subst, take, Result, Ok, Err, IfOk, Vec, Global, ◌≡◌, ℕ, ◌+◌, ◌-◌, ◌<◌, ◌≤◌, ◌&&◌, ◌||◌, Bool, true, false, not, if◌then◌else◌, cond, List, [], ◌∷◌, refl, ap, sym, ◌∙◌, arith, filter}
use Rattle.std.specs.List.{count_by, flat_map}
use Rattle.std.specs.declared.alloc.AllocError.{AllocError}
use Rattle.inet_num.specs.declared.Family.{Family}
use Rattle.block_claim.specs.Claims.{IsServed}
use Rattle.block_claim.specs.declared.fault.ClaimFault.{ClaimFault}
use Rattle.inet_num.specs.Net.{Address, Cidr, size_of, HasAddress}
use Rattle.inet_num.specs.Count.{numbers_from, addresses_of, count_of}
use Rattle.inet_num.specs.declared.Span.{Span}
use Rattle.inet_num.specs.Count.{percent_of}
use Rattle.inet_num.specs.Free.{is_taken}
use Rattle.block_space.specs.Listed.{covered_of}
use Rattle.block_space.specs.Usable.{is_usable, is_omitted, usable_of, untaken_of, is_in_spans, host_room, addressed}
use Rattle.ipam_data.specs.declared.prefix.Prefix.{Prefix}
use Rattle.ipam_data.specs.declared.address.IpAddress.{IpAddress}
use Rattle.ipam_data.specs.declared.range.IpRange.{IpRange}
use Rattle.ipam_data.specs.State.{State}
use Rattle.ipam_data.specs.Tables.{table_of}
use Rattle.ipam_data.specs.Claims.{is_container, is_hosted, is_withheld, is_marked, is_host_beside, numbers_in, usable_in, usable_of_range, own_blocks, prefix_figure, range_figure}
use Rattle.ip_ranges.specs.declared.SpanKind.TheVariants.{Utilized, Populated}
use Rattle.register_claims.specs.Hosts.{HasHosts, HasJust, given_numbers}
use Rattle.ip_ranges.specs.Spans.{AreSpansOf}
use Rattle.register_claims.proofs.HostSpans.{withheld_in_spans, marked_in_spans}
use Rattle.free_space.proofs.Passing.{same_between}
use Rattle.utilisation.proofs.Counted.{counted_same, counted_block}

usable_is : (t u v w : ℕ → Bool) (within : Cidr) (pool : Bool) (a : ℕ) → t a ≡ u a → v a ≡ w a → is_usable t v within pool a ≡ is_usable u w within pool a
usable_is t u v w within pool a e f =
    ap (λ (x : Bool). not x && not (v a) && not (is_omitted within pool a)) e ∙ ap (λ (x : Bool). not (u a) && not x && not (is_omitted within pool a)) f

pub usable_same : (t u v w : ℕ → Bool) (within : Cidr) (pool : Bool) → ((a : ℕ) → HasAddress within a → t a ≡ u a) → ((a : ℕ) → v a ≡ w a) → usable_of t v within pool ≡ usable_of u w within pool
unfolding usable_of addresses_of
usable_same t u v w within pool e f =
    let n : within.first + size_of within - within.first ≡ size_of within = omega arith in
    ap (λ (k : ℕ). filter (is_usable t v within pool) (numbers_from within.first k)) (sym n)
    ∙ same_between (is_usable t v within pool) (is_usable u w within pool) within.first (within.first + size_of within) (λ x low high. usable_is t u v w within pool x (e x (low, high)) (f x))
    ∙ ap (λ (k : ℕ). filter (is_usable u w within pool) (numbers_from within.first k)) n

filter_same : (p q : ℕ → Bool) (xs : List ℕ) → ((x : ℕ) → p x ≡ q x) → filter p xs ≡ filter q xs
filter_same p q [] h = refl
filter_same p q (x ∷ xs) h = ap (λ (t : Bool). cond t (x ∷ filter p xs) (filter p xs)) (h x) ∙ ap (λ (ys : List ℕ). cond (q x) (x ∷ ys) ys) (filter_same p q xs h)

pub untaken_same : (t u : ℕ → Bool) (pieces : List Cidr) (xs : List ℕ) → flat_map addresses_of pieces ≡ xs → ((a : ℕ) → t a ≡ u a) → untaken_of t pieces ≡ filter (λ a. not (u a)) xs
unfolding untaken_of
untaken_same t u pieces xs e h = ap (filter (λ a. not (t a))) e ∙ filter_same (λ a. not (t a)) (λ a. not (u a)) xs (λ x. ap not (h x))

pub count_same : (p q : ℕ → Bool) (within : Cidr) → ((a : ℕ) → HasAddress within a → p a ≡ q a) → count_of p within ≡ count_of q within
count_same p q within h =
    counted_block p within ∙ counted_same p q within.first (within.first + size_of within) (λ x low high. h x (low, high)) ∙ sym (counted_block q within)

pub numbers_same : (p q : ℕ → Bool) (first last : ℕ) → ((a : ℕ) → p a ≡ q a) → count_by p (numbers_from first (last + 1 - first)) ≡ count_by q (numbers_from first (last + 1 - first))
numbers_same p q first last h = counted_same p q first (last + 1) (λ x low high. h x)

-- ---- of rows

pub usable_of_rows : (s : State) (rows : List IpAddress) (row : Prefix) (held : List Cidr) (spans : List Span) → rows ≡ s.addresses.rows → HasHosts row.block (is_hosted rows row) held → AreSpansOf s.ranges.rows (table_of row.vrf) row.block.family Populated spans
    → usable_of (is_taken held) (is_in_spans spans) row.block row.is_pool ≡ usable_in s row
usable_of_rows s rows row held spans same hosts ranges =
    usable_same (is_taken held) (is_hosted rows row) (is_in_spans spans) (is_withheld s.ranges.rows row) row.block row.is_pool hosts.each (withheld_in_spans s.ranges.rows row spans ranges)
    ∙ ap (λ (xs : List IpAddress). usable_of (is_hosted xs row) (is_withheld s.ranges.rows row) row.block row.is_pool) same

given_filtered : (p : ℕ → Bool) (populated : Bool) (xs : List ℕ) → filter p (if populated then [] else xs) ≡ (if populated then [] else filter p xs)
given_filtered p true xs = refl
given_filtered p false xs = refl

pub untaken_of_rows : (s : State) (rows : List IpAddress) (row : IpRange) (held pieces : List Cidr) → rows ≡ s.addresses.rows → HasJust (is_host_beside rows row) held → flat_map addresses_of pieces ≡ given_numbers row
    → untaken_of (is_taken held) pieces ≡ usable_of_range s row
untaken_of_rows s rows row held pieces same hosts numbers =
    untaken_same (is_taken held) (is_host_beside rows row) pieces (given_numbers row) numbers hosts.each
    ∙ ap (λ (xs : List IpAddress). filter (λ a. not (is_host_beside xs row a)) (given_numbers row)) same
    ∙ given_filtered (λ a. not (is_host_beside s.addresses.rows row a)) row.mark_populated (numbers_in row)

-- as the functions say it: the space says its family
pub listed_in_range : (s : State) (rows : List IpAddress) (row : IpRange) (held pieces : List Cidr) (f : Family) (limit : ℕ) (r : Result (Vec Address Global) AllocError) → rows ≡ s.addresses.rows → HasJust (is_host_beside rows row) held
    → flat_map addresses_of pieces ≡ given_numbers row → f ≡ row.ends.start.family
    → IfOk r (λ v. v.items ≡ take limit (addressed f (untaken_of (is_taken held) pieces))) → IfOk r (λ v. v.items ≡ take limit (addressed row.ends.start.family (usable_of_range s row)))
listed_in_range s rows row held pieces f limit (Ok v) same hosts numbers e is =
    is ∙ ap (λ (xs : List ℕ). take limit (addressed f xs)) (untaken_of_rows s rows row held pieces same hosts numbers) ∙ ap (λ (x : Family). take limit (addressed x (usable_of_range s row))) e
listed_in_range s rows row held pieces f limit (Err x) same hosts numbers e is = is

pub served_in_range : (s : State) (rows : List IpAddress) (row : IpRange) (held pieces : List Cidr) (f : Family) (n : ℕ) (r : Result (Vec Address Global) ClaimFault) → rows ≡ s.addresses.rows → HasJust (is_host_beside rows row) held
    → flat_map addresses_of pieces ≡ given_numbers row → f ≡ row.ends.start.family
    → IfOk r (λ v. IsServed n (addressed f (untaken_of (is_taken held) pieces)) v.items) → IfOk r (λ v. IsServed n (addressed row.ends.start.family (usable_of_range s row)) v.items)
served_in_range s rows row held pieces f n (Ok v) same hosts numbers e is =
    subst (λ (xs : List Address). IsServed n xs v.items)
    (ap (λ (xs : List ℕ). addressed f xs) (untaken_of_rows s rows row held pieces same hosts numbers) ∙ ap (λ (x : Family). addressed x (usable_of_range s row)) e) is
served_in_range s rows row held pieces f n (Err x) same hosts numbers e is = is

either_same : (t u v w : Bool) → t ≡ u → v ≡ w → (t || v) ≡ (u || w)
either_same t u v w e f = ap (λ (x : Bool). x || v) e ∙ ap (λ (x : Bool). u || x) f

pub hosts_percent : (s : State) (rows : List IpAddress) (row : Prefix) (held : List Cidr) (spans : List Span) (n : ℕ) → rows ≡ s.addresses.rows → HasHosts row.block (is_hosted rows row) held → AreSpansOf s.ranges.rows (table_of row.vrf) row.block.family Utilized spans
    → row.mark_utilized ≡ false → is_container row.status ≡ false
    → n ≡ percent_of (count_of (λ a. is_taken held a || is_in_spans spans a) row.block) (host_room row.block row.is_pool) → n ≡ prefix_figure s row
hosts_percent s rows row held spans n same hosts marked unmarked plain is =
    is
    ∙ ap (λ (k : ℕ). percent_of k (host_room row.block row.is_pool))
    (count_same (λ a. is_taken held a || is_in_spans spans a) (λ a. is_hosted s.addresses.rows row a || is_marked s.ranges.rows row a) row.block
    (λ a h. either_same (is_taken held a) (is_hosted s.addresses.rows row a) (is_in_spans spans a) (is_marked s.ranges.rows row a) (hosts.each a h ∙ ap (λ (xs : List IpAddress). is_hosted xs row a) same) (marked_in_spans s.ranges.rows row spans marked a)))
    ∙ sym (figure_is row.mark_utilized unmarked (is_container row.status) plain)
  where
    figure_is : (m : Bool) → m ≡ false → (t : Bool) → t ≡ false
        → (if m then 100 else (if t then percent_of (covered_of (own_blocks s.prefixes.rows row) row.block) (size_of row.block) else percent_of (count_of (λ a. is_hosted s.addresses.rows row a || is_marked s.ranges.rows row a) row.block) (host_room row.block row.is_pool)))
        ≡ percent_of (count_of (λ a. is_hosted s.addresses.rows row a || is_marked s.ranges.rows row a) row.block) (host_room row.block row.is_pool)
    figure_is false m false t = refl
    figure_is false m true t = cc
    figure_is true m t e = cc

abbrev figure_from : State → IpRange → ℕ → ℕ → ℕ
figure_from s row low high = percent_of (count_by (is_host_beside s.addresses.rows row) (numbers_from low (high + 1 - low))) (high + 1 - low)

pub range_percent : (s : State) (rows : List IpAddress) (row : IpRange) (held : List Cidr) (first last n : ℕ) → rows ≡ s.addresses.rows → HasJust (is_host_beside rows row) held → first ≡ row.ends.start.value → last ≡ row.ends.end.value → row.mark_utilized ≡ false
    → n ≡ percent_of (count_by (is_taken held) (numbers_from first (last + 1 - first))) (last + 1 - first) → n ≡ range_figure s row
range_percent s rows row held first last n same hosts e f unmarked is =
    is
    ∙ ap (λ (k : ℕ). percent_of k (last + 1 - first)) (numbers_same (is_taken held) (is_host_beside s.addresses.rows row) first last (λ a. hosts.each a ∙ ap (λ (xs : List IpAddress). is_host_beside xs row a) same))
    ∙ ap (λ (k : ℕ). figure_from s row k last) e ∙ ap (λ (k : ℕ). figure_from s row row.ends.start.value k) f
    ∙ sym (ap (λ (m : Bool). if m then 100 else figure_from s row row.ends.start.value row.ends.end.value) unmarked)
