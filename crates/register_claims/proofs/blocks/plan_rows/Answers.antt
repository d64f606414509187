use Rattle.std.proofs.Common.{◌≡◌, ℕ, ◌+◌, ◌≤◌, List, length, map, refl, ap, sym, ◌∙◌, arith}
use Rattle.ipam_data.specs.declared.kinds.Kind.TheVariants.{Prefixes}
use Rattle.ipam_data.specs.declared.replies.View.{View}
use Rattle.ipam_data.specs.Checks.{first}
use Rattle.ipam_data.specs.Plans.{no_place}
use Rattle.ipam_data.specs.Prefixes.{prefix_rules}
use Rattle.ipam_data.specs.Claims.{served, claimed_prefixes}
use Rattle.register_tables.specs.Held.{state_of}
use Rattle.register_claims.proofs.Claiming.{untold_placed, rows_planned, claimed_length}
use Rattle.register_claims.proofs.blocks.plan_rows.Goals as goal

pub returns-in-Some : goal.returns-in-Some
returns-in-Some c =
    let row_tables = c.args.row_tables.now in
    let items = c.args.items.now in
    let count : c.len-count.result ≡ length row_tables.prefixes.rows = (let a = c.len-count.ensures.len in let b = c.prefixes.ensures.book in cc) in
    let place : c.no_place.result ≡ first (no_place prefix_rules (state_of row_tables) (length items)) = (rw (count, c.next-next.ensures, c.spent.ensures) at c.no_place.ensures) in
    let all : length (claimed_prefixes c.args.row.now row_tables.next_prefix items c.args.blocks.now) ≡ length items =
    claimed_length c.args.row.now row_tables.next_prefix items c.args.blocks.now (omega (arith, c.requires.each)) ∙ c.requires.each in
    untold_placed prefix_rules (state_of row_tables) c.args.answered (length items) (claimed_prefixes c.args.row.now row_tables.next_prefix items c.args.blocks.now) c.requires.few all
    ∙ sym place ∙ c.in-Some.is

pub returns : goal.returns
returns c =
    let row_tables = c.args.row_tables.now in
    let row = c.args.row.now in
    let items = c.args.items.now in
    let blocks = c.args.blocks.now in
    let count : c.len-count.result ≡ length row_tables.prefixes.rows = (let a = c.len-count.ensures.len in let b = c.prefixes.ensures.book in cc) in
    let place : c.no_place.result ≡ first (no_place prefix_rules (state_of row_tables) (length items)) = (rw (count, c.next-next.ensures, c.spent.ensures) at c.no_place.ensures) in
    let all : length (claimed_prefixes row row_tables.next_prefix items blocks) ≡ length items =
    claimed_length row row_tables.next_prefix items blocks (omega (arith, c.requires.each)) ∙ c.requires.each in
    let named = ap (λ (n : ℕ). map prefix_rules.view (claimed_prefixes row n items blocks)) c.next-next.ensures in
    rows_planned prefix_rules (state_of row_tables) c.args.answered (length items) (c.next-next.result + length items) Prefixes (claimed_prefixes row row_tables.next_prefix items blocks)
    c.in_ok-puts.puts.items c.served-reply.result c.changed.result c.requires.few all (sym place ∙ c.in-None.is) (c.in_ok-puts.ensures ∙ named)
    (c.served-reply.ensures ∙ ap (λ (views : List View). served c.args.answered views) (c.in_ok-again.ensures ∙ named)) refl
    (ap (λ (n : ℕ). n + length items) c.next-next.ensures) c.changed.ensures
