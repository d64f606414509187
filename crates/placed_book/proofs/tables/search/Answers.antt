use Rattle.std.proofs.Common.{◌≡◌, ◌≢◌, ℕ, ◌+◌, ◌-◌, ◌<◌, ◌/◌, ◌∙◌, length, arith, ap, sym}
use Rattle.placed_book.specs.RowBook.{place}
use Rattle.placed_book.proofs.RowPlaces.{place_short, place_past, place_upto, place_from, none_at_place, nothing_from}
use Rattle.placed_book.specs.Keys.{number_of, key_of}
use Rattle.placed_book.proofs.tables.search.Goals as goal

pub loop-low-init : goal.loop-low-init
loop-low-init g c = record { high = omega arith; past = omega arith; upto = place_short key_of c.number-wanted.result c.args.of_vrfs.now }

pub loop-low-preserved-then-number-wanted : goal.loop-low-preserved-then-number-wanted
loop-low-preserved-then-number-wanted g c =
    let m : ℕ = c.loop-low.low + (c.loop-low.high - c.loop-low.low) / 2 in
    let e = c.number.ensures ∙ ap number_of c.table.ensures ∙ ap key_of c.index-of_vrfs-middle.is in
    let h : m < length c.args.of_vrfs.now = omega arith in
    let p = place_past key_of 0 c.number-wanted.result c.args.of_vrfs.now m c.index-of_vrfs-middle.result c.requires h (omega arith) in
    record { high = omega arith; past = p; upto = c.loop-low.invariant.upto }

pub loop-low-preserved : goal.loop-low-preserved
loop-low-preserved g c =
    let m : ℕ = c.loop-low.low + (c.loop-low.high - c.loop-low.low) / 2 in
    let e = c.number.ensures ∙ ap number_of c.table.ensures ∙ ap key_of c.index-of_vrfs-middle.is in
    let h : m < length c.args.of_vrfs.now = omega arith in
    let p = place_upto key_of c.number-wanted.result c.args.of_vrfs.now m c.index-of_vrfs-middle.result h (omega arith) in
    record { high = omega arith; past = c.loop-low.invariant.past; upto = p }

pub returns-then-low-of_vrfs-clause-none : goal.returns-then-low-of_vrfs-clause-none
returns-then-low-of_vrfs-clause-none g c =
    let past = c.loop-low.invariant.past in
    let upto = c.loop-low.invariant.upto in
    let ends = c.loop-low-test.false in
    let here : c.loop-low.low ≡ place key_of c.number-wanted.result c.args.of_vrfs.now = omega arith in
    let at = here ∙ ap (λ (n : ℕ). place key_of n c.args.of_vrfs.now) c.number-wanted.ensures in
    record { none = nothing_from key_of (number_of c.args.table) c.args.of_vrfs.now c.requires (sym at ∙ c.if-low-of_vrfs.true); at = at }

pub returns-clause-none : goal.returns-clause-none
returns-clause-none g c =
    let past = c.loop-low.invariant.past in
    let upto = c.loop-low.invariant.upto in
    let ends = c.loop-low-test.false in
    let here : c.loop-low.low ≡ place key_of c.number-wanted.result c.args.of_vrfs.now = omega arith in
    let at = here ∙ ap (λ (n : ℕ). place key_of n c.args.of_vrfs.now) c.number-wanted.ensures in
    let e = c.number-2.ensures ∙ ap number_of c.table-2.ensures ∙ ap key_of c.index-of_vrfs-low.is in
    let wanted : c.number-wanted.result ≡ number_of c.args.table = c.number-wanted.ensures in
    let s = place_short key_of (number_of c.args.table) c.args.of_vrfs.now in
    let f = place_from key_of (number_of c.args.table) c.args.of_vrfs.now c.loop-low.low c.index-of_vrfs-low.result (sym at) (omega arith) in
    let m : c.number-2.result ≢ c.number-wanted.result = c.if-number-wanted-2.false in
    record { none = none_at_place key_of 0 (number_of c.args.table) c.args.of_vrfs.now c.loop-low.low c.index-of_vrfs-low.result c.requires (sym at) (λ _. omega arith); at = at }
