use Rattle.std.proofs.Common.{◌≡◌, ℕ, ◌-◌, ◌∙◌, ap, arith}
use Rattle.inet_num.specs.Net.{Address, block_at, last_of}
use Rattle.span_set.proofs.Fits.{least_here, too_long}
use Rattle.span_set.proofs.blocks.widest.Goals as goal

pub returns-then-last-value-clause-least : goal.returns-then-last-value-clause-least
returns-then-last-value-clause-least c =
    let e = c.len.ensures.len in
    let len_is = ap (λ (k : ℕ). k - 1) c.len-in-widen.ensures.len in
    let is : c.in-Some.wider ≡ block_at c.args.addr (c.widen.block.len - 1) = c.in-Some.ensures.some ∙ ap (λ k. block_at c.args.addr k) len_is in
    let end_is : c.value.result ≡ (last_of c.in-Some.wider).value = c.value.ensures.value ∙ ap (λ (a : Address). a.value) c.last.ensures in
    least_here c.args.addr c.args.last c.widen.block.len (omega arith) c.widen.invariant.fits.lawful.short
    (too_long c.args.addr c.args.last (c.widen.block.len - 1) c.in-Some.wider c.value.result is end_is c.if-last-value.true)

pub returns-in-None-clause-least : goal.returns-in-None-clause-least
returns-in-None-clause-least c =
    let e = c.len.ensures.len in
    let len_is = ap (λ (k : ℕ). k - 1) c.len-in-widen.ensures.len in
    least_here c.args.addr c.args.last c.widen.block.len (omega arith) c.widen.invariant.fits.lawful.short
    (λ h. let none = c.in-None.ensures.cause.1 (rw len_is h.lawful) in cc)
