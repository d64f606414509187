use Rattle.std.proofs.Common.{◌≡◌, ◌<◌, ◌≤◌, ◌^◌, ℕ, decimal, sym, ◌∙◌, arith}
use Rattle.std.proofs.lemmas.Fmt.{decimal_injective}
use Rattle.pool_rest.proofs.table.id_of.Goals as goal

pub returns-in_default-clause-none : goal.returns-in_default-clause-none
returns-in_default-clause-none c = λ id is e.
    let below = c.in-Some.ensures.some.1 in
    let fits = is.1 in
    let same : c.in-Some.id ≡ id = decimal_injective c.in-Some.id id (omega arith) (omega arith) (sym c.in-Some.ensures.some.0 ∙ e) in
    let some = is.0 in
    let none = c.if-id-gt0.false in
    absurd (omega arith)
