use Rattle.std.proofs.Common.{◌≡◌, List, ℕ, Option, Some, sym, ap, ◌∙◌, subst}
use Rattle.pool_keeper.specs.declared.tables.PoolTables.{PoolTables}
use Rattle.pool_keeper.specs.Keeping.{IsReturned}
use Rattle.pool_keeper.specs.Opener.{Opened, kept_at, returned}
use Rattle.pool_keeper.proofs.Paths.{is_returned}
use Rattle.pool_keeper.proofs.opener.MemoryPoolOpenerPoolOpener.done.Goals as goal

pub returns-in-Some-Some-clause-returned : goal.returns-in-Some-Some-clause-returned
returns-in-Some-Some-clause-returned c =
    let path = c.in-Some-Some.path in
    let now = c.args.self.now in
    let l : now.lent ≡ Some (Some path) = sym (ap (λ (o : Opened). o.lent) c.self.view_is) ∙ sym c.take.ensures.value ∙ c.in-Some-Some.is ∙ ap Some c.in-Some-Some.field-0-is in
    let s : c.self.inside.stored.items ≡ now.stored = ap (λ (o : Opened). o.stored) c.self.view_is in
    let e : c.keep_at.new.stored.items ≡ returned now.stored now.lent c.args.kept.tables =
    c.keep_at.ensures ∙ ap (λ (xs : List (List ℕ × PoolTables)). kept_at xs path c.into_tables.result) s
    ∙ ap (λ (t : PoolTables). kept_at now.stored path t) c.into_tables.ensures ∙ sym (ap (λ (o : Option (Option (List ℕ))). returned now.stored o c.args.kept.tables) l) in
    subst (λ (xs : List (List ℕ × PoolTables)). IsReturned now.lent (Some c.args.kept.tables) (Some now.stored) (Some xs)) (sym e) (is_returned now.lent c.args.kept.tables now.stored)
