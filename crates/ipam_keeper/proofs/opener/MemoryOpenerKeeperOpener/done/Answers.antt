use Rattle.std.proofs.Common.{◌≡◌, List, ℕ, Option, Some, sym, ap, ◌∙◌, subst}
use Rattle.stored_tables.specs.declared.tables.Tables.{Tables}
use Rattle.ipam_keeper.specs.Keeping.{IsReturned}
use Rattle.ipam_keeper.specs.Opener.{Opened, kept_at, returned}
use Rattle.ipam_keeper.proofs.Paths.{is_returned}
use Rattle.ipam_keeper.proofs.opener.MemoryOpenerKeeperOpener.done.Goals as goal

pub returns-in-Some-Some-clause-returned : goal.returns-in-Some-Some-clause-returned
returns-in-Some-Some-clause-returned c =
    let path = c.in-Some-Some.path in
    let now = c.args.self.now in
    let l : now.lent ≡ Some (Some path) = sym (ap (λ (o : Opened). o.lent) c.self.view_is) ∙ sym c.take.ensures.value ∙ c.in-Some-Some.is ∙ ap Some c.in-Some-Some.field-0-is in
    let s : c.self.inside.stored.items ≡ now.stored = ap (λ (o : Opened). o.stored) c.self.view_is in
    let e : c.keep_at.new.stored.items ≡ returned now.stored now.lent c.args.kept.tables =
    c.keep_at.ensures.stored ∙ ap (λ (xs : List (List ℕ × Tables)). kept_at xs path c.into_tables.result) s
    ∙ ap (λ (t : Tables). kept_at now.stored path t) c.into_tables.ensures.tables ∙ sym (ap (λ (o : Option (Option (List ℕ))). returned now.stored o c.args.kept.tables) l) in
    subst (λ (xs : List (List ℕ × Tables)). IsReturned now.lent (Some c.args.kept.tables) (Some now.stored) (Some xs)) (sym e) (is_returned now.lent c.args.kept.tables now.stored)
