use Rattle.std.proofs.Common.{ap, ◌∙◌}
use Rattle.number_pools.specs.Rows.{Pools}
use Rattle.pool_register.specs.Planned.{change_of, updated}
use Rattle.pool_keeper.specs.Stored.{changed}
use Rattle.pool_register.proofs.Changes.{goes_on, told_after}
use Rattle.pool_register.proofs.books.Books.commit.Goals as goal

pub returns-clause-told : goal.returns-clause-told
returns-clause-told g c = λ t.
    told_after c.args.self.now c.self.inside.rows.pools c.put.new.rows.pools c.args.update c.in_ok-change.change (g.K.PoolKeeper.told c.args.keeper.now) (g.K.PoolKeeper.told c.apply.new.self)
    c.self.view_is c.self.invariant c.requires.can
    (c.put.ensures ∙ ap (λ (s : Pools). updated s c.args.update) (c.in_ok-reserve.ensures.pools ∙ c.self.view_is))
    (c.in_ok-change.ensures ∙ ap (λ (s : Pools). change_of s c.args.update) c.self.view_is)
    c.in_ok-apply.ensures.ok t

pub returns-clause-telling : goal.returns-clause-telling
returns-clause-telling g c =
    goes_on (changed c.in_ok-change.change) (g.K.PoolKeeper.told c.args.keeper.now) (g.K.PoolKeeper.told c.apply.new.self) c.in_ok-apply.ensures.ok
