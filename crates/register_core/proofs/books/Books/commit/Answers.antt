use Rattle.std.proofs.Common.{◌∙◌, ap}
use Rattle.ipam_data.specs.State.{State}
use Rattle.ipam_data.specs.Updates.{updated}
use Rattle.register_tables.specs.Held.{state_of}
use Rattle.stored_tables.specs.Stored.{changed}
use Rattle.register_core.proofs.Told.{told_at, goes_on}
use Rattle.register_core.proofs.books.Books.commit.Goals as goal

pub returns-clause-told : goal.returns-clause-told
returns-clause-told g c = λ t.
    told_at c.args.self.now (state_of c.self.inside.row_tables) (state_of c.update.new.self) c.args.update c.in_ok-change.change (g.K.Keeper.told c.args.keeper.now) (g.K.Keeper.told c.apply.new.self)
    c.self.view_is c.self.invariant c.requires.can
    (c.update.ensures ∙ ap (λ (s : State). updated s c.args.update) (c.in_ok-reserve.ensures.state ∙ c.self.view_is))
    c.in_ok-change.ensures c.in_ok-apply.ensures.ok t

pub returns-clause-telling : goal.returns-clause-telling
returns-clause-telling g c = goes_on (changed c.in_ok-change.change) (g.K.Keeper.told c.args.keeper.now) (g.K.Keeper.told c.apply.new.self) c.in_ok-apply.ensures.ok
