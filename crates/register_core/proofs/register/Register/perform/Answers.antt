use Rattle.std.proofs.Common.{◌≡◌, [], ◌∷◌, ◌++◌, Some, subst, refl, ap}
use Rattle.ipam_data.specs.State.{State}
use Rattle.register_tables.specs.declared.planned.Planned.TheVariants.{Change}
use Rattle.register_core.specs.Kept.{Leads}
use Rattle.register_core.proofs.Planning.{state_same, plan_same, change_asked, change_can, change_lawful, change_leads, change_steps}
use Rattle.register_core.proofs.History.{whole_grows, update_grows}
use Rattle.register_core.proofs.register.Register.perform.Goals as goal

pub commit-requires-clause-can : goal.commit-requires-clause-can
commit-requires-clause-can g c =
    let here = plan_same c.self.inside.books c.args.self.now.state c.args.call c.args.update c.args.reply (state_same _ _ c.self.view_is) c.requires in
    change_can c.self.inside.books c.args.call (Change c.args.update c.args.reply) c.args.update c.args.reply refl here c.lawful.ensures c.bounds.ensures

pub commit-requires-clause-lawful : goal.commit-requires-clause-lawful
commit-requires-clause-lawful g c =
    let here = plan_same c.self.inside.books c.args.self.now.state c.args.call c.args.update c.args.reply (state_same _ _ c.self.view_is) c.requires in
    change_lawful c.self.inside.books c.args.call (Change c.args.update c.args.reply) c.args.update c.args.reply refl here c.lawful.ensures c.bounds.ensures

pub invariant_of-self-in-Ok : goal.invariant_of-self-in-Ok
invariant_of-self-in-Ok g c =
    let here = plan_same c.self.inside.books c.args.self.now.state c.args.call c.args.update c.args.reply (state_same _ _ c.self.view_is) c.requires in
    let can = change_can c.self.inside.books c.args.call (Change c.args.update c.args.reply) c.args.update c.args.reply refl here c.lawful.ensures c.bounds.ensures in
    let log : c.push_reserved.new.self.items ≡ c.self.inside.log.items ++ record { who = c.args.who; call = c.args.call } ∷ [] =
    (rw (c.push_reserved.ensures.items, c.in-Ok.ensures.entries, c.of.ensures) refl) in (
      whole_grows c.self.inside.opening.value c.self.inside.books c.commit.new.self c.self.inside.log.items c.push_reserved.new.self.items (record { who = c.args.who; call = c.args.call })
          _ c.self.inside.last (Some c.in-Ok.change) (g.K.Keeper.told c.self.inside.keeper) (g.K.Keeper.told c.commit.new.keeper) c.self.invariant.0
          (change_steps c.self.inside.books c.commit.new.self c.args.call (Change c.args.update c.args.reply) c.args.update c.args.reply refl here c.in-Ok.ensures.ok)
          log
          (change_leads c.self.inside.books c.commit.new.self c.args.update c.in-Ok.change c.lawful.ensures can c.in-Ok.ensures.ok c.in-Ok.ensures.change)
          (c.in-Ok.ensures.told c.self.invariant.0.tells),
      update_grows c.self.inside.opening.value c.self.inside.books c.commit.new.self c.self.inside.log.items c.push_reserved.new.self.items (record { who = c.args.who; call = c.args.call })
          c.args.update c.in-Ok.copy c.self.invariant.0.replayed c.in-Ok.ensures.ok log c.in-Ok.ensures.copy,
    )

pub returns-in-Ok-clause-change : goal.returns-in-Ok-clause-change
returns-in-Ok-clause-change g c =
    let same = state_same _ _ c.self.view_is in
    let here = plan_same c.self.inside.books c.args.self.now.state c.args.call c.args.update c.args.reply same c.requires in
    let can = change_can c.self.inside.books c.args.call (Change c.args.update c.args.reply) c.args.update c.args.reply refl here c.lawful.ensures c.bounds.ensures in
    subst (λ (s : State). Leads s c.commit.new.self (Some c.in-Ok.change)) same
    (change_leads c.self.inside.books c.commit.new.self c.args.update c.in-Ok.change c.lawful.ensures can c.in-Ok.ensures.ok c.in-Ok.ensures.change)

pub returns-in-Err-clause-asked : goal.returns-in-Err-clause-asked
returns-in-Err-clause-asked g c = change_asked c.args.self.now.state c.args.call (Change c.args.update c.args.reply) c.args.update c.args.reply refl c.requires
