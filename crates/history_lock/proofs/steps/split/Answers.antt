use Rattle.std.proofs.Common.{rules, ◌≡◌, ◌<◌, ◌≤◌, ap, sym, subst, ◌∙◌}
use Rattle.history_lock.specs.declared.views.View.{View}
use Rattle.history_lock.specs.Views.{offering}
use Rattle.history_lock.proofs.Parts.{offers, splits, learns}
use Rattle.history_lock.proofs.steps.split.Goals as goal

pub compare_exchange-requires : goal.compare_exchange-requires
compare_exchange-requires g c = (search rules, search rules, offers _ _ _ _ _ _)

pub split_seat-other-requires : goal.split_seat-other-requires
split_seat-other-requires g c =
    let v : View g.row.M-State.Denot g.row.M-Said.Denot = c.compare_exchange.new.seat.me.0 in
    let is : v ≡ offering c.args.share c.args.place.now.me.0 = ap (λ m. m.0) c.compare_exchange.ensures.2 in (
      search rules,
      search rules,
      splits _ _ _ v (ap (λ z. z.live) is ∙ c.requires.idle.0) (ap (λ z. z.stage) is ∙ c.requires.idle.1)
          (subst (λ (z : View g.row.M-State.Denot g.row.M-Said.Denot). 1 ≤ z.offer) (sym is) c.requires.share.0) (subst (λ (z : View g.row.M-State.Denot g.row.M-Said.Denot). z.offer < z.spare) (sym is) c.requires.share.1),
    )

pub load-requires : goal.load-requires
load-requires g c = (search rules, search rules, learns _ _ _ _ _ (ap (λ m. m.0.live) c.split_seat-other.ensures.4))
