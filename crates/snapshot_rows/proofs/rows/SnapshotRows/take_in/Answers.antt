use Rattle.std.proofs.Common.{rules, ◌≡◌, ◌<◌, [], fold, filter, ap, ◌∙◌, arith}
use Rattle.ipam_data.specs.declared.update.Update.{Update}
use Rattle.ipam_data.specs.State.{State}
use Rattle.register_tables.specs.Held.{state_of}
use Rattle.snapshot_rows.specs.Lists.{Lists, lists_of, is_listed, with_listed, without_listed, after_update}
use Rattle.snapshot_rows.proofs.Following.{lists_follow, only_listed, none_spent}
use Rattle.snapshot_rows.proofs.rows.SnapshotRows.take_in.Goals as goal

pub update-requires-clause-items : goal.update-requires-clause-items
update-requires-clause-items c =
    let s = state_of c.reserve.new.self in
    let none : c.of-2.result ≡ [] = search rules in
    let same = none_spent s c.of.result c.in_ok-cuts.cuts c.of-2.result none in
    let is : c.spent-spent.result ≡ s.spent = search rules in
    let few : c.spent-spent.result < 4294967296 = search rules in
    omega (arith, same, is, few)

pub returns-clause-ok : goal.returns-clause-ok
returns-clause-ok c =
    let s = state_of c.reserve.new.self in
    let u : Update = record { puts = c.of.result; cuts = c.in_ok-cuts.cuts; next = c.of-2.result; spent = 0 } in
    let puts : c.of.result ≡ filter is_listed c.args.change.now.puts = search rules in
    let cuts : c.in_ok-cuts.cuts ≡ c.args.change.now.cuts = search rules in
    let state : s ≡ state_of c.self.inside.tables = search rules in
    ap (λ (t : State). lists_of t) c.update.ensures
    ∙ (lists_follow s u
    ∙ ((λ i. fold without_listed (fold with_listed (lists_of (state i)) (puts i)) (cuts i))
    ∙ (ap (λ (r : Lists). fold without_listed r c.args.change.now.cuts) (only_listed (lists_of (state_of c.self.inside.tables)) c.args.change.now.puts)
    ∙ ap (λ (r : Lists). after_update r c.args.change.now) c.self.view_is)))
