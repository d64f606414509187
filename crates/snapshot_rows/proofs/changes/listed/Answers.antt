use Rattle.std.proofs.Common.{rules, ◌≡◌, fold, filter, ap, ◌∙◌}
use Rattle.snapshot_rows.specs.Lists.{Lists, is_listed, with_listed, without_listed}
use Rattle.snapshot_rows.proofs.Following.{only_listed}
use Rattle.snapshot_rows.proofs.changes.listed.Goals as goal

pub returns : goal.returns
returns c = λ lists.
    let puts : c.of.result ≡ filter is_listed c.args.update.now.puts = search rules in
    let cuts : c.in_ok-cuts.cuts ≡ c.args.update.now.cuts = search rules in
    (λ i. fold without_listed (fold with_listed lists (puts i)) (cuts i))
    ∙ ap (λ (l : Lists). fold without_listed l c.args.update.now.cuts) (only_listed lists c.args.update.now.puts)
