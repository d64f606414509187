use Rattle.std.proofs.Common.{string_bytes}
use Rattle.std.proofs.lemmas.Map.Text.{hash_map_updates_text}
use Rattle.register_plans.proofs.RecordsLeftLaws.{expected}
use Rattle.register_plans.proofs.imports.leftovers.Leftovers.expect.Goals as goal

pub returns : goal.returns
returns c = λ keys records n h.
    let sets = hash_map_updates_text (string_bytes c.args.key) c.args.self.now.counts c.insert.new.self _ c.in_ok-insert.ensures.updates in
    expected c.args.self.now (record { counts = c.insert.new.self }) (string_bytes c.args.key) keys records c.args.count n sets h
