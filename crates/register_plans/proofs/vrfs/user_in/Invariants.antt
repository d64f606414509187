use Rattle.std.proofs.Common.{◌≡◌, find, drop}
use Rattle.ipam_data.specs.Tables.{is_named}
use Rattle.register_plans.proofs.vrfs.user_in.Given as goal

abbrev pub invariant-rows : goal.invariant-rows
invariant-rows g l = find (λ (row : g.row.T.Denot). is_named l.id (g.T.Located.placed row).vrf) l.book.rows ≡ find (λ (row : g.row.T.Denot). is_named l.id (g.T.Located.placed row).vrf) (drop l.index l.book.rows)
