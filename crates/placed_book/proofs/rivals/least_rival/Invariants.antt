use Rattle.std.proofs.Common.{◌≡◌, ◌-◌, None, find, take, drop}
use Rattle.placed_book.specs.Rivals.{is_rival}
use Rattle.placed_book.proofs.rivals.least_rival.Given as goal

abbrev pub invariant-rows : goal.invariant-rows
invariant-rows g l = find (is_rival g.T.HasId.id_of g.T.Located.placed l.row) (take (l.index - l.from) (drop l.from l.rows.rows)) ≡ None
