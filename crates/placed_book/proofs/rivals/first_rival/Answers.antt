use Rattle.std.proofs.Common.{◌∙◌, ap, sym}
use Rattle.inet_num.specs.Net.{Cidr}
use Rattle.ipam_data.specs.declared.kinds.Table.{Table}
use Rattle.ipam_data.specs.Tables.{table_of}
use Rattle.placed_book.specs.Firsts.{spot_of}
use Rattle.placed_book.proofs.Leasts.{first_rival}
use Rattle.placed_book.proofs.rivals.first_rival.Goals as goal

pub returns-then-first-id : goal.returns-then-first-id
returns-then-first-id g c =
    first_rival g.T.HasId.id_of g.T.Located.placed g.met.T.Located.same c.args.rows.now.rows c.args.row.now c.args.firsts.now c.spot_at.result c.in-Some.first.now c.requires.firsts
    (c.spot_at.ensures ∙ ap (λ (t : Table). spot_of t c.block.result) (c.of.ensures ∙ ap table_of c.vrf.ensures) ∙ ap (λ (b : Cidr). spot_of (table_of (g.T.Located.placed c.args.row.now).vrf) b) c.block.ensures)
    c.in-Some.ensures.value (λ same. c.if-first-id.true (same ∙ sym c.id.ensures))
