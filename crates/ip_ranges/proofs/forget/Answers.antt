use Rattle.std.proofs.Common.{ap, sym, ◌∙◌, option_copied}
use Rattle.ip_ranges.proofs.Spanned.{is_noted}
use Rattle.ip_ranges.proofs.forget.Goals as goal

pub remove-requires : goal.remove-requires
remove-requires c = record {
  there = is_noted c.args.which c.args.rows.now.rows c.args.track.now.entries c.args.id c.in-Some.row.now c.entry.result c.requires (sym c.get.ensures ∙ ap option_copied c.in-Some.is) (sym c.is_meant.ensures ∙ c.if-is_meant.true) c.entry.ensures;
}
