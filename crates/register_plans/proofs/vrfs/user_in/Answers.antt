use Rattle.std.proofs.Common.{◌≡◌, ◌∙◌, ℕ, sym, ap, arith, true, false, Option, Some, None, option_map}
use Rattle.ipam_data.specs.Tables.{is_named}
use Rattle.placed_book.proofs.Searches.{some_within}
use Rattle.register_plans.proofs.Finds.{find_this, find_next}
use Rattle.register_plans.proofs.vrfs.user_in.Goals.{in-Some+else-names, in_default}
use Rattle.register_plans.proofs.vrfs.user_in.Goals as goal

pub returns-then-names : goal.returns-then-names
returns-then-names g c =
    let yes : is_named c.args.id (g.T.Located.placed c.in-Some.row.now).vrf ≡ true = ap (λ (o : Option ℕ). is_named c.args.id o) (sym c.vrf.ensures) ∙ sym c.names.ensures ∙ c.if-names.true in
    ap Some c.id.ensures
    ∙ sym (ap (λ (o : Option g.row.T.Denot). option_map g.T.HasId.id_of o)
    (c.rows.invariant ∙ find_this (λ (row : g.row.T.Denot). is_named c.args.id (g.T.Located.placed row).vrf) c.args.book.now.rows c.rows.index c.in-Some.row.now (sym c.in-Some.ensures) yes))

pub rows-preserved : goal.rows-preserved
rows-preserved g c = elim c.match-at.branch [
  | in-Some+else-names w ↦
      (let no : is_named c.args.id (g.T.Located.placed w.in-Some.row.now).vrf ≡ false = ap (λ (o : Option ℕ). is_named c.args.id o) (sym w.vrf.ensures) ∙ sym w.names.ensures ∙ w.if-names.false in
      c.rows.invariant ∙ find_next (λ (row : g.row.T.Denot). is_named c.args.id (g.T.Located.placed row).vrf) c.args.book.now.rows c.rows.index w.in-Some.row.now (sym w.in-Some.ensures) no)
  | in_default w ↦ (let some = some_within c.args.book.now.rows c.rows.index (omega arith) in let wrong : None ≡ Some some.0 = w.in_default.ensures ∙ some.1 in cc)
]
