use Rattle.std.proofs.Common.{◌≡◌, ◌∙◌, ◌<◌, ◌++◌, ◌∷◌, List, ℕ, [], take, length, map, string_bytes, ap, sym, subst, arith, count_by}
use Rattle.std.specs.Prelude.{bytes_eq}
use Rattle.register_tables.specs.Held.{state_of}
use Rattle.register_plans.specs.declared.imports.ready.Ready.{Ready}
use Rattle.register_plans.specs.KeptDrafts.{IsReadied}
use Rattle.register_plans.specs.RecordsLeft.{IsLeft}
use Rattle.register_plans.specs.ReadyRows.{keys_of, key_of_row}
use Rattle.register_plans.proofs.LookedUp.{readied_next, readied_at}
use Rattle.register_plans.proofs.imports.lookup.look_up.Goals as goal

pub loop-row-init : goal.loop-row-init
loop-row-init g c =
    let rules = g.T.Listed.rules in
    c.new-left.ensures (map (key_of_row rules) (rules.row_list (state_of c.args.row_tables.now)).rows)

pub count_of-requires-clause-ready : goal.count_of-requires-clause-ready
count_of-requires-clause-ready g c =
    let low : c.loop-row.row-index < length c.args.rows.now = omega arith in
    subst (λ (r : Ready). IsReadied g.T.Listed.rules.kind r) (sym c.row-item.is) (readied_at g.T.Listed.rules.kind c.args.rows.now c.loop-row.row-index c.row-item.result c.requires.ready low)

pub loop-row-preserved : goal.loop-row-preserved
loop-row-preserved g c =
    let i : ℕ = c.loop-row.row-index in
    let rows = c.args.rows.now in
    let row = c.row-item.result in
    let rules = g.T.Listed.rules in
    let records : List (List ℕ) = map (key_of_row rules) (rules.row_list (state_of c.args.row_tables.now)).rows in
    let low : i < length rows = omega arith in
    let own : string_bytes c.in_ok-key.key ≡ row.key = (let a = c.in_ok-key.ensures.ok in let b = c.as_str.ensures in cc) in
    let count : c.in_ok-count.count ≡ count_by (bytes_eq (string_bytes c.in_ok-key.key)) records = c.in_ok-count.ensures ∙ ap (λ (k : List ℕ). count_by (bytes_eq k) records) (sym own) in
    let more = readied_next rows i row low c.row-item.is in
    subst (λ (keys : List (List ℕ)). IsLeft c.expect.new.self keys records []) (sym (more ∙ ap (λ (k : List ℕ). keys_of (take i rows) ++ k ∷ []) (sym own)))
    (c.in_ok-expect.ensures (keys_of (take i rows)) records count c.loop-row.invariant)
