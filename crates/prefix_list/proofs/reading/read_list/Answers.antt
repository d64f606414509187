use Rattle.std.proofs.Common.{◌≡◌, ℕ, List, sym, ◌∙◌, subst}
use Rattle.inet_num.specs.Net.{Cidr, IsBlock}
use Rattle.prefix_list.specs.Reading.{lines_of, IsLine}
use Rattle.prefix_list.specs.Forms.{Matches, IsFormOf}
use Rattle.prefix_list.proofs.JustSets.{ok_one, err_one}
use Rattle.prefix_list.proofs.Lines.{matches_line, line_matches}
use Rattle.prefix_list.proofs.Readings.{names_weaker, names_all, fault_weaker, refused}
use Rattle.prefix_list.proofs.reading.read_list.Goals as goal

pub returns-clause-ok : goal.returns-clause-ok
returns-clause-ok c =
    let style = c.args.style in
    let name = c.args.name.now in
    let family = c.args.family in
    let form = c.in_ok-form.form in
    let of : IsFormOf style name family form = subst (λ (n : List ℕ). IsFormOf style n family form) c.as_str.ensures c.in_ok-form.ensures in
    ok_one c.read_lines.result
    (λ v h. names_weaker (Matches form) (IsLine style name family) (matches_line style name family form of) (lines_of c.args.bytes.now) v.items h)
    c.read_lines.ensures.ok

pub returns-clause-lawful : goal.returns-clause-lawful
returns-clause-lawful c =
    let form = c.in_ok-form.form in
    ok_one c.read_lines.result (λ v h. names_all (Matches form) IsBlock (λ l b m. m.formed.block.lawful) (lines_of c.args.bytes.now) v.items h) c.read_lines.ensures.ok

pub returns-clause-family : goal.returns-clause-family
returns-clause-family c =
    let form = c.in_ok-form.form in
    ok_one c.read_lines.result
    (λ v h. names_all (Matches form) (λ (b : Cidr). b.family ≡ c.args.family) (λ l b m. m.formed.family_is ∙ c.in_ok-form.ensures.family_is) (lines_of c.args.bytes.now) v.items h)
    c.read_lines.ensures.ok

pub returns-clause-line : goal.returns-clause-line
returns-clause-line c =
    let style = c.args.style in
    let name = c.args.name.now in
    let family = c.args.family in
    let form = c.in_ok-form.form in
    let of : IsFormOf style name family form = subst (λ (n : List ℕ). IsFormOf style n family form) c.as_str.ensures c.in_ok-form.ensures in
    err_one c.read_lines.result
    (λ fault h. fault_weaker (Matches form) (IsLine style name family) (matches_line style name family form of) (line_matches style name family form of) c.args.bytes.now fault h)
    c.read_lines.ensures.err

pub returns-clause-refused : goal.returns-clause-refused
returns-clause-refused c =
    refused c.args.style c.args.name.now c.args.family c.args.bytes.now c.read_lines.result (returns-clause-ok c) (returns-clause-line c)
