use Rattle.std.proofs.Common.{List, map, ap, subst, ◌∙◌, IsPermutation}
use Rattle.register_tables.specs.Held.{state_of}
use Rattle.register_claims.specs.declared.surveys.line.Placed.{Placed}
use Rattle.register_claims.proofs.Surveyed.{survey_is}
use Rattle.register_claims.proofs.surveys.survey.Goals as goal

pub returns : goal.returns
returns c =
    let same = subst (λ (ps : List Placed). IsPermutation ps c.sort.new.placed.items) c.in_ok-placed.ensures c.sort.ensures.same in
    c.in_ok-lines.ensures ∙ ap (λ (ps : List Placed). map (λ (p : Placed). p.line) ps) c.as_slice.ensures.value ∙ survey_is (state_of c.args.row_tables.now) c.sort.new.placed.items c.requires same c.sort.ensures.sorted
