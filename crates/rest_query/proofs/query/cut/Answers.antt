use Rattle.std.proofs.Common.{◌+◌, length, take, drop, sym, ap, ◌∙◌, arith, rules, take_all}
use Rattle.std.proofs.lemmas.List.{take_rest, drop_all}
use Rattle.std.proofs.lemmas.List.Sums.{position_or_len_is}
use Rattle.rest_query.specs.Query.{is_mark}
use Rattle.rest_query.proofs.query.cut.Goals as goal

pub returns-in-Some : goal.returns-in-Some
returns-in-Some c =
    let target = c.args.target.now in
    let place = position_or_len_is is_mark target c.in-Some.place 0 (search rules) (search rules) (search rules) in
    record { path = ap (λ n. take n target) (sym place); query = take_rest target _ ∙ ap (λ n. drop (n + 1) target) (sym place) }

pub returns-in-None : goal.returns-in-None
returns-in-None c =
    let target = c.args.target.now in
    let place = position_or_len_is is_mark target (length target) 0 (omega arith) (search rules) (search rules) in
    record {
      path = sym (ap (λ n. take n target) place ∙ take_all (length target) target (omega arith));
      query = sym (ap (λ n. drop (n + 1) target) place ∙ drop_all (length target + 1) target (omega arith));
    }
