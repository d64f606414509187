use Rattle.std.proofs.Common.{rules, bytes_eq}
use Rattle.std.proofs.lemmas.Iterator.Search.{any_from_yields_List}
use Rattle.std.proofs.lemmas.Iterator.Splits.{YieldsList-from_slice_split}
use Rattle.word_values.specs.Statuses.{is_comma}
use Rattle.word_values.proofs.statuses.has_name.Goals as goal

pub returns : goal.returns
returns c =
    any_from_yields_List (bytes_eq c.args.name.now) _ _ _ c.any.ensures.ran
    (YieldsList-from_slice_split _ is_comma c.args.text.now c.split.ensures.rest c.split.ensures.done c.split.ensures.closure (λ x r q k. search rules))
    (λ x b q k. search rules)
