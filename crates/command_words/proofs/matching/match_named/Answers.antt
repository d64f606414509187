use Rattle.std.proofs.Common.{◌≡◌, option_map}
use Rattle.std.proofs.lemmas.Bool.{iff_false}
use Rattle.command_words.proofs.Matches.{no_length, plain_named}
use Rattle.command_words.proofs.matching.match_named.Goals as goal

pub returns : goal.returns
returns c =
    plain_named c.args.family c.args.text.now (option_map (λ t. t.now) c.args.most) c.plain_value.result (λ same. iff_false c.is_word.ensures c.if-is_word.false same)
    (no_length (λ t. t.now) c.args.most c.is_some.result c.is_some.ensures c.if-is_some.false) (c.plain_value.ensures c.args.family)
