use Rattle.std.proofs.Common.{◌≡◌, ◌≢◌, List, ℕ, ◌++◌}
use Rattle.std.proofs.lemmas.Bool.Decides.{Decides-eqb}
use Rattle.std.proofs.lemmas.Slice.Eq.{strip_prefix_is}
use Rattle.prefix_list.proofs.Lines.{at_some, at_none, some_weaker, none_weaker, no_front, formed_by, no_block_behind}
use Rattle.prefix_list.proofs.reading.block_behind.Goals as goal

pub returns-in_default-clause-none : goal.returns-in_default-clause-none
returns-in_default-clause-none c =
    let line = c.args.line.now in
    let front = c.args.front.now in
    let none : (rest : List ℕ) → line ≢ front ++ rest =
    at_none c.strip_prefix.result _ _ c.in_default.is (strip_prefix_is Decides-eqb line front c.strip_prefix.result c.strip_prefix.ensures.cases) in
    no_front c.args.style front c.args.family line none

pub returns-clause-some : goal.returns-clause-some
returns-clause-some c =
    let line = c.args.line.now in
    let front = c.args.front.now in
    let rest = c.in-Some.rest.now in
    let begins : line ≡ front ++ rest =
    at_some c.strip_prefix.result c.in-Some.rest _ _ c.in-Some.is (strip_prefix_is Decides-eqb line front c.strip_prefix.result c.strip_prefix.ensures.cases) in
    let found = c.in-Some-behind.ensures.some in
    some_weaker c.block_of.result (λ b h. formed_by c.args.style front c.args.family line rest c.in-Some-behind.text.now found.0 b begins found.1 found.2 h.0 h.1) c.block_of.ensures.some

pub returns-clause-none : goal.returns-clause-none
returns-clause-none c =
    let line = c.args.line.now in
    let front = c.args.front.now in
    let rest = c.in-Some.rest.now in
    let begins : line ≡ front ++ rest =
    at_some c.strip_prefix.result c.in-Some.rest _ _ c.in-Some.is (strip_prefix_is Decides-eqb line front c.strip_prefix.result c.strip_prefix.ensures.cases) in
    let found = c.in-Some-behind.ensures.some in
    none_weaker c.block_of.result (λ none. no_block_behind c.args.style front c.args.family line rest c.in-Some-behind.text.now found.0 begins found.1 found.2 none) c.block_of.ensures.none
