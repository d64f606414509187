use Rattle.std.proofs.Common.{◌≡◌, ◌∙◌, ℕ, List, [], ◌++◌, take, ap, subst, refl, rules}
use Rattle.std.proofs.lemmas.List.{append-nil}
use Rattle.std.specs.Io.KnownBytes.{Consumes, IsAtEnd}
use Rattle.std.proofs.KnownBytes.{Consumes-trans}
use Rattle.command_free.proofs.Readings.{read_to_end, stopped_within}
use Rattle.command_free.proofs.lines.read_children.Goals as goal

pub returns-then-n-eq0-clause-read : goal.returns-then-n-eq0-clause-read
returns-then-n-eq0-clause-read g c =
    let read = c.pieces.invariant.read in
    let left = g.So.Source.left in
    let took = c.in-Ok.ensures.took in
    let none : take c.in-Ok.n c.read.new.into ≡ [] = ap (λ (n : ℕ). take n c.read.new.into) c.if-n-eq0.true in
    let now : Consumes (left c.pieces.input) (left c.read.new.self) [] = subst (λ (xs : List ℕ). Consumes (left c.pieces.input) (left c.read.new.self) xs) none took.0 in
    let at_end : IsAtEnd (left c.read.new.self) = took.1 c.if-n-eq0.true (search rules) in
    let all : Consumes (left c.args.input.now) (left c.read.new.self) read.0 = subst (λ (xs : List ℕ). Consumes (left c.args.input.now) (left c.read.new.self) xs) (append-nil read.0) (Consumes-trans (left c.args.input.now) (left c.pieces.input) (left c.read.new.self) read.0 [] read.1 now) in
    read_to_end c.args.within.now (left c.args.input.now) (left c.read.new.self) _ _ read.0 c.finish.result all at_end (c.finish.ensures read.0 read.2)

pub returns-in-Err-clause-read : goal.returns-in-Err-clause-read
returns-in-Err-clause-read g c =
    let read = c.pieces.invariant.read in
    let left = g.So.Source.left in
    let took = c.in-Ok.ensures.took in
    let all = Consumes-trans (left c.args.input.now) (left c.pieces.input) (left c.read.new.self) read.0 (take c.in-Ok.n c.read.new.into) read.1 took.0 in
    stopped_within c.args.within.now (left c.args.input.now) (left c.read.new.self) _ _ (read.0 ++ take c.in-Ok.n c.read.new.into) c.in-Err.stop all (c.in-Err.ensures read.0 read.2)

pub pieces-preserved : goal.pieces-preserved
pieces-preserved g c =
    let read = c.pieces.invariant.read in
    let left = g.So.Source.left in
    let took = c.in-Ok.ensures.took in
    let all = Consumes-trans (left c.args.input.now) (left c.pieces.input) (left c.read.new.self) read.0 (take c.in-Ok.n c.read.new.into) read.1 took.0 in
    record { read = (read.0 ++ take c.in-Ok.n c.read.new.into, all, c.in_default-take_piece.ensures read.0 read.2); same = c.in-Ok.ensures.cause.kept refl ∙ c.pieces.invariant.same }
