-- What is written of pairs is read as these pairs.
use Rattle.std.proofs.Common.{◌≡◌, ℕ, Bool, false, not, cond, List, [], ◌∷◌, ◌++◌, ap, sym, ◌∙◌, subst, append_assoc}
use Rattle.std.specs.List.{AllByRecursion, AllZip, filter}
use Rattle.std.specs.Str.Lines.{lines}
use Rattle.std.proofs.lemmas.List.{append_cancel_right}
use Rattle.reverse_zone.specs.declared.record.Pair.{Pair}
use Rattle.reverse_zone.specs.Owners.{owner_of}
use Rattle.reverse_zone.specs.Records.{fields_of, is_skipped, IsRecordOf}
use Rattle.reverse_zone.specs.Inputs.{ArePairsOf}
use Rattle.reverse_zone.specs.Laws.{IsWritable, pair_line_of, lines_text_of, WrittenLinesAreRead, LineHasOnePair}
use Rattle.reverse_zone.proofs.HostBytes.{fit_plain}
use Rattle.reverse_zone.proofs.Labels.{owner_plain, owner_some}
use Rattle.reverse_zone.proofs.LineWords.{body_of, body_line, body_words, body_lacks, body_kept, body_read, line_first}
use Rattle.reverse_zone.proofs.Pairings.{record_once, input_has_one_answer}

body : Pair → List ℕ
body pair = body_of (owner_of pair.host) pair.name

record_of_line : (pair : Pair) → IsWritable pair → IsRecordOf (body pair) pair
unfolding body
record_of_line pair h =
    let words = body_words (owner_of pair.host) pair.name (owner_plain pair.host) (fit_plain pair.name h.name) (owner_some pair.host) in
    record { fields = ap fields_of words; host = h.host; name = h.name }

written_line : (pair : Pair) → pair_line_of pair ≡ body pair ++ 10 ∷ []
unfolding body
written_line pair = body_line (owner_of pair.host) pair.name

first_line : (pair : Pair) (rest : List ℕ) → IsWritable pair → lines (pair_line_of pair ++ rest) ≡ body pair ∷ lines rest
unfolding body
first_line pair rest h =
    let owner = owner_of pair.host in
    line_first (pair_line_of pair ++ rest) (body_of owner pair.name) rest
    (ap (λ (t : List ℕ). t ++ rest) (body_line owner pair.name) ∙ append_assoc (body_of owner pair.name) (10 ∷ []) rest)
    (body_lacks owner pair.name (owner_plain pair.host) (fit_plain pair.name h.name))
    ∙ ap (λ (t : List ℕ). t ∷ lines rest) (body_kept owner pair.name)

kept_body : (pair : Pair) → is_skipped (body pair) ≡ false
unfolding body
kept_body pair = body_read (owner_of pair.host) pair.name (owner_plain pair.host) (owner_some pair.host)

one_more : (line : List ℕ) (rest : List (List ℕ)) (pair : Pair) (pairs : List Pair) → is_skipped line ≡ false → IsRecordOf line pair → ArePairsOf rest pairs → ArePairsOf (line ∷ rest) (pair ∷ pairs)
one_more line rest pair pairs kept one more =
    subst (λ (b : Bool). AllZip IsRecordOf (cond (not b) (line ∷ filter (λ l. not (is_skipped l)) rest) (filter (λ l. not (is_skipped l)) rest)) (pair ∷ pairs)) (sym kept) (one, more)

same_pairs : (pairs : List Pair) → AllByRecursion IsWritable pairs → ArePairsOf (lines (lines_text_of pairs)) pairs
same_pairs [] h = tt
same_pairs (pair ∷ pairs) h =
    subst (λ (ls : List (List ℕ)). ArePairsOf ls (pair ∷ pairs)) (sym (first_line pair (lines_text_of pairs) h.0))
    (one_more (body pair) (lines (lines_text_of pairs)) pair pairs (kept_body pair) (record_of_line pair h.0) (same_pairs pairs h.1))

pub written_lines_are_read : WrittenLinesAreRead
written_lines_are_read pairs h =
    let same = same_pairs pairs h in
    let all = lines (lines_text_of pairs) in
    record {
      same = same;
      only = λ found other. input_has_one_answer.pairs all found pairs other same;
      taken = λ number refused. input_has_one_answer.apart all pairs number same refused;
    }

pub line_has_one_pair : LineHasOnePair
line_has_one_pair one other h k e =
    let same : body one ≡ body other = append_cancel_right (body one) (body other) (10 ∷ []) (sym (written_line one) ∙ e ∙ written_line other) in
    record_once _ one other (record_of_line one h) (subst (λ (line : List ℕ). IsRecordOf line other) (sym same) (record_of_line other k))
