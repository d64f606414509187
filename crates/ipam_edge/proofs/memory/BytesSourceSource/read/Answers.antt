use Rattle.std.proofs.Common.{rules, ◌≡◌, ◌∙◌, ℕ, List, ◌++◌, ◌+◌, length, take, drop, sym, ap, subst, take-append-drop, drop_of_length-le}
use Rattle.std.proofs.lemmas.List.{drop-drop}
use Rattle.std.proofs.Math.Seq.{take-append_seam}
use Rattle.ipam_edge.proofs.memory.BytesSourceSource.read.Goals as goal

splits : (bytes copied rest : List ℕ) (at n : ℕ) → copied ≡ take n (drop at bytes) → length copied ≡ n → drop at bytes ≡ take n (copied ++ rest) ++ drop (at + n) bytes
splits bytes copied rest at n e l =
    sym (take-append-drop n (drop at bytes))
    ∙ ap (λ t. t ++ drop n (drop at bytes)) (sym e ∙ sym (subst (λ k. take k (copied ++ rest) ≡ copied) l (take-append_seam copied rest)))
    ∙ ap (λ t. take n (copied ++ rest) ++ t) (drop-drop n at bytes)

pub returns-clause-took : goal.returns-clause-took
returns-clause-took c =
    let bytes = c.args.self.now.bytes.items in
    let at = c.args.self.now.at in
    let n = c.min-n.result in
    let copied = c.copy_from_slice.new.self in
    let copy : copied ≡ take n (drop at bytes) = search rules in
    let len : length copied ≡ n = search rules in
    (splits bytes copied _ at n copy len, λ z some. drop_of_length-le bytes (search rules))

pub returns-clause-step : goal.returns-clause-step
returns-clause-step c =
    let bytes = c.args.self.now.bytes.items in
    let at = c.args.self.now.at in
    let n = c.min-n.result in
    let copied = c.copy_from_slice.new.self in
    let copy : copied ≡ take n (drop at bytes) = search rules in
    let len : length copied ≡ n = search rules in
    record { number = search rules; fails = search rules; left = splits bytes copied _ at n copy len; kept = record { fails = search rules; piece = search rules } }
