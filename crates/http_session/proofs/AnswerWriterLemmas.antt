-- A text that is gathered and written by parts.
use Rattle.std.proofs.Common.{◌≡◌, ◌∙◌, ◌≤◌, ℕ, List, [], ◌++◌, Option, inl, inr, sym, ap, subst, arith, append_assoc, append-nil}
use Rattle.std.specs.Io.KnownBytes.{Appends}
use Rattle.std.proofs.KnownBytes.{Appends-trans}
use Rattle.ipam_edge.specs.Faults.{Rose}
use Rattle.ipam_edge.specs.Writing.{AppendsLess}
use Rattle.ipam_edge.proofs.WritingLemmas.{appends_less_after}
use Rattle.http_session.specs.declared.answer.PutEnd.{PutEnd}
use Rattle.http_session.specs.declared.answer.PutEnd.TheVariants.{Whole, SinkFault}
use Rattle.http_session.specs.Answers.{HasPutCause, IsGathered, IsPutEnd}

-- what was gathered and the next bytes were written
pub gathered_after : (start mid new : Option (List ℕ)) (end : PutEnd) (before sent gathered bytes left : List ℕ) → Appends start mid sent → before ≡ sent ++ gathered
    → IsPutEnd mid new end (gathered ++ bytes) → left ≡ [] → IsGathered start new end left (before ++ bytes)
gathered_after start mid new Whole before sent gathered bytes left said split put none =
    let joined : before ++ bytes ≡ sent ++ (gathered ++ bytes) = ap (λ l. l ++ bytes) split ∙ append_assoc sent gathered bytes in
    (sent ++ (gathered ++ bytes), Appends-trans start mid new sent (gathered ++ bytes) said put, joined ∙ sym (ap (λ l. (sent ++ (gathered ++ bytes)) ++ l) none ∙ append-nil (sent ++ (gathered ++ bytes))))
gathered_after start mid new SinkFault before sent gathered bytes left said split put none =
    let joined : before ++ bytes ≡ sent ++ (gathered ++ bytes) = ap (λ l. l ++ bytes) split ∙ append_assoc sent gathered bytes in
    subst (AppendsLess start new) (sym joined) (appends_less_after start mid new sent (gathered ++ bytes) said put)

-- what was gathered was written
pub all_written : (start mid new : Option (List ℕ)) (end : PutEnd) (text sent gathered : List ℕ) → Appends start mid sent → text ≡ sent ++ gathered → IsPutEnd mid new end (gathered ++ []) → IsPutEnd start new end text
all_written start mid new Whole text sent gathered said split put =
    subst (Appends start new) (sym (split ∙ ap (λ l. sent ++ l) (sym (append-nil gathered)))) (Appends-trans start mid new sent (gathered ++ []) said put)
all_written start mid new SinkFault text sent gathered said split put =
    subst (AppendsLess start new) (sym (split ∙ ap (λ l. sent ++ l) (sym (append-nil gathered)))) (appends_less_after start mid new sent (gathered ++ []) said put)

rose_before : (start old new : ℕ) → start ≤ old → Rose old new → Rose start new
rose_before start old new l (inl h) = inl (omega arith)
rose_before start old new l (inr h) = inr h

-- a cause in a later part
pub cause_after : (start old new : ℕ) (end : PutEnd) → old ≡ start → HasPutCause old new end → HasPutCause start new end
cause_after start old new Whole l h = omega arith
cause_after start old new SinkFault l h = (omega (arith, l, h.0), rose_before start old new (omega (arith, l)) h.1)
