-- What a length by the fields can be.
use Rattle.std.proofs.Common.{◌≡◌, ◌≤◌, ℕ, Bool, true, false, cond, nat_le, List, [], ◌∷◌, Result, Ok, Err, arith, refl}
use Rattle.std.proofs.lemmas.Bool.Decides.{nat_tests}
use Rattle.std.specs.List.{list_any}
use Rattle.std.specs.Str.Parse.{digits_value}
use Rattle.http_session.specs.declared.request.Fault.{Fault}
use Rattle.http_session.specs.declared.request.Fault.TheVariants.{BadHead, LargeHead, LargeBody, Coding}
use Rattle.http_session.specs.Fields.{is_named, values_of, content_length, transfer_encoding, length_by, length_among, length_from}

-- a length is small, and no length is a head that is too large
abbrev IsLength : Result ℕ Fault → Type 0
IsLength (Ok n) = n ≤ 4194304
IsLength (Err LargeHead) = ⊥
IsLength (Err BadHead) = Unit {0}
IsLength (Err LargeBody) = Unit {0}
IsLength (Err Coding) = Unit {0}

small : (a : Bool) (n : ℕ) → (a ≡ true → n ≤ 4194304) → IsLength (cond a (Ok n) (Err LargeBody))
small true n h = h refl
small false n h = tt

by_test : (a : Bool) (n : ℕ) → IsLength (cond a (cond (nat_le n 4194304) (Ok n) (Err LargeBody)) (Err BadHead))
by_test false n = tt
by_test true n = small (nat_le n 4194304) n (λ h. grind (arith, nat_tests))

from_is : (text : List ℕ) → IsLength (length_from text)
unfolding length_from
from_is text = by_test _ (digits_value 10 text)

among_is : (texts : List (List ℕ)) → IsLength (length_among texts)
among_is [] = omega arith
among_is (text ∷ []) = from_is text
among_is (text ∷ more ∷ others) = tt

choice_is : (a : Bool) (said : Result ℕ Fault) → IsLength said → IsLength (cond a (Err Coding) said)
choice_is true said h = tt
choice_is false said h = h

pub length_by_is : (fields : List (List ℕ × List ℕ)) → IsLength (length_by fields)
unfolding length_by
length_by_is fields =
    choice_is (list_any (is_named transfer_encoding) fields) (length_among (values_of content_length fields)) (among_is (values_of content_length fields))

pub length_small : (fields : List (List ℕ × List ℕ)) (n : ℕ) → length_by fields ≡ Ok n → n ≤ 4194304
length_small fields n e = rw e at (length_by_is fields)

pub never_large_head : (fields : List (List ℕ × List ℕ)) → length_by fields ≡ Err LargeHead → ⊥
never_large_head fields e = rw e at (length_by_is fields)
