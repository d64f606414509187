-- The numbers that a reader is told never fall, and a look only grows.
use Rattle.std.proofs.Common.{◌≡◌, ◌≤◌, ℕ, List, [], ◌∷◌, length, Option, Some, None, ap, sym, subst, ◌∙◌, refl, arith, length-append}
use mathlib.Core.List.{IsPrefix}
use Rattle.http_session.specs.Answers.{NamedNumber}
use Rattle.http_session.specs.Requests.{Item, Asks, Refuses}
use Rattle.http_session.specs.Talk.{Answer, Answered, Run}
use Rattle.rest_query.specs.Place.{place_field}
use Rattle.snapshot_reads.specs.Seen.{Grows, IsAnswered}
use Rattle.snapshot_reads.specs.declared.look.Looked.{Looked}
use Rattle.snapshot_reads.specs.declared.look.Looked.TheVariants.{Given, Behind, Memory}
use Rattle.snapshot_reads.proofs.Reading.{grows_same, grows_trans}
use Rattle.ipam_data.specs.declared.calls.Call.{Call}
use Rattle.ipam_json.specs.declared.replies.Links.{Links}
use Rattle.snapshot_routes.specs.declared.question.Question.{Question}
use Rattle.snapshot_routes.specs.declared.question.Question.TheVariants.{Reads, Refused}
use Rattle.snapshot_routes.specs.declared.question.Unread.{Unread}
use Rattle.snapshot_routes.specs.declared.question.Unread.TheVariants.{NoRoute, Method, Least, Query}
use Rattle.snapshot_routes.specs.Answers.{unread_answer}
use Rattle.snapshot_session.specs.Reads.{Seen, IsAnswerTo, IsToldAnswer, answers_read}
use Rattle.snapshot_session.specs.Numbers.{NeverFall, NoneBelow, NumbersNeverFall, number_told}
use Rattle.snapshot_session.proofs.Later.{IsAlong}

prefix_length : {A : Type 0} (a b : List A) → IsPrefix a b → length a ≤ length b
prefix_length a b h = omega (arith, length-append a h.0, ap length h.1)

-- an answer tells no number, and the look stays; or it tells how many changes the look has now seen, all that it was told among them
pub data Tells (before : Seen) (told : Option NamedNumber) (now : Seen) : Type 0 where
  Nothing : told ≡ None → now ≡ before → Tells before told now
  Number : Grows before now → IsPrefix before.told now.seen → told ≡ Some (place_field (length now.seen)) → Tells before told now

told_by : (before now : Seen) (call : Call) (links : Links) (least : ℕ) (answer : Answer) (looked : Looked) → Grows before now → IsAnswered call least before now looked
    → IsToldAnswer call links looked answer → Tells before answer.field now
told_by before now call links least answer (Given reply n) grows answered told =
    let found = answered.3 in Number grows found.told (ap (λ a. a.field) told ∙ ap (λ (m : ℕ). Some (place_field m)) found.number)
told_by before now call links least answer (Behind n) grows answered told =
    let found = answered.0 in Number grows found.told (ap (λ a. a.field) told ∙ ap (λ (m : ℕ). Some (place_field m)) found.number)
told_by before now call links least answer Memory grows answered told = absurd told

no_field : (why : Unread) → (unread_answer why).field ≡ None
no_field NoRoute = refl
no_field Method = refl
no_field Least = refl
no_field (Query refusal) = refl

told_to : (before now : Seen) (question : Question) (answer : Answer) → IsAnswerTo before question answer now → Tells before answer.field now
told_to before now (Reads call links least) answer (looked, grows, answered, told) = told_by before now call links least answer looked grows answered told
told_to before now (Refused why) answer (is, same) = Nothing (ap (λ a. a.field) is ∙ no_field why) same

told_at : (before now : Seen) (item : Item) (answer : Answer) → Answered answers_read before item answer now → Tells before answer.field now
told_at before now (Asks request) answer (question, is, said) = told_to before now question answer said
told_at before now (Refuses fault) answer (is, same) = Nothing (ap (λ a. a.field) is) same

grows_by : (before now : Seen) (told : Option NamedNumber) → Tells before told now → Grows before now
grows_by before now told (Nothing none same) = grows_same before now same
grows_by before now told (Number grows more is) = grows

pub answers_go_along : IsAlong answers_read Grows
answers_go_along = record {
  same = λ s t e. grows_same s t e;
  trans = λ s mid t first then. grows_trans s mid t first then;
  step = λ s r a t h. grows_by s t a.field (told_at s t (Asks r) a h);
}

-- ---- the numbers

rises : (from : ℕ) (before now : Seen) (told : Option NamedNumber) → Tells before told now → from ≤ length before.seen
    → (from ≤ number_told from told) × (number_told from told ≤ length now.seen)
rises from before now told (Nothing none same) low =
    subst (λ (f : Option NamedNumber). (from ≤ number_told from f) × (number_told from f ≤ length now.seen)) (sym none) (omega arith, subst (λ (s : Seen). from ≤ length s.seen) (sym same) low)
rises from before now told (Number grows more is) low =
    let longer = prefix_length before.seen now.seen grows.seen in
    subst (λ (f : Option NamedNumber). (from ≤ number_told from f) × (number_told from f ≤ length now.seen)) (sym is) (omega (arith, longer, low), omega arith)

never_fall : (from : ℕ) (before now : Seen) (items : List Item) (answers : List Answer) → from ≤ length before.seen → Run answers_read before items answers now
    → NeverFall from answers (length now.seen)
never_fall from before now [] [] low run = subst (λ (s : Seen). from ≤ length s.seen) (sym run) low
never_fall from before now [] (answer ∷ answers) low run = absurd run
never_fall from before now (item ∷ items) [] low run = absurd run
never_fall from before now (item ∷ items) (answer ∷ answers) low (mid, is, rest) =
    let r = rises from before mid answer.field (told_at before mid item answer is) low in
    (r.0, never_fall (number_told from answer.field) mid now items answers r.1 rest)

high : (least : ℕ) (before now : Seen) (told : Option NamedNumber) → Tells before told now → least ≤ length before.told
    → (least ≤ number_told least told) × (least ≤ length now.told)
high least before now told (Nothing none same) low =
    subst (λ (f : Option NamedNumber). (least ≤ number_told least f) × (least ≤ length now.told)) (sym none) (omega arith, subst (λ (s : Seen). least ≤ length s.told) (sym same) low)
high least before now told (Number grows more is) low =
    let seen = prefix_length before.told now.seen more in
    let longer = prefix_length before.told now.told grows.told in
    subst (λ (f : Option NamedNumber). (least ≤ number_told least f) × (least ≤ length now.told)) (sym is) (omega (arith, seen, low), omega (arith, longer, low))

none_below : (least : ℕ) (before now : Seen) (items : List Item) (answers : List Answer) → least ≤ length before.told → Run answers_read before items answers now → NoneBelow least answers
none_below least before now [] [] low run = tt
none_below least before now [] (answer ∷ answers) low run = absurd run
none_below least before now (item ∷ items) [] low run = absurd run
none_below least before now (item ∷ items) (answer ∷ answers) low (mid, is, rest) =
    let r = high least before mid answer.field (told_at before mid item answer is) low in
    (r.0, none_below least mid now items answers r.1 rest)

pub numbers_never_fall : NumbersNeverFall
numbers_never_fall before now items answers run = record {
  seen = never_fall (length before.seen) before now items answers (omega arith) run;
  told = none_below (length before.told) before now items answers (omega arith) run;
}
