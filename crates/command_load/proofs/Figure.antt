-- What the answer to the question for the figure says.
use Rattle.std.proofs.Common.{◌≡◌, ℕ, List, [], ◌∷◌, length, Option, Some, None, IfSome, refl, sym, ap, ◌∙◌, subst}
use Rattle.std.specs.Prelude.{take}
use mathlib.Core.List.{IsPrefix}
use Rattle.history_lock.specs.Replies.{plain}
use Rattle.history_lock.specs.Replay.{replay}
use Rattle.history_lock.specs.Seats.{IsCall}
use Rattle.ipam_data.specs.declared.calls.Call.{Call}
use Rattle.ipam_data.specs.declared.replies.Reply.{Reply}
use Rattle.ipam_data.specs.declared.replies.Reply.TheVariants.{Made, MadeMany, Changed, Gone, Imported, One, Page, Blocks, Addrs, Percent, Rows, Lines, Refused}
use Rattle.ipam_data.specs.Replays.{is_accepted}
use Rattle.register_core.specs.Machines.{kind_of, seen_step}
use Rattle.command_load.specs.Claims.{figure_call}
use Rattle.command_load.specs.Replies.{percent_in}
use Rattle.command_load.specs.Hired.{Caller}

take_prefix : {A : Type 0} (xs ys : List A) → IsPrefix xs ys → take (length xs) ys ≡ xs
take_prefix [] ys p = refl
take_prefix (x ∷ xs) [] p = absurd (cc (p.1))
take_prefix (x ∷ xs) (y ∷ ys) p = let r = take_prefix xs ys (p.0, cc (p.1)) in cc (p.1, r)

percent_is : (reply : Reply) (p : ℕ) → percent_in reply ≡ Some p → reply ≡ Percent p
percent_is (Percent figure) p is = cc is
percent_is (Made view) p is = absurd (cc is)
percent_is (MadeMany views) p is = absurd (cc is)
percent_is (Changed view) p is = absurd (cc is)
percent_is Gone p is = absurd (cc is)
percent_is (Imported created present) p is = absurd (cc is)
percent_is (One view) p is = absurd (cc is)
percent_is (Page count views) p is = absurd (cc is)
percent_is (Blocks vrf list) p is = absurd (cc is)
percent_is (Addrs vrf len list) p is = absurd (cc is)
percent_is (Rows rows) p is = absurd (cc is)
percent_is (Lines lines) p is = absurd (cc is)
percent_is (Refused refusal) p is = absurd (cc is)

asked : (v w : Caller) (place p : ℕ) → IsCall seen_step is_accepted v w figure_call (Percent p) plain place → v.weight ≡ 65536
    → (w.seen ≡ v.seen) × ((seen_step (replay seen_step v.opening v.seen) figure_call).1 ≡ Percent p)
asked v w place p c whole =
    let all : take place w.seen ≡ v.seen = ap (λ (n : ℕ). take n w.seen) (c.alone_misses_nothing whole) ∙ take_prefix v.seen w.seen c.seen_only_grows in (
      c.seen_ends_at_place ∙ all,
      sym (subst (λ (h : List (ℕ × Call)). Percent p ≡ (seen_step (replay seen_step v.opening h) figure_call).1) all c.reply_is_legal.right),
    )

-- where the one live seat is told a percentage, it has seen nothing new, and the percentage is the plain register's
pub figure_asked : (v w : Caller) (call : Call) (reply : Reply) (place : ℕ) (o : Option ℕ) → IsCall seen_step is_accepted v w call reply (kind_of reply) place → call ≡ figure_call → o ≡ percent_in reply
    → v.weight ≡ 65536 → IfSome o (λ p. (w.seen ≡ v.seen) × ((seen_step (replay seen_step v.opening v.seen) figure_call).1 ≡ Percent p))
figure_asked v w call reply place None c is told whole = tt
figure_asked v w call reply place (Some p) c is told whole =
    let e : reply ≡ Percent p = percent_is reply p (sym told) in
    asked v w place p
    (subst (λ (r : Reply). IsCall seen_step is_accepted v w figure_call r (kind_of r) place) e (subst (λ (x : Call). IsCall seen_step is_accepted v w x reply (kind_of reply) place) is c)) whole
