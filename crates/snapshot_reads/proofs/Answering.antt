-- What a look answers, by what its copy answers, where this is not that memory ran out.
use Rattle.std.proofs.Common.{◌≡◌, ◌≢◌, ℕ, fold, refl, sym, subst, Some}
use Rattle.ipam_data.specs.declared.calls.Call.{Call}
use Rattle.ipam_data.specs.declared.update.Update.{Update}
use Rattle.snapshot_rows.specs.Lists.{Lists}
use Rattle.snapshot_reads.specs.declared.look.Looked.{Looked}
use Rattle.snapshot_reads.specs.declared.look.Looked.TheVariants.{Given, Behind, Memory}
use Rattle.snapshot_reads.specs.Published.{after, answers}
use Rattle.snapshot_reads.specs.Seen.{LookView, IsFound, IsAsked, IsAnswered}

pub answered_on : (call : Call) (least count : ℕ) (rows opening : Lists) (before now : LookView Lists Update) (looked : Looked) → looked ≢ Memory → IsAsked call least rows count looked
    → now.opening ≡ Some opening → rows ≡ fold after opening now.seen → IsFound count before now → IsAnswered call least before now looked
answered_on call least count rows opening before now (Given reply n) came asked known same found =
    (opening, known, subst (λ (l : Lists). answers l call reply) same asked.2, subst (λ (m : ℕ). IsFound m before now) (sym asked.0) found, asked.1)
answered_on call least count rows opening before now (Behind n) came asked known same found = (subst (λ (m : ℕ). IsFound m before now) (sym asked.0) found, asked.1)
answered_on call least count rows opening before now Memory came asked known same found = absurd (came refl)
