-- What `export` and `report` leave is what their arguments ask for.
use Rattle.std.proofs.Common.{◌≡◌, ℕ, List, Option, sym, subst}
use Rattle.machine_serving.specs.Views.{ListenerView}
use Rattle.pool_texts.specs.Print.{IsPrint}
use Rattle.pool_words.specs.declared.asked.Command.{Command}
use Rattle.pool_words.specs.declared.asked.Command.TheVariants.{Print}
use Rattle.pool_words.specs.declared.asked.Listing.{Listing}
use Rattle.pool_command.specs.Runs.{Answers, PoolOutside}

pub prints_path : (listing : Listing) (path asked : Option (List ℕ)) (old new : PoolOutside) (status : ℕ) → path ≡ asked → IsPrint listing path old new status
    → IsPrint listing asked old new status
prints_path listing path asked old new status same h = subst (λ (p : Option (List ℕ)). IsPrint listing p old new status) same h

pub print_answers : (command : Command) (listing : Listing) (db : Option (List ℕ)) (old new : PoolOutside) (before after : ListenerView) (status : ℕ) → command ≡ Print listing db
    → IsPrint listing db old new status → after ≡ before → Answers command old new before after status
print_answers command listing db old new before after status is h idle = subst (λ (c : Command). Answers c old new before after status) (sym is) (h, idle)
