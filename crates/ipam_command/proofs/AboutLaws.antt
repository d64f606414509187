-- A text about the program that was printed is that of its topic, and all that its command leaves.
use Rattle.std.proofs.Common.{◌≡◌, ℕ, List, sym, subst}
use Rattle.command_streams.specs.Streams.{Streams}
use Rattle.command_store.specs.Outside.{Outside}
use Rattle.machine_serving.specs.Views.{ListenerView}
use Rattle.program_entry.specs.About.{IsPrinted}
use Rattle.command_words.specs.declared.asked.Command.{Command}
use Rattle.command_words.specs.declared.asked.Command.TheVariants.{About}
use Rattle.command_words.specs.declared.asked.Topic.{Topic}
use Rattle.ipam_command.specs.About.{topic_text}
use Rattle.ipam_command.specs.Runs.{Answers}

pub printed_as : (topic one : Topic) (text : List ℕ) (old new : Streams) (status : ℕ) → topic ≡ one → text ≡ topic_text one → IsPrinted text old new status
    → IsPrinted (topic_text topic) old new status
printed_as topic one text old new status is same h =
    subst (λ (t : Topic). IsPrinted (topic_text t) old new status) (sym is) (subst (λ (s : List ℕ). IsPrinted s old new status) same h)

pub about_answers : (command : Command) (topic : Topic) (old new : Outside) (before after : ListenerView) (status : ℕ) → command ≡ About topic
    → IsPrinted (topic_text topic) old.streams new.streams status → new.stores ≡ old.stores → after ≡ before → Answers command old new before after status
about_answers command topic old new before after status is h stores idle = subst (λ (c : Command). Answers c old new before after status) (sym is) (h, stores, idle)
