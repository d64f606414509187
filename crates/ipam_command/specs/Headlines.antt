-- The headline of a run: the promise of each command by which callers are served.
use Rattle.std.specs.Prelude.{◌≡◌, ◌⊎◌, ◌++◌, ℕ, List, [], All, IfSome, length}
use Rattle.ipam_listen.specs.Connections.{Returned}
use Rattle.machine_serving.specs.Serve.{entries_line}
use Rattle.machine_serving.specs.Views.{ListenerView, NobodyCame}
use Rattle.command_streams.specs.Streams.{Gains}
use Rattle.command_words.specs.declared.asked.Command.{Command}
use Rattle.command_words.specs.declared.asked.Command.TheVariants.{Session, Serve, Mirror}
use Rattle.command_words.specs.declared.asked.Store.{Store}
use Rattle.command_words.specs.Asked.{Asks}
use Rattle.command_store.specs.Outside.{IsUnused, Outside}
use Rattle.ipam_headline.specs.Headline.{Alone, Mirrored, Served}

-- no reader was answered: the lanes that were given back report no connection
abbrev pub NobodyRead : ListenerView → ListenerView → Type 0
NobodyRead before after = (back : List Returned) × (after.returned ≡ before.returned ++ back) × All (λ r. IfSome r.told (λ connections. connections ≡ [])) back

-- it holds of `serve`, whose line on the output says how many entries the history has
abbrev pub ServedCounted : Store → Outside → Outside → ListenerView → ListenerView → Type 0
ServedCounted store old new before after = (served : Served store old new before after)
    × Gains old.streams.output new.streams.output (entries_line (length served.kept.history))

-- with status 0 it holds, and with every other status it does or nobody was served
abbrev pub HasHeadline : Command → Outside → Outside → ListenerView → ListenerView → ℕ → Type 0
HasHeadline (Session store) old new before after status = (status ≡ 0 → Alone store old new) × (Alone store old new ⊎ IsUnused old new)
HasHeadline (Serve serving) old new before after status = (status ≡ 0 → ServedCounted serving.store old new before after)
    × (Served serving.store old new before after ⊎ (IsUnused old new × NobodyCame before after))
HasHeadline (Mirror mirroring) old new before after status = (status ≡ 0 → Mirrored mirroring.store old new before after)
    × (Mirrored mirroring.store old new before after ⊎ (IsUnused old new × NobodyRead before after))
HasHeadline command old new before after status = Unit {0}

-- of the command that the arguments ask for
abbrev pub HasHeadlines : List (List ℕ) → Outside → Outside → ListenerView → ListenerView → ℕ → Type 0
HasHeadlines words old new before after status = (command : Command) → Asks words command → HasHeadline command old new before after status
