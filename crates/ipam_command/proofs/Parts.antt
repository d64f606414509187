-- What the parts of a run give: words that were read, and a command that was run or does not stand.
use Rattle.std.proofs.Common.{◌≡◌, ℕ, ◌≤◌, inl, inr, refl, sym, subst, arith, List, Option, Some, None, MatchOption}
use Rattle.command_words.specs.declared.asked.Serving.{Serving}
use Rattle.command_words.specs.declared.asked.Mirroring.{Mirroring}
use Rattle.command_words.specs.declared.asked.Command.{Command}
use Rattle.command_words.specs.declared.asked.Command.TheVariants.{Serve, Mirror, Load}
use Rattle.command_words.specs.Asked.{Asks, IsNoCommand}
use Rattle.command_words.specs.Values.{IsNumberOr, IsNumberValue, most_claims, most_readers, most_workers}
use Rattle.command_store.specs.Outside.{Outside}
use Rattle.machine_serving.specs.Views.{ListenerView}
use Rattle.ipam_command.specs.Runs.{Answers, SaysUsage, Runs}

-- a command that was read, and run
pub runs_asked : (words : List (List ℕ)) (found : Option Command) (command : Command) (old new : Outside) (before after : ListenerView) (status : ℕ) → found ≡ Some command
    → MatchOption found (IsNoCommand words) (λ c. Asks words c) → Answers command old new before after status → Runs words old new before after status
runs_asked words found command old new before after status is read answers =
    inl (command, subst (λ (f : Option Command). MatchOption f (IsNoCommand words) (λ c. Asks words c)) is read, answers)

-- words that ask for nothing
pub runs_none : (words : List (List ℕ)) (found : Option Command) (old new : Outside) (before after : ListenerView) (status : ℕ) → found ≡ None
    → MatchOption found (IsNoCommand words) (λ c. Asks words c) → SaysUsage old new before after status → Runs words old new before after status
runs_none words found old new before after status is read usage =
    inr (inl (subst (λ (f : Option Command). MatchOption f (IsNoCommand words) (λ c. Asks words c)) is read, usage))

-- words that were read ask for the command
pub asked_of : (words : List (List ℕ)) (found : Option Command) (command : Command) → found ≡ Some command
    → MatchOption found (IsNoCommand words) (λ c. Asks words c) → (all : List (List ℕ)) × Asks all command
asked_of words found command is read = (words, subst (λ (f : Option Command). MatchOption f (IsNoCommand words) (λ c. Asks words c)) is read)

-- a number of workers that was asked for
few : (most : ℕ) (text : Option (List ℕ)) (n : ℕ) → IsNumberValue most text n → (1 ≤ n) × (n ≤ most)
few most None n value = absurd value
few most (Some digits) n value = (value.1, value.2)

pub few_workers : (words : List (List ℕ)) (serving : Serving) → Asks words (Serve serving) → (1 ≤ serving.workers) × (serving.workers ≤ 32)
few_workers words serving asks = few most_workers _ serving.workers asks.values.workers

pub few_readers : (words : List (List ℕ)) (command : Command) (mirroring : Mirroring) → Asks words command → command ≡ Mirror mirroring → mirroring.readers ≤ 16
few_readers words command mirroring asks is =
    let a : Asks words (Mirror mirroring) = subst (Asks words) is asks in
    (few most_readers _ mirroring.readers a.values.readers).1

-- such a number, or the usual one
few_or : (usual most : ℕ) (text : Option (List ℕ)) (n : ℕ) → (1 ≤ usual) × (usual ≤ most) → IsNumberOr usual most text n → (1 ≤ n) × (n ≤ most)
few_or usual most None n lies value = subst (λ (m : ℕ). (1 ≤ m) × (m ≤ most)) (sym value) lies
few_or usual most (Some digits) n lies value = few most (Some digits) n value

-- the numbers of claims and of workers that were asked for
pub few_claims : (words : List (List ℕ)) (command : Command) (count workers : ℕ) → Asks words command → command ≡ Load count workers
    → (1 ≤ count) × (count ≤ 100000) × (1 ≤ workers) × (workers ≤ 32)
few_claims words command count workers asks is =
    let a : Asks words (Load count workers) = subst (Asks words) is asks in
    let claims = few most_claims _ count a.values.0 in
    let hands = few_or 1 most_workers _ workers (omega arith, omega arith) a.values.1 in
    (claims.0, claims.1, hands.0, hands.1)
