-- What the parts of a run give: words that were read, and a command that was run.
use Rattle.std.proofs.Common.{◌≡◌, ℕ, ◌≤◌, inl, inr, subst, List, Option, Some, None, MatchOption}
use Rattle.machine_serving.specs.Serve.{IsServe, Serving as Place, serving}
use Rattle.machine_serving.specs.Views.{ListenerView}
use Rattle.pool_service.specs.Protocol.{pool_protocol}
use Rattle.pool_store.specs.Meaning.{pool_opener}
use Rattle.word_values.specs.Values.{IsNumberValue, most_workers}
use Rattle.pool_words.specs.Asked.{Asks, IsNoCommand}
use Rattle.pool_words.specs.declared.asked.Command.{Command}
use Rattle.pool_words.specs.declared.asked.Command.TheVariants.{Serve}
use Rattle.pool_words.specs.declared.asked.Serving.{Serving}
use Rattle.pool_command.specs.Runs.{Answers, PoolOutside, Runs, SaysUsage}

-- a command that was read, and run
pub runs_asked : (words : List (List ℕ)) (found : Option Command) (command : Command) (old new : PoolOutside) (before after : ListenerView) (status : ℕ) → found ≡ Some command
    → MatchOption found (IsNoCommand words) (λ c. Asks words c) → Answers command old new before after status → Runs words old new before after status
runs_asked words found command old new before after status is read answers =
    inl (command, subst (λ (f : Option Command). MatchOption f (IsNoCommand words) (λ c. Asks words c)) is read, answers)

-- words that ask for nothing
pub runs_none : (words : List (List ℕ)) (found : Option Command) (old new : PoolOutside) (before after : ListenerView) (status : ℕ) → found ≡ None
    → MatchOption found (IsNoCommand words) (λ c. Asks words c) → SaysUsage old new before after status → Runs words old new before after status
runs_none words found old new before after status is read usage =
    inr (inl (subst (λ (f : Option Command). MatchOption f (IsNoCommand words) (λ c. Asks words c)) is read, usage))

-- words that were read ask for the command
pub asked_of : (words : List (List ℕ)) (found : Option Command) (command : Command) → found ≡ Some command
    → MatchOption found (IsNoCommand words) (λ c. Asks words c) → (all : List (List ℕ)) × Asks all command
asked_of words found command is read = (words, subst (λ (f : Option Command). MatchOption f (IsNoCommand words) (λ c. Asks words c)) is read)

-- a number of workers that was asked for
few : (text : Option (List ℕ)) (n : ℕ) → IsNumberValue most_workers text n → n ≤ 32
few None n value = absurd value
few (Some digits) n value = value.2

pub few_workers : (words : List (List ℕ)) (command : Command) (s : Serving) → Asks words command → command ≡ Serve s → s.workers ≤ 32
few_workers words command s asks is = let a : Asks words (Serve s) = subst (Asks words) is asks in few _ s.workers a.values.workers

-- a place and a path that are those of the words
pub serves_place : (path : Option (List ℕ)) (place bind : List ℕ) (workers connections : ℕ) (old new : PoolOutside) (before after : ListenerView) (status : ℕ) → place ≡ bind
    → IsServe pool_protocol pool_opener path (serving place workers connections) old new before after status
    → IsServe pool_protocol pool_opener path (serving bind workers connections) old new before after status
serves_place path place bind workers connections old new before after status same served =
    subst (λ (p : List ℕ). IsServe pool_protocol pool_opener path (serving p workers connections) old new before after status) same served

pub serves_path : (path asked : Option (List ℕ)) (s : Place) (old new : PoolOutside) (before after : ListenerView) (status : ℕ) → path ≡ asked
    → IsServe pool_protocol pool_opener path s old new before after status → IsServe pool_protocol pool_opener asked s old new before after status
serves_path path asked s old new before after status same served = subst (λ (p : Option (List ℕ)). IsServe pool_protocol pool_opener p s old new before after status) same served
