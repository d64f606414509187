-- Words that ask for help give a topic.
use Rattle.std.proofs.Common.{◌≡◌, ℕ, List, Option, Some, None, MatchOption, codes, sum, sym, ◌∙◌, ap, arith, subst}
use Rattle.clap.specs.Simple.{App}
use Rattle.clap.specs.Walk.{Row}
use Rattle.clap.specs.Words.{first_of}
use Rattle.command_grammar.specs.Grammar.{given, help_app}
use Rattle.pool_words.specs.declared.asked.Command.{Command}
use Rattle.pool_words.specs.declared.asked.Command.TheVariants as command
use Rattle.pool_words.specs.declared.asked.Listing.TheVariants as listing
use Rattle.pool_words.specs.declared.asked.Topic.{Topic}
use Rattle.pool_words.specs.declared.asked.Topic.TheVariants as topic
use Rattle.pool_words.specs.Asked.{Asks, IsTopicValue, name_of}

pub topic_asked : (words : List (List ℕ)) (text : Option (List ℕ)) (c : Command) → first_of (codes "command") (given help_app words) ≡ text
    → ((t : Topic) → ¬ IsTopicValue text t) → name_of c ≡ codes "help" → ¬ Asks words c
topic_asked words text (command.About topic.Commands) is none named asks = none topic.Commands (subst (λ (t : Option (List ℕ)). IsTopicValue t topic.Commands) is asks.values)
topic_asked words text (command.About (topic.Command n)) is none named asks = none (topic.Command n) (subst (λ (t : Option (List ℕ)). IsTopicValue t (topic.Command n)) is asks.values)
topic_asked words text (command.Print (listing.Rows sheet) db) is none named asks = (let e : sum (codes "export") ≡ sum (codes "help") = ap sum named in absurd (omega arith))
topic_asked words text (command.Print listing.Report db) is none named asks = (let e : sum (codes "report") ≡ sum (codes "help") = ap sum named in absurd (omega arith))
topic_asked words text c is none named asks = (let e : sum (name_of c) ≡ sum (codes "help") = ap sum named in absurd (omega arith))

pub some_of : {M : Type 0} (found : Option M) (m : M) (A : Type 0) (B : M → Type 0) → found ≡ Some m → MatchOption found A B → B m
some_of None m A B is h = cc
some_of (Some n) m A B is h = (let same : n ≡ m = cc in subst B same h)

-- what was given to the place of help, of the rows that were found
pub given_topic : (app : App) (words : List (List ℕ)) (rows : List Row) (text : Option (List ℕ)) → app ≡ help_app → rows ≡ given app words → text ≡ first_of (codes "command") rows
    → first_of (codes "command") (given help_app words) ≡ text
given_topic app words rows text is found value =
    ap (λ (a : App). first_of (codes "command") (given a words)) (sym is) ∙ ap (first_of (codes "command")) (sym found) ∙ sym value
