use Rattle.command_words.proofs.Help.{given_topic, some_of, topic_asked}
use Rattle.command_words.proofs.about.read_help.Goals as goal

pub returns-in_default-topic_value : goal.returns-in_default-topic_value
returns-in_default-topic_value c = λ one named asks.
    let found = some_of _ _ _ _ c.in-Some.is c.in_ok-matches.ensures in
    topic_asked _ _ one (given_topic _ _ _ _ c.in_ok-command.ensures found.1 c.value.ensures) c.in_default-topic_value.ensures named asks
