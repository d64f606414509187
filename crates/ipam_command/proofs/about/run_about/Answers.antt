use Rattle.std.proofs.Common.{◌∙◌}
use Rattle.command_words.specs.declared.asked.Topic.TheVariants as topics
use Rattle.ipam_command.proofs.AboutLaws.{printed_as}
use Rattle.ipam_command.proofs.about.run_about.Goals as goal

pub returns-in-Version : goal.returns-in-Version
returns-in-Version g c = λ input errors. printed_as _ topics.Version _ _ _ _ c.in-Version.is (c.deref.ensures.0 ∙ c.version_line.ensures) (c.print_text.ensures input errors)

pub returns-in-Commands : goal.returns-in-Commands
returns-in-Commands g c = λ input errors. printed_as _ topics.Commands _ _ _ _ c.in-Commands.is c.as_bytes.ensures.value (c.print_text-in-Commands.ensures input errors)

pub returns-in-Command : goal.returns-in-Command
returns-in-Command g c = λ input errors.
    printed_as _ (topics.Command c.in-Command.name) _ _ _ _ c.in-Command.is (c.as_bytes-in-Command.ensures.value ∙ c.usage_of.ensures) (c.print_text-in-Command.ensures input errors)
