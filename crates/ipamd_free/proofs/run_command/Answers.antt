use Rattle.ipamd_free.proofs.run_command.Goals as goal

pub returns-in-Session-clause-usage : goal.returns-in-Session-clause-usage
returns-in-Session-clause-usage g c = λ _. c.say_usage.ensures _ _

pub returns-in-Serve-clause-usage : goal.returns-in-Serve-clause-usage
returns-in-Serve-clause-usage g c = λ _. c.say_usage-in-Serve.ensures _ _

pub returns-in-Mirror-clause-usage : goal.returns-in-Mirror-clause-usage
returns-in-Mirror-clause-usage g c = λ _. c.say_usage-in-Mirror.ensures _ _

pub returns-in-Import-clause-usage : goal.returns-in-Import-clause-usage
returns-in-Import-clause-usage g c = λ _. c.say_usage-in-Import.ensures _ _

pub returns-in-Export-clause-usage : goal.returns-in-Export-clause-usage
returns-in-Export-clause-usage g c = λ _. c.say_usage-in-Export.ensures _ _

pub returns-in-Report-clause-usage : goal.returns-in-Report-clause-usage
returns-in-Report-clause-usage g c = λ _. c.say_usage-in-Report.ensures _ _

pub returns-in-PrefixList-clause-usage : goal.returns-in-PrefixList-clause-usage
returns-in-PrefixList-clause-usage g c = λ _. c.say_usage-in-PrefixList.ensures _ _

pub returns-in-PrefixCheck-clause-usage : goal.returns-in-PrefixCheck-clause-usage
returns-in-PrefixCheck-clause-usage g c = λ _. c.say_usage-in-PrefixCheck.ensures _ _

pub returns-in-Reverse-clause-usage : goal.returns-in-Reverse-clause-usage
returns-in-Reverse-clause-usage g c = λ _. c.say_usage-in-Reverse.ensures _ _

pub returns-in-ReverseRead-clause-usage : goal.returns-in-ReverseRead-clause-usage
returns-in-ReverseRead-clause-usage g c = λ _. c.say_usage-in-ReverseRead.ensures _ _

pub returns-in-Load-clause-usage : goal.returns-in-Load-clause-usage
returns-in-Load-clause-usage g c = λ _. c.say_usage-in-Load.ensures _ _

pub returns-in-Migrate-clause-usage : goal.returns-in-Migrate-clause-usage
returns-in-Migrate-clause-usage g c = λ _. c.say_usage-in-Migrate.ensures _ _

pub returns-in-About-clause-usage : goal.returns-in-About-clause-usage
returns-in-About-clause-usage g c = λ _. c.say_usage-in-About.ensures _ _
