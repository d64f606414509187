use Rattle.std.proofs.Common.{codes}
use Rattle.command_words.proofs.Found.{none_named, read_is_asked, word_of}
use Rattle.command_words.specs.declared.asked.CommandName.TheVariants as names
use Rattle.command_words.proofs.read_words.Goals as goal

pub returns-in-Free : goal.returns-in-Free
returns-in-Free c = read_is_asked (codes "free") _ _ _ c.read_free.result (word_of _ _ names.Free c.in-Free.is c.in-Some-command_named.ensures) c.main_name.ensures c.in-Some.ensures c.read_free.ensures

pub returns-in-Session : goal.returns-in-Session
returns-in-Session c = read_is_asked (codes "session") _ _ _ c.read_session.result (word_of _ _ names.Session c.in-Session.is c.in-Some-command_named.ensures) c.main_name.ensures c.in-Some.ensures c.read_session.ensures

pub returns-in-Serve : goal.returns-in-Serve
returns-in-Serve c = read_is_asked (codes "serve") _ _ _ c.read_serve.result (word_of _ _ names.Serve c.in-Serve.is c.in-Some-command_named.ensures) c.main_name.ensures c.in-Some.ensures c.read_serve.ensures

pub returns-in-Mirror : goal.returns-in-Mirror
returns-in-Mirror c = read_is_asked (codes "mirror") _ _ _ c.read_mirror.result (word_of _ _ names.Mirror c.in-Mirror.is c.in-Some-command_named.ensures) c.main_name.ensures c.in-Some.ensures c.read_mirror.ensures

pub returns-in-Import : goal.returns-in-Import
returns-in-Import c = read_is_asked (codes "import") _ _ _ c.read_import.result (word_of _ _ names.Import c.in-Import.is c.in-Some-command_named.ensures) c.main_name.ensures c.in-Some.ensures c.read_import.ensures

pub returns-in-Export : goal.returns-in-Export
returns-in-Export c = read_is_asked (codes "export") _ _ _ c.read_export.result (word_of _ _ names.Export c.in-Export.is c.in-Some-command_named.ensures) c.main_name.ensures c.in-Some.ensures c.read_export.ensures

pub returns-in-Report : goal.returns-in-Report
returns-in-Report c = read_is_asked (codes "report") _ _ _ c.read_report.result (word_of _ _ names.Report c.in-Report.is c.in-Some-command_named.ensures) c.main_name.ensures c.in-Some.ensures c.read_report.ensures

pub returns-in-PrefixList : goal.returns-in-PrefixList
returns-in-PrefixList c = read_is_asked (codes "prefix-list") _ _ _ c.read_prefix_list.result (word_of _ _ names.PrefixList c.in-PrefixList.is c.in-Some-command_named.ensures) c.main_name.ensures c.in-Some.ensures c.read_prefix_list.ensures

pub returns-in-PrefixCheck : goal.returns-in-PrefixCheck
returns-in-PrefixCheck c = read_is_asked (codes "prefix-check") _ _ _ c.read_prefix_check.result (word_of _ _ names.PrefixCheck c.in-PrefixCheck.is c.in-Some-command_named.ensures) c.main_name.ensures c.in-Some.ensures c.read_prefix_check.ensures

pub returns-in-Reverse : goal.returns-in-Reverse
returns-in-Reverse c = read_is_asked (codes "reverse") _ _ _ c.read_reverse.result (word_of _ _ names.Reverse c.in-Reverse.is c.in-Some-command_named.ensures) c.main_name.ensures c.in-Some.ensures c.read_reverse.ensures

pub returns-in-ReverseRead : goal.returns-in-ReverseRead
returns-in-ReverseRead c = read_is_asked (codes "reverse-read") _ _ _ c.read_reverse_read.result (word_of _ _ names.ReverseRead c.in-ReverseRead.is c.in-Some-command_named.ensures) c.main_name.ensures c.in-Some.ensures c.read_reverse_read.ensures

pub returns-in-Migrate : goal.returns-in-Migrate
returns-in-Migrate c = read_is_asked (codes "migrate") _ _ _ c.read_migrate.result (word_of _ _ names.Migrate c.in-Migrate.is c.in-Some-command_named.ensures) c.main_name.ensures c.in-Some.ensures c.read_migrate.ensures

pub returns-in-Load : goal.returns-in-Load
returns-in-Load c = read_is_asked (codes "load") _ _ _ c.read_load.result (word_of _ _ names.Load c.in-Load.is c.in-Some-command_named.ensures) c.main_name.ensures c.in-Some.ensures c.read_load.ensures

pub returns-in-Version : goal.returns-in-Version
returns-in-Version c = read_is_asked (codes "version") _ _ _ c.read_version.result (word_of _ _ names.Version c.in-Version.is c.in-Some-command_named.ensures) c.main_name.ensures c.in-Some.ensures c.read_version.ensures

pub returns-in-Help : goal.returns-in-Help
returns-in-Help c = read_is_asked (codes "help") _ _ _ c.read_help.result (word_of _ _ names.Help c.in-Help.is c.in-Some-command_named.ensures) c.main_name.ensures c.in-Some.ensures c.read_help.ensures
