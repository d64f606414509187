-- What the program says of itself: its version, its commands, and what each of them takes. The texts are the code's.
use Rattle.std.specs.Prelude.{ℕ, List, codes}
use Rattle.command_streams.specs.Streams.{Streams}
use Rattle.program_entry.specs.About.{IsPrinted, version_text_of}
use Rattle.command_words.specs.declared.asked.CommandName.{CommandName}
use Rattle.command_words.specs.declared.asked.CommandName.TheVariants as names
use Rattle.command_words.specs.declared.asked.Topic.{Topic}
use Rattle.command_words.specs.declared.asked.Topic.TheVariants.{Version, Commands, Command}
use Rattle.ipam_command.specs.declared.about.TheConstants.{COMMANDS, FREE, SESSION, SERVE, MIRROR, IMPORT, EXPORT, REPORT, PREFIX_LIST, PREFIX_CHECK, REVERSE, REVERSE_READ, MIGRATE, LOAD, VERSION_HELP, HELP}

-- what the command of this name takes
abbrev pub usage_of : CommandName → List ℕ
usage_of names.Free = FREE.now
usage_of names.Session = SESSION.now
usage_of names.Serve = SERVE.now
usage_of names.Mirror = MIRROR.now
usage_of names.Import = IMPORT.now
usage_of names.Export = EXPORT.now
usage_of names.Report = REPORT.now
usage_of names.PrefixList = PREFIX_LIST.now
usage_of names.PrefixCheck = PREFIX_CHECK.now
usage_of names.Reverse = REVERSE.now
usage_of names.ReverseRead = REVERSE_READ.now
usage_of names.Migrate = MIGRATE.now
usage_of names.Load = LOAD.now
usage_of names.Version = VERSION_HELP.now
usage_of names.Help = HELP.now

abbrev pub topic_text : Topic → List ℕ
topic_text Version = version_text_of (codes "ipamd")
topic_text Commands = COMMANDS.now
topic_text (Command name) = usage_of name

-- the text of the topic is printed
abbrev pub IsAbout : Topic → Streams → Streams → ℕ → Type 0
IsAbout topic = IsPrinted (topic_text topic)
