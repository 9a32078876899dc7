-- In which form a subcommand prints what is asked for.
use Rattle.std.specs.Prelude.{Bool, true, false}
use Rattle.mq_command.specs.declared.form.Form.{Form}
use Rattle.mq_command.specs.declared.form.Form.TheVariants as forms
use Rattle.mq_process.specs.declared.arguments.OutputArgument.{OutputArgument}
use Rattle.mq_process.specs.declared.arguments.OutputArgument.TheVariants.{Text, Json}

-- the form that is asked for; text has headings and dates only on a terminal
abbrev pub form_of : OutputArgument → Bool → Form
form_of Json on_terminal = forms.Json
form_of Text true = forms.Shown
form_of Text false = forms.Plain
