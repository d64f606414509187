-- What is planned of a call, as the code finds it.
use Rattle.std.specs.Prelude.{◌≡◌, Some, None, true, false}
use Rattle.ipam_data.specs.State.{Plan, verdict_of, no_update}
use Rattle.ipam_data.specs.Replays.{is_accepted}
use Rattle.register_tables.specs.declared.planned.Planned.{Planned}
use Rattle.register_tables.specs.declared.planned.Planned.TheVariants.{Refused, Read, Change}
use Rattle.ipam_data.specs.declared.replies.Reply.{Reply}
use Rattle.ipam_data.specs.declared.update.Update.{Update}

-- no check refuses, nothing is to be done, and this is the answer but for the figures
pub record IsRead (plan : Plan) (reply : Reply) : Type 0 where
  pub verdict : verdict_of plan ≡ None
  pub idle : plan.update ≡ no_update
  pub says : plan.reply ≡ reply
  pub plain : is_accepted reply ≡ false

-- no check refuses, this is to be done, and this is the answer but for the figures
pub record IsChange (plan : Plan) (update : Update) (reply : Reply) : Type 0 where
  pub verdict : verdict_of plan ≡ None
  pub does : plan.update ≡ update
  pub says : plan.reply ≡ reply
  pub accepted : is_accepted reply ≡ true

-- what was planned is what the plan says
abbrev pub IsPlanned : Plan → Planned → Type 0
IsPlanned plan (Refused refusal) = verdict_of plan ≡ Some refusal
IsPlanned plan (Read reply) = IsRead plan reply
IsPlanned plan (Change update reply) = IsChange plan update reply
