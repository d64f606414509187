-- The answer to a call.
use Rattle.std.specs.Prelude.{ℕ}
use Rattle.http_session.specs.Talk.{Answer}
use Rattle.ipam_data.specs.declared.calls.Call.{Call}
use Rattle.ipam_data.specs.declared.replies.Reply.{Reply}
use Rattle.ipam_json.specs.declared.replies.Links.{Links}
use Rattle.rest_routes.specs.Answers.{end_of, finished_links, reply_answer}

-- the answer to a call with this reply, which is at this place, and whose page has these links as far as there are rows
abbrev pub told_answer : Call → Reply → Links → ℕ → Answer
told_answer call reply links place = reply_answer reply (finished_links reply (end_of call) links) place
